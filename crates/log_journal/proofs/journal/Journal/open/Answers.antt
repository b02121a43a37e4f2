use Rattle.std.specs.Prelude.{is_err}
use Rattle.std.proofs.Common.{◌≡◌, [], ◌∷◌, ◌++◌, List, ℕ, false, length, refl, sym, ◌∙◌, ap, subst, arith, length-append}
use Rattle.io_traits.specs.DiskState.{Torn, After, IsKept, overwrite}
use Rattle.io_traits.proofs.Moments.{weaken}
use Rattle.log_journal.specs.Stands.{BeforeOrWith, WithGateOpen}
use Rattle.log_journal.proofs.Bytes.{torn_length, length-overwrite_one}
use Rattle.log_journal.proofs.Exits.{on_ok}
use Rattle.log_journal.proofs.Gates.{either, gate_inside, gate_place-push, gate_torn, gate_written}
use Rattle.log_journal.proofs.Written.{opened_ahead}
use Rattle.log_journal.proofs.journal.Journal.open.Goals as goal

pub write_kept-requires : goal.write_kept-requires
write_kept-requires g c honest =
    let (header, (h, (p, keep))) = c.requires.stands honest in
    let disk = c.args.self.now.disk in
    omega (arith, keep.gate, gate_inside header (g.D.Disk.tells disk).reads h p (keep.gate_open (g.D.Disk.tells disk).reads (g.met.D.Disk.reads_as_image disk honest)))

pub returns-then-is_err-clause-still : goal.returns-then-is_err-clause-still
returns-then-is_err-clause-still g c honest header h p keep =
    let told = c.write_kept.ensures.told honest in
    let still : (x : List ℕ) → (g.D.Disk.tells c.write_kept.new.disk).image x → WithGateOpen header h p x = λ x now.
    let from = told.images x now in
    gate_torn header from.0 x h p (keep.gate_open from.0 from.1) (subst (λ (k : ℕ). Torn k 1 from.0 x) keep.gate from.2) in
    record { each = λ x now. either header x h p (still x now); gate_open = still; undecided = keep.undecided; gate = keep.gate; count = keep.count }

pub returns-then-is_err-clause-moments : goal.returns-then-is_err-clause-moments
returns-then-is_err-clause-moments g c honest header h p keep =
    weaken _ _ (After (Torn c.args.self.now.gate 1) (g.D.Disk.tells c.args.self.now.disk).image) (BeforeOrWith header h p)
    (λ x from. either header x h p (gate_torn header from.0 x h p (keep.gate_open from.0 from.1) (subst (λ (k : ℕ). Torn k 1 from.0 x) keep.gate from.2)))
    (c.write_kept.ensures.told honest).moments

pub returns-else-is_err-clause-moments : goal.returns-else-is_err-clause-moments
returns-else-is_err-clause-moments g c honest header h p keep =
    weaken _ _ (After (Torn c.args.self.now.gate 1) (g.D.Disk.tells c.args.self.now.disk).image) (BeforeOrWith header h p)
    (λ x from. either header x h p (gate_torn header from.0 x h p (keep.gate_open from.0 from.1) (subst (λ (k : ℕ). Torn k 1 from.0 x) keep.gate from.2)))
    (c.write_kept.ensures.told honest).moments

pub returns-then-is_err-clause-lengths : goal.returns-then-is_err-clause-lengths
returns-then-is_err-clause-lengths g c honest x now =
    let (header, (h, (p, keep))) = c.requires.stands honest in
    let from = (c.write_kept.ensures.told honest).images x now in
    (from.0, from.1, torn_length from.0 x c.args.self.now.gate 1 (omega (arith, keep.gate, gate_inside header from.0 h p (keep.gate_open from.0 from.1))) from.2)

pub returns-else-is_err-clause-lengths : goal.returns-else-is_err-clause-lengths
returns-else-is_err-clause-lengths g c honest x now =
    let (header, (h, (p, keep))) = c.requires.stands honest in
    let from = (c.write_kept.ensures.told honest).images x now in
    (from.0, from.1, torn_length from.0 x c.args.self.now.gate 1 (omega (arith, keep.gate, gate_inside header from.0 h p (keep.gate_open from.0 from.1))) from.2)

pub returns-else-is_err-clause-kept : goal.returns-else-is_err-clause-kept
returns-else-is_err-clause-kept g c honest header h p keep there =
    let gate = c.args.self.now.gate in
    let next = c.args.next.now in
    let disk = c.args.self.now.disk in
    let old = g.D.Disk.tells disk in
    let new = g.D.Disk.tells c.write_kept.new.disk in
    let size : c.in-Some.n ≡ length p = cc (c.in-Some.is, keep.undecided) in
    let shut : is_err c.write_kept.result ≡ false = sym c.is_err.ensures.value ∙ c.if-is_err.false in
    let kept : IsKept (overwrite gate (1 ∷ []) old.reads) new = on_ok c.write_kept.result _ shut (c.write_kept.ensures.done honest) in
    let was = keep.gate_open old.reads (g.met.D.Disk.reads_as_image disk honest) in
    record {
      each = λ x now. gate_written header old.reads x h p was (kept.quiet x now ∙ kept.reads ∙ ap (λ (k : ℕ). overwrite k (1 ∷ []) old.reads) keep.gate);
      ahead = λ some x now. subst (λ (q : List ℕ). WithGateOpen header (h ++ p ∷ []) q x) (sym c.set.ensures)
          (opened_ahead header old.reads x h p next gate keep.gate was there (kept.quiet x now ∙ kept.reads) (omega (arith, some, ap length c.set.ensures)));
      decided = refl;
      gate = omega (arith, keep.gate, gate_place-push h p, size);
      count = omega (arith, keep.count, length-append h (p ∷ []));
    }

pub returns-else-is_err-clause-length : goal.returns-else-is_err-clause-length
returns-else-is_err-clause-length g c honest =
    let (header, (h, (p, keep))) = c.requires.stands honest in
    let disk = c.args.self.now.disk in
    let gate = c.args.self.now.gate in
    let old = g.D.Disk.tells disk in
    let new = g.D.Disk.tells c.write_kept.new.disk in
    let shut : is_err c.write_kept.result ≡ false = sym c.is_err.ensures.value ∙ c.if-is_err.false in
    let kept : IsKept (overwrite gate (1 ∷ []) old.reads) new = on_ok c.write_kept.result _ shut (c.write_kept.ensures.done honest) in
    ap length kept.reads
    ∙ length-overwrite_one old.reads gate 1 (omega (arith, keep.gate, gate_inside header old.reads h p (keep.gate_open old.reads (g.met.D.Disk.reads_as_image disk honest))))
