use Rattle.std.proofs.Common.{◌≡◌, ◌+◌, [], ◌∷◌, ◌++◌, List, ℕ, length, subst, ap, arith, rules}
use Rattle.io_traits.specs.DiskState.{Torn, After, IsKept, EachImage, overwrite}
use Rattle.io_traits.proofs.Moments.{weaken}
use Rattle.log_journal.specs.Stands.{StandsFor, EndsBehind, WithGateOpen, IsPayload, body_of}
use Rattle.log_journal.proofs.Exits.{on_ok_map}
use Rattle.log_journal.proofs.Gates.{stage_keeps, staged_images, staged_ends, gate_place-push}
use Rattle.log_journal.proofs.Written.{ahead_in, torn_within, none_ahead}
use Rattle.log_journal.proofs.journal.Journal.stage.Goals as goal

pub returns-clause-staged : goal.returns-clause-staged
returns-clause-staged g c honest header h keep =
    let p = c.args.payload.now in
    let disk = c.args.self.now.disk in
    let old = g.D.Disk.tells disk in
    let new = g.D.Disk.tells c.write_record.new.disk in
    let payload : IsPayload p = c.requires.payload in
    on_ok_map c.write_record.result (IsKept (overwrite (c.args.self.now.gate + 1) (body_of p ++ 0 ∷ []) old.reads) new) (EachImage new (WithGateOpen header h p))
    (λ kept. staged_images header old new c.args.self.now.gate h p keep.gate payload (keep.each old.reads (g.met.D.Disk.reads_as_image disk honest)) kept) (c.write_record.ensures.done honest)

pub returns-clause-still : goal.returns-clause-still
returns-clause-still g c honest header h keep =
    let told = c.write_record.ensures.told honest in
    record {
      each = λ x now. let from = told.images x now in stage_keeps header from.0 x h _ (keep.each from.0 from.1) (subst (λ k. Torn (k + 1) (length c.args.payload.now + 5) from.0 x) keep.gate from.2);
      ahead = none_ahead header (g.D.Disk.tells c.write_record.new.disk) h c.set.new.self c.set.ensures;
      decided = keep.decided;
      gate = keep.gate;
      count = keep.count;
    }

pub returns-clause-moments : goal.returns-clause-moments
returns-clause-moments g c honest header h keep =
    weaken _ _ (After (Torn (c.args.self.now.gate + 1) (length c.args.payload.now + 5)) (g.D.Disk.tells c.args.self.now.disk).image) (λ file. StandsFor header file h)
    (λ x from. stage_keeps header from.0 x h _ (keep.each from.0 from.1) (subst (λ k. Torn (k + 1) (length c.args.payload.now + 5) from.0 x) keep.gate from.2))
    (c.write_record.ensures.told honest).moments

pub returns-clause-ends : goal.returns-clause-ends
returns-clause-ends g c honest end each room x now =
    let from = (c.write_record.ensures.told honest).images x now in
    torn_within from.0 x (c.args.self.now.gate + 1) (length c.args.payload.now + 5) end (each from.0 from.1) (omega (arith, room)) from.2

pub returns-then-eq-clause-alone : goal.returns-then-eq-clause-alone
returns-then-eq-clause-alone g c honest header h keep ends x now =
    let p = c.args.payload.now in
    let disk = c.args.self.now.disk in
    let reads = (g.D.Disk.tells disk).reads in
    let same : c.args.self.now.ahead ≡ p = search rules in
    let there : WithGateOpen header h p reads = subst (λ (q : List ℕ). WithGateOpen header h q reads) same
    (keep.ahead (omega (arith, c.requires.payload.some, ap length same)) reads (g.met.D.Disk.reads_as_image disk honest)) in
    absurd (omega (arith, ends, ahead_in header reads h p there, gate_place-push h p))

pub returns-clause-alone : goal.returns-clause-alone
returns-clause-alone g c honest header h keep ends =
    let p = c.args.payload.now in
    let old = g.D.Disk.tells c.args.self.now.disk in
    let new = g.D.Disk.tells c.write_record.new.disk in
    on_ok_map c.write_record.result (IsKept (overwrite (c.args.self.now.gate + 1) (body_of p ++ 0 ∷ []) old.reads) new) (EachImage new (EndsBehind (h ++ p ∷ [])))
    (λ kept. staged_ends old new c.args.self.now.gate h p keep.gate ends kept) (c.write_record.ensures.done honest)
