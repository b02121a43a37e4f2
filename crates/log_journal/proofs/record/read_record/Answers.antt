use Rattle.std.proofs.Common.{◌≡◌, ◌+◌, ◌<◌, ◌≤◌, List, ℕ, IsTrue, length, take, drop, sym, ◌∙◌, ap, subst}
use Rattle.log_journal.proofs.Exits.{on_true, on_false}
use Rattle.log_journal.specs.Record.{StartsWith}
use Rattle.log_journal.specs.declared.record.Start.TheVariants.{Size}
use Rattle.log_journal.proofs.Gathered.{drop-past, whole_record, short_record}
use Rattle.log_journal.proofs.record.read_record.Goals as goal

pub returns-then-branch-clause-stands : goal.returns-then-branch-clause-stands
returns-then-branch-clause-stands g c honest =
    let old = g.D.Disk.tells c.args.disk.now in
    let gate = c.args.gate in
    let n = c.in-Size.size in
    let start : StartsWith (drop gate old.reads) (Size n) = subst (λ x. StartsWith (drop gate old.reads) x) c.in-Size.is (c.in_ok-read_start.ensures.start honest) in
    let after = subst IsTrue (sym c.read_start.ensures.honest) honest in
    let got = on_true _ _ _ c.if-branch.true (c.in_ok-read_payload-in-Size.ensures.bytes after) in
    let at : drop (gate + 5) (g.D.Disk.tells c.read_start.new.disk).reads ≡ drop 5 (drop gate old.reads) = ap (λ (l : List ℕ). drop (gate + 5) l) (c.read_start.ensures.told honest).reads ∙ drop-past gate 5 old.reads in
    whole_record (drop gate old.reads) c.read_payload.new.room n start (got.0 ∙ ap (λ (l : List ℕ). take n l) at) (subst (λ (l : List ℕ). n ≤ length l) at got.1)

pub returns-else-branch-clause-stands : goal.returns-else-branch-clause-stands
returns-else-branch-clause-stands g c honest =
    let old = g.D.Disk.tells c.args.disk.now in
    let gate = c.args.gate in
    let n = c.in-Size.size in
    let start : StartsWith (drop gate old.reads) (Size n) = subst (λ x. StartsWith (drop gate old.reads) x) c.in-Size.is (c.in_ok-read_start.ensures.start honest) in
    let after = subst IsTrue (sym c.read_start.ensures.honest) honest in
    let got = on_false _ _ _ c.if-branch.false (c.in_ok-read_payload-in-Size.ensures.bytes after) in
    let at : drop (gate + 5) (g.D.Disk.tells c.read_start.new.disk).reads ≡ drop 5 (drop gate old.reads) = ap (λ (l : List ℕ). drop (gate + 5) l) (c.read_start.ensures.told honest).reads ∙ drop-past gate 5 old.reads in
    short_record (drop gate old.reads) n start (subst (λ (l : List ℕ). length l < n) at got)
