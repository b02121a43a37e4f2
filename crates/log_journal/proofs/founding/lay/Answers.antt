use Rattle.std.proofs.Common.{◌≡◌, [], ◌∷◌, ◌++◌, List, ℕ, length, take, drop, IsTrue, ◌∙◌, ap, sym, subst}
use Rattle.io_traits.specs.DiskState.{Torn, After, IsKept, overwrite}
use Rattle.io_traits.proofs.Moments.{weaken, join}
use Rattle.log_journal.specs.Header.{header_bytes}
use Rattle.log_journal.specs.Founded.{UnbornOrEmpty}
use Rattle.log_journal.proofs.Exits.{on_ok_map}
use Rattle.log_journal.proofs.Steps.{rest_of, rest_is, length-rest_of, named, named_done, born, born_done}
use Rattle.log_journal.proofs.founding.lay.Goals as goal

pub returns-in_err-write_kept-clause-moments : goal.returns-in_err-write_kept-clause-moments
returns-in_err-write_kept-clause-moments g c honest quiet =
    let header = c.args.header in
    let old = g.D.Disk.tells c.args.disk.now in
    let n = length (take 16 (drop 1 c.empty_file-empty.result)) in
    let size : n ≡ 16 = ap length (rest_is header c.empty_file-empty.result c.empty_file-empty.ensures) ∙ length-rest_of header in
    weaken _ _ (After (Torn 1 n) old.image) (UnbornOrEmpty header) (λ x from. named header old.reads x (c.requires honest) (subst (λ d. Torn 1 16 d x) (quiet from.0 from.1) (subst (λ k. Torn 1 k from.0 x) size from.2))) (c.write_kept.ensures.told honest).moments

pub returns-clause-done : goal.returns-clause-done
returns-clause-done g c honest =
    let header = c.args.header in
    let old = g.D.Disk.tells c.args.disk.now in
    let mid = g.D.Disk.tells c.write_kept.new.disk in
    let new = g.D.Disk.tells c.write_kept-2.new.disk in
    let after = subst IsTrue (sym c.write_kept.ensures.honest) honest in
    let kept : IsKept (overwrite 1 (rest_of header) old.reads) mid = subst (λ (l : List ℕ). IsKept (overwrite 1 l old.reads) mid) (rest_is header c.empty_file-empty.result c.empty_file-empty.ensures) (c.in_ok-write_kept.ensures.done honest) in
    let is_named = named_done header old.reads mid.reads (c.requires honest) kept.reads in
    on_ok_map c.write_kept-2.result (IsKept (overwrite 0 (1 ∷ []) mid.reads) new) (IsKept (header_bytes header ++ 0 ∷ []) new)
    (λ last. record { reads = born_done header mid.reads new.reads is_named last.reads; quiet = last.quiet })
    (c.write_kept-2.ensures.done after)

pub returns-clause-moments : goal.returns-clause-moments
returns-clause-moments g c honest quiet =
    let header = c.args.header in
    let old = g.D.Disk.tells c.args.disk.now in
    let mid = g.D.Disk.tells c.write_kept.new.disk in
    let new = g.D.Disk.tells c.write_kept-2.new.disk in
    let after = subst IsTrue (sym c.write_kept.ensures.honest) honest in
    let rest = rest_is header c.empty_file-empty.result c.empty_file-empty.ensures in
    let n = length (take 16 (drop 1 c.empty_file-empty.result)) in
    let size : n ≡ 16 = ap length rest ∙ length-rest_of header in
    let kept : IsKept (overwrite 1 (rest_of header) old.reads) mid = subst (λ (l : List ℕ). IsKept (overwrite 1 l old.reads) mid) rest (c.in_ok-write_kept.ensures.done honest) in
    let is_named = named_done header old.reads mid.reads (c.requires honest) kept.reads in
    join old mid new (UnbornOrEmpty header)
    (weaken _ _ (After (Torn 1 n) old.image) (UnbornOrEmpty header) (λ x from. named header old.reads x (c.requires honest) (subst (λ d. Torn 1 16 d x) (quiet from.0 from.1) (subst (λ k. Torn 1 k from.0 x) size from.2))) (c.write_kept.ensures.told honest).moments)
    (weaken _ _ (After (Torn 0 1) mid.image) (UnbornOrEmpty header) (λ x from. born header mid.reads x is_named (subst (λ d. Torn 0 1 d x) (kept.quiet from.0 from.1) from.2)) (c.write_kept-2.ensures.told after).moments)
