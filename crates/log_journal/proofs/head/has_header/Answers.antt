use Rattle.std.proofs.Common.{◌≡◌, take, sym, subst, arith}
use Rattle.std.specs.Bool.{Decides}
use Rattle.std.proofs.lemmas.Bool.Decides.{Decides-eqb}
use Rattle.std.proofs.lemmas.Slice.Eq.{slice_eq-Decides}
use Rattle.log_journal.proofs.Bytes.{length-take_le}
use Rattle.log_journal.proofs.Headers.{length-empty, take-empty}
use Rattle.log_journal.proofs.head.has_header.Goals as goal

pub slice_bounds-eq-end : goal.slice_bounds-eq-end
slice_bounds-eq-end c = sym (length-take_le 16 c.args.front.now c.requires.long)

pub slice_bounds-eq-end-2 : goal.slice_bounds-eq-end-2
slice_bounds-eq-end-2 c =
    let file = c.empty_file-empty.result in
    sym (length-take_le 16 file (omega (arith, length-empty c.args.header file c.empty_file-empty.ensures)))

pub returns : goal.returns
returns c =
    let front = c.args.front.now in
    let file = c.empty_file-empty.result in
    let same : Decides c.eq.result (take 16 front ≡ take 16 file) = slice_eq-Decides Decides-eqb (take 16 front) (take 16 file) c.eq.result c.eq.ensures in
    subst (λ bytes. Decides c.eq.result (take 16 front ≡ bytes)) (take-empty c.args.header file c.empty_file-empty.ensures) same
