use Rattle.std.proofs.Common.{◌≡◌, pos}
use Rattle.aid_types.proofs.FilledLemmas.{filled_to}
use Rattle.aid_books.proofs.ages.Ages.from_rows.Given as goal

abbrev pub invariant-loop-i : goal.invariant-loop-i
invariant-loop-i l = l.array ≡ filled_to 64 (record { start = pos 0; single = pos 0; married = pos 0 }) l.rows l.i
