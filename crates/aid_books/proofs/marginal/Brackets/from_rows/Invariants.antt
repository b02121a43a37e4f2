use Rattle.std.proofs.Common.{◌≡◌, pos}
use Rattle.aid_types.proofs.FilledLemmas.{filled_to}
use Rattle.aid_books.proofs.marginal.Brackets.from_rows.Given as goal

abbrev pub invariant-loop-i : goal.invariant-loop-i
invariant-loop-i l = l.array ≡ filled_to 16 (record { over = pos 0; base = pos 0; rate = pos 0 }) l.rows l.i
