use Rattle.std.proofs.Common.{w64, subst, sym}
use Rattle.std.proofs.lemmas.Int.{to_z-of_z}
use Rattle.aid_books.proofs.RowLemmas.{TellsRow, TellsRow-row_at}
use Rattle.aid_books.proofs.marginal.Brackets.row_at.Goals as goal

pub returns : goal.returns
returns c =
    let rows = c.args.self.now in
    let x_is = to_z-of_z w64 c.args.x c.ranges.x in
    let value = rw x_is at c.last_row_below.ensures.value in
    let row = subst (TellsRow rows c.args.x) (sym value) (TellsRow-row_at rows c.args.x c.as_slice-rows.ensures.marginal) in
    record { value = value; in_range = c.last_row_below.ensures.in_range; found = row.found; only = row.only; none = row.none }
