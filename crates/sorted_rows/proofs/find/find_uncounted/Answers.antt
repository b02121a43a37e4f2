use Rattle.std.proofs.Common.{◌≡◌, Some, sym, ap, ◌∙◌}
use Rattle.std.specs.List.{slice_get}
use Rattle.std.proofs.lemmas.Option.{slice_get-get_or}
use Rattle.sorted_rows.proofs.Sorted.{found, missed}
use Rattle.sorted_rows.proofs.find.find_uncounted.Goals as goal

pub returns-in-Ok : goal.returns-in-Ok
returns-in-Ok g c =
    let key = c.args.key.now in
    let rows = c.args.rows.now in
    let e = c.index-rows-place.result in
    let at : slice_get rows c.in-Ok.place ≡ Some e = slice_get-get_or rows c.in-Ok.place e c.in-Ok.ensures.found.in_range ∙ ap (λ (y : g.row.K.Denot × g.row.V.Denot). Some y) (sym c.index-rows-place.is) in
    ap (λ (y : g.row.K.Denot × g.row.V.Denot). Some y.1) (sym c.index-rows-place.is) ∙ found g.met.K.Ord.total key rows c.in-Ok.place e c.requires.sorted c.in-Ok.ensures.found at

pub returns-in-Err : goal.returns-in-Err
returns-in-Err g c =
    missed g.met.K.Ord.total c.args.key.now c.args.rows.now c.in-Err.field-0 c.requires.sorted c.in-Err.ensures.gap
