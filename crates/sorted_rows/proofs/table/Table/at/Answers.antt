use Rattle.std.proofs.Common.{ap, ◌∙◌}
use Rattle.std.specs.Map.{lookup}
use Rattle.std.specs.BTreeMap.{is_at}
use Rattle.sorted_rows.specs.Seen.{Seen}
use Rattle.sorted_rows.proofs.Apart.{in_first, in_second}
use Rattle.sorted_rows.proofs.table.Table.at.Goals as goal

pub returns-in-Some : goal.returns-in-Some
returns-in-Some g c =
    let test = is_at (g.K.Ord.cmp c.args.key.now) in
    in_first test c.self.inside.tail.items c.self.inside.main.items c.in-Some.value (c.in-Some.ensures ∙ ap (lookup test) c.as_slice.ensures.value)
    ∙ ap (λ (t : Seen g.row.K.Denot g.row.V.Denot). lookup test t.rows) c.self.view_is

pub returns-in-None : goal.returns-in-None
returns-in-None g c =
    let test = is_at (g.K.Ord.cmp c.args.key.now) in
    c.find_uncounted-in-None.ensures
    ∙ ap (lookup test) c.as_slice-in-None.ensures.value
    ∙ in_second test c.self.inside.tail.items c.self.inside.main.items (c.in-None.ensures ∙ ap (lookup test) c.as_slice.ensures.value)
    ∙ ap (λ (t : Seen g.row.K.Denot g.row.V.Denot). lookup test t.rows) c.self.view_is
