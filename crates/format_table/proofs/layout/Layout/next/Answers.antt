use Rattle.format_table.proofs.LayoutLemmas.{first_part}
use Rattle.format_table.proofs.layout.Layout.next.Goals as goal

pub returns-in-Some-first-2 : goal.returns-in-Some-first-2
returns-in-Some-first-2 c =
    first_part c.self.inside.rows c.self.inside.key.now c.self.inside.parts.now c.in-Some-first-2.part.now c.args.self.now
    c.in_default.ensures c.in_default-first.ensures.value c.in-Some-first-2.ensures.value c.self.view_is
