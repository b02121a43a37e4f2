use Rattle.std.proofs.Common.{◌∙◌, sym, ap, ◌++◌, w64}
use Rattle.std.proofs.lemmas.Int.{to_z-of_z}
use Rattle.format_table.specs.Parts.{slots_of}
use Rattle.format_table.proofs.LayoutLemmas.{after_last_part, after_part, after_row}
use Rattle.format_table.proofs.layout.Layout.advance.Goals as goal

pub returns-then-is_some : goal.returns-then-is_some
returns-then-is_some c =
    ap (λ s. s ++ (slots_of c.self.inside.key.now ++ slots_of c.self.inside.parts.now)) c.advance.ensures
    ∙ after_row c.next.result c.self.inside.rows (slots_of c.self.inside.key.now ++ slots_of c.self.inside.parts.now) c.args.self.now c.args.number
    c.next.ensures (sym c.is_some.ensures ∙ c.if-is_some.true) c.self.view_is

pub returns-in-Some : goal.returns-in-Some
returns-in-Some c =
    let counted = rw (to_z-of_z w64 c.args.number c.ranges.number) at c.counted-self-inside.ensures in
    ap (λ s. s ++ (slots_of c.in-Some.rest.now ++ slots_of c.self.inside.parts.now)) counted
    ∙ after_part c.next.result c.self.inside.rows c.in-Some.part.now c.in-Some.rest.now c.self.inside.key.now (slots_of c.self.inside.parts.now)
    c.args.self.now c.args.number c.next.ensures (sym c.is_some.ensures ∙ c.if-is_some.false) c.in-Some.ensures.cases.0 c.self.invariant c.self.view_is

pub returns-in-Some-split_first : goal.returns-in-Some-split_first
returns-in-Some-split_first c =
    let counted = rw (to_z-of_z w64 c.args.number c.ranges.number) at c.counted-self-inside-in-Some-split_first.ensures in
    let left = rw (to_z-of_z w64 c.args.number c.ranges.number) at c.left_behind-self-inside.ensures in
    ap (λ s. s ++ (slots_of c.self.inside.key.now ++ slots_of c.left_behind-self-inside.result.now)) counted
    ∙ after_last_part c.next.result c.self.inside.rows c.in-Some-split_first.part.now c.in-Some-split_first.rest.now c.left_behind-self-inside.result.now c.self.inside.parts.now c.self.inside.key.now
    c.args.self.now c.args.number c.next.ensures (sym c.is_some.ensures ∙ c.if-is_some.false) c.in_default.ensures.cases
    c.in-Some-split_first.ensures.cases.0 left c.self.view_is
