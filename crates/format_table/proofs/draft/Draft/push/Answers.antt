use Rattle.std.proofs.Common.{arith}
use Rattle.format_table.specs.Parts.{line_of}
use Rattle.format_table.proofs.DraftLemmas.{IsDraft-at, IsDraft-room}
use Rattle.format_table.proofs.draft.Draft.push.Goals as goal

pub push-requires : goal.push-requires
push-requires g c = omega (arith, IsDraft-room g.row.MOST c.self.inside.layout c.self.inside.numbers.items (line_of c.in-Some.field.now) c.in-Some.ensures c.self.invariant)

pub invariant_of-self : goal.invariant_of-self
invariant_of-self g c =
    IsDraft-at g.row.MOST c.self.inside.layout c.advance.new.self c.as_slice.result.now c.self.inside.numbers.items c.push.new.self.items (line_of c.in-Some.field.now) _ c.fits.result
    c.as_slice.ensures.value c.fits.ensures c.if-not-fits.false c.in-Some.ensures c.self.invariant c.advance.ensures c.push.ensures.items
