use Rattle.format_table.proofs.DraftLemmas.{held_in, room_in}
use Rattle.format_table.proofs.draft.Draft.next.Goals as goal

pub returns-clause-held : goal.returns-clause-held
returns-clause-held g c = held_in g.row.MOST c.next.result c.self.inside.layout c.self.inside.numbers.items c.args.self.now c.next.ensures c.self.invariant c.self.view_is

pub returns-clause-room : goal.returns-clause-room
returns-clause-room g c = room_in g.row.MOST c.next.result c.self.inside.layout c.self.inside.numbers.items c.args.self.now c.next.ensures c.self.invariant c.self.view_is
