use Rattle.format_table.proofs.DraftLemmas.{IsDraft-none}
use Rattle.format_table.proofs.draft.Draft.new.Goals as goal

pub invariant_of-result : goal.invariant_of-result
invariant_of-result g c = IsDraft-none g.row.MOST _ c.new.result c.new-2.result.items c.requires.table c.requires.room c.requires.few c.new.ensures c.new-2.ensures
