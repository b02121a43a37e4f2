use Rattle.std.proofs.Common.{◌≡◌, drop}
use Rattle.std.specs.Prelude.{map}
use Rattle.serde_json.specs.View.{view}
use Rattle.format_table.specs.Parts.{lines_of}
use Rattle.web_json.specs.Drafts.{put_said}
use Rattle.web_json.specs.Values.{row_said}
use Rattle.web_json.proofs.members.put_row.Given as goal

abbrev pub invariant-loop-column : goal.invariant-loop-column
invariant-loop-column l = put_said (row_said (lines_of (drop l.column-index l.columns)) (map view l.rest)) l.draft ≡ put_said (row_said (lines_of l.columns) (map view l.values)) l.fn.draft
