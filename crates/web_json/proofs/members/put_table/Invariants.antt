use Rattle.std.proofs.Common.{◌≡◌, drop}
use Rattle.std.specs.Prelude.{map}
use Rattle.serde_json.specs.View.{view}
use Rattle.format_table.specs.Parts.{lines_of}
use Rattle.web_json.specs.Drafts.{put_said}
use Rattle.web_json.specs.Values.{rows_said, table_said}
use Rattle.web_json.proofs.members.put_table.Given as goal

abbrev pub invariant-loop-row : goal.invariant-loop-row
invariant-loop-row l = put_said (rows_said (lines_of l.columns) (map view (drop l.row-index l.rows))) l.draft ≡ put_said (table_said (lines_of l.columns) (map view l.rows)) l.fn.draft
