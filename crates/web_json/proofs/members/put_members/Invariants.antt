use Rattle.std.proofs.Common.{◌≡◌, drop}
use Rattle.serde_json.specs.View.{view}
use Rattle.format_table.specs.Parts.{slots_of}
use Rattle.web_json.specs.Drafts.{put_said}
use Rattle.web_json.specs.Values.{numbers_said}
use Rattle.web_json.proofs.members.put_members.Given as goal

abbrev pub invariant-loop-part : goal.invariant-loop-part
invariant-loop-part l = put_said (numbers_said (slots_of (drop l.part-index l.parts)) (view l.value)) l.draft ≡ put_said (numbers_said (slots_of l.parts) (view l.value)) l.fn.draft
