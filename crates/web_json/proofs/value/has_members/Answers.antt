use Rattle.serde_json.specs.View.{members_view, view}
use Rattle.serde_json.proofs.Views.{members_len-members_view}
use Rattle.web_json.proofs.ValueLemmas.{has_len-object}
use Rattle.web_json.proofs.value.has_members.Goals as goal

pub returns-in-Some : goal.returns-in-Some
returns-in-Some c =
    let seen = rw c.in-Some.is at c.as_object.ensures in
    rw (c.len.ensures.len, ← members_len-members_view c.in-Some.members.now.entries)
    (has_len-object c.args.count (view c.args.value.now) (members_view c.in-Some.members.now.entries) seen)
