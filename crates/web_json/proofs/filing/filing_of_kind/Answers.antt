use Rattle.std.proofs.Common.{◌≡◌, pos, ◌∙◌}
use Rattle.std.specs.Prelude.{Some}
use Rattle.serde_json.specs.View.{view}
use Rattle.web_json.specs.Bodies.{fields_of}
use Rattle.web_json.specs.Values.{numbers_said}
use Rattle.web_json.proofs.MemberLemmas2.{filing-are}
use Rattle.web_json.proofs.filing.filing_of_kind.Goals as goal

pub filing_of-requires : goal.filing_of-requires
filing_of-requires c =
    record { in_range = rw c.numbers.ensures.numbers (filing-are c.args.kind (pos c.args.school) (numbers_said (fields_of c.args.kind) (view c.args.value.now)) _ c.in_ok-draft.ensures) }

pub returns : goal.returns
returns c =
    let numbers = c.in-Ok.ensures.value ∙ c.numbers.ensures.numbers in
    (λ i. Some (c.in-Ok.ensures.kind i, numbers i)) ∙ c.in_ok-draft.ensures
