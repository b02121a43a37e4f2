use Rattle.std.proofs.Common.{rules, ◌≡◌, ◌++◌, List, pos, drop, sym, refl, ap, ◌∙◌, w64, to_z, of_z}
use Rattle.std.specs.Prelude.{Some, None}
use Rattle.serde_json.specs.View.{view}
use Rattle.format_kinds.specs.Kinds.{key_slots}
use Rattle.format_table.specs.Parts.{Slot, slots_of}
use Rattle.format_table.specs.declared.field.Part.{Part}
use Rattle.web_json.specs.Bodies.{fields_of}
use Rattle.web_json.proofs.MemberLemmas2.{put_three}
use Rattle.web_json.proofs.filing.put_filing.Goals as goal

pub returns : goal.returns
returns c =
    let number : slots_of c.in_ok-number.number.now ≡ drop 1 key_slots =
    ap (λ (ps : List Part). drop 1 (slots_of ps)) (sym c.in_ok-number.ensures.cases.0) ∙ ap (λ (ss : List Slot). drop 1 ss) c.key_parts.ensures in
    let fields : slots_of c.in_ok-number.number.now ++ slots_of c.table_row.result.parts.now ≡ fields_of c.args.kind = λ i. number i ++ c.table_row.ensures.parts i in
    let held : to_z w64 (of_z w64 c.from.result) ≡ c.from.result = search rules in
    let school : c.from.result ≡ pos c.args.school = search rules in
    put_three _ _ _ (view c.args.value.now) _ _ c.args.draft.now (Some c.put_number.new.draft) (Some c.put_members.new.draft) _ fields (held ∙ school)
    c.in_ok-put_number.ensures c.in_ok-put_members.ensures c.put_members-2.ensures
