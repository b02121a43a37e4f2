use Rattle.std.proofs.Common.{◌≡◌, ◌+◌, ◌++◌, ◌∷◌, [], List, ℕ, suc, drop, sym, ap, ◌∙◌, arith, append_assoc, append-nil, None}
use Rattle.csv.specs.Records.{field_at, fields_of}
use Rattle.office_amends.proofs.Fields.{at_end, at_place, before_end}
use Rattle.office_amends.proofs.row.fields_behind.Goals as goal

pub loop-text-smaller : goal.loop-text-smaller
loop-text-smaller c =
    let inside = before_end (fields_of c.args.texts.now) c.loop-text.place c.in-Some.text.now c.in-Some.ensures.value in
    omega (arith, inside)

pub loop-text-preserved : goal.loop-text-preserved
loop-text-preserved c =
    let texts = fields_of c.args.texts.now in
    let place = c.loop-text.place in
    let older = fields_of c.loop-text.fields in
    let plus : suc place ≡ place + 1 = omega arith in
    let one : fields_of c.push_field.new.self ≡ older ++ (c.in-Some.text.now ∷ []) =
    c.in_ok-push_field.ensures.fields ∙ ap (λ (partial : List ℕ). older ++ ((partial ++ c.in-Some.text.now) ∷ [])) c.loop-text.invariant.1 in
    let next : drop place texts ≡ c.in-Some.text.now ∷ drop (suc place) texts = at_place texts place c.in-Some.text.now c.in-Some.ensures.value in (
      ap (λ n. fields_of c.push_field.new.self ++ drop n texts) (sym plus) ∙ ap (λ (l : List (List ℕ)). l ++ drop (suc place) texts) one ∙ append_assoc older (c.in-Some.text.now ∷ []) (drop (suc place) texts)
          ∙ ap (λ (l : List (List ℕ)). older ++ l) (sym next) ∙ c.loop-text.invariant.0,
      c.in_ok-push_field.ensures.partial,
    )

pub returns : goal.returns
returns c =
    let texts = fields_of c.args.texts.now in
    let none : None ≡ field_at texts c.loop-text.place = c.in_default.ensures.value in
    sym (append-nil (fields_of c.loop-text.fields)) ∙ ap (λ (l : List (List ℕ)). fields_of c.loop-text.fields ++ l) (sym (at_end texts c.loop-text.place none)) ∙ c.loop-text.invariant.0
