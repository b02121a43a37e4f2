use Rattle.std.proofs.Common.{◌≡◌, ◌∙◌, ℕ, pos, List, ◌++◌, Result, Ok, Err, cond, is_ok, OnOk, sym, ap}
use Rattle.law_terms.specs.DayText.{IsDayText}
use Rattle.law_terms.proofs.DayTextLaws.{one_text}
use Rattle.law_terms.proofs.DayTexts.{day_text-is}
use Rattle.law_terms.proofs.DayLemmas.{count_of_number, read_back_day}
use Rattle.law_terms.proofs.day_text.put_day.Goals as goal

text_added : {A E : Type 0} (r : Result A E) (before after text : List ℕ) (count : ℕ) → after ≡ cond (is_ok r) (before ++ text) before → IsDayText text count
    → OnOk r ((x : List ℕ) × IsDayText x count × (after ≡ before ++ x))
text_added (Ok done) before after text count e is = (text, is, e)
text_added (Err f) before after text count e is = tt

text_is_it : {A E : Type 0} (r : Result A E) (before after text other : List ℕ) → after ≡ cond (is_ok r) (before ++ text) before → text ≡ other
    → OnOk r (after ≡ before ++ other)
text_is_it (Ok done) before after text other e same = e ∙ ap (λ (t : List ℕ). before ++ t) same
text_is_it (Err f) before after text other e same = tt

pub returns-clause-ok : goal.returns-clause-ok
returns-clause-ok c =
    let date = c.date_of-year.result in
    let number = sym (read_back_day c.d.inside.0 c.d.invariant) ∙ c.date_of-year.ensures.value in
    let is : IsDayText c.text_of-text.result c.args.d = record {
      year = date.0;
      month = date.1;
      day = date.2;
      is_date = c.date_of-year.ensures.is_date;
      spelled = c.text_of-text.ensures.value;
      counted = sym c.d.view_is ∙ count_of_number c.d.inside.0 (pos date.0) date.1 date.2 number;
    } in
    text_added c.extend_from_slice.result _ _ c.text_of-text.result c.args.d c.extend_from_slice.ensures.items is

pub returns-clause-only : goal.returns-clause-only
returns-clause-only c = λ text told.
    let date = c.date_of-year.result in
    let number = sym (read_back_day c.d.inside.0 c.d.invariant) ∙ c.date_of-year.ensures.value in
    let is : IsDayText c.text_of-text.result c.args.d = record {
      year = date.0;
      month = date.1;
      day = date.2;
      is_date = c.date_of-year.ensures.is_date;
      spelled = c.text_of-text.ensures.value;
      counted = sym c.d.view_is ∙ count_of_number c.d.inside.0 (pos date.0) date.1 date.2 number;
    } in
    text_is_it c.extend_from_slice.result _ _ c.text_of-text.result text c.extend_from_slice.ensures.items (one_text c.text_of-text.result text c.args.d is told)

pub returns-clause-text : goal.returns-clause-text
returns-clause-text c =
    let date = c.date_of-year.result in
    let number = sym (read_back_day c.d.inside.0 c.d.invariant) ∙ c.date_of-year.ensures.value in
    let is : IsDayText c.text_of-text.result c.args.d = record {
      year = date.0;
      month = date.1;
      day = date.2;
      is_date = c.date_of-year.ensures.is_date;
      spelled = c.text_of-text.ensures.value;
      counted = sym c.d.view_is ∙ count_of_number c.d.inside.0 (pos date.0) date.1 date.2 number;
    } in
    text_is_it c.extend_from_slice.result _ _ c.text_of-text.result _ c.extend_from_slice.ensures.items (day_text-is c.text_of-text.result c.args.d is)
