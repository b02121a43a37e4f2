-- Numbers that are read one after the other.
use Rattle.std.proofs.Common.{◌≡◌, ℕ, zero, suc, ◌+◌, ◌<◌, ℤ, List, [], ◌∷◌, length, drop, true, false, refl, sym, ap, subst, ◌∙◌, arith}
use Rattle.std.specs.Prelude.{Result, Ok, Err, reverse}
use Rattle.std.specs.Result.{result_map_both}
use Rattle.std.proofs.lemmas.List.{length-reverse}
use Rattle.aid_types.specs.declared.text.Malformed.{Malformed}
use Rattle.csv.specs.Records.{field_at}
use Rattle.format_table.specs.Draft.{Progress, accepts, onward}
use Rattle.format_table.specs.Forms.{most_numbers}
use Rattle.format_table.specs.Parts.{Line}
use Rattle.format_table.specs.Walk.{Found}
use Rattle.format_table.specs.declared.field.Form.{Form}
use Rattle.format_table.proofs.WalkLaws.{IsNext, none_found, numbers_with, past_limit, put_next}
use Rattle.format_rows.specs.declared.error.Cause.TheVariants.{Range}
use Rattle.format_rows.specs.declared.error.RowError.{RowError}
use Rattle.format_rows.specs.Fields.{number_in}
use Rattle.format_rows.specs.Numbers.{cause_of, first_number, number_spelled, refused, row_source}

abbrev Texts : Type 0
Texts = List (List ℕ)

abbrev found_text : ℤ → Texts → Found Texts
found_text z texts = record { number = z; rest = texts }

abbrev with_rest : Texts → Result ℤ RowError → Result (Found Texts) RowError
with_rest texts read = result_map_both (λ z. found_text z texts) (λ e. e) read

rest_of : (row place : ℕ) (texts : Texts) (read : Result ℤ Malformed)
    → result_map_both (λ z. found_text z texts) (λ e. refused row place (cause_of e)) read ≡ with_rest texts (result_map_both (λ z. z) (λ e. refused row place (cause_of e)) read)
rest_of row place texts (Ok z) = refl
rest_of row place texts (Err e) = refl

-- the number of the text at a place, with the texts behind it
first_number-at : (words : List (List ℕ)) (row place : ℕ) (form : Form) (texts : Texts) (n : ℕ)
    → first_number words row place form (drop n texts) ≡ with_rest (drop (suc n) texts) (number_spelled words row place form (field_at texts n))
unfolding field_at
first_number-at words row place form [] zero = refl
first_number-at words row place form [] (suc n) = refl
first_number-at words row place form (t ∷ texts) zero = rest_of row place texts (number_in words form t)
first_number-at words row place form (t ∷ texts) (suc n) = first_number-at words row place form texts n

-- what is known where the next number is read: so many are before it
pub record IsReading (draft : Progress) (line : Line) (before : ℕ) : Type 0 where
  pub next : IsNext line draft.slots
  pub room : length draft.earlier < most_numbers
  pub count : before ≡ length draft.earlier

pub is_reading : (draft : Progress) (line : Line) (numbers : List ℤ) → IsNext line draft.slots → length draft.earlier < most_numbers → numbers ≡ reverse draft.earlier → IsReading draft line (length numbers)
is_reading draft line numbers next room is = record { next = next; room = room; count = ap length is ∙ length-reverse draft.earlier }

abbrev pub texts_left : Texts → Progress → Texts
texts_left texts draft = drop (length draft.earlier + 1) texts

-- what the field behind so many numbers has
found : (words : List (List ℕ)) (row before : ℕ) (draft : Progress) (line : Line) (texts : Texts) (r : Result ℤ RowError) → IsReading draft line before → number_spelled words row (before + 2) line.form (field_at texts (before + 1)) ≡ r
    → first_number words row (length draft.earlier + 2) line.form (texts_left texts draft) ≡ with_rest (drop (suc (length draft.earlier + 1)) texts) r
found words row before draft line texts r reading h =
    let n = length draft.earlier in
    let there = subst (λ (k : ℕ). number_spelled words row (k + 2) line.form (field_at texts (k + 1)) ≡ r) reading.count h in
    first_number-at words row (n + 2) line.form texts (n + 1) ∙ ap (with_rest (drop (suc (n + 1)) texts)) there

-- a text that spells no number
pub not_read : (words : List (List ℕ)) (row before : ℕ) (draft : Progress) (line : Line) (texts : Texts) (e : RowError) → IsReading draft line before
    → number_spelled words row (before + 2) line.form (field_at texts (before + 1)) ≡ Err e → numbers_with (row_source words row) draft (texts_left texts draft) ≡ Err e
not_read words row before draft line texts e r h = none_found (row_source words row) draft (texts_left texts draft) line e r.next r.room (found words row before draft line texts (Err e) r h)

-- one past its limit
pub is_past : (words : List (List ℕ)) (row before : ℕ) (draft : Progress) (line : Line) (texts : Texts) (z : ℤ) → IsReading draft line before
    → number_spelled words row (before + 2) line.form (field_at texts (before + 1)) ≡ Ok z → accepts draft z ≡ false
    → numbers_with (row_source words row) draft (texts_left texts draft) ≡ Err (refused row (before + 2) Range)
is_past words row before draft line texts z r h past =
    past_limit (row_source words row) draft (texts_left texts draft) line (found_text z (drop (suc (length draft.earlier + 1)) texts)) r.next r.room (found words row before draft line texts (Ok z) r h) past
    ∙ ap (λ k. Err (refused row (k + 2) Range)) (sym r.count)

-- one that is put behind the others
pub goes_on : (words : List (List ℕ)) (row before : ℕ) (draft next : Progress) (line : Line) (texts : Texts) (z : ℤ) → IsReading draft line before
    → number_spelled words row (before + 2) line.form (field_at texts (before + 1)) ≡ Ok z → accepts draft z ≡ true → next ≡ onward draft z
    → numbers_with (row_source words row) next (texts_left texts next) ≡ numbers_with (row_source words row) draft (texts_left texts draft)
goes_on words row before draft next line texts z r h fit is =
    let behind = drop (suc (length draft.earlier + 1)) texts in
    let longer : length next.earlier + 1 ≡ suc (length draft.earlier + 1) = ap (λ (p : Progress). length p.earlier + 1) is ∙ omega arith in
    ap (λ (k : ℕ). numbers_with (row_source words row) next (drop k texts)) longer
    ∙ put_next (row_source words row) draft next (texts_left texts draft) line (found_text z behind) r.next r.room (found words row before draft line texts (Ok z) r h) fit is
