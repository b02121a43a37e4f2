-- What the loops over fields, rows and columns put.
use Rattle.std.proofs.Common.{◌≡◌, ◌==◌, ℕ, zero, suc, ◌+◌, ◌<◌, ℤ, List, [], ◌∷◌, length, drop, get_or, Some, None, Option, true, false, refl, sym, ap, ◌∙◌, arith}
use Rattle.std.proofs.Math.Seq.{drop-cons}
use Rattle.std.specs.Prelude.{map, option_and_then, option_map}
use Rattle.serde_json.specs.Data.{Data}
use Rattle.serde_json.specs.Find.{as_array, get}
use Rattle.serde_json.specs.View.{items_view, view}
use Rattle.serde_json.specs.declared.value.Value.{Value}
use Rattle.format_table.specs.Draft.{Progress}
use Rattle.format_table.specs.Parts.{Line, line_of, lines_of, slot_of, slots_of}
use Rattle.format_table.specs.declared.field.Field.{Field}
use Rattle.format_table.specs.declared.field.Form.{Form}
use Rattle.format_table.specs.declared.field.Part.{Part}
use Rattle.web_json.specs.Drafts.{put_all, put_said}
use Rattle.web_json.specs.Values.{member_said, number_said, numbers_said, one, row_said, rows_said, table_said, values_of}
use Rattle.web_json.proofs.DraftLemmas.{put_field, put_rows, put_value}
use Rattle.web_json.proofs.ValueLemmas.{values_of-items_view}

-- what is answered where there is nothing
pub left_none : {A B : Type 0} (f : A → B) (r : Option A) (x : Option B) → r ≡ None → x ≡ None → option_map f r ≡ x
left_none f r x e h = ap (option_map f) e ∙ sym h

-- the numbers of the next field are put first
pub members_next : (parts : List Part) (i : ℕ) (d : Part) (content : Data) (p : Progress) (v : Data) (put : Option Progress) → i < length parts
    → Some v ≡ get (get_or parts i d).field.name.now content
    → put ≡ put_said (member_said (lines_of (get_or parts i d).first.now) (get_or parts i d).field.form v) p
    → put_said (numbers_said (slots_of (drop i parts)) content) p ≡ option_and_then (put_said (numbers_said (slots_of (drop (i + 1) parts)) content)) put
members_next parts i d content p v put below found is =
    let next : suc i ≡ i + 1 = omega arith in
    ap (λ (ps : List Part). put_said (numbers_said (slots_of ps) content) p) (drop-cons parts i d below)
    ∙ put_field (slot_of (get_or parts i d)) (slots_of (drop (suc i) parts)) content p (Some v) (sym found)
    ∙ ap (option_and_then (put_said (numbers_said (slots_of (drop (suc i) parts)) content))) (sym is)
    ∙ ap (λ (k : ℕ). option_and_then (put_said (numbers_said (slots_of (drop k parts)) content)) put) next

-- those of the next row
pub rows_next : (columns : List Line) (rows : List Value) (i : ℕ) (row : Value) (p : Progress) (values : List Value) (put : Option Progress) → i < length rows
    → row ≡ get_or rows i row → Some (items_view values) ≡ as_array (view row) → put ≡ put_said (row_said columns (map view values)) p
    → put_said (rows_said columns (map view (drop i rows))) p ≡ option_and_then (put_said (rows_said columns (map view (drop (i + 1) rows)))) put
rows_next columns rows i row p values put below at array is =
    let next : suc i ≡ i + 1 = omega arith in
    let here : drop i rows ≡ row ∷ drop (suc i) rows = drop-cons rows i row below ∙ ap (λ (v : Value). v ∷ drop (suc i) rows) (sym at) in
    ap (λ (vs : List Value). put_said (rows_said columns (map view vs)) p) here
    ∙ put_rows columns (view row) (map view (drop (suc i) rows)) p
    ∙ ap (λ o. option_and_then (put_said (rows_said columns (map view (drop (suc i) rows)))) (put_said (option_and_then (λ items. row_said columns (values_of items)) o) p)) (sym array)
    ∙ ap (λ (ds : List Data). option_and_then (put_said (rows_said columns (map view (drop (suc i) rows)))) (put_said (row_said columns ds) p)) (values_of-items_view values)
    ∙ ap (option_and_then (put_said (rows_said columns (map view (drop (suc i) rows))))) (sym is)
    ∙ ap (λ (k : ℕ). option_and_then (put_said (rows_said columns (map view (drop k rows)))) put) next

-- the number of the next column; y is how a machine holds z
pub row_next : (columns : List Field) (i : ℕ) (d : Field) (rest more : List Value) (value : Value) (p : Progress) (y z : ℤ) (put : Option Progress) → i < length columns
    → rest ≡ value ∷ more → Some z ≡ number_said (get_or columns i d).form (view value) → y ≡ z → put ≡ put_all (y ∷ []) p
    → put_said (row_said (lines_of (drop i columns)) (map view rest)) p ≡ option_and_then (put_said (row_said (lines_of (drop (i + 1) columns)) (map view more))) put
row_next columns i d rest more value p y z put below at number same is =
    let next : suc i ≡ i + 1 = omega arith in
    let cs = lines_of (drop (suc i) columns) in
    ap (λ (vs : List Value). put_said (row_said (lines_of (drop i columns)) (map view vs)) p) at
    ∙ ap (λ (fs : List Field). put_said (row_said (lines_of fs) (view value ∷ map view more)) p) (drop-cons columns i d below)
    ∙ put_value (line_of (get_or columns i d)) cs (view value) (map view more) p
    ∙ ap (λ (o : Option ℤ). option_and_then (put_said (row_said cs (map view more))) (put_said (one o) p)) (sym number)
    ∙ ap (λ (x : ℤ). option_and_then (put_said (row_said cs (map view more))) (put_all (x ∷ []) p)) (sym same)
    ∙ ap (option_and_then (put_said (row_said cs (map view more)))) (sym is)
    ∙ ap (λ (k : ℕ). option_and_then (put_said (row_said (lines_of (drop k columns)) (map view more))) put) next

-- a row with too few values
no_values : (columns : List Field) (i : ℕ) (p : Progress) → i < length columns → put_said (row_said (lines_of (drop i columns)) []) p ≡ None
no_values [] i p below = absurd (omega (arith, below))
no_values (c ∷ cs) zero p below = refl
no_values (c ∷ cs) (suc i) p below = no_values cs i p (omega (arith, below))

pub row_short : (columns : List Field) (i : ℕ) (rest : List Value) (p : Progress) → i < length columns → length rest ≡ 0
    → put_said (row_said (lines_of (drop i columns)) (map view rest)) p ≡ None
row_short columns i [] p below h = no_values columns i p below
row_short columns i (v ∷ vs) p below h = absurd (omega (arith, h))

-- a field that counts rows
pub member_table : (columns : List Field) (form : Form) (content : Data) (rows : List Value) → (length columns == 0) ≡ false → Some (items_view rows) ≡ as_array content
    → member_said (lines_of columns) form content ≡ table_said (lines_of columns) (map view rows)
member_table [] form content rows e array = absurd cc
member_table (c ∷ cs) form content rows e array =
    ap (option_and_then (λ items. table_said (lines_of (c ∷ cs)) (values_of items))) (sym array) ∙ ap (table_said (lines_of (c ∷ cs))) (values_of-items_view rows)
