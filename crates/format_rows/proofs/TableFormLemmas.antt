-- What a row of a kind means, by its parts.
use Rattle.std.proofs.Common.{◌≡◌, ℕ, ◌≤◌, ℤ, List, [], ◌∷◌, ◌++◌, length, true, false, ap, sym, subst, ◌∙◌, arith}
use Rattle.std.specs.Prelude.{Some, option_and_then, is_some, Result, Ok, Err, IfOk, if◌then◌else◌}
use Rattle.std.specs.Result.{result_map_both}
use Rattle.format_table.specs.Layout.{AreNumbers}
use Rattle.format_table.specs.Parts.{Slot}
use Rattle.format_table.specs.Tables.{IsRow, KindRow, is_sound_table, kind_at, kind_named, slots_in}
use Rattle.csv.specs.Records.{field_at}
use Rattle.format_table.proofs.TableLaws.{named_at}
use Rattle.format_table.specs.Walk.{numbers_of_slots}
use Rattle.format_table.proofs.WalkLaws.{numbers_of_slots-are}
use Rattle.format_rows.specs.Fields.{are_as_many}
use Rattle.format_rows.specs.Numbers.{refused, row_source}
use Rattle.format_rows.specs.TableRowFormat.{row_of_slots}
use Rattle.format_rows.specs.declared.error.Cause.TheVariants.{WrongCount}
use Rattle.format_rows.specs.declared.error.RowError.{RowError}

abbrev pub with_code : ℕ → Result (List ℤ) RowError → Result (ℕ × List ℤ) RowError
with_code code read = result_map_both (λ zs. (code, zs)) (λ e. e) read

-- a wrong number of fields
pub wrong_count : (words : List (List ℕ)) (row code : ℕ) (slots : List Slot) (texts : List (List ℕ)) → are_as_many words slots texts ≡ false → row_of_slots words row code slots texts ≡ Err (refused row 0 WrongCount)
unfolding row_of_slots
wrong_count words row code slots texts many = ap (λ b. if b then with_code code (numbers_of_slots (row_source words row) slots texts) else Err (refused row 0 WrongCount)) many

-- the right one
pub right_count : (words : List (List ℕ)) (row code : ℕ) (slots : List Slot) (texts : List (List ℕ)) (read : Result (List ℤ) RowError) → are_as_many words slots texts ≡ true
    → numbers_of_slots (row_source words row) slots texts ≡ read → row_of_slots words row code slots texts ≡ with_code code read
unfolding row_of_slots
right_count words row code slots texts read many is =
    ap (λ b. if b then with_code code (numbers_of_slots (row_source words row) slots texts) else Err (refused row 0 WrongCount)) many ∙ ap (with_code code) is

-- numbers that were read are those of the slots
pub read-are : (words : List (List ℕ)) (row : ℕ) (slots : List Slot) (texts : List (List ℕ)) (zs : List ℤ) → numbers_of_slots (row_source words row) slots texts ≡ Ok zs → AreNumbers slots [] zs
read-are words row slots texts zs r = subst (λ (x : Result (List ℤ) RowError). IfOk x (AreNumbers slots [])) r (numbers_of_slots-are (row_source words row) slots texts)

-- numbers that were read by the parts of a kind are a row of the table
pub IsRow-by : (key front : List Slot) (kinds : List KindRow) (code : ℕ) (kind : KindRow) (zs : List ℤ) → kind_at kinds code ≡ Some kind → front ≡ key → AreNumbers (front ++ kind.slots) [] zs → IsRow key kinds code zs
IsRow-by key front kinds code kind zs e f are =
    let here : AreNumbers (key ++ kind.slots) [] zs = subst (λ (k : List Slot). AreNumbers (k ++ kind.slots) [] zs) f are in
    record { known = ap is_some e; are = subst (λ k. AreNumbers (slots_in key k) [] zs) (sym e) here }

-- a kind that the first text names
pub named_kind : (key : List Slot) (kinds : List KindRow) (texts : List (List ℕ)) (kind : KindRow) → is_sound_table key kinds ≡ true → Some kind ≡ option_and_then (kind_named kinds) (field_at texts 0)
    → (kind_at kinds kind.code ≡ Some kind) × (1 ≤ length texts)
unfolding field_at
named_kind key kinds [] kind sound e = absurd cc
named_kind key kinds (text ∷ texts) kind sound e = (named_at key kinds text kind sound (sym e), omega arith)
