-- The bytes of an entry: what was read was spelled so, what was spelled is read again, and no spelling begins another.
use Rattle.std.proofs.Common.{◌≡◌, ℕ, ℤ, List, ◌++◌, Result, Ok, Err, true, refl, sym, ap, ◌∙◌}
use Rattle.std.specs.Prelude.{IfOk}
use Rattle.format_table.specs.Parts.{Slot}
use Rattle.format_table.specs.Tables.{IsRow, KindRow, is_sound_table}
use Rattle.format_table.specs.Spelling.{IsAlone, row_bytes}
use Rattle.format_table.specs.Taking.{Gives, taken}
use Rattle.format_table.proofs.RowLaws.{Row, done, row_is, rows_alone, takes, takes_again}
use Rattle.format_table.proofs.Widths.{AreBytes}

pub is_found : {E : Type 0} (key : List Slot) (kinds : List KindRow) (code_of : E → ℕ) (numbers_of : E → List ℤ) (bytes : List ℕ) (r : Result E ℕ) → AreBytes bytes → Gives code_of numbers_of r (taken key kinds bytes)
    → IfOk r (λ e. IsRow key kinds (code_of e) (numbers_of e) × (bytes ≡ row_bytes key kinds (code_of e) (numbers_of e)))
is_found key kinds code_of numbers_of bytes (Ok e) are given = takes key kinds (code_of e) (numbers_of e) bytes are given
is_found key kinds code_of numbers_of bytes (Err e) are given = tt

not_refused : (place : ℕ) (row : Row) → Err place ≡ done row → ⊥
not_refused place row e = cc

-- no two entries of a kind have the same numbers
abbrev pub AreOne : {E : Type 0} → (E → ℕ) → (E → List ℤ) → Type 0
AreOne {E = E} code_of numbers_of = (x y : E) → code_of x ≡ code_of y → numbers_of x ≡ numbers_of y → x ≡ y

pub is_only : {E : Type 0} (key : List Slot) (kinds : List KindRow) (code_of : E → ℕ) (numbers_of : E → List ℤ) → is_sound_table key kinds ≡ true → AreOne code_of numbers_of
    → (bytes : List ℕ) (r : Result E ℕ) → Gives code_of numbers_of r (taken key kinds bytes)
    → (e : E) → IsRow key kinds (code_of e) (numbers_of e) → bytes ≡ row_bytes key kinds (code_of e) (numbers_of e) → r ≡ Ok e
is_only key kinds code_of numbers_of sound one bytes (Ok found) given e are is =
    let again = ap (taken key kinds) is ∙ takes_again key kinds (code_of e) (numbers_of e) sound are in
    let same = row_is (code_of found, numbers_of found) (code_of e, numbers_of e) (sym given ∙ again) in
    ap Ok (one found e same.0 same.1)
is_only key kinds code_of numbers_of sound one bytes (Err place) given e are is =
    let again = ap (taken key kinds) is ∙ takes_again key kinds (code_of e) (numbers_of e) sound are in
    absurd (not_refused place (code_of e, numbers_of e) (sym given ∙ again))

pub is_alone : {E : Type 0} (key : List Slot) (kinds : List KindRow) (code_of : E → ℕ) (numbers_of : E → List ℤ) → is_sound_table key kinds ≡ true → AreOne code_of numbers_of
    → (e other : E) (rest : List ℕ) → IsRow key kinds (code_of e) (numbers_of e) → IsRow key kinds (code_of other) (numbers_of other)
    → row_bytes key kinds (code_of e) (numbers_of e) ++ rest ≡ row_bytes key kinds (code_of other) (numbers_of other) → IsAlone e other rest
is_alone key kinds code_of numbers_of sound one e other rest are are_other is =
    let both = rows_alone key kinds (code_of e) (code_of other) (numbers_of e) (numbers_of other) rest sound are are_other is in
    record { same = one e other both.codes both.numbers; nothing = both.nothing }
