-- The bytes of a filing: what was read was spelled so, what was spelled is read again, and no spelling begins another.
use Rattle.std.proofs.Common.{◌≡◌, ◌≢◌, ℕ, ◌≤◌, List, ◌++◌, length, Some, Result, Ok, Err, refl, sym, ap, ◌∙◌, slice_get}
use Rattle.std.specs.Prelude.{IfOk}
use Rattle.aid_filings.specs.declared.filing.Filing.{Filing}
use Rattle.format_kinds.specs.Kinds.{code_of}
use Rattle.format_kinds.specs.declared.kind.Kind.TheVariants.{Book}
use Rattle.format_bytes.specs.Numbers.{IsFiling, kind_of, numbers_of}
use Rattle.format_bytes.proofs.Same.{same_filing}
use Rattle.format_bytes.specs.declared.reading.TakeError.{TakeError}
use Rattle.format_bytes.specs.declared.reading.TakeError.TheVariants.{NotFiling, NoMemory}
use Rattle.format_bytes.specs.Spelling.{IsAlone, spelling}
use Rattle.format_bytes.specs.Taking.{Gives, taken}
use Rattle.format_bytes.proofs.RowLaws.{Row, done, length-row_bytes, row_is, rows_alone, takes, takes_again}
use Rattle.format_table.proofs.Widths.{AreBytes}

pub is_found : (bytes : List ℕ) (r : Result Filing TakeError) → AreBytes bytes → Gives r (taken bytes) → IfOk r (λ filing. IsFiling filing × (bytes ≡ spelling filing))
is_found bytes (Ok filing) are given = takes (kind_of filing.what) (numbers_of filing) bytes are given
is_found bytes (Err e) are given = tt

-- what reading gives where a filing was spelled
again : (bytes : List ℕ) (filing : Filing) → IsFiling filing → bytes ≡ spelling filing → taken bytes ≡ done (kind_of filing.what, numbers_of filing)
again bytes filing are e = ap taken e ∙ takes_again (kind_of filing.what) (numbers_of filing) are

not_refused : (place : ℕ) (row : Row) → Err place ≡ done row → ⊥
not_refused place row e = cc

pub is_only : (bytes : List ℕ) (r : Result Filing TakeError) → Gives r (taken bytes) → (filing : Filing) → IsFiling filing → bytes ≡ spelling filing → r ≢ Err NoMemory → r ≡ Ok filing
is_only bytes (Ok found) given filing are e memory =
    let same = row_is (kind_of found.what, numbers_of found) (kind_of filing.what, numbers_of filing) (sym given ∙ again bytes filing are e) in
    ap (λ (f : Filing). Ok f) (same_filing found filing same.0 same.1)
is_only bytes (Err (NotFiling place)) given filing are e memory =
    absurd (not_refused place (kind_of filing.what, numbers_of filing) (sym given ∙ again bytes filing are e))
is_only bytes (Err NoMemory) given filing are e memory = absurd (memory refl)

-- where memory ran out the bytes begin with a book's code
pub is_for_book : (bytes : List ℕ) (r : Result Filing TakeError) → AreBytes bytes → Gives r (taken bytes) → r ≡ Err NoMemory → slice_get bytes 0 ≡ Some (code_of Book)
is_for_book bytes (Ok filing) are given e = absurd cc
is_for_book bytes (Err (NotFiling place)) are given e = absurd cc
is_for_book bytes (Err NoMemory) are given e = ap (λ (bs : List ℕ). slice_get bs 0) (takes Book given.0 bytes are given.1).1

pub is_alone : (filing other : Filing) (rest : List ℕ) → IsFiling filing → IsFiling other → spelling filing ++ rest ≡ spelling other → IsAlone filing other rest
is_alone filing other rest are are_other e =
    let both = rows_alone (kind_of filing.what) (kind_of other.what) (numbers_of filing) (numbers_of other) rest are are_other e in
    record { same = same_filing filing other both.kinds both.numbers; nothing = both.nothing }

pub length-spelling : (filing : Filing) → IsFiling filing → length (spelling filing) ≤ 8155
length-spelling filing are = length-row_bytes (kind_of filing.what) (numbers_of filing) are
