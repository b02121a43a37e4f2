-- The bytes of a kind's numbers: what was read was spelled so, what was spelled is read again, and no spelling begins
-- another.
use Rattle.std.proofs.Common.{◌≡◌, ℕ, suc, ◌≤◌, ◌==◌, Bool, true, false, cond, find, ℤ, List, [], ◌∷◌, ◌++◌, length, Option, Some, None, Result, Ok, Err, refl, sym, ap, subst, ◌∙◌, arith, lit≤}
use Rattle.std.proofs.lemmas.Bool.{eqb-true}
use Rattle.format_table.specs.Spelling.{numbers_bytes}
use Rattle.format_table.specs.Taking.{byte_source, placed}
use Rattle.format_table.proofs.RowLaws.{AreKept-table, numbers_again, numbers_alone, numbers_few, numbers_take}
use Rattle.format_table.proofs.Widths.{AreBytes}
use Rattle.format_kinds.specs.Drafts.{numbers_of_kind}
use Rattle.format_table.specs.Forms.{most_numbers, most_of}
use Rattle.format_table.specs.Parts.{Slot}
use Rattle.format_table.specs.Walk.{numbers_of_slots}
use Rattle.format_kinds.specs.Kinds.{code_of, key_slots, kind_at, kinds, slots_of_kind, table_row_of}
use Rattle.format_table.specs.Layout.{AreNumbers}
use Rattle.format_kinds.specs.declared.kind.Kind.{Kind}
use Rattle.format_kinds.specs.declared.kind.Kind.TheVariants.{Book, School, Calendar, Prior, Apply, Enroll, Originate, Pay, Withdraw, Repay, Adjust, Cost, Sent, Amend}
use Rattle.format_kinds.proofs.Laws.{IsTable-kind, few_numbers}
use Rattle.format_bytes.specs.Taking.{of_kind, taken, with_kind}

abbrev pub done : {A : Type 0} → A → Result A ℕ
done x = Ok x

-- ---- kinds
pub kind_again : (kind : Kind) → kind_at (code_of kind) ≡ Some kind
unfolding table_row_of
kind_again Book = refl
kind_again School = refl
kind_again Calendar = refl
kind_again Prior = refl
kind_again Apply = refl
kind_again Enroll = refl
kind_again Originate = refl
kind_again Pay = refl
kind_again Withdraw = refl
kind_again Repay = refl
kind_again Adjust = refl
kind_again Cost = refl
kind_again Sent = refl
kind_again Amend = refl

some_is : (a b : Kind) → Some a ≡ Some b → a ≡ b
some_is a b e = cc

find_step : (p : Kind → Bool) (k x : Kind) (rest : Option Kind) → (rest ≡ Some k → p k ≡ true) → (b : Bool) → p x ≡ b → cond b (Some x) rest ≡ Some k → p k ≡ true
find_step p k x rest later true h e = subst (λ y. p y ≡ true) (some_is x k e) h
find_step p k x rest later false h e = later e

find_passes : (p : Kind → Bool) (ks : List Kind) (k : Kind) → find p ks ≡ Some k → p k ≡ true
find_passes p [] k e = absurd cc
find_passes p (x ∷ xs) k e = find_step p k x (find p xs) (find_passes p xs k) (p x) refl e

kind_takes : (code : ℕ) (kind : Kind) → kind_at code ≡ Some kind → code ≡ code_of kind
kind_takes code kind e = sym (eqb-true (code_of kind) code (find_passes (λ k. code_of k == code) kinds kind e))

-- ---- rows: a kind with its numbers
abbrev pub Row : Type 0
Row = Kind × List ℤ

abbrev pub row_bytes : Kind → List ℤ → List ℕ
row_bytes kind zs = code_of kind ∷ numbers_bytes (slots_of_kind kind) zs

pub row_is : (a b : Row) → done a ≡ done b → (a.0 ≡ b.0) × (a.1 ≡ b.1)
row_is a b e = let same : a ≡ b = cc in (ap (λ (r : Row). r.0) same, ap (λ (r : Row). r.1) same)

with_kind_ok : (kind : Kind) (read : Result (List ℤ) ℕ) (row : Row) → with_kind kind read ≡ done row → (kind ≡ row.0) × (read ≡ Ok row.1)
with_kind_ok kind (Ok zs) row e = let same = row_is (kind, zs) row e in (same.0, ap (λ (ys : List ℤ). Ok ys) same.1)
with_kind_ok kind (Err place) row e = absurd cc

of_kind_ok : (kind : Option Kind) (bytes : List ℕ) (row : Row) → of_kind kind bytes ≡ done row → (kind ≡ Some row.0) × (numbers_of_kind byte_source row.0 (placed 1 bytes) ≡ Ok row.1)
of_kind_ok None bytes row e = absurd cc
of_kind_ok (Some kind) bytes row e =
    let h = with_kind_ok kind (numbers_of_kind byte_source kind (placed 1 bytes)) row e in
    (ap (λ (k : Kind). Some k) h.0, subst (λ (k : Kind). numbers_of_kind byte_source k (placed 1 bytes) ≡ Ok row.1) h.0 h.1)

AreBytes-rest : (b : ℕ) (bytes : List ℕ) → AreBytes (b ∷ bytes) → AreBytes bytes
AreBytes-rest b bytes are i = are (suc i)

-- what was read was spelled so
pub takes : (kind : Kind) (zs : List ℤ) (bytes : List ℕ) → AreBytes bytes → taken bytes ≡ done (kind, zs) → AreNumbers (slots_of_kind kind) [] zs × (bytes ≡ row_bytes kind zs)
takes kind zs [] are e = absurd cc
takes kind zs (code ∷ bytes) are e =
    let h = of_kind_ok (kind_at code) bytes (kind, zs) e in
    let code_is : code ≡ code_of kind = kind_takes code kind h.0 in
    let all = numbers_take most_numbers (slots_of_kind kind) [] (placed 1 bytes) zs (AreBytes-rest code bytes are) h.1 in
    (all.are, λ i. code_is i ∷ all.spelled i)

-- what was spelled is read again
pub takes_again : (kind : Kind) (zs : List ℤ) → AreNumbers (slots_of_kind kind) [] zs → taken (row_bytes kind zs) ≡ done (kind, zs)
takes_again kind zs are =
    ap (λ (k : Option Kind). of_kind k (numbers_bytes (slots_of_kind kind) zs)) (kind_again kind)
    ∙ ap (with_kind kind) (numbers_again most_numbers (slots_of_kind kind) [] 1 zs (AreKept-table (slots_of_kind kind) (IsTable-kind kind)) are (few_numbers kind zs are))

-- ---- no spelling begins another
head_is : (a b : ℕ) (xs ys : List ℕ) → a ∷ xs ≡ b ∷ ys → a ≡ b
head_is a b xs ys e = cc

tail_is : (a b : ℕ) (xs ys : List ℕ) → a ∷ xs ≡ b ∷ ys → xs ≡ ys
tail_is a b xs ys e = cc

-- two rows of which one begins the other are the same
pub record AreSame (kind other : Kind) (xs ys : List ℤ) (rest : List ℕ) : Type 0 where
  pub kinds : kind ≡ other
  pub numbers : xs ≡ ys
  pub nothing : rest ≡ []

pub rows_alone : (k l : Kind) (xs ys : List ℤ) (rest : List ℕ) → AreNumbers (slots_of_kind k) [] xs → AreNumbers (slots_of_kind l) [] ys → row_bytes k xs ++ rest ≡ row_bytes l ys → AreSame k l xs ys rest
rows_alone k l xs ys rest p q e =
    let code : code_of k ≡ code_of l = head_is (code_of k) (code_of l) (numbers_bytes (slots_of_kind k) xs ++ rest) (numbers_bytes (slots_of_kind l) ys) e in
    let tail : numbers_bytes (slots_of_kind k) xs ++ rest ≡ numbers_bytes (slots_of_kind l) ys = tail_is (code_of k) (code_of l) (numbers_bytes (slots_of_kind k) xs ++ rest) (numbers_bytes (slots_of_kind l) ys) e in
    let kind : k ≡ l = some_is k l (sym (kind_again k) ∙ ap kind_at code ∙ kind_again l) in
    let within : AreNumbers (slots_of_kind k) [] ys = subst (λ (m : Kind). AreNumbers (slots_of_kind m) [] ys) (sym kind) q in
    let tail_kind : numbers_bytes (slots_of_kind k) xs ++ rest ≡ numbers_bytes (slots_of_kind k) ys = tail ∙ ap (λ (m : Kind). numbers_bytes (slots_of_kind m) ys) (sym kind) in
    let both = numbers_alone (slots_of_kind k) [] xs ys rest (AreKept-table (slots_of_kind k) (IsTable-kind k)) p within tail_kind in
    record { kinds = kind; numbers = both.same; nothing = both.nothing }

-- ---- how long they are
pub length-row_bytes : (kind : Kind) (zs : List ℤ) → AreNumbers (slots_of_kind kind) [] zs → length (row_bytes kind zs) ≤ 8155
length-row_bytes kind zs are = omega (arith, numbers_few (slots_of_kind kind) zs, few_numbers kind zs are)

-- all but a book have some numbers
pub most_of-some : (kind : Kind) → (kind ≡ Book → ⊥) → most_of (slots_of_kind kind) ≤ 64
unfolding table_row_of
most_of-some Book other = absurd (other refl)
most_of-some School other = lit≤ tt
most_of-some Calendar other = lit≤ tt
most_of-some Prior other = lit≤ tt
most_of-some Apply other = lit≤ tt
most_of-some Enroll other = lit≤ tt
most_of-some Originate other = lit≤ tt
most_of-some Pay other = lit≤ tt
most_of-some Withdraw other = lit≤ tt
most_of-some Repay other = lit≤ tt
most_of-some Adjust other = lit≤ tt
most_of-some Cost other = lit≤ tt
most_of-some Sent other = lit≤ tt
most_of-some Amend other = lit≤ tt

-- and all but a term and an application few
pub most_of-few : (kind : Kind) → (kind ≡ Book → ⊥) → (kind ≡ Calendar → ⊥) → (kind ≡ Apply → ⊥) → most_of (slots_of_kind kind) ≤ 16
unfolding table_row_of
most_of-few Book other term application = absurd (other refl)
most_of-few Calendar other term application = absurd (term refl)
most_of-few Apply other term application = absurd (application refl)
most_of-few School other term application = lit≤ tt
most_of-few Prior other term application = lit≤ tt
most_of-few Enroll other term application = lit≤ tt
most_of-few Originate other term application = lit≤ tt
most_of-few Pay other term application = lit≤ tt
most_of-few Withdraw other term application = lit≤ tt
most_of-few Repay other term application = lit≤ tt
most_of-few Adjust other term application = lit≤ tt
most_of-few Cost other term application = lit≤ tt
most_of-few Sent other term application = lit≤ tt
most_of-few Amend other term application = lit≤ tt

-- ---- where the parts are told
-- what was read of them is what the kind's numbers are read to be
pub read_told : (kind : Kind) (key parts : List Slot) (read : Result (List ℤ) ℕ) (bytes : List ℕ) → key ≡ key_slots → parts ≡ (table_row_of kind).slots
    → read ≡ numbers_of_slots byte_source (key ++ parts) (placed 1 bytes) → read ≡ numbers_of_kind byte_source kind (placed 1 bytes)
read_told kind key parts read bytes k p e = e ∙ rw (k, p) refl

pub are_read : (kind : Kind) (key parts : List Slot) (zs : List ℤ) (bytes : List ℕ) → AreBytes bytes → key ≡ key_slots → parts ≡ (table_row_of kind).slots
    → Ok zs ≡ numbers_of_slots byte_source (key ++ parts) (placed 1 bytes) → AreNumbers (slots_of_kind kind) [] zs
are_read kind key parts zs bytes are k p e = (numbers_take most_numbers (slots_of_kind kind) [] (placed 1 bytes) zs are (sym (read_told kind key parts (Ok zs) bytes k p e))).are

pub kind_read : (kind : Kind) (key parts : List Slot) (read : Result (List ℤ) ℕ) (bytes : List ℕ) → key ≡ key_slots → parts ≡ (table_row_of kind).slots
    → read ≡ numbers_of_slots byte_source (key ++ parts) (placed 1 bytes) → with_kind kind read ≡ of_kind (Some kind) bytes
kind_read kind key parts read bytes k p e = ap (with_kind kind) (read_told kind key parts read bytes k p e)
