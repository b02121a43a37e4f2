-- Reading numbers one after the other: what is read is within its limits, and how a draft goes along.
use Rattle.std.proofs.Common.{◌≡◌, ℕ, zero, suc, ◌-◌, ◌<◌, ◌≤◌, ℤ, Bool, true, false, List, [], ◌∷◌, ◌++◌, length, reverse, Option, Some, None, Result, Ok, Err, FitsSigned, w64, refl, sym, ap, ◌∙◌, arith, append_assoc}
use Rattle.std.specs.Prelude.{IfOk, IsTrue, if◌then◌else◌, option_map, slice_get}
use Rattle.std.proofs.lemmas.Int.{ints}
use Rattle.std.proofs.lemmas.List.{append-nil, reverse-append}
use Rattle.format_table.specs.Draft.{Progress, accepts, may_follow, onward}
use Rattle.format_table.specs.Forms.{IsHeld, most_numbers}
use Rattle.format_table.specs.Layout.{AreNumbers, after}
use Rattle.format_table.specs.Limits.{IsNarrow, fits}
use Rattle.format_table.specs.Parts.{Line, Slot}
use Rattle.format_table.specs.Walk.{Found, Source, and_then, nothing_left, number_first, numbers_from, numbers_of_slots}
use Rattle.format_table.specs.declared.field.Form.{Form}
use Rattle.format_table.proofs.Laws.{IsHeld-IsNarrow}

-- what a number that is found leads to
abbrev pub led_to : {S E : Type 0} → Source S E → ℕ → List Slot → List ℤ → S → Found S → Bool → Result (List ℤ) E
led_to source most slots earlier s found within =
    if within then number_first found.number (numbers_from source most (after slots found.number) (found.number ∷ earlier) found.rest) else Err (source.past (length earlier) s)

-- ---- numbers that are read are within their limits
number_first-are : {E : Type 0} (slot : Slot) (slots : List Slot) (earlier : List ℤ) (z : ℤ) (more : Result (List ℤ) E) → IsTrue (fits slot.line.limit earlier z)
    → IfOk more (AreNumbers (after (slot ∷ slots) z) (z ∷ earlier)) → IfOk (number_first z more) (AreNumbers (slot ∷ slots) earlier)
number_first-are slot slots earlier z (Ok zs) h k = (h, k)
number_first-are slot slots earlier z (Err e) h k = tt

led_to-are : {S E : Type 0} (source : Source S E) (most : ℕ) (slot : Slot) (slots : List Slot) (earlier : List ℤ) (s : S) (found : Found S) (b : Bool) → fits slot.line.limit earlier found.number ≡ b
    → IfOk (numbers_from source most (after (slot ∷ slots) found.number) (found.number ∷ earlier) found.rest) (AreNumbers (after (slot ∷ slots) found.number) (found.number ∷ earlier))
    → IfOk (led_to source most (slot ∷ slots) earlier s found b) (AreNumbers (slot ∷ slots) earlier)
led_to-are source most slot slots earlier s found true h k =
    number_first-are slot slots earlier found.number (numbers_from source most (after (slot ∷ slots) found.number) (found.number ∷ earlier) found.rest) h k
led_to-are source most slot slots earlier s found false h k = tt

and_then-are : {A B E : Type 0} (first : Result A E) (more : A → Result B E) (P : B → Type 0) → ((x : A) → IfOk (more x) P) → IfOk (and_then first more) P
and_then-are (Ok x) more P h = h x
and_then-are (Err e) more P h = tt

nothing_left-are : {E : Type 0} (earlier : List ℤ) (left : Option E) → IfOk (nothing_left left) (AreNumbers [] earlier)
nothing_left-are earlier None = tt
nothing_left-are earlier (Some e) = tt

pub numbers_from-are : {S E : Type 0} (source : Source S E) (most : ℕ) (slots : List Slot) (earlier : List ℤ) (s : S) → IfOk (numbers_from source most slots earlier s) (AreNumbers slots earlier)
unfolding numbers_from
numbers_from-are source most [] earlier s = nothing_left-are earlier (source.left s)
numbers_from-are source zero (slot ∷ slots) earlier s = tt
numbers_from-are source (suc most) (slot ∷ slots) earlier s =
    and_then-are (source.find (length earlier) slot.line s) (λ found. led_to source most (slot ∷ slots) earlier s found (fits slot.line.limit earlier found.number)) (AreNumbers (slot ∷ slots) earlier)
    (λ found. led_to-are source most slot slots earlier s found (fits slot.line.limit earlier found.number) refl
    (numbers_from-are source most (after (slot ∷ slots) found.number) (found.number ∷ earlier) found.rest))

pub numbers_of_slots-are : {S E : Type 0} (source : Source S E) (slots : List Slot) (s : S) → IfOk (numbers_of_slots source slots s) (AreNumbers slots [])
numbers_of_slots-are source slots s = numbers_from-are source most_numbers slots [] s

-- ---- the first of several
-- a number that was read first, and those behind it
pub record Firsts (S E : Type 0) (source : Source S E) (most : ℕ) (slot : Slot) (slots : List Slot) (earlier : List ℤ) (s : S) (zs : List ℤ) : Type 0 where
  pub found : Found S
  pub others : List ℤ
  pub found_is : source.find (length earlier) slot.line s ≡ Ok found
  pub within : fits slot.line.limit earlier found.number ≡ true
  pub others_are : numbers_from source most (after (slot ∷ slots) found.number) (found.number ∷ earlier) found.rest ≡ Ok others
  pub numbers_are : found.number ∷ others ≡ zs

firsts_of : {S E : Type 0} (source : Source S E) (most : ℕ) (slot : Slot) (slots : List Slot) (earlier : List ℤ) (s : S) (zs : List ℤ) (found : Found S) (others : Result (List ℤ) E)
    → source.find (length earlier) slot.line s ≡ Ok found → fits slot.line.limit earlier found.number ≡ true
    → numbers_from source most (after (slot ∷ slots) found.number) (found.number ∷ earlier) found.rest ≡ others → number_first found.number others ≡ Ok zs
    → Firsts S E source most slot slots earlier s zs
firsts_of source most slot slots earlier s zs found (Ok others) f w r e = record { found = found; others = others; found_is = f; within = w; others_are = r; numbers_are = cc }
firsts_of source most slot slots earlier s zs found (Err why) f w r e = absurd cc

firsts_by : {S E : Type 0} (source : Source S E) (most : ℕ) (slot : Slot) (slots : List Slot) (earlier : List ℤ) (s : S) (zs : List ℤ) (found : Found S) (b : Bool)
    → source.find (length earlier) slot.line s ≡ Ok found → fits slot.line.limit earlier found.number ≡ b
    → led_to source most (slot ∷ slots) earlier s found b ≡ Ok zs
    → Firsts S E source most slot slots earlier s zs
firsts_by source most slot slots earlier s zs found true f w e = firsts_of source most slot slots earlier s zs found _ f w refl e
firsts_by source most slot slots earlier s zs found false f w e = absurd cc

firsts_in : {S E : Type 0} (source : Source S E) (most : ℕ) (slot : Slot) (slots : List Slot) (earlier : List ℤ) (s : S) (zs : List ℤ) (r : Result (Found S) E)
    → source.find (length earlier) slot.line s ≡ r
    → and_then r (λ f. led_to source most (slot ∷ slots) earlier s f (fits slot.line.limit earlier f.number)) ≡ Ok zs
    → Firsts S E source most slot slots earlier s zs
firsts_in source most slot slots earlier s zs (Ok found) f e = firsts_by source most slot slots earlier s zs found (fits slot.line.limit earlier found.number) f refl e
firsts_in source most slot slots earlier s zs (Err why) f e = absurd cc

pub firsts : {S E : Type 0} (source : Source S E) (most : ℕ) (slot : Slot) (slots : List Slot) (earlier : List ℤ) (s : S) (zs : List ℤ) → numbers_from source (suc most) (slot ∷ slots) earlier s ≡ Ok zs
    → Firsts S E source most slot slots earlier s zs
unfolding numbers_from
firsts source most slot slots earlier s zs e = firsts_in source most slot slots earlier s zs (source.find (length earlier) slot.line s) refl e

pub found_leads : {S E : Type 0} (source : Source S E) (most : ℕ) (slot : Slot) (slots : List Slot) (earlier : List ℤ) (s : S) (found : Found S) → source.find (length earlier) slot.line s ≡ Ok found
    → numbers_from source (suc most) (slot ∷ slots) earlier s ≡ led_to source most (slot ∷ slots) earlier s found (fits slot.line.limit earlier found.number)
unfolding numbers_from
found_leads source most slot slots earlier s found e =
    ap (λ r. and_then r (λ f. led_to source most (slot ∷ slots) earlier s f (fits slot.line.limit earlier f.number))) e

-- ---- a draft on the way
abbrev pub with_front : {E : Type 0} → List ℤ → Result (List ℤ) E → Result (List ℤ) E
with_front earlier (Ok zs) = Ok (reverse earlier ++ zs)
with_front earlier (Err e) = Err e

-- all that is read where a draft stands: its numbers, and those to come
abbrev pub numbers_with : {S E : Type 0} → Source S E → Progress → S → Result (List ℤ) E
numbers_with source draft s = with_front draft.earlier (numbers_from source (most_numbers - length draft.earlier) draft.slots draft.earlier s)

with_front-nil : {E : Type 0} (r : Result (List ℤ) E) → with_front [] r ≡ r
with_front-nil (Ok zs) = refl
with_front-nil (Err e) = refl

pub numbers_with-none : {S E : Type 0} (source : Source S E) (slots : List Slot) (draft : Progress) (s : S) → draft.slots ≡ slots → draft.earlier ≡ [] → numbers_with source draft s ≡ numbers_of_slots source slots s
numbers_with-none source slots draft s are none = rw (are, none) (with_front-nil (numbers_of_slots source slots s))

abbrev pub IsNext : Line → List Slot → Type 0
IsNext line slots = Some line ≡ option_map (λ slot. slot.line) (slice_get slots 0)

line_is : (a b : Line) → Some a ≡ Some b → b ≡ a
line_is a b e = cc

fails_at : {S E : Type 0} (source : Source S E) (most : ℕ) (slots : List Slot) (earlier : List ℤ) (s : S) (line : Line) (e : E) → IsNext line slots → 1 ≤ most → source.find (length earlier) line s ≡ Err e
    → numbers_from source most slots earlier s ≡ Err e
unfolding numbers_from
fails_at source most [] earlier s line e next room h = absurd cc
fails_at source zero (slot ∷ slots) earlier s line e next room h = absurd (omega arith)
fails_at source (suc most) (slot ∷ slots) earlier s line e next room h =
    let none = ap (λ l. source.find (length earlier) l s) (line_is line slot.line next) ∙ h in
    ap (λ r. and_then r (λ f. led_to source most (slot ∷ slots) earlier s f (fits slot.line.limit earlier f.number))) none

goes_on : {S E : Type 0} (source : Source S E) (most : ℕ) (slots : List Slot) (earlier : List ℤ) (s : S) (line : Line) (found : Found S) → IsNext line slots → 1 ≤ most
    → source.find (length earlier) line s ≡ Ok found → numbers_from source most slots earlier s ≡ led_to source (most - 1) slots earlier s found (may_follow slots earlier found.number)
goes_on source most [] earlier s line found next room h = absurd cc
goes_on source zero (slot ∷ slots) earlier s line found next room h = absurd (omega arith)
goes_on source (suc most) (slot ∷ slots) earlier s line found next room h =
    let one = ap (λ l. source.find (length earlier) l s) (line_is line slot.line next) ∙ h in
    let less : most ≡ suc most - 1 = omega arith in
    found_leads source most slot slots earlier s found one ∙ ap (λ n. led_to source n (slot ∷ slots) earlier s found (fits slot.line.limit earlier found.number)) less

ends : {S E : Type 0} (source : Source S E) (most : ℕ) (slots : List Slot) (earlier : List ℤ) (s : S) → None ≡ option_map (λ slot. slot.line) (slice_get slots 0)
    → numbers_from source most slots earlier s ≡ nothing_left (source.left s)
unfolding numbers_from
ends source most [] earlier s none = refl
ends source most (slot ∷ slots) earlier s none = absurd cc

-- the next field has no number
pub none_found : {S E : Type 0} (source : Source S E) (draft : Progress) (s : S) (line : Line) (e : E) → IsNext line draft.slots → length draft.earlier < most_numbers
    → source.find (length draft.earlier) line s ≡ Err e → numbers_with source draft s ≡ Err e
none_found source draft s line e next room h =
    ap (with_front draft.earlier) (fails_at source (most_numbers - length draft.earlier) draft.slots draft.earlier s line e next (omega arith) h)

-- the next number is past its limit
pub past_limit : {S E : Type 0} (source : Source S E) (draft : Progress) (s : S) (line : Line) (found : Found S) → IsNext line draft.slots → length draft.earlier < most_numbers
    → source.find (length draft.earlier) line s ≡ Ok found → accepts draft found.number ≡ false → numbers_with source draft s ≡ Err (source.past (length draft.earlier) s)
past_limit source draft s line found next room h past =
    let most = most_numbers - length draft.earlier in
    let led = goes_on source most draft.slots draft.earlier s line found next (omega arith) h in
    ap (with_front draft.earlier) (led ∙ ap (led_to source (most - 1) draft.slots draft.earlier s found) past)

-- a number that does not fit in 64 bits is
pub past_word : (draft : Progress) (form : Form) (z : ℤ) → ((y : ℤ) → accepts draft y ≡ true → IsHeld form y) → (FitsSigned w64 z → ⊥) → accepts draft z ≡ false
past_word draft form z held wide = by_test (accepts draft z) refl where
  narrow_fits : IsNarrow z → FitsSigned w64 z
  narrow_fits h = omega (arith, ints)

  by_test : (b : Bool) → accepts draft z ≡ b → b ≡ false
  by_test true e = absurd (wide (narrow_fits (IsHeld-IsNarrow form z (held z e))))
  by_test false e = refl

regroup : {E : Type 0} (earlier : List ℤ) (z : ℤ) (r : Result (List ℤ) E) → with_front earlier (number_first z r) ≡ with_front (z ∷ earlier) r
regroup earlier z (Ok zs) = ap (λ (ys : List ℤ). Ok ys) (sym (append_assoc (reverse earlier) (z ∷ []) zs) ∙ ap (λ ys. ys ++ zs) (sym (reverse-append (z ∷ []) earlier)))
regroup earlier z (Err e) = refl

-- the next number is put behind the others
pub put_next : {S E : Type 0} (source : Source S E) (draft next : Progress) (s : S) (line : Line) (found : Found S) → IsNext line draft.slots → length draft.earlier < most_numbers
    → source.find (length draft.earlier) line s ≡ Ok found → accepts draft found.number ≡ true → next ≡ onward draft found.number → numbers_with source next found.rest ≡ numbers_with source draft s
put_next source draft next s line found is_next room h fit is =
    let most = most_numbers - length draft.earlier in
    let led = goes_on source most draft.slots draft.earlier s line found is_next (omega arith) h in
    let less : most_numbers - length (found.number ∷ draft.earlier) ≡ most_numbers - length draft.earlier - 1 = omega arith in
    rw (is, less) (sym (ap (with_front draft.earlier) (led ∙ ap (led_to source (most - 1) draft.slots draft.earlier s found) fit) ∙ regroup draft.earlier found.number _))

-- no field is to come
pub all_put : {S E : Type 0} (source : Source S E) (draft : Progress) (s : S) → None ≡ option_map (λ slot. slot.line) (slice_get draft.slots 0) → source.left s ≡ None
    → numbers_with source draft s ≡ Ok (reverse draft.earlier)
all_put source draft s none left =
    ap (with_front draft.earlier) (ends source (most_numbers - length draft.earlier) draft.slots draft.earlier s none ∙ ap nothing_left left) ∙ ap Ok (append-nil (reverse draft.earlier))

pub too_much_left : {S E : Type 0} (source : Source S E) (draft : Progress) (s : S) (e : E) → None ≡ option_map (λ slot. slot.line) (slice_get draft.slots 0) → source.left s ≡ Some e
    → numbers_with source draft s ≡ Err e
too_much_left source draft s e none left =
    ap (with_front draft.earlier) (ends source (most_numbers - length draft.earlier) draft.slots draft.earlier s none ∙ ap nothing_left left)
