-- Amounts that come next among numbers.
use Rattle.std.proofs.Common.{◌≡◌, ℕ, zero, suc, ◌+◌, ◌≤◌, ℤ, pos, Bool, true, false, ◌&&◌, List, [], ◌∷◌, ◌++◌, length, IsTrue, refl, ap, ◌∙◌, subst, arith}
use Rattle.std.specs.List.{list_all}
use Rattle.std.proofs.lemmas.Bool.{and_parts, and_from}
use Rattle.std.proofs.lemmas.List.{length-append}
use Rattle.std.specs.Ordering.{int_eq}
use Rattle.std.proofs.lemmas.Bool.Decides.{Decides-int_eq}
use Rattle.aid_types.specs.Ranges.{EachIsAmount, is_amount}
use Rattle.format_kinds.proofs.Plain.{behind_plain, is_plain}
use Rattle.format_kinds.specs.Sections.{AreAmounts, IsNext, are_amounts, poverty_slots, protection_slots}
use Rattle.format_table.specs.Layout.{AreNumbers}
use Rattle.format_table.specs.Limits.{fits}
use Rattle.format_table.specs.Parts.{Slot}
use Rattle.format_table.specs.declared.field.Limit.{Limit}
use Rattle.format_table.specs.declared.field.Limit.TheVariants.{Between, UpToLast, AboveRow, Continues, Begins}

pub length-amounts : (n : ℕ) (zs : List ℤ) → AreAmounts n zs → n ≤ length zs
length-amounts zero zs h = omega arith
length-amounts (suc n) [] h = cc
length-amounts (suc n) (z ∷ zs) h = let r = length-amounts n zs (and_parts (is_amount z) (are_amounts n zs) h).1 in omega arith

-- the next so many are amounts
pub first_amounts : (n : ℕ) (xs ys : List ℤ) → length xs ≡ n → AreAmounts n (xs ++ ys) → EachIsAmount xs
first_amounts n [] ys e h = refl
first_amounts zero (x ∷ xs) ys e h = absurd (omega arith)
first_amounts (suc n) (x ∷ xs) ys e h =
    let k = and_parts (is_amount x) (are_amounts n (xs ++ ys)) h in
    and_from (is_amount x) (list_all is_amount xs) k.0 (first_amounts n xs ys (omega arith) k.1)

-- and so are those behind them
pub other_amounts : (n m k : ℕ) (xs ys : List ℤ) → length xs ≡ n → k ≡ n + m → AreAmounts k (xs ++ ys) → AreAmounts m ys
other_amounts n m k [] ys e f h = let same : k ≡ m = omega arith in subst (λ j. AreAmounts j ys) same h
other_amounts n m zero (x ∷ xs) ys e f h = absurd (omega arith)
other_amounts zero m (suc k) (x ∷ xs) ys e f h = absurd (omega arith)
other_amounts (suc n) m (suc k) (x ∷ xs) ys e f h =
    other_amounts n m k xs ys (omega arith) (omega arith) (and_parts (is_amount x) (are_amounts k (xs ++ ys)) h).1

pub fewer_amounts : (n k : ℕ) (zs : List ℤ) → n ≤ k → AreAmounts k zs → AreAmounts n zs
fewer_amounts zero k zs e h = refl
fewer_amounts (suc n) zero zs e h = absurd (omega arith)
fewer_amounts (suc n) (suc k) [] e h = h
fewer_amounts (suc n) (suc k) (z ∷ zs) e h =
    let both = and_parts (is_amount z) (are_amounts k zs) h in
    and_from (is_amount z) (are_amounts n zs) both.0 (fewer_amounts n k zs (omega arith) both.1)

-- what is behind so many of them
pub amounts_behind : (n m k : ℕ) (zs xs ys : List ℤ) → zs ≡ xs ++ ys → length xs ≡ n → k ≡ n + m → AreAmounts k zs → AreAmounts m ys
amounts_behind n m k zs xs ys e f g h = other_amounts n m k xs ys f g (subst (λ l. AreAmounts k l) e h)

pub length-extra : (n : ℕ) (xs : List ℤ) (z : ℤ) → length xs ≡ n → length (xs ++ (z ∷ [])) ≡ n + 1
length-extra n xs z e = length-append xs (z ∷ []) ∙ ap (λ k. k + 1) e

-- a field that is an amount, and counts nothing
abbrev pub is_amount_limit : Limit → Bool
is_amount_limit (Between low high) = int_eq low (pos 0) && int_eq high (pos 99999999)
is_amount_limit (UpToLast low) = false
is_amount_limit (AboveRow high) = false
is_amount_limit (Continues high) = false
is_amount_limit (Begins high) = false

abbrev pub is_amount_slot : Slot → Bool
is_amount_slot slot = is_amount_limit slot.line.limit && is_plain slot

pub amount_limit : (limit : Limit) → is_amount_limit limit ≡ true → limit ≡ Between (pos 0) (pos 99999999)
amount_limit (Between low high) h =
    let both = and_parts (int_eq low (pos 0)) (int_eq high (pos 99999999)) h in
    let l = (Decides-int_eq low (pos 0)).0 both.0 in
    let u = (Decides-int_eq high (pos 99999999)).0 both.1 in
    cc
amount_limit (UpToLast low) h = cc
amount_limit (AboveRow high) h = cc
amount_limit (Continues high) h = cc
amount_limit (Begins high) h = cc

record NextAmount (slots : List Slot) (earlier zs : List ℤ) (z : ℤ) : Type 0 where
  pub first : is_amount z ≡ true
  pub later : AreNumbers slots (z ∷ earlier) zs

next_amount : (slot : Slot) (slots : List Slot) (earlier zs : List ℤ) (z : ℤ) → is_amount_slot slot ≡ true → AreNumbers (slot ∷ slots) earlier (z ∷ zs) → NextAmount slots earlier zs z
next_amount slot slots earlier zs z h k =
    let both = and_parts (is_amount_limit slot.line.limit) (is_plain slot) h in
    record {
      first = subst (λ (l : Limit). IsTrue (fits l earlier z)) (amount_limit slot.line.limit both.0) k.0;
      later = behind_plain slot slots earlier zs z both.1 k;
    }

pub amounts_next : (slots later : List Slot) (earlier zs : List ℤ) → list_all is_amount_slot slots ≡ true → AreNumbers (slots ++ later) earlier zs → AreAmounts (length slots) zs
amounts_next [] later earlier zs h k = refl
amounts_next (slot ∷ slots) later earlier [] h k = absurd k
amounts_next (slot ∷ slots) later earlier (z ∷ zs) h k =
    let both = and_parts (is_amount_slot slot) (list_all is_amount_slot slots) h in
    let next = next_amount slot (slots ++ later) earlier zs z both.0 k in
    and_from (is_amount z) (are_amounts (length slots) zs) next.first (amounts_next slots later (z ∷ earlier) zs both.1 next.later)

-- the amounts of two parts
pub poverty_amounts : (zs : List ℤ) → IsNext poverty_slots zs → AreAmounts 27 zs
poverty_amounts zs next = amounts_next poverty_slots next.later next.earlier zs refl next.numbers

pub protection_amounts : (zs : List ℤ) → IsNext protection_slots zs → AreAmounts 21 zs
protection_amounts zs next = amounts_next protection_slots next.later next.earlier zs refl next.numbers
