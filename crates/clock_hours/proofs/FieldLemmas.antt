-- What is known of fields that are judged to be well.
use Rattle.std.proofs.Common.{◌≡◌, ℕ, ◌≤◌, Bool, true, false, List, [], ◌∷◌, length, refl, arith}
use Rattle.std.specs.Prelude.{None, ℤ, pos, negsuc, Result, Ok, Err}
use Rattle.std.specs.List.{AllByRecursion, position, position_or_len}
use Rattle.std.proofs.lemmas.Bool.Decides.{nat_tests}
use Rattle.std.proofs.lemmas.Bool.{and_from}
use Rattle.aid_types.specs.declared.text.Malformed.{Malformed}
use Rattle.aid_types.specs.Ranges.{EachIsCents, is_cents}
use Rattle.clock_hours.specs.Fields.{IsInRange, between, cents_at, size, up_to}
use Rattle.clock_hours.specs.Rows.{amount_at, cents_in}

-- where none is found, none passes
all_fail : {X : Type 0} (p : X → Bool) (xs : List X) → length xs ≤ position_or_len p xs → AllByRecursion (λ x. p x ≡ false) xs
all_fail p [] h = tt
all_fail p (x ∷ xs) h =
    let here : p x ≡ false = grind arith in
    (here, all_fail p xs (grind arith))

pub none_found : {X : Type 0} (p : X → Bool) (xs : List X) → position p xs ≡ None → AllByRecursion (λ x. p x ≡ false) xs
none_found p xs e = all_fail p xs (grind (arith, nat_tests))

-- a number in its range
pub size_within : (least most : ℕ) (number : Result ℤ Malformed) → IsInRange (between least most number) → (least ≤ size number) × (size number ≤ most)
size_within least most (Ok (pos n)) h = (grind (arith, nat_tests), grind (arith, nat_tests))
size_within least most (Ok (negsuc n)) h = absurd (grind arith)
size_within least most (Err e) h = absurd (grind arith)

-- the amounts of a withdrawal
pub each_amount : (texts : List (List ℕ)) (places : List ℕ) → AllByRecursion (λ place. IsInRange (amount_at texts place)) places → EachIsCents (cents_in texts places)
each_amount texts [] h = refl
each_amount texts (place ∷ places) h =
    let most = size_within 0 99999999 (cents_at texts place) h.0 in
    let here : is_cents (size (cents_at texts place)) ≡ true = grind (arith, nat_tests, most.1) in
    and_from _ _ here (each_amount texts places h.1)

-- a number in its range that another bounds, which is in its own
pub size_up_to : (least low high : ℕ) (most number : Result ℤ Malformed) → IsInRange (up_to least most number) → IsInRange (between low high most) → (least ≤ size number) × (size number ≤ size most)
size_up_to least low high (Ok (pos most)) (Ok (pos n)) h k = (grind (arith, nat_tests), grind (arith, nat_tests))
size_up_to least low high (Ok (pos most)) (Ok (negsuc n)) h k = absurd (grind arith)
size_up_to least low high (Ok (negsuc most)) number h k = absurd (grind arith)
size_up_to least low high (Ok (pos most)) (Err e) h k = absurd (grind arith)
size_up_to least low high (Err e) number h k = absurd (grind arith)
