-- How many looks a search takes that halves what is left at each.
use Rattle.std.proofs.Common.{◌≡◌, ℕ, zero, suc, ◌+◌, ◌*◌, ◌^◌, ◌<◌, ◌≤◌, arith, sym, subst, ◌∙◌, pow-add, List, Some, get_or, add-one, inl, inr}
use Rattle.std.specs.List.{slice_get}
use Rattle.std.specs.declared.cmp.Ordering.{Ordering}
use Rattle.std.proofs.Math.Nat.{pow-succ', mul-le-mul_left, mul_assoc, mul_left_comm}
use Rattle.std.proofs.Math.Pow.{pow_mono}
use Rattle.std.proofs.lemmas.Bool.{cases_lt}
use Rattle.std.proofs.lemmas.Option.{get_or_from_slice_get}

-- after so many looks among `all` rows at most `left` of them may still hold the key
pub record AreLooks (all lookups left : ℕ) : Type 0 where
  pub halved : 2 ^ lookups * left ≤ all
  pub few : 2 ^ lookups ≤ 2 * all + 1

pow_more : (k : ℕ) → 2 ^ (k + 1) ≡ 2 * 2 ^ k
pow_more k = rw add-one (pow-succ' 2 k)

product : (p left rest n : ℕ) → p * left ≤ n → 2 * rest ≤ left → (2 * p) * rest ≤ n
product p left rest n h half = omega (arith, mul_assoc 2 p rest, mul_left_comm 2 p rest, mul-le-mul_left {m = 2 * rest} {n = left} p half)

at_least : (p left n : ℕ) → p * left ≤ n → 0 < left → p ≤ n
at_least p left n h some = let one : 1 ≤ left = omega arith in omega (arith, mul-le-mul_left {m = 1} {n = left} p one)

-- one look more leaves at most half of the rows
pub one_look : (all lookups left rest : ℕ) → AreLooks all lookups left → 0 < left → 2 * rest ≤ left → AreLooks all (lookups + 1) rest
one_look all lookups left rest are some half = record {
  halved = subst (λ (p : ℕ). p * rest ≤ all) (sym (pow_more lookups)) (product (2 ^ lookups) left rest all are.halved half);
  few = omega (arith, pow_more lookups, at_least (2 ^ lookups) left all are.halved some);
}

-- if the looks so far miss no more rows than this, one more that leaves so many doesn't either
pub one_missed : (all lookups left rest : ℕ) → all + 2 ≤ 2 ^ lookups * (left + 2) → left ≤ 2 * rest + 2 → all + 2 ≤ 2 ^ (lookups + 1) * (rest + 2)
one_missed all lookups left rest so_far half =
    let more : 2 ^ lookups * (left + 2) ≤ 2 ^ lookups * (2 * (rest + 2)) = mul-le-mul_left {m = left + 2} {n = 2 * (rest + 2)} (2 ^ lookups) (omega arith) in
    let twice : (2 * 2 ^ lookups) * (rest + 2) ≡ 2 ^ lookups * (2 * (rest + 2)) = mul_assoc 2 (2 ^ lookups) (rest + 2) ∙ sym (mul_left_comm (2 ^ lookups) 2 (rest + 2)) in
    subst (λ (p : ℕ). all + 2 ≤ p * (rest + 2)) (sym (pow_more lookups)) (omega (arith, so_far, more, twice))

-- where none is left, all were missed
pub all_missed : (all lookups left : ℕ) → all + 2 ≤ 2 ^ lookups * (left + 2) → left ≡ 0 → all + 2 ≤ 2 ^ (lookups + 1)
all_missed all lookups left so_far none = omega (arith, pow_more lookups, subst (λ (n : ℕ). all + 2 ≤ 2 ^ lookups * (n + 2)) none so_far)

positive : (lookups : ℕ) → 1 ≤ 2 ^ lookups
positive lookups = pow_mono {i = 0} {j = lookups} (omega arith)

-- two numbers from 1 on are together at most their product and 1
sum_in_product : (a b : ℕ) → 1 ≤ a → 1 ≤ b → a + b ≤ a * b + 1
sum_in_product zero b some_a some_b = omega arith
sum_in_product (suc a) b some_a some_b = omega (arith, mul-le-mul_left {m = 1} {n = b} a some_b)

-- two searches that miss miss all rows
pub both_missed : (in_tail in_main tail main : ℕ) → tail + 2 ≤ 2 ^ (in_tail + 1) → main + 2 ≤ 2 ^ (in_main + 1) → tail + main + 2 ≤ 2 ^ (in_tail + in_main + 1)
both_missed in_tail in_main tail main tail_missed main_missed =
    let product : 2 ^ (in_tail + in_main) ≡ 2 ^ in_tail * 2 ^ in_main = pow-add 2 in_tail in_main in
    omega (arith, pow_more (in_tail + in_main), pow_more in_tail, pow_more in_main, product, sum_in_product (2 ^ in_tail) (2 ^ in_main) (positive in_tail) (positive in_main))

-- the looks are at most the binary digits of the number of rows
pub looks_in_digits : (lookups all digits : ℕ) → 2 ^ lookups ≤ 2 * all + 1 → all < 2 ^ digits → lookups ≤ digits
looks_in_digits lookups all digits few short =
    elim (cases_lt lookups (digits + 1)) [
      | inl below ↦ omega arith
      | inr above ↦
          let more : 2 ^ (digits + 1) ≤ 2 ^ lookups = pow_mono {i = digits + 1} {j = lookups} above in
          absurd (omega (arith, pow_more digits))
    ]

-- an odd bound on an even number is one too many
halves : (power half n : ℕ) → power ≡ 2 * half → power ≤ 2 * n + 1 → half ≤ n
halves power half n even bound = omega arith

-- two searches that share the rows do not both take as many looks as the number of all rows has digits
pub not_both : (digits tail main : ℕ) → 0 < tail + main → tail + main < 2 ^ digits → 2 ^ digits ≤ 2 * tail + 1 → 2 ^ digits ≤ 2 * main + 1 → ⊥
not_both zero tail main some short in_tail in_main = omega arith
not_both (suc digits) tail main some short in_tail in_main =
    let twice : 2 ^ suc digits ≡ 2 * 2 ^ digits = pow-succ' 2 digits in
    omega (arith, halves (2 ^ suc digits) (2 ^ digits) tail twice in_tail, halves (2 ^ suc digits) (2 ^ digits) main twice in_main)

pub two_searches : (in_tail in_main tail main digits : ℕ) → 2 ^ in_tail ≤ 2 * tail + 1 → 2 ^ in_main ≤ 2 * main + 1 → 0 < tail + main → tail + main < 2 ^ digits → in_tail + in_main + 1 ≤ 2 * digits
two_searches in_tail in_main tail main digits tail_looks main_looks some short =
    let tail_in : in_tail ≤ digits = looks_in_digits in_tail tail digits tail_looks (omega arith) in
    let main_in : in_main ≤ digits = looks_in_digits in_main main digits main_looks (omega arith) in
    elim (cases_lt (in_tail + in_main) (2 * digits)) [
      | inl below ↦ omega arith
      | inr above ↦
          let tail_is : in_tail ≡ digits = omega arith in
          let main_is : in_main ≡ digits = omega arith in
          absurd
          (not_both digits tail main some short (subst (λ (n : ℕ). 2 ^ n ≤ 2 * tail + 1) tail_is tail_looks) (subst (λ (n : ℕ). 2 ^ n ≤ 2 * main + 1) main_is main_looks))
    ]

-- the number of some rows has a digit
pub some_digit : (rows digits : ℕ) → 0 < rows → rows < 2 ^ digits → 0 < digits
some_digit rows zero some short = omega arith
some_digit rows (suc digits) some short = omega arith

-- how the key compares with the row that was read at place i
pub compared : {K V : Type 0} (cmp : K → K → Ordering) (key : K) (rows : List (K × V)) (i : ℕ) (x : K × V) (o : Ordering) →
    cmp key (get_or rows i x).0 ≡ o → (e : K × V) → slice_get rows i ≡ Some e → cmp key e.0 ≡ o
compared {K} {V} cmp key rows i x o is e at = subst (λ (y : K × V). cmp key y.0 ≡ o) (get_or_from_slice_get rows i e x at) is
