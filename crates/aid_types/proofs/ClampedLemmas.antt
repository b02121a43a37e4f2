-- What is kept of a number past 64 bits is read as the number is: it is out of every range.
use Rattle.std.proofs.Common.{◌≡◌, ℕ, suc, ◌-◌, ◌<◌, ◌^◌, min, Bool, true, false, ◌&&◌, ℤ, pos, negsuc, neg_ℤ, ◌≤ℤ◌, int_le, Option, Some, None, option_map, Ok, Err, FitsSigned, w64, if◌then◌else◌, refl, sym, ap, ◌∙◌, arith, inl, inr}
use Rattle.std.proofs.lemmas.Bool.{and_parts, and_from, cases_lt, lt-leb, true≢false}
use Rattle.std.proofs.lemmas.Int.{ints}
use Rattle.aid_types.specs.declared.text.Malformed.TheVariants.{Range}
use Rattle.aid_types.specs.Whole.{whole_between, clamped}
use Rattle.aid_types.specs.Cents.{cents_up_to}
use Rattle.aid_types.proofs.DigitsLemmas.{most}
use Rattle.aid_types.proofs.SignedLemmas.{int_le-true}

clamped-small : (z : ℤ) (low high : ℤ) → FitsSigned w64 low → FitsSigned w64 high → low ≤ℤ z → z ≤ℤ high → clamped z ≡ z
clamped-small (pos n) low high f g h k = let is : min n (2 ^ 64 - 1) ≡ n = omega (arith, ints) in ap pos is
clamped-small (negsuc n) low high f g h k = let is : min (suc n) (2 ^ 64 - 1) ≡ suc n = omega (arith, ints) in ap (λ (m : ℕ). neg_ℤ (pos m)) is

-- the number and what is kept of it are both in the range, or neither is
same_range : (z low high : ℤ) → FitsSigned w64 low → FitsSigned w64 high → low ≤ℤ clamped z → clamped z ≤ℤ high → (low ≤ℤ z) × (z ≤ℤ high)
same_range (pos n) low high f g h k = (omega (arith, ints), omega (arith, ints))
same_range (negsuc n) low high f g h k = (omega (arith, ints), omega (arith, ints))

pub whole_between-clamped : (low high : ℤ) (o : Option ℤ) → FitsSigned w64 low → FitsSigned w64 high → whole_between low high (option_map clamped o) ≡ whole_between low high o
whole_between-clamped low high None f g = refl
whole_between-clamped low high (Some z) f g = by_tests (int_le low (clamped z) && int_le (clamped z) high) (int_le low z && int_le z high) refl refl where
  by_tests : (a b : Bool) → (int_le low (clamped z) && int_le (clamped z) high) ≡ a → (int_le low z && int_le z high) ≡ b → (if a then Ok (clamped z) else Err Range) ≡ (if b then Ok z else Err Range)
  by_tests true true p q =
      let k = and_parts (int_le low z) (int_le z high) q in
      ap Ok (clamped-small z low high f g (omega (arith, ints, k.0)) (omega (arith, ints, k.1)))
  by_tests false false p q = refl
  by_tests true false p q =
      let k = and_parts (int_le low (clamped z)) (int_le (clamped z) high) p in
      let x = same_range z low high f g (omega (arith, ints, k.0)) (omega (arith, ints, k.1)) in
      absurd (true≢false (sym (and_from (int_le low z) (int_le z high) (int_le-true low z x.0) (int_le-true z high x.1)) ∙ q))
  by_tests false true p q =
      let k = and_parts (int_le low z) (int_le z high) q in
      let above : low ≤ℤ z = omega (arith, ints, k.0) in
      let below : z ≤ℤ high = omega (arith, ints, k.1) in
      let is = clamped-small z low high f g above below in
      absurd (true≢false (sym (and_from (int_le low (clamped z)) (int_le (clamped z) high) (int_le-true low (clamped z) (rw is above)) (int_le-true (clamped z) high (rw is below))) ∙ p))

pub cents_up_to-min : (o : Option ℕ) → cents_up_to 99999999 (option_map (λ n. min n most) o) ≡ cents_up_to 99999999 o
cents_up_to-min None = refl
cents_up_to-min (Some n) = elim (cases_lt 99999999 n) [
  | inl large ↦
      let kept : 99999999 < min n most = omega arith in
      rw (lt-leb n 99999999 large, lt-leb (min n most) 99999999 kept) refl
  | inr small ↦ let kept : min n most ≡ n = omega arith in rw kept refl
]
