-- A number that isn't negative, by the one spelling of a whole number.
use Rattle.std.proofs.Common.{◌≡◌, ◌≢◌, ◌↔◌, ℕ, ◌<◌, ◌≤◌, ◌^◌, List, Result, Ok, Err, ℤ, pos, negsuc, ◌≤ℤ◌, w64, to_z, of_z, decimal, refl, sym, subst, ◌∙◌, arith}
use Rattle.std.proofs.lemmas.Int.{ints, to_z_pos}
use Rattle.std.proofs.Math.IntN.{nat_abs}
use Rattle.aid_types.specs.Whole.{whole_text}
use Rattle.aid_types.specs.declared.text.Malformed.{Malformed}
use Rattle.aid_types.proofs.WholeLemmas.{decimal-natural_text}
use Rattle.aid_types.specs.Ranges.{IsBetween}

-- what was read is the whole number from `low` to `high` that a text spells
abbrev pub ReadsWhole : List ℕ → ℤ → ℤ → Result ℤ Malformed → Type 0
ReadsWhole text low high r = (z : ℤ) → (r ≡ Ok z) ↔ ((text ≡ whole_text z) × (low ≤ℤ z) × (z ≤ℤ high))

natural : (text word : List ℕ) (low high : ℕ) (r : Result ℤ Malformed) → text ≡ word → low < 2 ^ 63 → high < 2 ^ 63
    → ReadsWhole text (to_z w64 low) (to_z w64 high) r → (n : ℕ) → (r ≡ Ok (pos n)) ↔ ((word ≡ decimal n) × IsBetween low high n)
natural text word low high r e l h reads n =
    let k : (r ≡ Ok (pos n)) ↔ ((text ≡ whole_text (pos n)) × (pos low ≤ℤ pos n) × (pos n ≤ℤ pos high)) = subst (λ (x : ℤ). (r ≡ Ok (pos n)) ↔ ((text ≡ whole_text (pos n)) × (x ≤ℤ pos n) × (pos n ≤ℤ pos high))) (to_z_pos w64 low l) (subst (λ (x : ℤ). (r ≡ Ok (pos n)) ↔ ((text ≡ whole_text (pos n)) × (to_z w64 low ≤ℤ pos n) × (pos n ≤ℤ x))) (to_z_pos w64 high h) (reads (pos n))) in (
      λ is. let (told, above, below) = k.0 is in let fits : n ≤ high = omega (arith, ints, below) in (sym e ∙ told ∙ sym (decimal-natural_text n (omega arith)), (omega (arith, ints, above), fits)),
      λ (told, (above, below)). k.1 (e ∙ told ∙ decimal-natural_text n (omega arith), omega (arith, ints, above), omega (arith, ints, below)),
    )

-- what was read as a whole number isn't negative, so a cast leaves it
pub natural_ok : (text word : List ℕ) (low high : ℕ) (y : ℤ) → text ≡ word → low < 2 ^ 63 → high < 2 ^ 63
    → ReadsWhole text (to_z w64 low) (to_z w64 high) (Ok y) → let n = nat_abs (to_z w64 (of_z w64 y)) in (word ≡ decimal n) × IsBetween low high n
natural_ok text word low high y e l h reads = of_sign y reads where
  least : (y : ℤ) → ReadsWhole text (to_z w64 low) (to_z w64 high) (Ok y) → (pos low ≤ℤ y) × (y ≤ℤ pos high)
  least y reads = let (told, above, below) = (reads y).0 refl in (subst (λ (x : ℤ). x ≤ℤ y) (to_z_pos w64 low l) above, subst (λ (x : ℤ). y ≤ℤ x) (to_z_pos w64 high h) below)

  of_sign : (y : ℤ) → ReadsWhole text (to_z w64 low) (to_z w64 high) (Ok y) → let n = nat_abs (to_z w64 (of_z w64 y)) in (word ≡ decimal n) × IsBetween low high n
  of_sign (negsuc m) reads = let k = least (negsuc m) reads in absurd (omega (arith, ints, k.0))
  of_sign (pos m) reads =
      let k = least (pos m) reads in
      let is : to_z w64 (of_z w64 (pos m)) ≡ pos m = to_z_pos w64 m (omega (arith, ints, k.1)) in
      subst (λ (x : ℤ). (word ≡ decimal (nat_abs x)) × IsBetween low high (nat_abs x)) (sym is) ((natural text word low high (Ok (pos m)) e l h reads m).0 refl)

-- where none was read there is none
pub natural_err : (text word : List ℕ) (low high : ℕ) (e : Malformed) → text ≡ word → low < 2 ^ 63 → high < 2 ^ 63
    → ReadsWhole text (to_z w64 low) (to_z w64 high) (Err e) → (n : ℕ) → IsBetween low high n → word ≢ decimal n
natural_err text word low high e same l h reads n within told = let at = (natural text word low high (Err e) same l h reads n).1 (told, within) in absurd cc
