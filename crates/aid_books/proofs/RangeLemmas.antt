-- What the tests of ranges say to a reader, and how a writer meets them.
use Rattle.std.proofs.Common.{◌≡◌, ℕ, zero, suc, true, ℤ, pos, int_le, List, [], ◌∷◌, slice_index_or, refl, arith}
use Rattle.std.specs.List.{All, list_all}
use Rattle.std.proofs.lemmas.Bool.{and_parts, and_from}
use Rattle.std.proofs.lemmas.Int.{ints}
use Rattle.aid_types.proofs.SignedLemmas.{int_le-true}
use Rattle.aid_types.specs.Ranges.{IsAmount, EachIsAmount, is_amount}

pub IsAmount-is_amount : (z : ℤ) → is_amount z ≡ true → IsAmount z
IsAmount-is_amount z h = let k = and_parts (int_le (pos 0) z) (int_le z (pos 99999999)) h in (omega (arith, ints, k.0), omega (arith, ints, k.1))

pub is_amount-true : (z : ℤ) → IsAmount z → is_amount z ≡ true
is_amount-true z h = and_from (int_le (pos 0) z) (int_le z (pos 99999999)) (int_le-true (pos 0) z h.0) (int_le-true z (pos 99999999) h.1)

-- an item of a list of amounts is an amount; past the end stands 0, which is one too
pub EachIsAmount-at : (zs : List ℤ) (k : ℕ) → EachIsAmount zs → IsAmount (slice_index_or zs k (pos 0))
EachIsAmount-at [] k h = (omega (arith, ints), omega (arith, ints))
EachIsAmount-at (z ∷ zs) zero h = IsAmount-is_amount z (and_parts (is_amount z) (list_all is_amount zs) h).0
EachIsAmount-at (z ∷ zs) (suc k) h = EachIsAmount-at zs k (and_parts (is_amount z) (list_all is_amount zs) h).1

-- a list whose items are amounts
pub EachIsAmount-All : (zs : List ℤ) → All IsAmount zs → EachIsAmount zs
EachIsAmount-All [] h = refl
EachIsAmount-All (z ∷ zs) h = and_from (is_amount z) (list_all is_amount zs) (is_amount-true z (h zero z (omega arith))) (EachIsAmount-All zs (λ k d l. h (suc k) d (omega arith)))

pub All-EachIsAmount : (zs : List ℤ) → EachIsAmount zs → All IsAmount zs
All-EachIsAmount [] h k d l = absurd (omega arith)
All-EachIsAmount (z ∷ zs) h zero d l = IsAmount-is_amount z (and_parts (is_amount z) (list_all is_amount zs) h).0
All-EachIsAmount (z ∷ zs) h (suc k) d l = All-EachIsAmount zs (and_parts (is_amount z) (list_all is_amount zs) h).1 k d (omega arith)
