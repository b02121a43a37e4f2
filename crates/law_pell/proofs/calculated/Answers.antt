use Rattle.std.proofs.Common.{◌≡◌, ℤ, pos, negsuc, ◌-ℤ◌, ◌≤◌, ◌≤ℤ◌, suc, to_z, of_z, w64, unsigned_abs, arith, ap, ◌∙◌}
use Rattle.std.proofs.lemmas.Int.{ints, clamps}
use Rattle.std.specs.Int.{int_max, w32}
use Rattle.aid_types.specs.Nearest.{to5}
use Rattle.aid_types.proofs.NearestLemmas.{half_up-le}
use Rattle.aid_types.specs.Ranges.{IsIndex, IsSignedAmount}
use Rattle.law_pell.specs.Award.{calculated}
use Rattle.law_pell.proofs.calculated.Goals as goal

small : (a : ℤ) → unsigned_abs a ≤ 1000000 → IsSignedAmount (to5 a)
small (pos n) h = let m = half_up-le n 5 200000 (omega arith) (omega (arith, ints)) in (omega (arith, ints), omega (arith, ints))
small (negsuc n) h = let m = half_up-le (suc n) 5 200000 (omega arith) (omega (arith, ints)) in (omega (arith, ints), omega (arith, ints))

held : (r : ℤ) → IsSignedAmount r → to_z w64 (of_z w64 r) ≡ r
held r h = omega (arith, ints)

-- the code's answer, over any award, index and answer of `to5` in range
record Calculates (maximum index r : ℤ) : Type 0 where
  value : to_z w64 (of_z w64 r) ≡ to5 (maximum -ℤ int_max index (pos 0))
  in_range : IsSignedAmount (to_z w64 (of_z w64 r))

calculates : (maximum index f m r : ℤ) → pos 1 ≤ℤ maximum → maximum ≤ℤ pos 99999 → IsIndex index
    → m ≡ int_max (to_z w32 (of_z w32 index)) (pos 0) → f ≡ to_z w32 (of_z w32 m)
    → r ≡ to5 (to_z w64 (of_z w64 (to_z w64 (of_z w64 maximum) -ℤ to_z w64 (of_z w64 f)))) → Calculates maximum index r
calculates maximum index f m r lo hi among em ef er =
    let index_is : to_z w32 (of_z w32 index) ≡ index = omega (arith, ints) in
    let m_is : m ≡ int_max index (pos 0) = rw index_is at em in
    let m_small : unsigned_abs m ≤ 999999 = omega (arith, ints, clamps) in
    let f_is : f ≡ m = ef ∙ (omega (arith, ints)) in
    let arg : to_z w64 (of_z w64 (to_z w64 (of_z w64 maximum) -ℤ to_z w64 (of_z w64 f))) ≡ maximum -ℤ f = omega (arith, ints) in
    let inner : maximum -ℤ f ≡ maximum -ℤ int_max index (pos 0) = ap (λ z. maximum -ℤ z) (f_is ∙ m_is) in
    let r_is : r ≡ to5 (maximum -ℤ int_max index (pos 0)) = er ∙ ap to5 (arg ∙ inner) in
    let r_small : IsSignedAmount r = rw r_is (small (maximum -ℤ int_max index (pos 0)) (omega (arith, ints, clamps))) in
    record { value = held r r_small ∙ r_is; in_range = rw (held r r_small) r_small }

pub returns : goal.returns
unfolding calculated
returns c =
    let x = calculates c.args.book.now.pell.maximum c.args.index c.from.result c.max.result c.to5.result
    c.args.book.now.pell.maximum_in_range.0 c.args.book.now.pell.maximum_in_range.1 c.requires
    c.max.ensures.value c.from.ensures c.to5.ensures.value in
    record { value = x.value; in_range = x.in_range }
