use Rattle.std.proofs.Common.{◌≡◌, refl, sym, subst, ℕ, ◌≤◌, ◌*◌, ℤ, pos, ◌≤ℤ◌, ◌*ℤ◌, w32, w64, to_z, of_z, unsigned_abs, int_le, lt-ltb, arith}
use Rattle.std.proofs.lemmas.Int.{ints}
use Rattle.aid_types.specs.Ranges.{IsIndex}
use Rattle.law_pell.specs.Award.{is_at_ceiling}
use Rattle.law_pell.proofs.CeilingLaws.{product, product_small}
use Rattle.law_pell.proofs.is_at_ceiling.Goals as goal

held : (n : ℕ) → n ≤ 999890001 → to_z w64 (of_z w64 (pos n)) ≡ pos n
held n h = omega (arith, ints)

held_product : (c : ℕ) (m : ℤ) → c ≤ 9999 → pos 1 ≤ℤ m → m ≤ℤ pos 99999 → to_z w64 (of_z w64 (pos c *ℤ m)) ≡ pos c *ℤ m
held_product c m few low high =
    subst (λ z. to_z w64 (of_z w64 z) ≡ z) (sym (product c m low)) (held (c * unsigned_abs m) (product_small c m few low high))

-- the code's test, over any numbers in range
same_test : (f m g index : ℤ) (c : ℕ) → f ≡ pos c → c ≤ 9999 → pos 1 ≤ℤ m → m ≤ℤ pos 99999 → g ≡ to_z w32 (of_z w32 index) → IsIndex index
    → int_le (to_z w64 (of_z w64 (to_z w64 (of_z w64 f) *ℤ to_z w64 (of_z w64 m)))) (to_z w64 (of_z w64 (pos 100 *ℤ to_z w64 (of_z w64 g))))
    ≡ int_le (pos c *ℤ m) (pos 100 *ℤ index)
same_test f m g index c ef few low high eg among =
    let f_is : to_z w64 (of_z w64 f) ≡ pos c = omega (arith, ints) in
    let m_is : to_z w64 (of_z w64 m) ≡ m = omega (arith, ints) in
    let g_is : to_z w64 (of_z w64 (pos 100 *ℤ to_z w64 (of_z w64 g))) ≡ pos 100 *ℤ index = omega (arith, ints) in
    rw (f_is, m_is, g_is, held_product c m few low high) refl

pub returns-then-book-gt0 : goal.returns-then-book-gt0
unfolding is_at_ceiling
returns-then-book-gt0 c =
    let book = c.args.book.now in
    let m = book.pell.maximum_in_range in
    rw (lt-ltb 0 book.ceiling c.if-book-gt0.true)
    (same_test c.from.result book.pell.maximum c.from-then-book-gt0.result c.args.index book.ceiling c.from.ensures book.ceiling_in_range m.0 m.1
    c.from-then-book-gt0.ensures c.requires)
