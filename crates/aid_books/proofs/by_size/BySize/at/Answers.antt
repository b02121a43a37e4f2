use Rattle.std.proofs.Common.{◌≡◌, ℤ, ℕ, pos, ◌+ℤ◌, ◌*ℤ◌, ◌-◌, ◌<◌, min, length, slice_index_or, FitsSigned, to_z, of_z, w64, unsigned_abs, arith, lit<, ap, ◌∙◌}
use Rattle.std.proofs.lemmas.Int.{ints, unsigned_abs-mul}
use Rattle.std.proofs.lemmas.Nat.{mul-le}
use Rattle.aid_types.proofs.Machine.{fits as fits_of, machine}
use Rattle.aid_types.specs.Ranges.{IsAmount, IsSumOf}
use Rattle.aid_books.specs.BySize.{by_size}
use Rattle.aid_books.proofs.RangeLemmas.{EachIsAmount-at}
use Rattle.aid_books.proofs.by_size.BySize.at.Goals as goal

record Sized (entry past extra product sum : ℤ) : Type 0 where
  product_fits : FitsSigned w64 product
  fits : FitsSigned w64 sum
  value : to_z w64 (of_z w64 sum) ≡ entry +ℤ past *ℤ extra
  in_range : IsSumOf 256 (to_z w64 (of_z w64 sum))

-- the code's sum, for a family of so many members past the last entry
sized : (entry extra : ℤ) (p : ℕ) → p < 256 → IsAmount entry → IsAmount extra
    → Sized entry (pos p) extra (to_z w64 p *ℤ to_z w64 (of_z w64 extra)) (to_z w64 (of_z w64 entry) +ℤ to_z w64 (of_z w64 (to_z w64 p *ℤ to_z w64 (of_z w64 extra))))
sized entry extra p h k l =
    let past_is : to_z w64 p ≡ pos p = omega (arith, ints) in
    let extra_is : to_z w64 (of_z w64 extra) ≡ extra = omega (arith, ints) in
    let entry_is : to_z w64 (of_z w64 entry) ≡ entry = omega (arith, ints) in
    let most : IsSumOf 255 (pos p *ℤ extra) = omega (arith, unsigned_abs-mul (pos p) extra, mul-le p (unsigned_abs extra) 255 100000000 (omega arith) (omega (arith, ints))) in
    let product_is = machine (pos p *ℤ extra) _ most (lit< tt) in
    let sum_most : IsSumOf 256 (entry +ℤ pos p *ℤ extra) = omega (arith, ints, most) in
    let sum_is = machine (entry +ℤ pos p *ℤ extra) _ sum_most (lit< tt) in
    rw (past_is, extra_is, entry_is, product_is) (record {
      product_fits = fits_of _ _ most (lit< tt);
      fits = fits_of _ _ sum_most (lit< tt);
      value = sum_is;
      in_range = rw sum_is sum_most;
    })

pub overflow_mul-result : goal.overflow_mul-result
overflow_mul-result g c =
    let book = c.args.self.now in
    let past : c.from-past_first.result - c.min-entry.result < 256 = omega arith in
    (sized (pos 0) book.extra (c.from-past_first.result - c.min-entry.result) past (omega (arith, ints), omega (arith, ints)) book.extra_in_range).product_fits

pub overflow_add-result : goal.overflow_add-result
overflow_add-result g c =
    let book = c.args.self.now in
    let past : c.from-past_first.result - c.min-entry.result < 256 = omega arith in
    (sized (slice_index_or book.sizes c.min-entry.result (pos 0)) book.extra (c.from-past_first.result - c.min-entry.result) past (EachIsAmount-at book.sizes c.min-entry.result book.sizes_in_range) book.extra_in_range).fits

pub returns : goal.returns
unfolding by_size
returns g c =
    let book = c.args.self.now in
    let past : c.from-past_first.result - c.min-entry.result < 256 = omega arith in
    let x = sized (slice_index_or book.sizes c.min-entry.result (pos 0)) book.extra (c.from-past_first.result - c.min-entry.result) past (EachIsAmount-at book.sizes c.min-entry.result book.sizes_in_range) book.extra_in_range in
    let entry : c.min-entry.result ≡ min (c.args.family - g.row.FIRST) (length book.sizes - 1) = omega arith in
    let beyond : c.from-past_first.result - c.min-entry.result ≡ c.args.family - g.row.FIRST - (length book.sizes - 1) = omega arith in
    record {
      value = x.value ∙ ap (λ k. slice_index_or book.sizes k (pos 0) +ℤ pos (c.from-past_first.result - c.min-entry.result) *ℤ book.extra) entry
          ∙ ap (λ k. slice_index_or book.sizes (min (c.args.family - g.row.FIRST) (length book.sizes - 1)) (pos 0) +ℤ pos k *ℤ book.extra) beyond;
      in_range = x.in_range;
    }
