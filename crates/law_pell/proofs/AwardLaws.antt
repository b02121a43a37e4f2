-- What the six cases of an award say together, and what a ceiling tells.
use Rattle.std.proofs.Common.{◌≡◌, inl, inr, ◌≤◌, ℤ, Bool, true, false, pos, neg_ℤ, ◌-ℤ◌, ◌<ℤ◌, ◌≤ℤ◌, unsigned_abs, int_le, lt-ltb, refl, arith}
use Rattle.std.specs.Prelude.{◌&&◌, ◌*ℤ◌, if◌then◌else◌, nat_lt}
use Rattle.std.specs.Int.{int_max, int_min}
use Rattle.std.proofs.lemmas.Int.{ints, clamps}
use Rattle.aid_types.specs.Nearest.{to5}
use Rattle.aid_types.specs.Ranges.{IsWithin}
use Rattle.aid_types.specs.declared.application.Application.{Application}
use Rattle.aid_books.specs.declared.book.Book.{Book}
use Rattle.aid_books.specs.declared.book.PellFigures.{PellFigures}
use Rattle.aid_types.specs.declared.award.Formula.{Formula}
use Rattle.aid_types.specs.declared.award.Way.TheVariants.{Maximum, Calculated, Minimum, Nothing}
use Rattle.law_sai.proofs.NearestOrder.{to5-rises}
use Rattle.law_pell.specs.Award.{IsDecidedByCase, IsScheduledAward, awarded, calculated, greatest_award, decision_under, is_at_ceiling, is_barred, is_maximum, is_minimum, must_file}

test_from_le : (x y : ℤ) → x ≤ℤ y → int_le x y ≡ true
test_from_le x y h = grind (arith, ints)

test_from_lt : (x y : ℤ) → y <ℤ x → int_le x y ≡ false
test_from_lt x y h = grind (arith, ints)

-- a test of two parts, of which both hold
both : (b c : Bool) → b ≡ true → c ≡ true → b && c ≡ true
both b c h k = rw (h, k) refl

at_ceiling : (book : Book) (index : ℤ) → 1 ≤ book.ceiling → (pos book.ceiling *ℤ book.pell.maximum) ≤ℤ (pos 100 *ℤ index) → is_at_ceiling book index ≡ true
unfolding is_at_ceiling
at_ceiling book index some least =
    both (nat_lt 0 book.ceiling) (int_le (pos book.ceiling *ℤ book.pell.maximum) (pos 100 *ℤ index))
    (lt-ltb 0 book.ceiling some) (test_from_le (pos book.ceiling *ℤ book.pell.maximum) (pos 100 *ℤ index) least)

pub decision_under-by_case : (f : Formula) (book : Book) (a : Application) (index : ℤ) → IsDecidedByCase f book a index (decision_under f book a index)
decision_under-by_case f book a index = record {
  barred = λ h. rw h refl;
  ceiling = λ h some least. let at = at_ceiling book index some least in rw (h, at) refl;
  not_required = λ h at k. rw (h, at, k) refl;
  maximum = λ h at k l. rw (h, at, k, l) refl;
  by_index = λ h at k l m. let n = test_from_le book.pell.minimum (calculated book index) m in rw (h, at, k, l, n) refl;
  minimum = λ h at k l m o. let n = test_from_lt book.pell.minimum (calculated book index) m in rw (h, at, k, l, n, o) refl;
  nothing = λ h at k l m o. let n = test_from_lt book.pell.minimum (calculated book index) m in rw (h, at, k, l, n, o) refl;
}

-- a greater index leaves no greater award
pub calculated-falls : (book : Book) (index greater : ℤ) → index ≤ℤ greater → calculated book greater ≤ℤ calculated book index
unfolding calculated
calculated-falls book index greater h =
    to5-rises (book.pell.maximum -ℤ int_max greater (pos 0)) (book.pell.maximum -ℤ int_max index (pos 0)) (omega (arith, ints, clamps))

calculated-at_most : (book : Book) (index : ℤ) → calculated book index ≤ℤ to5 book.pell.maximum
unfolding calculated
calculated-at_most book index = to5-rises (book.pell.maximum -ℤ int_max index (pos 0)) book.pell.maximum (omega (arith, ints, clamps))

le_from_test : (x y : ℤ) → int_le x y ≡ true → x ≤ℤ y
le_from_test x y h = grind (arith, ints)

is_maximum_award : (pell : PellFigures) → IsWithin pell.minimum (greatest_award pell) (pos (unsigned_abs pell.maximum))
is_maximum_award pell =
    let low = pell.minimum_in_range in
    let m = pell.maximum_in_range in
    (omega (arith, ints), omega (arith, ints, clamps))

is_minimum_award : (pell : PellFigures) → IsWithin pell.minimum (greatest_award pell) (pos (unsigned_abs pell.minimum))
is_minimum_award pell =
    let low = pell.minimum_in_range in
    (omega (arith, ints), omega (arith, ints, clamps))

is_left : (pell : PellFigures) (left : ℤ) → pell.minimum ≤ℤ left → left ≤ℤ to5 pell.maximum → IsWithin pell.minimum (greatest_award pell) (pos (unsigned_abs left))
is_left pell left low high =
    let m = pell.minimum_in_range in
    (omega (arith, ints), omega (arith, ints, clamps))

-- the award of each way
is_award : (pell : PellFigures) (index left : ℤ) (barred at_top files at_maximum by_index at_minimum : Bool)
    → (by_index ≡ true → pell.minimum ≤ℤ left) → left ≤ℤ to5 pell.maximum
    → IsScheduledAward pell (if barred then awarded Nothing (pos 0) index
    else (if at_top then awarded Nothing (pos 0) index
    else (if files
    then (if at_maximum then awarded Maximum pell.maximum (int_min index (pos 0))
    else (if by_index then awarded Calculated left index
    else (if at_minimum then awarded Minimum pell.minimum index
    else awarded Nothing (pos 0) index)))
    else awarded Maximum pell.maximum (neg_ℤ (pos 1500))))).scheduled
is_award pell index left true at_top files at_maximum by_index at_minimum low high = inl refl
is_award pell index left false true files at_maximum by_index at_minimum low high = inl refl
is_award pell index left false false false at_maximum by_index at_minimum low high = inr (is_maximum_award pell)
is_award pell index left false false true true by_index at_minimum low high = inr (is_maximum_award pell)
is_award pell index left false false true false true at_minimum low high = inr (is_left pell left (low refl) high)
is_award pell index left false false true false false true low high = inr (is_minimum_award pell)
is_award pell index left false false true false false false low high = inl refl

pub decision_under-award : (f : Formula) (book : Book) (a : Application) (index : ℤ) → IsScheduledAward book.pell (decision_under f book a index).scheduled
decision_under-award f book a index =
    is_award book.pell index (calculated book index) (is_barred a) (is_at_ceiling book index) (must_file f a) (is_maximum book f a) (int_le book.pell.minimum (calculated book index)) (is_minimum book f a)
    (le_from_test book.pell.minimum (calculated book index)) (calculated-at_most book index)
