-- What a ceiling says of an index.
use Rattle.std.proofs.Common.{◌≡◌, refl, sym, subst, ℕ, zero, suc, ◌+◌, ◌*◌, ◌/◌, ◌≤◌, ℤ, pos, negsuc, ◌*ℤ◌, ◌≤ℤ◌, unsigned_abs, Bool, true, false, nat_lt, int_le, ltb-true, lt-ltb, ne_eqb, arith}
use Rattle.std.specs.Prelude.{◌&&◌, ◌+ℤ◌}
use Rattle.std.proofs.lemmas.Bool.{false≢true}
use Rattle.std.proofs.lemmas.Int.{ints}
use Rattle.std.proofs.lemmas.Nat.{mul-le}
use Rattle.aid_types.specs.declared.application.Application.{Application}
use Rattle.aid_types.specs.declared.application.Side.{Side}
use Rattle.aid_books.specs.declared.book.Book.{Book}
use Rattle.law_pell.specs.Award.{IsTold, ceiling_at, ceiling_bound, counted_income, decision, is_at_ceiling, is_barred, no_ceiling}

-- a percent of an amount above 0
pub product : (c : ℕ) (m : ℤ) → pos 1 ≤ℤ m → pos c *ℤ m ≡ pos (c * unsigned_abs m)
product c (pos n) h = refl
product c (negsuc n) h = absurd (omega (arith, ints))

pub product_small : (c : ℕ) (m : ℤ) → c ≤ 9999 → pos 1 ≤ℤ m → m ≤ℤ pos 99999 → c * unsigned_abs m ≤ 999890001
product_small c m few low high = mul-le c (unsigned_abs m) 9999 99999 few (omega (arith, ints))

above_zero : (c n : ℕ) → 1 ≤ c → 1 ≤ n → 1 ≤ c * n
above_zero zero n h k = elim h [ ]
above_zero (suc c) zero h k = elim k [ ]
above_zero (suc c) (suc n) h k = omega arith

-- the least index of which a hundred times reaches a number
least_from : (n : ℕ) (index : ℤ) → pos ((n + 99) / 100) ≤ℤ index → int_le (pos n) (pos 100 *ℤ index) ≡ true
least_from n index h = grind (arith, ints)

least_to : (n : ℕ) (index : ℤ) → int_le (pos n) (pos 100 *ℤ index) ≡ true → pos ((n + 99) / 100) ≤ℤ index
least_to n index h = omega (arith, ints)

from_both : (b c : Bool) → b && c ≡ true → (b ≡ true) × (c ≡ true)
from_both true c h = (refl, h)
from_both false c h = absurd (false≢true h)

-- an index at the ceiling: there is one, and the index reaches its percent of the award
pub record Reaches (book : Book) (index : ℤ) : Type 0 where
  some : 1 ≤ book.ceiling
  above : 1 ≤ book.ceiling * unsigned_abs book.pell.maximum
  least : pos (ceiling_bound book) ≤ℤ index

pub reaches : (book : Book) (index : ℤ) → is_at_ceiling book index ≡ true → Reaches book index
unfolding is_at_ceiling
reaches book index h =
    let parts = from_both (nat_lt 0 book.ceiling) (int_le (pos book.ceiling *ℤ book.pell.maximum) (pos 100 *ℤ index)) h in
    let some = ltb-true 0 book.ceiling parts.0 in
    let m = book.pell.maximum_in_range in
    let same = product book.ceiling book.pell.maximum m.0 in
    record {
      some = some;
      above = above_zero book.ceiling (unsigned_abs book.pell.maximum) some (omega (arith, ints));
      least = least_to (book.ceiling * unsigned_abs book.pell.maximum) index (subst (λ z. int_le z (pos 100 *ℤ index) ≡ true) same parts.1);
    }

pub is_reached : (book : Book) (index : ℤ) → 1 ≤ book.ceiling → pos (ceiling_bound book) ≤ℤ index → is_at_ceiling book index ≡ true
unfolding is_at_ceiling
is_reached book index some least =
    let m = book.pell.maximum_in_range in
    let same = product book.ceiling book.pell.maximum m.0 in
    let test : int_le (pos book.ceiling *ℤ book.pell.maximum) (pos 100 *ℤ index) ≡ true =
    subst (λ z. int_le z (pos 100 *ℤ index) ≡ true) (sym same) (least_from (book.ceiling * unsigned_abs book.pell.maximum) index least) in
    rw (lt-ltb 0 book.ceiling some, test) refl

pub index_above : (book : Book) (index : ℤ) → is_at_ceiling book index ≡ true → pos 1 ≤ℤ index
index_above book index h = let r = reaches book index h in let a = r.above in let l = r.least in omega (arith, ints)

-- what counts of an income under a ceiling
pub counted_above : (c : ℕ) (side : Side) → 1 ≤ c → counted_income c side ≡ side.agi +ℤ side.foreign
counted_above c side h = rw (ne_eqb c 0 (λ none. absurd (omega (arith, none)))) refl

-- the award where the ceiling decides
pub unawarded : (book : Book) (a : Application) (index : ℤ) → is_barred a ≡ false → is_at_ceiling book index ≡ true → (decision book a index).scheduled ≡ 0
unawarded book a index h at = rw (h, at) refl

pub none_barred : (book : Book) (a : Application) (index : ℤ) → is_barred a ≡ true → ceiling_at book a index ≡ no_ceiling
none_barred book a index h = rw h refl

pub none_below : (book : Book) (a : Application) (index : ℤ) → is_barred a ≡ false → is_at_ceiling book index ≡ false
    → ceiling_at book a index ≡ no_ceiling
none_below book a index h at = rw (h, at) refl

-- so an award means that no ceiling decides
pub none_awarded : (book : Book) (a : Application) (index : ℤ) → ((decision book a index).scheduled ≡ 0 → ⊥) → ceiling_at book a index ≡ no_ceiling
none_awarded book a index awarded = go (is_barred a) refl (is_at_ceiling book index) refl
  where
    go : (b : Bool) → is_barred a ≡ b → (c : Bool) → is_at_ceiling book index ≡ c → ceiling_at book a index ≡ no_ceiling
    go true barred c at = none_barred book a index barred
    go false barred false at = none_below book a index barred at
    go false barred true at = absurd (awarded (unawarded book a index barred at))

-- where the ceiling decides
pub told : (book : Book) (a : Application) (index : ℤ) → is_barred a ≡ false → is_at_ceiling book index ≡ true
    → IsTold book a index (record { index = unsigned_abs index; bound = ceiling_bound book })
told book a index h at =
    let r = reaches book index at in
    let some = r.some in
    let above = r.above in
    let least = r.least in
    record {
      none = λ no. absurd (omega (arith, no));
      decides = λ free there. let high = index_above book index at in omega (arith, ints);
      kept = λ one. omega (arith, ints);
      bounded = λ one. omega (arith, ints);
      above = omega (arith, ints);
      least = λ one other. (is_reached book other some, λ k. (reaches book other k).least);
      unawarded = λ one. unawarded book a index h at;
    }

-- where it doesn't
pub untold : (book : Book) (a : Application) (index : ℤ) → (is_barred a ≡ false → is_at_ceiling book index ≡ true → ⊥) → IsTold book a index (no_ceiling)
untold book a index other = record {
  none = λ no. refl;
  decides = λ free at. absurd (other free at);
  kept = λ one. absurd (omega (arith, one));
  bounded = λ one. absurd (omega (arith, one));
  above = omega arith;
  least = λ one. absurd (omega (arith, one));
  unawarded = λ one. absurd (omega (arith, one));
}
