-- Breaks taken out one by one leave the days that lie in none of them.
use Rattle.std.proofs.Common.{◌≡◌, ℕ, zero, suc, ◌+◌, ◌-◌, ◌≤◌, ◌<◌, min, refl, sym, ap, ◌∙◌, arith, Bool, true, false, ◌||◌, not, List, [], ◌∷◌, ◌++◌, take, length, get_or, subst}
use Rattle.std.specs.Prelude.{if◌then◌else◌}
use Rattle.std.specs.List.{list_any}
use Rattle.std.proofs.lemmas.Bool.Decides.{nat_tests}
use Rattle.std.proofs.lemmas.List.{take_more}
use Rattle.law_terms.specs.Terms.{is_long_break_day, counted, long_days, AreAfter}

-- a break of fewer than five days has none of them, and a longer one those that are before the end
pub long_days-short : (b : ℕ × ℕ) (first n : ℕ) → b.1 < b.0 + 4 → long_days b first n ≡ 0
long_days-short b first zero h = refl
long_days-short b first (suc n) h = grind (arith, nat_tests, long_days-short b first n h)

pub long_days-long : (b : ℕ × ℕ) (first n : ℕ) → first < b.0 → b.0 + 4 ≤ b.1 → long_days b first n ≡ min (b.1 + 1) (first + n) - b.0
long_days-long b first zero h k = omega arith
long_days-long b first (suc n) h k = grind (arith, nat_tests, long_days-long b first n h k)

-- breaks in order end before the next one begins
pub after_all : (before : ℕ) (bs : List (ℕ × ℕ)) (b : ℕ × ℕ) → AreAfter before (bs ++ b ∷ []) → before < b.0
after_all before [] b h = h.0
after_all before (c ∷ bs) b h = omega (arith, h.0, h.1, after_all c.1 bs b h.2)

list_any-more : (p : ℕ × ℕ → Bool) (bs : List (ℕ × ℕ)) (b : ℕ × ℕ) → list_any p (bs ++ b ∷ []) ≡ (list_any p bs || p b)
list_any-more p [] b = grind arith
list_any-more p (c ∷ bs) b = grind (arith, list_any-more p bs b)

-- a day of a later break lies in none of the earlier ones
counted_before : (before : ℕ) (bs : List (ℕ × ℕ)) (b : ℕ × ℕ) (d : ℕ) → AreAfter before (bs ++ b ∷ []) → b.0 ≤ d → list_any (is_long_break_day d) bs ≡ false
counted_before before [] b d h k = refl
counted_before before (c ∷ bs) b d h k =
    let end = after_all c.1 bs b h.2 in
    let rest = counted_before c.1 bs b d h.2 k in
    grind (arith, nat_tests, end, rest)

-- one day more: it counts no longer where it lies in the new break
day_more : (a b : Bool) (x l y : ℕ) → x + l ≡ y → (b ≡ true → a ≡ false) →
    (x + (if not (a || b) then 1 else 0)) + (l + (if b then 1 else 0)) ≡ y + (if not a then 1 else 0)
day_more true true x l y e h = absurd (true_false (h refl))
  where
    true_false : true ≡ false → ⊥
    true_false k = cc
day_more true false x l y e h = omega arith
day_more false true x l y e h = omega arith
day_more false false x l y e h = omega arith

begun : (d : ℕ) (b : ℕ × ℕ) → is_long_break_day d b ≡ true → b.0 ≤ d
begun d b h = grind (arith, nat_tests)

-- one break more takes out its days
pub counted-more : (before : ℕ) (bs : List (ℕ × ℕ)) (b : ℕ × ℕ) (first n : ℕ) → AreAfter before (bs ++ b ∷ []) →
    counted (bs ++ b ∷ []) first n + long_days b first n ≡ counted bs first n
counted-more before bs b first zero h = refl
counted-more before bs b first (suc n) h =
    let d = first + n in
    rw (list_any-more (is_long_break_day d) bs b)
    (day_more (list_any (is_long_break_day d) bs) (is_long_break_day d b) _ _ _ (counted-more before bs b first n h)
    (λ here. counted_before before bs b d h (begun d b here)))

-- no breaks take nothing out
pub counted-none : (first n : ℕ) → counted [] first n ≡ n
counted-none first zero = refl
counted-none first (suc n) = omega (arith, counted-none first n)

-- the first of some breaks in order
pub after_take : (before : ℕ) (bs : List (ℕ × ℕ)) (i : ℕ) → AreAfter before bs → AreAfter before (take i bs)
after_take before bs zero h = search
after_take before [] (suc i) h = search
after_take before (b ∷ bs) (suc i) h = (h.0, h.1, after_take b.1 bs i h.2)

last_ordered : (before : ℕ) (bs : List (ℕ × ℕ)) (b : ℕ × ℕ) → AreAfter before (bs ++ b ∷ []) → b.0 ≤ b.1
last_ordered before [] b h = h.1
last_ordered before (c ∷ bs) b h = last_ordered c.1 bs b h.2

-- a break of a list in order, after those before it
pub break_at : (first : ℕ) (bs : List (ℕ × ℕ)) (i : ℕ) (b : ℕ × ℕ) → i < length bs → b ≡ get_or bs i b → AreAfter first bs → AreAfter first (take i bs ++ b ∷ [])
break_at first bs i b lt e h =
    subst (AreAfter first) (take_more bs i b lt ∙ ap (λ (x : ℕ × ℕ). take i bs ++ x ∷ []) (sym e)) (after_take first bs (i + 1) h)

pub break_begins : (first : ℕ) (bs : List (ℕ × ℕ)) (i : ℕ) (b : ℕ × ℕ) → i < length bs → b ≡ get_or bs i b → AreAfter first bs → (first < b.0) × (b.0 ≤ b.1)
break_begins first bs i b lt e h =
    let here = break_at first bs i b lt e h in (after_all first (take i bs) b here, last_ordered first (take i bs) b here)

-- its days are taken out of those that the breaks before it leave
pub break_step : (first n : ℕ) (bs : List (ℕ × ℕ)) (i : ℕ) (b : ℕ × ℕ) → i < length bs → b ≡ get_or bs i b → AreAfter first bs →
    counted (take (i + 1) bs) first n + long_days b first n ≡ counted (take i bs) first n
break_step first n bs i b lt e h =
    rw (take_more bs i b lt, sym e) (counted-more first (take i bs) b first n (break_at first bs i b lt e h))
