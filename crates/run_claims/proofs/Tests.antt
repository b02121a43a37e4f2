-- Tests that are joined.
use Rattle.std.proofs.Common.{◌≡◌, ℕ, zero, suc, Bool, true, false, not, ◌&&◌, ◌||◌, refl, arith, ap, ◌∙◌, cond}
use Rattle.std.specs.Prelude.{◌==◌, nat_lt, nat_le}
use Rattle.std.proofs.lemmas.Bool.{and_parts}
use Rattle.std.proofs.lemmas.Bool.Decides.{nat_tests}

-- tests of numbers, each as another that fails
pub below : (a b : ℕ) → nat_lt a b ≡ not (nat_le b a)
below a b = grind (arith, nat_tests)

pub within : (a b : ℕ) → nat_le a b ≡ not (nat_lt b a)
within a b = grind (arith, nat_tests)

pub is_nothing : (a : ℕ) → (a == 0) ≡ not (nat_lt 0 a)
is_nothing a = grind (arith, nat_tests)

pub and_both : {x y v w : Bool} → x ≡ v → y ≡ w → (x && y) ≡ (v && w)
and_both {x} {y} {v} {w} p q = ap (λ (b : Bool). b && y) p ∙ ap (λ (b : Bool). v && b) q

-- what follows a test may be read where the test holds
pub and_then : {x y v w : Bool} → x ≡ v → (x ≡ true → y ≡ w) → (x && y) ≡ (v && w)
and_then {x} {y} {v} {w} p q = go x refl q ∙ ap (λ (b : Bool). b && w) p
  where
    go : (b : Bool) → x ≡ b → (x ≡ true → y ≡ w) → (b && y) ≡ (b && w)
    go true e q = q e
    go false e q = refl

-- the second test of several
pub and_second : (x y z : Bool) → (x && (y && z)) ≡ true → y ≡ true
and_second x y z h = (and_parts y z (and_parts x (y && z) h).1).0

-- the last test of several
pub and_last : {x v : Bool} → x ≡ v → x ≡ (v && true)
and_last {x} {v} p = p ∙ go v
  where
    go : (b : Bool) → b ≡ (b && true)
    go true = refl
    go false = refl

-- tests joined from the left and from the right
pub and_turn : (x y z : Bool) → (x && y && z) ≡ (x && (y && z))
and_turn true y z = refl
and_turn false y z = refl

-- tests in a row, each with what follows it
pub and_three : {a b c v w u : Bool} → a ≡ v → b ≡ w → c ≡ u → (a && b && c) ≡ (v && (w && u))
and_three {a} {b} {c} {v} {w} {u} p q r = and_both (and_both p q) r ∙ and_turn v w u

pub and_four : {a b c d v w u t : Bool} → a ≡ v → b ≡ w → c ≡ u → d ≡ t → (a && b && c && d) ≡ (v && (w && (u && t)))
and_four {a} {b} {c} {d} {v} {w} {u} {t} p q r s = and_three (and_both p q) r s ∙ and_turn v w (u && t)

pub and_five : {a b c d e v w u t s : Bool} → a ≡ v → b ≡ w → c ≡ u → d ≡ t → e ≡ s → (a && b && c && d && e) ≡ (v && (w && (u && (t && s))))
and_five {a} {b} {c} {d} {e} {v} {w} {u} {t} {s} p q r k l = and_four (and_both p q) r k l ∙ and_turn v w (u && (t && s))

pub and_six : {a b c d e f v w u t s n : Bool} → a ≡ v → b ≡ w → c ≡ u → d ≡ t → e ≡ s → f ≡ n →
    (a && b && c && d && e && f) ≡ (v && (w && (u && (t && (s && n)))))
and_six {a} {b} {c} {d} {e} {f} {v} {w} {u} {t} {s} {n} p q r k l m = and_five (and_both p q) r k l m ∙ and_turn v w (u && (t && (s && n)))

-- a limit on an amount that is asked for only where the amount isn't 0
pub limit_or : (n : ℕ) {y w : Bool} → y ≡ w → (n == 0 || y) ≡ (not (nat_lt 0 n) || w)
limit_or n {y} {w} p = ap (λ (b : Bool). b || y) (is_nothing n) ∙ ap (λ (b : Bool). not (nat_lt 0 n) || b) p

pub or_then : (x : Bool) {y w : Bool} → y ≡ w → (x || y) ≡ (x || w)
or_then x p = ap (λ (b : Bool). x || b) p

-- a test that fails exactly where a number is 0
pub none_where_zero : (b : Bool) (n : ℕ) → (b ≡ false → n ≡ 0) → (n ≡ 0 → b ≡ false) → not b ≡ not (nat_lt 0 n)
none_where_zero true zero h k = let e : true ≡ false = k refl in cc
none_where_zero true (suc n) h k = grind (arith, nat_tests)
none_where_zero false n h k = let e : n ≡ 0 = h refl in grind (arith, nat_tests)

-- a limit on an amount that is asked for only under a test
pub limit_if : (p : Bool) (c : ℕ) (keeps : ℕ → Bool) → (c == 0) ≡ false → (cond p c 0 == 0 || keeps (cond p c 0)) ≡ (not p || keeps c)
limit_if true c keeps e = rw e refl
limit_if false c keeps e = refl
