-- A search from the oldest filing on finds the position that the history tells.
use Rattle.std.proofs.Common.{◌≡◌, ℕ, zero, suc, ◌+◌, ◌<◌, refl, sym, ap, ◌∙◌, cond, arith, Bool, true, false, not, List, [], ◌∷◌, ◌++◌, length, reverse, Some, None, length-append, append_assoc, take, drop, drop-cons, get_or}
use Rattle.std.specs.Prelude.{nat_lt}
use Rattle.std.specs.List.{position, position_or_len}
use Rattle.std.proofs.lemmas.List.{reverse-append, take-append-drop}
use Rattle.std.proofs.lemmas.Bool.Decides.{nat_tests}
use Rattle.aid_filings.specs.declared.filing.Filing.{Filing}
use Rattle.office_history.specs.Past.{first_at, first_of_two}
use Rattle.office_history.specs.Places.{place_of}

-- the oldest filing is at 1, and every other one further than in the list without it
abbrev shifted : Bool → ℕ → ℕ
shifted true n = 1
shifted false zero = 0
shifted false (suc n) = suc (suc n)

kept : (b c : Bool) (n size here later : ℕ) → here ≡ size + 1 → later ≡ size + 2 → first_of_two b (shifted c n) later ≡ shifted c (first_of_two b n here)
kept false c n size here later e k = refl
kept true true n size here later e k = refl
kept true false zero size zero later e k = absurd (omega arith)
kept true false zero size (suc here) later e k = omega arith
kept true false (suc n) size here later e k = refl

first_at-oldest : (p : Filing → Bool) (past : List Filing) (f : Filing) → first_at p (past ++ f ∷ []) ≡ shifted (p f) (first_at p past)
first_at-oldest p [] f = go (p f)
  where
    go : (b : Bool) → first_of_two b 0 1 ≡ shifted b 0
    go true = refl
    go false = refl
first_at-oldest p (g ∷ past) f =
    ap (λ (n : ℕ). first_of_two (p g) n (length (past ++ f ∷ []) + 1)) (first_at-oldest p past f)
    ∙ kept (p g) (p f) (first_at p past) (length past) (length past + 1) (length (past ++ f ∷ []) + 1) refl (omega (arith, length-append past (f ∷ [])))

-- one filing more before the rest moves what is found there by one
searched : (b : Bool) (n size : ℕ) → place_of (cond (nat_lt (cond (not b) (1 + n) 0) (suc size)) (Some (cond (not b) (1 + n) 0)) None)
    ≡ shifted b (place_of (cond (nat_lt n size) (Some n) None))
searched true n size = ap (λ (b : Bool). place_of (cond b (Some 0) None)) (first size)
  where
    first : (size : ℕ) → nat_lt 0 (suc size) ≡ true
    first size = grind (arith, nat_tests)
searched false n size = ap (λ (b : Bool). place_of (cond b (Some (1 + n)) None)) (same n size) ∙ go (nat_lt n size)
  where
    same : (n size : ℕ) → nat_lt (1 + n) (suc size) ≡ nat_lt n size
    same n size = grind (arith, nat_tests)

    go : (b : Bool) → place_of (cond b (Some (1 + n)) None) ≡ shifted false (place_of (cond b (Some n) None))
    go true = moved (1 + n + 1) (n + 1) n (omega arith) (omega arith)
      where
        moved : (k m n : ℕ) → k ≡ n + 2 → m ≡ n + 1 → k ≡ shifted false m
        moved k zero n e h = absurd (omega arith)
        moved k (suc m) n e h = omega arith
    go false = refl

pub found_first : (p : Filing → Bool) (h : List Filing) → place_of (position p h) ≡ first_at p (reverse h)
found_first p [] = refl
found_first p (f ∷ h) =
    searched (p f) (position_or_len p h) (length h)
    ∙ ap (shifted (p f)) (found_first p h)
    ∙ sym (first_at-oldest p (reverse h) f)
    ∙ ap (first_at p) (sym (reverse-append (f ∷ []) h))

-- a list with a filing in its middle
pub reverse-middle : (before after : List Filing) (f : Filing) → reverse (before ++ f ∷ after) ≡ reverse after ++ f ∷ reverse before
reverse-middle before after f =
    reverse-append before (f ∷ after)
    ∙ ap (λ (l : List Filing). l ++ reverse before) (reverse-append (f ∷ []) after)
    ∙ append_assoc (reverse after) (f ∷ []) (reverse before)

-- the filing at an index comes right after those before it
pub reverse-at : (h : List Filing) (i : ℕ) (d : Filing) → i < length h → reverse h ≡ reverse (drop (suc i) h) ++ get_or h i d ∷ reverse (take i h)
reverse-at h i d lt =
    ap (λ (l : List Filing). reverse l) (sym (take-append-drop i h) ∙ ap (λ (l : List Filing). take i h ++ l) (drop-cons h i d lt))
    ∙ reverse-middle (take i h) (drop (suc i) h) (get_or h i d)
