-- The days of a term up to one of its days.
use Rattle.std.proofs.Common.{◌≡◌, ℕ, zero, suc, ◌+◌, ◌-◌, ◌≤◌, refl, arith, Bool, true, false, List, [], ◌∷◌, add-zero}
use Rattle.std.specs.Prelude.{if◌then◌else◌}
use Rattle.std.specs.List.{list_any}
use Rattle.std.proofs.lemmas.Bool.Decides.{nat_tests}
use Rattle.aid_types.specs.declared.term.Term.{Term}
use Rattle.law_terms.specs.Terms.{is_long_break_day, is_counted, counted, days_upto, AreAfter, IsLawful}

-- a day before all breaks lies in none
no_break : (day : ℕ) (breaks : List (ℕ × ℕ)) (before : ℕ) → AreAfter before breaks → day ≤ before → list_any (is_long_break_day day) breaks ≡ false
no_break day [] before h le = refl
no_break day (b ∷ bs) before h le =
    let later = no_break day bs b.1 h.2 (omega (arith, h.0, h.1)) in
    let early = h.0 in
    grind (arith, nat_tests, later, early)

one_more : (m n : ℕ) (b : Bool) → m ≤ n → m ≤ n + (if b then 1 else 0)
one_more m n true h = omega arith
one_more m n false h = omega arith

-- more days count no fewer
counted-more : (breaks : List (ℕ × ℕ)) (first n k m : ℕ) → m ≡ k + n → counted breaks first n ≤ counted breaks first m
counted-more breaks first n zero m e = let same : m ≡ n = omega arith in rw same (omega arith)
counted-more breaks first n (suc k) m e =
    let next : m ≡ suc (k + n) = omega arith in
    rw next (one_more (counted breaks first n) (counted breaks first (k + n)) (is_counted breaks (first + (k + n))) (counted-more breaks first n k (k + n) refl))

counted-one : (breaks : List (ℕ × ℕ)) (first : ℕ) → list_any (is_long_break_day first) breaks ≡ false → counted breaks first 1 ≡ 1
counted-one breaks first h = rw (add-zero, h) refl

-- the first day counts
pub days_begun : (t : Term) (upto : ℕ) → IsLawful t → t.first ≤ upto → 1 ≤ days_upto t upto
unfolding days_upto
days_begun t upto lawful begun =
    let one = counted-one t.breaks t.first (no_break t.first t.breaks t.first lawful.breaks (omega arith)) in
    let more = counted-more t.breaks t.first 1 (upto - t.first) (upto + 1 - t.first) (omega arith) in
    omega (arith, one, more)

-- and a later day leaves no fewer
pub days_inside : (t : Term) (upto last : ℕ) → t.first ≤ upto → upto ≤ last → days_upto t upto ≤ days_upto t last
unfolding days_upto
days_inside t upto last begun inside =
    counted-more t.breaks t.first (upto + 1 - t.first) (last - upto) (last + 1 - t.first) (omega arith)
