-- A question that filings answer has a position where it has an answer, and none where it has none.
use Rattle.std.proofs.Common.{◌≡◌, ℕ, zero, suc, ◌+◌, ◌<◌, refl, arith, true, List, [], ◌∷◌, length, Option, Some, None}
use Rattle.std.specs.Prelude.{is_some}
use Rattle.aid_filings.specs.declared.filing.Filing.{Filing}
use Rattle.office_history.specs.Past.{first_at, first_of_two, earlier, earliest}

none_told_step : {A : Type 0} (o before : Option A) (k n : ℕ) → (k ≡ 0 → before ≡ None) → first_of_two (is_some o) k (n + 1) ≡ 0 → earlier o before ≡ None
none_told_step None before k n ih h = ih h
none_told_step (Some a) before zero n ih h = absurd (omega arith)
none_told_step (Some a) before (suc k) n ih h = absurd (omega arith)

-- where no filing answers, the earliest tells nothing
pub none_told : {A : Type 0} (operation : Filing → Option A) (past : List Filing) → first_at (λ f. is_some (operation f)) past ≡ 0 → earliest operation past ≡ None
none_told operation [] h = refl
none_told operation (f ∷ past) h =
    none_told_step (operation f) (earliest operation past) (first_at (λ f. is_some (operation f)) past) (length past) (none_told operation past) h

told_step : {A : Type 0} (o before : Option A) (k n : ℕ) → (is_some before ≡ true → 0 < k) → is_some (earlier o before) ≡ true → 0 < first_of_two (is_some o) k (n + 1)
told_step None before k n ih h = ih h
told_step (Some a) before zero n ih h = omega arith
told_step (Some a) before (suc k) n ih h = omega arith

-- where the earliest tells something, a filing answers
pub told_at : {A : Type 0} (operation : Filing → Option A) (past : List Filing) → is_some (earliest operation past) ≡ true → 0 < first_at (λ f. is_some (operation f)) past
told_at operation [] h = cc
told_at operation (f ∷ past) h =
    told_step (operation f) (earliest operation past) (first_at (λ f. is_some (operation f)) past) (length past) (told_at operation past) h

some_told_step : {A : Type 0} (o before : Option A) (k n : ℕ) → (0 < k → is_some before ≡ true) → 0 < first_of_two (is_some o) k (n + 1) → is_some (earlier o before) ≡ true
some_told_step None before k n ih h = ih h
some_told_step (Some a) None k n ih h = refl
some_told_step (Some a) (Some b) k n ih h = refl

-- where a filing answers, the earliest tells something
pub some_told : {A : Type 0} (operation : Filing → Option A) (past : List Filing) → 0 < first_at (λ f. is_some (operation f)) past → is_some (earliest operation past) ≡ true
some_told operation [] h = absurd (omega arith)
some_told operation (f ∷ past) h =
    some_told_step (operation f) (earliest operation past) (first_at (λ f. is_some (operation f)) past) (length past) (some_told operation past) h
