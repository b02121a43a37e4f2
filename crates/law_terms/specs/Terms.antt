-- The days of a term, enrollment intensity and the payment of a term (34 CFR 668.22(f), 690.2, 690.63(b)).
use Rattle.std.specs.Prelude.{ℕ, zero, suc, ◌+◌, ◌-◌, ◌*◌, ◌≤◌, ◌<◌, min, Bool, not, ◌&&◌, nat_le, ⊤, All, List, [], ◌∷◌, if◌then◌else◌}
use Rattle.std.specs.List.{list_any}
use Rattle.aid_types.specs.Nearest.{half_up}
use Rattle.aid_types.specs.declared.term.Term.{Term}

-- the day lies in a break of at least five days
abbrev pub is_long_break_day : ℕ → ℕ × ℕ → Bool
is_long_break_day d b = nat_le b.0 d && (nat_le d b.1 && nat_le (b.0 + 4) b.1)

-- the day counts for the return of funds (34 CFR 668.22(f)(2)): it lies in no break of at least five days
abbrev pub is_counted : List (ℕ × ℕ) → ℕ → Bool
is_counted breaks d = not (list_any (is_long_break_day d) breaks)

-- how many of the n days from a first one on count
abbrev pub counted : List (ℕ × ℕ) → ℕ → ℕ → ℕ
counted breaks first zero = 0
counted breaks first (suc n) = counted breaks first n + (if is_counted breaks (first + n) then 1 else 0)

-- how many of the n days from a first one on lie in a break of at least five days
abbrev pub long_days : ℕ × ℕ → ℕ → ℕ → ℕ
long_days b first zero = 0
long_days b first (suc n) = long_days b first n + (if is_long_break_day (first + n) b then 1 else 0)

-- the days of a term up to and with a day
unfoldable pub days_upto : Term → ℕ → ℕ
days_upto t upto = counted t.breaks t.first (upto + 1 - t.first)

-- breaks in order, each after a day: the first day of each comes after it, and its last day not before its first
abbrev pub AreAfter : ℕ → List (ℕ × ℕ) → Type 0
AreAfter before [] = ⊤
AreAfter before (b ∷ bs) = (before < b.0) × (b.0 ≤ b.1) × AreAfter b.1 bs

-- A term's days and breaks are lawful: its last day not before its first, its breaks in order, and neither its first day
-- nor its last in one, so that both always count.
pub record IsLawful (t : Term) : Type 0 where
  pub ordered : t.first ≤ t.last
  pub breaks : AreAfter t.first t.breaks
  pub inside : All (λ b. b.1 < t.last) t.breaks

-- enrollment intensity in percent: credits of full-time credits, at most all (HEA 401(b)(2))
unfoldable pub intensity_of : ℕ → ℕ → ℕ
intensity_of credits full = min 100 (half_up (100 * credits) full)

-- the payment of one of so many main terms, in dollars (34 CFR 690.63(b), Formula 1)
unfoldable pub payment_of : ℕ → ℕ → ℕ → ℕ
payment_of scheduled intensity terms = half_up (scheduled * intensity) (100 * terms)

-- two terms share a day, breaks included
abbrev pub shares_day : Term → Term → Bool
shares_day t u = nat_le t.first u.last && nat_le u.first t.last
