-- A rule as a line of data: its number, whether it is broken, and the two numbers that it then tells; and the first of
-- several that is broken. Own form.
use Rattle.std.specs.Prelude.{ℕ, ◌==◌, ◌&&◌, Bool, true, false, nat_lt, List, [], ◌∷◌, Option, Some, None, if◌then◌else◌}
use Rattle.aid_types.specs.declared.award.Refusal.{Refusal}
use Rattle.aid_types.specs.declared.line.RuleLine.{RuleLine}

-- broken where kept is above bound
abbrev pub over : ℕ → ℕ → ℕ → RuleLine
over rule kept bound = record { rule = rule; is_broken = nat_lt bound kept; kept = kept; bound = bound }

-- broken where something stands at a position
abbrev pub stands : ℕ → ℕ → ℕ → RuleLine
stands rule at bound = record { rule = rule; is_broken = nat_lt 0 at; kept = at; bound = bound }

-- broken where nothing stands at a position
abbrev pub lacks : ℕ → ℕ → ℕ → ℕ → RuleLine
lacks rule at kept bound = record { rule = rule; is_broken = at == 0; kept = kept; bound = bound }

-- broken where the test holds
abbrev pub where_true : ℕ → Bool → ℕ → ℕ → RuleLine
where_true rule test kept bound = record { rule = rule; is_broken = test; kept = kept; bound = bound }

-- broken where a day comes before another
abbrev pub too_early : ℕ → ℕ → ℕ → RuleLine
too_early rule day other = where_true rule (nat_lt day other) day other

-- lines that are tried only where the test holds
abbrev pub only : Bool → List RuleLine → List RuleLine
only true lines = lines
only false lines = []

-- a line that isn't broken where the test fails
abbrev pub tried_if : Bool → RuleLine → RuleLine
tried_if test line = record { rule = line.rule; is_broken = test && line.is_broken; kept = line.kept; bound = line.bound }

-- what a broken line tells
abbrev pub told_by : RuleLine → Refusal
told_by line = record { rule = line.rule; kept = line.kept; bound = line.bound }

-- the first broken line
abbrev pub first_broken : List RuleLine → Option Refusal
first_broken [] = None
first_broken (line ∷ lines) = if line.is_broken then Some (told_by line) else first_broken lines

-- a refusal that was found elsewhere
abbrev pub told : Option Refusal → List RuleLine
told None = []
told (Some r) = record { rule = r.rule; is_broken = true; kept = r.kept; bound = r.bound } ∷ []
