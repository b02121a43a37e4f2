-- What the filings of a history tell, whichever of them does.
use Rattle.std.specs.Prelude.{◌≡◌, List, Option, Some}
use Rattle.std.specs.List.{Contains}
use Rattle.aid_filings.specs.declared.filing.Filing.{Filing}

-- some filing of the history tells this
abbrev pub IsTold : {A : Type 0} → (Filing → Option A) → List Filing → A → Type 0
IsTold operation past x = (f : Filing) × Contains past f × (operation f ≡ Some x)
