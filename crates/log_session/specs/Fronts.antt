-- What a file recovers while rows are planned and filed.
use Rattle.std.specs.Prelude.{◌≡◌, ◌⊎◌, ℕ, List, [], ◌∷◌, map, Err}
use Rattle.log_machine.specs.Scheme.{Scheme, Semantics}
use Rattle.log_machine.specs.Recovers.{Recovers}
use Rattle.log_machine.specs.Texts.{Texts}
use Rattle.log_session.specs.Links.{RecoversTaken}
use Rattle.log_session.specs.Asks.{rows_of_asks}

-- the file recovers the list, or the list with what some asks in front add of those that may be planned on it
abbrev pub RecoversPlanned : {Entry Operation Response Error : Type 0} → Scheme Entry → Semantics Entry Operation Response → (texts : Texts Operation Response Error) → (List Entry → List Operation → List ℕ → Type 0) → List Entry → List ℕ → Type 0
RecoversPlanned {Operation} scheme semantics texts plans past file = Recovers scheme file past
    ⊎ ((operations : List Operation) × (closing : List ℕ) × plans past operations closing × RecoversTaken scheme semantics texts past (map texts.said (rows_of_asks operations)) file)

-- behind the asks nothing is left, or a row that is no ask
abbrev pub IsEnd : {Operation Response Error : Type 0} (texts : Texts Operation Response Error) → List texts.Meaning → Type 0
IsEnd {Error} texts rest = (rest ≡ []) ⊎ ((error : Error) × (behind : List texts.Meaning) × (rest ≡ texts.said (Err error) ∷ behind))
