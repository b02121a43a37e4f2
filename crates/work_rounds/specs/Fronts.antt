-- What a file recovers while a round is planned and filed, and behind it.
use Rattle.std.specs.Prelude.{◌≡◌, ◌⊎◌, ◌++◌, ℕ, IsTrue, List}
use Rattle.io_traits.specs.DiskState.{EachImage, DiskState}
use Rattle.log_machine.specs.Scheme.{Scheme, Semantics}
use Rattle.log_machine.specs.Recovers.{Recovers}
use Rattle.log_session.specs.Asks.{after_asks}
use Rattle.log_session.specs.Edges.{Input}

-- the file recovers the list with what some of these asks in front add
abbrev pub RecoversAsked : {Entry Operation Response : Type 0} → Scheme Entry → Semantics Entry Operation Response → List Entry → List Operation → List ℕ → Type 0
RecoversAsked {Entry} {Operation} scheme semantics past operations file = (front rest : List Operation) × (operations ≡ front ++ rest) × Recovers scheme file (after_asks semantics past front)

-- The file recovers the list; or the list with what some asks in front add of those that may be planned on it, from the text of the
-- input where the source is honest, and from any where it isn't.
abbrev pub RecoversHeaded : {Entry Operation Response : Type 0} → Scheme Entry → Semantics Entry Operation Response → (List ℕ → List Entry → List ℕ → List Operation → List ℕ → Type 0) → Input → List Entry → List ℕ → Type 0
RecoversHeaded {Entry} {Operation} scheme semantics plans input past file = Recovers scheme file past
    ⊎ ((text heading : List ℕ) × (operations : List Operation) × (closing : List ℕ) × (IsTrue input.honest → text ≡ input.before) × plans text past heading operations closing × RecoversAsked scheme semantics past operations file)

-- each image recovers the list with what all asks add of those that may be planned on it
abbrev pub HeadedStands : {Entry Operation Response : Type 0} → Scheme Entry → Semantics Entry Operation Response → (List ℕ → List Entry → List ℕ → List Operation → List ℕ → Type 0) → Input → List Entry → DiskState → Type 0
HeadedStands {Entry} {Operation} scheme semantics plans input past told = (text heading : List ℕ) × (operations : List Operation) × (closing : List ℕ) × (IsTrue input.honest → text ≡ input.before) × plans text past heading operations closing
    × EachImage told (λ file. Recovers scheme file (after_asks semantics past operations))
