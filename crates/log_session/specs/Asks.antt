-- Rows that are asks, and what a list answers them. A list is read newest first.
use Rattle.std.specs.Prelude.{List, [], ◌∷◌, map, Result, Ok}
use Rattle.log_machine.specs.Scheme.{Semantics}
use Rattle.log_machine.specs.Submits.{after_ask}

-- rows that are these asks
abbrev pub rows_of_asks : {Operation Error : Type 0} → List Operation → List (Result Operation Error)
rows_of_asks operations = map (λ operation. Ok operation) operations

-- the list after these asks
abbrev pub after_asks : {Entry Operation Response : Type 0} → Semantics Entry Operation Response → List Entry → List Operation → List Entry
after_asks semantics past [] = past
after_asks semantics past (operation ∷ operations) = after_asks semantics (after_ask semantics past operation) operations

-- the answers to these asks, each on the list before it
abbrev pub answers_to : {Entry Operation Response : Type 0} → Semantics Entry Operation Response → List Entry → List Operation → List Response
answers_to semantics past [] = []
answers_to semantics past (operation ∷ operations) = semantics.answer past operation ∷ answers_to semantics (after_ask semantics past operation) operations
