-- Items in order, each once.
use Rattle.std.specs.Prelude.{List, [], ◌∷◌}
use Rattle.std.specs.declared.cmp.Ordering.{Ordering}
use Rattle.std.specs.declared.cmp.Ordering.TheVariants.{Less, Equal, Greater}

-- an item before the first of others, in its place, or behind it
abbrev pub placed_by : {K : Type 0} → Ordering → K → K → List K → List K → List K
placed_by Less k x xs behind = k ∷ x ∷ xs
placed_by Equal k x xs behind = x ∷ xs
placed_by Greater k x xs behind = x ∷ behind

-- an item in its place among items in order, once
abbrev pub placed : {K : Type 0} → (K → K → Ordering) → K → List K → List K
placed cmp k [] = k ∷ []
placed cmp k (x ∷ xs) = placed_by (cmp k x) k x xs (placed cmp k xs)

-- the items in order, each once: `rises` of proofs/InOrder says that the list rises strictly, and `exactly` of proofs/Exactly that it has these and no others
abbrev pub in_order : {K : Type 0} → (K → K → Ordering) → List K → List K
in_order cmp [] = []
in_order cmp (k ∷ ks) = placed cmp k (in_order cmp ks)
