-- A clerk that came from one to another by asks alone.
use Rattle.std.proofs.Common.{subst, refl, List, [], ◌∷◌, ◌++◌}
use Rattle.web_session.specs.Asks.{Steps, Reaches}

pub reach_none : {C Operation Reply : Type 0} (asked : C → Operation → Reply → C → Type 0) (a : C) → Reaches asked a a
reach_none asked a = record { operations = []; replies = []; steps = refl }

pub reach_one : {C Operation Reply : Type 0} (asked : C → Operation → Reply → C → Type 0) (a : C) (operation : Operation) (reply : Reply) (b : C) → asked a operation reply b → Reaches asked a b
reach_one asked a operation reply b is = record { operations = operation ∷ []; replies = reply ∷ []; steps = (b, is, refl) }

steps_append : {C Operation Reply : Type 0} (asked : C → Operation → Reply → C → Type 0) (xs : List Operation) (rs : List Reply) (ys : List Operation) (ss : List Reply) (a b c : C) → Steps asked a xs rs b → Steps asked b ys ss c → Steps asked a (xs ++ ys) (rs ++ ss) c
steps_append asked [] [] ys ss a b c one two = subst (λ x. Steps asked x ys ss c) one two
steps_append asked [] (r ∷ rs) ys ss a b c one two = absurd one
steps_append asked (x ∷ xs) [] ys ss a b c one two = absurd one
steps_append asked (x ∷ xs) (r ∷ rs) ys ss a b c (mid, is, one) two = (mid, is, steps_append asked xs rs ys ss mid b c one two)

pub reach_more : {C Operation Reply : Type 0} (asked : C → Operation → Reply → C → Type 0) (a b c : C) → Reaches asked a b → Reaches asked b c → Reaches asked a c
reach_more asked a b c one two = record { operations = one.operations ++ two.operations; replies = one.replies ++ two.replies; steps = steps_append asked one.operations one.replies two.operations two.replies a b c one.steps two.steps }
