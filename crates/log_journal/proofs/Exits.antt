-- What a clause on one variant says at an exit.
use Rattle.std.proofs.Common.{◌≡◌, Bool, true, false, Result, Ok, Err, Option, Some, None, subst}
use Rattle.std.specs.Prelude.{MatchOption, OnOk, OnErr, IfErr, MatchBool, is_err}

pub on_ok : {T E : Type 0} (r : Result T E) (P : Type 0) → is_err r ≡ false → OnOk r P → P
on_ok (Ok v) P is on = on
on_ok (Err e) P is on = absurd (let bad : ⊥ = cc in bad)

pub on_err : {T E : Type 0} (r : Result T E) (P : Type 0) → is_err r ≡ true → OnErr r P → P
on_err (Ok v) P is on = absurd (let bad : ⊥ = cc in bad)
on_err (Err e) P is on = on

pub if_err : {T E : Type 0} (r : Result T E) (P : Type 0) (Q : E → Type 0) → ((e : E) → P → Q e) → OnErr r P → IfErr r Q
if_err (Ok v) P Q to on = tt
if_err (Err e) P Q to on = to e on

pub on_ok_map : {T E : Type 0} (r : Result T E) (P Q : Type 0) → (P → Q) → OnOk r P → OnOk r Q
on_ok_map (Ok v) P Q to on = to on
on_ok_map (Err e) P Q to on = tt

pub on_true : (b : Bool) (P Q : Type 0) → b ≡ true → MatchBool b P Q → P
on_true true P Q is on = on
on_true false P Q is on = absurd (let bad : ⊥ = cc in bad)

pub on_false : (b : Bool) (P Q : Type 0) → b ≡ false → MatchBool b P Q → Q
on_false false P Q is on = on
on_false true P Q is on = absurd (let bad : ⊥ = cc in bad)

pub at_none : {T : Type 0} (o : Option T) (P : Type 0) (Q : T → Type 0) → o ≡ None → MatchOption o P Q → P
at_none None P Q is on = on
at_none (Some v) P Q is on = absurd (let bad : ⊥ = cc in bad)

same_value : {T : Type 0} (w v : T) → Some w ≡ Some v → w ≡ v
same_value w v is = cc

pub at_some : {T : Type 0} (o : Option T) (v : T) (P : Type 0) (Q : T → Type 0) → o ≡ Some v → MatchOption o P Q → Q v
at_some None v P Q is on = absurd (let bad : ⊥ = cc in bad)
at_some (Some w) v P Q is on = subst Q (same_value w v is) on

-- what holds at each outcome
pub ok_any : {T E : Type 0} (r : Result T E) (P : Type 0) → P → OnOk r P
ok_any (Ok v) P is = is
ok_any (Err e) P is = tt

pub err_any : {T E : Type 0} (r : Result T E) (Q : E → Type 0) → ((e : E) → Q e) → IfErr r Q
err_any (Ok v) Q is = tt
err_any (Err e) Q is = is e

pub on_err_any : {T E : Type 0} (r : Result T E) (P : Type 0) → P → OnErr r P
on_err_any (Ok v) P is = tt
on_err_any (Err e) P is = is
