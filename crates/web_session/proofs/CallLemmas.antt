-- Numbers in a range, and routes of targets.
use Rattle.std.proofs.Common.{rules, ◌≡◌, ◌∙◌, sym, ap, subst, refl, ℕ, ℤ, pos, negsuc, ◌≤ℤ◌, unsigned_abs, Bool, true, false, if◌then◌else◌, List, Some, None, Result, Err}
use Rattle.std.specs.Prelude.{IsUtf8, option_map}
use Rattle.std.specs.Str.{is_utf8}
use Rattle.std.proofs.lemmas.Str.{IsUtf8-from_is_utf8, is_utf8-from_IsUtf8}
use Rattle.matchit.specs.Rows.{RowsOf}
use Rattle.matchit.specs.Router.{RouteOf}
use Rattle.matchit.specs.Seek.{first}
use Rattle.aid_types.specs.declared.text.Malformed.{Malformed}
use Rattle.web_session.specs.declared.call.Route.{Route}
use Rattle.web_session.specs.Calls.{size_of, the_routes, route_of}

-- a number that isn't below 0 is its size
pub size_between : (low high z : ℤ) (n : ℕ) → n ≡ unsigned_abs z → pos 0 ≤ℤ low → low ≤ℤ z → z ≤ℤ high → (low ≤ℤ pos n) × (pos n ≤ℤ high)
size_between low high (pos m) n is from above below = (subst (λ (x : ℕ). low ≤ℤ pos x) (sym is) above, subst (λ (x : ℕ). pos x ≤ℤ high) (sym is) below)
size_between low high (negsuc m) n is from above below = absurd (let bad : ⊥ = search rules in bad)

pub size_none : (r : Result ℤ Malformed) (e : Malformed) → r ≡ Err e → None ≡ size_of r
size_none r e is = sym (ap size_of is)

-- a target that isn't UTF-8 has no route
pub no_text : (target : List ℕ) → ¬ (IsUtf8 target) → None ≡ route_of target
no_text target not_text =
    elim (is_utf8 target) as (λ e. is_utf8 target ≡ e → None ≡ (if e then option_map (λ (r : RouteOf Route). r.value) (first the_routes target) else None))
    [ true ↦ λ is. absurd (not_text (IsUtf8-from_is_utf8 target is)) | false ↦ λ is. refl ] refl

pub found_text : (target text : List ℕ) (rows : RowsOf (RouteOf Route)) (r : RouteOf Route) → text ≡ target → IsUtf8 target → rows ≡ the_routes → first rows text ≡ Some r → Some r.value ≡ route_of target
found_text target text rows r same is routes found =
    let at : first the_routes target ≡ Some r = ap (λ (l : List ℕ). first the_routes l) (sym same) ∙ ap (λ (x : RowsOf (RouteOf Route)). first x text) (sym routes) ∙ found in
    sym (ap (λ (e : Bool). if e then option_map (λ (r : RouteOf Route). r.value) (first the_routes target) else None) (is_utf8-from_IsUtf8 target is)
    ∙ ap (option_map (λ (r : RouteOf Route). r.value)) at)
