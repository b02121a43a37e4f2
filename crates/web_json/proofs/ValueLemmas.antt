-- When a body has no value, how many members an object has, and the values of an array.
use Rattle.std.proofs.Common.{◌≡◌, ◌==◌, ℕ, List, [], ◌∷◌, Some, None, Bool, true, false, refl, sym, ap, ◌∙◌}
use Rattle.std.specs.Prelude.{IsUtf8, if◌then◌else◌, map}
use Rattle.std.specs.Str.{is_utf8}
use Rattle.std.proofs.lemmas.Option.{same_Some}
use Rattle.std.proofs.lemmas.Str.{IsUtf8-from_is_utf8}
use Rattle.serde_json.specs.Data.{Data, null, boolean, number, string, array, object, Items, Members}
use Rattle.serde_json.specs.Events.{members_len}
use Rattle.serde_json.specs.Find.{as_array, as_object}
use Rattle.serde_json.specs.Read.{read}
use Rattle.serde_json.specs.View.{items_of, items_view, view}
use Rattle.serde_json.specs.declared.value.Value.{Value}
use Rattle.web_json.specs.Values.{has_len, value_of, values_of}

-- a body has no value where the grammar refuses it, if it is UTF-8 at all
pub no_value : (body : List ℕ) → (IsUtf8 body → read body ≡ None) → value_of body ≡ None
no_value body h = by (is_utf8 body) refl
  where
    by : (b : Bool) → is_utf8 body ≡ b → (if b then read body else None) ≡ None
    by true e = h (IsUtf8-from_is_utf8 body e)
    by false e = refl

-- how many members an object has
pub has_len-object : (n : ℕ) (d : Data) (ms : Members) → Some ms ≡ as_object d → (members_len ms == n) ≡ has_len n d
has_len-object n null ms e = cc e
has_len-object n (boolean b) ms e = cc e
has_len-object n (number x) ms e = cc e
has_len-object n (string s) ms e = cc e
has_len-object n (array ds) ms e = cc e
has_len-object n (object os) ms e = rw (same_Some ms os e) refl

-- the values of an array, one by one
pub values_of-items_of : (ds : List Data) → values_of (items_of ds) ≡ ds
values_of-items_of [] = refl
values_of-items_of (d ∷ ds) = ap (λ xs. d ∷ xs) (values_of-items_of ds)

pub values_of-items_view : (vs : List Value) → values_of (items_view vs) ≡ map view vs
values_of-items_view vs = values_of-items_of (map view vs)
