-- What a sound table says of one of its kinds.
use Rattle.std.proofs.Common.{◌≡◌, ℕ, ◌≤◌, ◌==◌, Bool, true, false, cond, List, [], ◌∷◌, ◌++◌, find, ◌∙◌, length, Option, Some, None, refl, sym, ap, subst, rules}
use Rattle.std.specs.Prelude.{IsSome, bytes_eq, not, nat_lt, nat_le, ◌&&◌}
use Rattle.std.specs.List.{list_any}
use Rattle.std.proofs.lemmas.Bool.{and_parts, eqb-true, eq-eqb, true≢false}
use Rattle.format_table.specs.Forms.{IsTable, are_sound, is_table, most_numbers, most_of}
use Rattle.format_table.specs.Parts.{Slot}
use Rattle.format_table.specs.Tables.{KindRow, is_new, is_sound_table, kind_at, kind_named, slots_at, slots_in}

le_of : (a b : ℕ) → nat_le a b ≡ true → a ≤ b
le_of a b h = search rules

pub IsTable-by : (slots : List Slot) → is_table slots ≡ true → IsTable slots
IsTable-by slots h =
    let x = and_parts (are_sound slots) (nat_le (most_of slots) most_numbers) h in
    record { sound = x.0; few = le_of (most_of slots) most_numbers x.1 }

-- the parts of a table's test
pub record IsSoundKind (key : List Slot) (kind : KindRow) (kinds : List KindRow) : Type 0 where
  pub code : nat_lt kind.code 256 ≡ true
  pub table : IsTable (key ++ kind.slots)
  pub new : is_new kinds kind ≡ true
  pub others : is_sound_table key kinds ≡ true

pub IsSoundKind-first : (key : List Slot) (kind : KindRow) (kinds : List KindRow) → is_sound_table key (kind ∷ kinds) ≡ true → IsSoundKind key kind kinds
IsSoundKind-first key kind kinds h =
    let x = and_parts (nat_lt kind.code 256 && is_table (key ++ kind.slots) && is_new kinds kind) (is_sound_table key kinds) h in
    let y = and_parts (nat_lt kind.code 256 && is_table (key ++ kind.slots)) (is_new kinds kind) x.0 in
    let z = and_parts (nat_lt kind.code 256) (is_table (key ++ kind.slots)) y.0 in
    record { code = z.0; table = IsTable-by (key ++ kind.slots) z.1; new = y.1; others = x.1 }

some_is : (a b : KindRow) → Some a ≡ Some b → a ≡ b
some_is a b e = cc

found : (P : KindRow → Type 0) (kind x : KindRow) (rest : Option KindRow) (b : Bool) → P x → (rest ≡ Some kind → P kind) → cond b (Some x) rest ≡ Some kind → P kind
found P kind x rest true h later e = subst P (some_is x kind e) h
found P kind x rest false h later e = later e

pub IsTable-at : (key : List Slot) (kinds : List KindRow) (code : ℕ) (kind : KindRow) → is_sound_table key kinds ≡ true → kind_at kinds code ≡ Some kind → IsTable (key ++ kind.slots)
IsTable-at key [] code kind h e = absurd cc
IsTable-at key (x ∷ kinds) code kind h e =
    let s = IsSoundKind-first key x kinds h in
    found (λ k. IsTable (key ++ k.slots)) kind x (kind_at kinds code) (x.code == code) s.table (IsTable-at key kinds code kind s.others) e

-- where the code is told
pub IsTable-told : (key front : List Slot) (kinds : List KindRow) (code : ℕ) (kind : KindRow) → is_sound_table key kinds ≡ true → Some kind ≡ kind_at kinds code → front ≡ key → IsTable (front ++ kind.slots)
IsTable-told key front kinds code kind h e f = subst (λ (k : List Slot). IsTable (k ++ kind.slots)) (sym f) (IsTable-at key kinds code kind h (sym e))

in_table : (key : List Slot) (kinds : List KindRow) (code : ℕ) (kind : Option KindRow) → kind_at kinds code ≡ kind → is_sound_table key kinds ≡ true → IsSome kind → IsTable (slots_in key kind)
in_table key kinds code None e h known = absurd cc
in_table key kinds code (Some kind) e h known = IsTable-at key kinds code kind h e

pub IsTable-known : (key : List Slot) (kinds : List KindRow) (code : ℕ) → is_sound_table key kinds ≡ true → IsSome (kind_at kinds code) → IsTable (slots_at key kinds code)
IsTable-known key kinds code h known = in_table key kinds code (kind_at kinds code) refl h known

-- ---- the kind of a name
abbrev codes_at : List KindRow → ℕ → Bool
codes_at kinds code = list_any (λ (other : KindRow). other.code == code) kinds

absent_by : (x : KindRow) (kinds : List KindRow) (code : ℕ) (b : Bool) → (x.code == code) ≡ b → codes_at (x ∷ kinds) code ≡ false → (codes_at kinds code ≡ false → kind_at kinds code ≡ None)
    → cond b (Some x) (kind_at kinds code) ≡ None
absent_by x kinds code true e h more = absurd (true≢false (rw e at h))
absent_by x kinds code false e h more = more (rw e at h)

absent : (kinds : List KindRow) (code : ℕ) → codes_at kinds code ≡ false → kind_at kinds code ≡ None
absent [] code h = refl
absent (x ∷ kinds) code h = absent_by x kinds code (x.code == code) refl h (absent kinds code)

not_false : (b : Bool) → not b ≡ true → b ≡ false
not_false true h = cc
not_false false h = refl

apart : (x : KindRow) (kinds : List KindRow) (kind : KindRow) (b : Bool) → is_new kinds x ≡ true → kind_at kinds kind.code ≡ Some kind → (x.code == kind.code) ≡ b → cond b (Some x) (kind_at kinds kind.code) ≡ Some kind
apart x kinds kind true new e same =
    let codes = not_false (codes_at kinds x.code) (and_parts (not (codes_at kinds x.code)) (not (list_any (λ (other : KindRow). bytes_eq other.name x.name) kinds)) new).0 in
    let none : kind_at kinds kind.code ≡ None = ap (kind_at kinds) (sym (eqb-true x.code kind.code same)) ∙ absent kinds x.code codes in
    let no : Some kind ≡ None = sym e ∙ none in absurd cc
apart x kinds kind false new e same = e

first_at : (x : KindRow) (kinds : List KindRow) → kind_at (x ∷ kinds) x.code ≡ Some x
first_at x kinds = rw (eq-eqb x.code x.code refl) refl

by_name : (x : KindRow) (kinds : List KindRow) (name : List ℕ) (kind : KindRow) (b : Bool) → is_new kinds x ≡ true → (kind_named kinds name ≡ Some kind → kind_at kinds kind.code ≡ Some kind)
    → cond b (Some x) (kind_named kinds name) ≡ Some kind → kind_at (x ∷ kinds) kind.code ≡ Some kind
by_name x kinds name kind true new more e = subst (λ (k : KindRow). kind_at (x ∷ kinds) k.code ≡ Some k) (some_is x kind e) (first_at x kinds)
by_name x kinds name kind false new more e = apart x kinds kind (x.code == kind.code) new (more e) refl

-- the kind that a name finds is that of its code
pub named_at : (key : List Slot) (kinds : List KindRow) (name : List ℕ) (kind : KindRow) → is_sound_table key kinds ≡ true → kind_named kinds name ≡ Some kind → kind_at kinds kind.code ≡ Some kind
named_at key [] name kind h e = absurd cc
named_at key (x ∷ kinds) name kind h e =
    let s = IsSoundKind-first key x kinds h in
    by_name x kinds name kind (bytes_eq x.name name) s.new (named_at key kinds name kind s.others) e
