-- What the errors say of a text.
use Rattle.std.proofs.Common.{◌≡◌, ℕ, zero, suc, ◌<◌, ℤ, Bool, true, false, ◌⊎◌, inl, inr, List, [], ◌∷◌, Option, Some, None, option_map, Result, Ok, Err, refl, sym, ap, ◌∙◌, subst, arith}
use Rattle.std.specs.Prelude.{◌≢◌, ◌&&◌, IfErr, IfOk, is_some, slice_get}
use Rattle.std.specs.Cmp.Lexicographic.{slice_cmp}
use Rattle.std.specs.List.{All, Contains, fold, list_all}
use Rattle.std.specs.Option.{option_or}
use Rattle.std.specs.Ordering.{match_ordering, nat_cmp, ordering_reverse}
use Rattle.std.specs.declared.cmp.Ordering.{Ordering}
use Rattle.std.specs.declared.cmp.Ordering.TheVariants.{Less, Equal, Greater}
use Rattle.std.proofs.lemmas.Bool.{and_parts}
use Rattle.std.proofs.lemmas.Cmp.{nat_list_cmp_total}
use Rattle.std.proofs.lemmas.List.Elements.{All-nil, All-cons}
use Rattle.toml.specs.Data.{Data, Members}
use Rattle.aid_books.specs.declared.book.Book.{Book}
use Rattle.format_kinds.proofs.Equal.{same_book}
use Rattle.format_kinds.specs.Book.{numbers_of}
use Rattle.format_books.specs.Causes.{IsFirst, IsLeastUnknown, IsMissing, IsNotRising, IsOutOfRange, IsWell, IsWrongKind, OfTable, is_in_range, places}
use Rattle.format_books.specs.Fields.{BookLine}
use Rattle.format_books.specs.Numbers.{numbers_in}
use Rattle.format_books.specs.Reading.{field_error, fields_error, fields_of, first_error, first_fault, has_kind, is_form_2, table_of}
use Rattle.format_books.specs.Tables.{book_break, first_break}
use Rattle.format_books.specs.Text.{numbers_if, numbers_of_table, numbers_of_text, unless}
use Rattle.format_books.specs.Unknown.{keep_lesser, lesser, unknown_key, unknown_names}
use Rattle.format_books.specs.declared.error.BookError.{BookError}
use Rattle.format_books.proofs.RisingLemmas.{row_fails}
use Rattle.format_books.specs.declared.error.BookError.TheVariants.{Missing, NoMemory, NotRising, NotToml, OutOfRange, Unknown, WrongKind}

cmp : List ℕ → List ℕ → Ordering
cmp a b = slice_cmp nat_cmp a b

not_less : (a : List ℕ) → cmp a a ≢ Less
unfolding cmp
not_less a h = let e : cmp a a ≡ ordering_reverse (cmp a a) = nat_list_cmp_total.antisymm a a in let f : Less ≡ ordering_reverse Less = subst (λ (o : Ordering). o ≡ ordering_reverse o) h e in cc

-- what is not less than the lesser of two names is less than neither
record Lower (a n x : List ℕ) : Type 0 where
  pub first : cmp a x ≢ Less
  pub second : cmp n x ≢ Less

lower : (a n x : List ℕ) → cmp (lesser a n) x ≢ Less → Lower a n x
unfolding cmp
lower a n x h = by (slice_cmp nat_cmp n a) refl h
  where
    by : (o : Ordering) → slice_cmp nat_cmp n a ≡ o → slice_cmp nat_cmp (match_ordering o n a a) x ≢ Less → Lower a n x
    by Less e k = record { first = λ l. k (nat_list_cmp_total.trans n a x e l); second = k }
    by Equal e k = record { first = k; second = λ l. k (sym (nat_list_cmp_total.congr n a x e) ∙ l) }
    by Greater e k =
        let back : slice_cmp nat_cmp a n ≡ Less = nat_list_cmp_total.antisymm a n ∙ ap ordering_reverse e in
        record { first = k; second = λ l. k (nat_list_cmp_total.trans a n x back l) }

-- one of two names
lesser_is : (a n : List ℕ) → (lesser a n ≡ a) ⊎ (lesser a n ≡ n)
lesser_is a n = by (slice_cmp nat_cmp n a)
  where
    by : (o : Ordering) → (match_ordering o n a a ≡ a) ⊎ (match_ordering o n a a ≡ n)
    by Less = inr refl
    by Equal = inl refl
    by Greater = inl refl

here : {X : Type 0} (x : X) (xs : List X) → Contains (x ∷ xs) x
here x xs = (zero, omega arith, refl)

later : {X : Type 0} (y x : X) (xs : List X) → Contains xs x → Contains (y ∷ xs) x
later y x xs c = (suc c.0, omega arith, c.2)

-- the least of some names and of the one that was kept
record IsLeast (kept : Option (List ℕ)) (names : List (List ℕ)) (x : List ℕ) : Type 0 where
  pub before : (a : List ℕ) → kept ≡ Some a → cmp a x ≢ Less
  pub all : All (λ other. cmp other x ≢ Less) names
  pub among : (kept ≡ Some x) ⊎ Contains names x

fold_least : (kept : Option (List ℕ)) (names : List (List ℕ)) (x : List ℕ) → fold keep_lesser kept names ≡ Some x → IsLeast kept names x
fold_least kept [] x h =
    record { before = λ a e. let same : a ≡ x = cc in subst (λ (z : List ℕ). cmp z x ≢ Less) (sym same) (not_less x); all = All-nil (λ other. cmp other x ≢ Less); among = inl h }
fold_least None (n ∷ names) x h =
    let rest = fold_least (Some n) names x h in
    record {
      before = λ a e. cc;
      all = All-cons (λ other. cmp other x ≢ Less) n names (rest.before n refl) rest.all;
      among = elim rest.among [ inl e ↦ inr (let same : n ≡ x = cc in subst (λ (z : List ℕ). Contains (z ∷ names) x) (sym same) (here x names)) | inr c ↦ inr (later n x names c) ];
    }
fold_least (Some k) (n ∷ names) x h =
    let rest = fold_least (Some (lesser k n)) names x h in
    let both = lower k n x (rest.before (lesser k n) refl) in
    record {
      before = λ a e. let same : k ≡ a = cc in subst (λ (z : List ℕ). cmp z x ≢ Less) same both.first;
      all = All-cons (λ other. cmp other x ≢ Less) n names both.second rest.all;
      among = elim rest.among [
        | inl e ↦ elim (lesser_is k n) [ inl f ↦ inl (ap Some (sym f) ∙ e) | inr f ↦ inr (let same : n ≡ x = cc in subst (λ (z : List ℕ). Contains (z ∷ names) x) (sym same) (here x names)) ]
        | inr c ↦ inr (later n x names c)
      ];
    }

pub least_unknown : (t : Members) (name : List ℕ) → unknown_key t ≡ Some name → IsLeastUnknown t name
unfolding cmp
least_unknown t name h =
    let all = fold_least None (unknown_names (is_form_2 t) t) name h in
    record { unknown = elim all.among [ inl e ↦ cc | inr c ↦ c ]; least = all.all }

-- ---- places of a field
all_pass : {X : Type 0} (p : X → Bool) (xs : List X) → list_all p xs ≡ true → All (λ x. p x ≡ true) xs
all_pass p [] h = All-nil (λ x. p x ≡ true)
all_pass p (x ∷ xs) h =
    let both = and_parts (p x) (list_all p xs) h in
    All-cons (λ y. p y ≡ true) x xs both.0 (all_pass p xs both.1)

-- one of some that doesn't pass
record Fails {X : Type 0} (p : X → Bool) (xs : List X) : Type 0 where
  one : X
  among : Contains xs one
  fails : p one ≡ false

one_fails : {X : Type 0} (p : X → Bool) (xs : List X) → list_all p xs ≡ false → Fails p xs
one_fails p [] h = cc
one_fails p (x ∷ xs) h = by (p x) refl h (one_fails p xs)
  where
    by : (b : Bool) → p x ≡ b → (b && list_all p xs) ≡ false → (list_all p xs ≡ false → Fails p xs) → Fails p (x ∷ xs)
    by true e k more = let rest = more k in record { one = rest.one; among = later x rest.one xs rest.among; fails = rest.fails }
    by false e k more = record { one = x; among = here x xs; fails = e }

none_among : (os : List (Option Data)) → list_all is_some os ≡ false → Contains os None
none_among [] h = cc
none_among (None ∷ os) h = here None os
none_among (Some d ∷ os) h = later (Some d) None os (none_among os h)

-- ---- the error of a field, by the tests of its places
no_fault : (n : ℕ) (a b c : Bool) → first_fault n a b c ≡ None → (b ≡ true) × (c ≡ true)
no_fault n true true true h = (refl, refl)
no_fault n true true false h = cc
no_fault n true false c h = cc
no_fault n false b c h = cc

missing_fault : (n field : ℕ) (a b c : Bool) → first_fault n a b c ≡ Some (Missing field) → (n ≡ field) × (a ≡ false)
missing_fault n field true true true h = cc
missing_fault n field true true false h = cc
missing_fault n field true false c h = cc
missing_fault n field false b c h = (cc, refl)

kind_fault : (n field : ℕ) (a b c : Bool) → first_fault n a b c ≡ Some (WrongKind field) → (n ≡ field) × (a ≡ true) × (b ≡ false)
kind_fault n field true true true h = cc
kind_fault n field true true false h = cc
kind_fault n field true false c h = (cc, refl, refl)
kind_fault n field false b c h = cc

range_fault : (n field : ℕ) (a b c : Bool) → first_fault n a b c ≡ Some (OutOfRange field) → (n ≡ field) × (b ≡ true) × (c ≡ false)
range_fault n field true true true h = cc
range_fault n field true true false h = (cc, refl, refl)
range_fault n field true false c h = cc
range_fault n field false b c h = cc

no_other_fault : (n : ℕ) (a b c : Bool) (e : BookError) → ((field : ℕ) → Missing field ≢ e) → ((field : ℕ) → WrongKind field ≢ e) → ((field : ℕ) → OutOfRange field ≢ e) → first_fault n a b c ≢ Some e
no_other_fault n true true true e m k r h = cc
no_other_fault n true true false e m k r h = r n (cc)
no_other_fault n true false c e m k r h = k n (cc)
no_other_fault n false b c e m k r h = m n (cc)

-- the tests of a field's places
abbrev are_there : BookLine → Members → Bool
are_there f t = list_all is_some (places f t)

abbrev are_of_kind : BookLine → Members → Bool
are_of_kind f t = list_all (has_kind f.kind) (places f t)

abbrev are_in_range : BookLine → Members → Bool
are_in_range f t = list_all (is_in_range f t) (places f t)

is_well : (f : BookLine) (t : Members) → field_error f t ≡ None → IsWell f t
is_well f t h =
    let both = no_fault f.number (are_there f t) (are_of_kind f t) (are_in_range f t) h in
    record { kind = all_pass (has_kind f.kind) (places f t) both.0; range = all_pass (is_in_range f t) (places f t) both.1 }

-- ---- the field that has the first error
record HasError (fs : List BookLine) (t : Members) (e : BookError) : Type 0 where
  pub before : ℕ
  pub field : BookLine
  pub here : slice_get fs before ≡ Some field
  pub is : field_error field t ≡ Some e
  pub earlier : (k : ℕ) (f : BookLine) → k < before → slice_get fs k ≡ Some f → field_error f t ≡ None

has_error : (fs : List BookLine) (t : Members) (e : BookError) → first_error fs t ≡ Some e → HasError fs t e
has_error [] t e h = cc
has_error (f ∷ fs) t e h = by (field_error f t) refl h (has_error fs t e)
  where
    first : field_error f t ≡ None → (rest : HasError fs t e) → (k : ℕ) (g : BookLine) → k < suc rest.before → slice_get (f ∷ fs) k ≡ Some g → field_error g t ≡ None
    first none rest zero g l is = let same : f ≡ g = cc in subst (λ (x : BookLine). field_error x t ≡ None) same none
    first none rest (suc k) g l is = rest.earlier k g (omega arith) is

    by : (o : Option BookError) → field_error f t ≡ o → option_or o (first_error fs t) ≡ Some e → (first_error fs t ≡ Some e → HasError fs t e) → HasError (f ∷ fs) t e
    by None none k rest = let at = rest k in record { before = suc at.before; field = at.field; here = at.here; is = at.is; earlier = first none at }
    by (Some x) is k rest = record { before = zero; field = f; here = refl; is = is ∙ k; earlier = λ n g l at. absurd (omega (arith, l)) }

is_first : (t : Members) (e : BookError) (field : ℕ) (at : HasError (fields_of t) t e) → at.field.number ≡ field → IsFirst t field at.field
is_first t e field at n = record { before = at.before; here = at.here; number = n; earlier = λ k g l is. is_well g t (at.earlier k g l is) }

fields_missing : (t : Members) (field : ℕ) → fields_error t ≡ Some (Missing field) → IsMissing t field
unfolding fields_error
fields_missing t field h =
    let at = has_error (fields_of t) t (Missing field) h in
    let f = at.field in
    let told = missing_fault f.number field (are_there f t) (are_of_kind f t) (are_in_range f t) at.is in
    record { missing = f; first = is_first t (Missing field) field at told.0; empty = none_among (places f t) told.1 }

fields_wrong : (t : Members) (field : ℕ) → fields_error t ≡ Some (WrongKind field) → IsWrongKind t field
unfolding fields_error
fields_wrong t field h =
    let at = has_error (fields_of t) t (WrongKind field) h in
    let f = at.field in
    let told = kind_fault f.number field (are_there f t) (are_of_kind f t) (are_in_range f t) at.is in
    let one = one_fails (has_kind f.kind) (places f t) told.2 in
    record { wrong = f; first = is_first t (WrongKind field) field at told.0; there = all_pass is_some (places f t) told.1; place = one.one; stands = one.among; other = one.fails }

fields_outside : (t : Members) (field : ℕ) → fields_error t ≡ Some (OutOfRange field) → IsOutOfRange t field
unfolding fields_error
fields_outside t field h =
    let at = has_error (fields_of t) t (OutOfRange field) h in
    let f = at.field in
    let told = range_fault f.number field (are_there f t) (are_of_kind f t) (are_in_range f t) at.is in
    let one = one_fails (is_in_range f t) (places f t) told.2 in
    record { outside = f; first = is_first t (OutOfRange field) field at told.0; kind = all_pass (has_kind f.kind) (places f t) told.1; place = one.one; stands = one.among; other = one.fails }

no_other_error : (t : Members) (e : BookError) → ((field : ℕ) → Missing field ≢ e) → ((field : ℕ) → WrongKind field ≢ e) → ((field : ℕ) → OutOfRange field ≢ e) → fields_error t ≢ Some e
unfolding fields_error
no_other_error t e m k r h =
    let at = has_error (fields_of t) t e h in
    let f = at.field in
    no_other_fault f.number (are_there f t) (are_of_kind f t) (are_in_range f t) e m k r at.is

-- fields without an error are well
both_none : (a b : Option BookError) → option_or a b ≡ None → (a ≡ None) × (b ≡ None)
both_none None b h = (refl, h)
both_none (Some x) b h = cc

are_well : (fs : List BookLine) (t : Members) → first_error fs t ≡ None → (k : ℕ) (f : BookLine) → slice_get fs k ≡ Some f → IsWell f t
are_well [] t h zero f is = cc
are_well [] t h (suc k) f is = cc
are_well (g ∷ fs) t h zero f is =
    let same : g ≡ f = cc in
    subst (λ (x : BookLine). IsWell x t) same (is_well g t (both_none (field_error g t) (first_error fs t) h).0)
are_well (g ∷ fs) t h (suc k) f is = are_well fs t (both_none (field_error g t) (first_error fs t) h).1 k f is

fields_are_well : (t : Members) → fields_error t ≡ None → (k : ℕ) (f : BookLine) → slice_get (fields_of t) k ≡ Some f → IsWell f t
unfolding fields_error
fields_are_well t h = are_well (fields_of t) t h

-- ---- the first error of a table is that of its fields, a row that fails, or an unknown key
data Origin (t : Members) (e : BookError) : Type 0 where
  of_field : fields_error t ≡ Some e → Origin t e
  of_row : fields_error t ≡ None → book_break t ≡ Some e → Origin t e
  of_key : (name : List ℕ) → unknown_key t ≡ Some name → e ≡ Unknown name → Origin t e

break_is : (a b c : Option ℕ) (e : BookError) → first_break a b c ≡ Some e → (table : ℕ) × (row : ℕ) × (e ≡ NotRising table row)
break_is (Some x) b c e h = (1, x, cc)
break_is None (Some x) c e h = (2, x, cc)
break_is None None (Some x) e h = (3, x, cc)
break_is None None None e h = cc

origin : (t : Members) (e : BookError) → numbers_of_table t ≡ Err e → Origin t e
origin t e h = fields (fields_error t) refl h
  where
    known : (o : Option (List ℕ)) → unknown_key t ≡ o → unless (option_map Unknown o) (Ok (numbers_in t)) ≡ Err e → Origin t e
    known None is k = absurd cc
    known (Some name) is k = of_key name is cc

    broken : fields_error t ≡ None → (o : Option BookError) → book_break t ≡ o → unless o (unless (option_map Unknown (unknown_key t)) (Ok (numbers_in t))) ≡ Err e → Origin t e
    broken none None is k = known (unknown_key t) refl k
    broken none (Some x) is k = let same : x ≡ e = cc in of_row none (is ∙ ap Some same)

    fields : (o : Option BookError) → fields_error t ≡ o → unless o (unless (book_break t) (unless (option_map Unknown (unknown_key t)) (Ok (numbers_in t)))) ≡ Err e → Origin t e
    fields None is k = broken is (book_break t) refl k
    fields (Some x) is k = let same : x ≡ e = cc in of_field (is ∙ ap Some same)

-- an error of a field's
field_is : (t : Members) (e : BookError) → ((table row : ℕ) → NotRising table row ≢ e) → ((name : List ℕ) → Unknown name ≢ e) → numbers_of_table t ≡ Err e → fields_error t ≡ Some e
field_is t e r u h = elim (origin t e h) [
  | of_field is ↦ is
  | of_row none is ↦ let row = break_is _ _ _ e is in absurd (r row.0 row.1 (sym row.2))
  | of_key name is q ↦ absurd (u name (sym q))
]

table_missing : (t : Members) (field : ℕ) → numbers_of_table t ≡ Err (Missing field) → IsMissing t field
table_missing t field h = fields_missing t field (field_is t (Missing field) (λ table row q. cc) (λ name q. cc) h)

table_wrong : (t : Members) (field : ℕ) → numbers_of_table t ≡ Err (WrongKind field) → IsWrongKind t field
table_wrong t field h = fields_wrong t field (field_is t (WrongKind field) (λ table row q. cc) (λ name q. cc) h)

table_outside : (t : Members) (field : ℕ) → numbers_of_table t ≡ Err (OutOfRange field) → IsOutOfRange t field
table_outside t field h = fields_outside t field (field_is t (OutOfRange field) (λ table row q. cc) (λ name q. cc) h)

table_not_rising : (t : Members) (table row : ℕ) → numbers_of_table t ≡ Err (NotRising table row) → IsNotRising t table row
table_not_rising t table row h = elim (origin t (NotRising table row) h) [
  | of_field is ↦ absurd (no_other_error t (NotRising table row) (λ field q. cc) (λ field q. cc) (λ field q. cc) is)
  | of_row none is ↦ record { fields = fields_are_well t none; fails = row_fails t table row is }
  | of_key name is q ↦ absurd cc
]

table_unknown : (t : Members) (name : List ℕ) → numbers_of_table t ≡ Err (Unknown name) → IsLeastUnknown t name
table_unknown t name h = elim (origin t (Unknown name) h) [
  | of_field is ↦ absurd (no_other_error t (Unknown name) (λ field q. cc) (λ field q. cc) (λ field q. cc) is)
  | of_row none is ↦ let row = break_is _ _ _ (Unknown name) is in absurd (let q = row.2 in cc)
  | of_key key is q ↦ let same : key ≡ name = cc in least_unknown t name (is ∙ ap Some same)
]

-- ---- of a text, which has a table
pub of_table : (P : Members → Type 0) (text : List ℕ) (e : BookError) → NotToml ≢ e → ((t : Members) → numbers_of_table t ≡ Err e → P t) → numbers_of_text text ≡ Err e → OfTable P text
of_table P text e toml holds h = by (table_of text) refl h
  where
    by : (o : Option Members) → table_of text ≡ o → numbers_if o ≡ Err e → OfTable P text
    by None is k = absurd (toml cc)
    by (Some t) is k = (t, is, holds t k)

pub text_missing : (text : List ℕ) (field : ℕ) → numbers_of_text text ≡ Err (Missing field) → OfTable (λ t. IsMissing t field) text
text_missing text field h = of_table (λ t. IsMissing t field) text (Missing field) (λ q. cc) (λ t k. table_missing t field k) h

pub text_wrong : (text : List ℕ) (field : ℕ) → numbers_of_text text ≡ Err (WrongKind field) → OfTable (λ t. IsWrongKind t field) text
text_wrong text field h = of_table (λ t. IsWrongKind t field) text (WrongKind field) (λ q. cc) (λ t k. table_wrong t field k) h

pub text_outside : (text : List ℕ) (field : ℕ) → numbers_of_text text ≡ Err (OutOfRange field) → OfTable (λ t. IsOutOfRange t field) text
text_outside text field h = of_table (λ t. IsOutOfRange t field) text (OutOfRange field) (λ q. cc) (λ t k. table_outside t field k) h

pub text_not_rising : (text : List ℕ) (table row : ℕ) → numbers_of_text text ≡ Err (NotRising table row) → OfTable (λ t. IsNotRising t table row) text
text_not_rising text table row h = of_table (λ t. IsNotRising t table row) text (NotRising table row) (λ q. cc) (λ t k. table_not_rising t table row k) h

pub text_unknown : (text name : List ℕ) → numbers_of_text text ≡ Err (Unknown name) → OfTable (λ t. IsLeastUnknown t name) text
text_unknown text name h = of_table (λ t. IsLeastUnknown t name) text (Unknown name) (λ q. cc) (λ t k. table_unknown t name k) h

-- what the two first clauses of a text's book say of the others
pub only_one : (r : Result Book BookError) (text : List ℕ) → IfOk r (λ b. numbers_of_text text ≡ Ok (numbers_of b)) → IfOk r (λ b. (other : Book) → numbers_of_text text ≡ Ok (numbers_of other) → other ≡ b)
only_one (Ok b) text h = λ other e. same_book other b (let same = sym e ∙ h in cc)
only_one (Err e) text h = tt

pub error_of : (r : Result Book BookError) (text : List ℕ) (e : BookError) → IfErr r (λ e. e ≢ NoMemory → numbers_of_text text ≡ Err e) → e ≢ NoMemory → r ≡ Err e → numbers_of_text text ≡ Err e
error_of (Ok b) text e h other is = cc
error_of (Err x) text e h other is = let same : x ≡ e = cc in h (λ q. other (sym same ∙ q)) ∙ ap Err same
