-- That a draft whose numbers were all put has the numbers of a filing of its kind.
use Rattle.std.proofs.Common.{◌≡◌, ◌==◌, ◌+◌, arith, ℕ, ℤ, pos, not, List, [], ◌∷◌, ◌++◌, length, codes, Some, None, Option, Bool, true, false, refl, sym, ap, subst, ◌∙◌, append_assoc}
use Rattle.std.proofs.lemmas.List.{append-nil, length-map, reverse-append}
use Rattle.std.proofs.lemmas.Option.{same_Some}
use Rattle.std.specs.Prelude.{◌&&◌, if◌then◌else◌, is_some, map, option_and_then, option_map, reverse, slice_get, IsTrue}
use Rattle.std.specs.List.{list_all}
use Rattle.serde_json.specs.Data.{Data}
use Rattle.serde_json.specs.Find.{as_str, get}
use Rattle.format_table.specs.Draft.{Progress, accepts, onward}
use Rattle.format_kinds.specs.Kinds.{kind_named, slots_of_kind, table_row_of}
use Rattle.format_table.specs.Layout.{AreNumbers, after}
use Rattle.format_table.specs.Limits.{fits}
use Rattle.format_table.specs.Parts.{Line, Slot, slot_of, slots_of}
use Rattle.format_table.specs.declared.field.Part.{Part}
use Rattle.format_kinds.specs.declared.kind.Kind.{Kind}
use Rattle.web_json.specs.Drafts.{put_all, put_said}
use Rattle.web_json.specs.Bodies.{are_numbers, fields_of, filing_by_fields, filing_in, filing_of_kind, has_bodies, keys_of, kind_in, within}
use Rattle.web_json.specs.Values.{has_all, has_exactly, has_len, joined, member_said, numbers_said}
use Rattle.web_json.proofs.DraftLemmas.{put_all-append, put_joined}

-- the test of numbers is the fact
pub are_numbers-AreNumbers : (slots : List Slot) (earlier zs : List ℤ) → are_numbers slots earlier zs ≡ true → AreNumbers slots earlier zs
are_numbers-AreNumbers [] earlier [] h = tt
are_numbers-AreNumbers [] earlier (z ∷ zs) h = absurd cc
are_numbers-AreNumbers (slot ∷ slots) earlier [] h = absurd cc
are_numbers-AreNumbers (slot ∷ slots) earlier (z ∷ zs) h = by (fits slot.line.limit earlier z) refl h (are_numbers-AreNumbers (after (slot ∷ slots) z) (z ∷ earlier) zs)
  where
    by : (b : Bool) → fits slot.line.limit earlier z ≡ b → (b && are_numbers (after (slot ∷ slots) z) (z ∷ earlier) zs) ≡ true
        → (are_numbers (after (slot ∷ slots) z) (z ∷ earlier) zs ≡ true → AreNumbers (after (slot ∷ slots) z) (z ∷ earlier) zs)
        → IsTrue (fits slot.line.limit earlier z) × AreNumbers (after (slot ∷ slots) z) (z ∷ earlier) zs
    by true e h more = (e, more h)
    by false e h more = absurd cc

-- nothing is to come behind numbers that were put
abbrev pub is_done : List Slot → Bool
is_done [] = true
is_done (slot ∷ slots) = false

abbrev pub are_done : Option Progress → Bool
are_done None = false
are_done (Some p) = is_done p.slots

abbrev pub started : List Slot → List ℤ → Progress
started slots earlier = record { slots = slots; earlier = earlier }

pub are_numbers-put : (slots : List Slot) (earlier zs : List ℤ) → are_numbers slots earlier zs ≡ are_done (put_all zs (started slots earlier))
are_numbers-put [] earlier [] = refl
are_numbers-put [] earlier (z ∷ zs) = refl
are_numbers-put (slot ∷ slots) earlier [] = refl
are_numbers-put (slot ∷ slots) earlier (z ∷ zs) = by (are_numbers-put (after (slot ∷ slots) z) (z ∷ earlier) zs) (fits slot.line.limit earlier z)
  where
    by : are_numbers (after (slot ∷ slots) z) (z ∷ earlier) zs ≡ are_done (put_all zs (started (after (slot ∷ slots) z) (z ∷ earlier)))
        → (b : Bool) → (b && are_numbers (after (slot ∷ slots) z) (z ∷ earlier) zs) ≡ are_done (if b then put_all zs (started (after (slot ∷ slots) z) (z ∷ earlier)) else None)
    by h true = h
    by h false = refl

-- the numbers of a draft are those that were put behind those before
reverse_next : (z : ℤ) (earlier zs : List ℤ) → reverse (z ∷ earlier) ++ zs ≡ reverse earlier ++ (z ∷ zs)
reverse_next z earlier zs = ap (λ (l : List ℤ). l ++ zs) (reverse-append (z ∷ []) earlier) ∙ append_assoc (reverse earlier) (z ∷ []) zs

pub put_numbers : (zs : List ℤ) (p q : Progress) → put_all zs p ≡ Some q → reverse q.earlier ≡ reverse p.earlier ++ zs
put_numbers [] p q h = ap (λ (r : Progress). reverse r.earlier) (same_Some q p (sym h)) ∙ sym (append-nil (reverse p.earlier))
put_numbers (z ∷ zs) p q h = by (accepts p z) (put_numbers zs (onward p z) q) h
  where
    by : (b : Bool) → (put_all zs (onward p z) ≡ Some q → reverse q.earlier ≡ reverse (z ∷ p.earlier) ++ zs)
        → (if b then put_all zs (onward p z) else None) ≡ Some q → reverse q.earlier ≡ reverse p.earlier ++ (z ∷ zs)
    by true more h = more h ∙ reverse_next z p.earlier zs
    by false more h = absurd cc

-- ---- a draft of a kind
-- those whose fields all have numbers
abbrev pub done_only : Option Progress → Option Progress
done_only None = None
done_only (Some p) = if is_done p.slots then Some p else None

abbrev pub numbers_in : Kind → Progress → Kind × List ℤ
numbers_in kind p = (kind, reverse p.earlier)

-- numbers within their limits are those of such a draft
within_put : (kind : Kind) (zs : List ℤ) → within kind zs ≡ option_map (numbers_in kind) (done_only (put_all zs (started (slots_of_kind kind) [])))
within_put kind zs = ap (λ b. if b then Some (kind, zs) else None) (are_numbers-put (slots_of_kind kind) [] zs) ∙ by (put_all zs (started (slots_of_kind kind) [])) refl
  where
    by : (o : Option Progress) → put_all zs (started (slots_of_kind kind) []) ≡ o → (if are_done o then Some (kind, zs) else None) ≡ option_map (numbers_in kind) (done_only o)
    by None e = refl
    by (Some q) e = of_done q (is_done q.slots) (put_numbers zs (started (slots_of_kind kind) []) q e)
      where
        of_done : (q : Progress) (b : Bool) → reverse q.earlier ≡ zs → (if b then Some (kind, zs) else None) ≡ option_map (numbers_in kind) (if b then Some q else None)
        of_done q true h = ap (λ (l : List ℤ). Some (kind, l)) (sym h)
        of_done q false h = refl

none_done : (kind : Kind) (o : Option Progress) → None ≡ option_map (numbers_in kind) (done_only (option_and_then (put_said None) o))
none_done kind None = refl
none_done kind (Some p) = refl

-- the filing of a kind is the draft of the school's number and of those that are said
pub drafted : (kind : Kind) (school : ℤ) (zs : Option (List ℤ))
    → option_and_then (λ zs. within kind (school ∷ zs)) zs
    ≡ option_map (numbers_in kind) (done_only (option_and_then (put_said zs) (put_all (school ∷ []) (started (slots_of_kind kind) []))))
drafted kind school None = none_done kind (put_all (school ∷ []) (started (slots_of_kind kind) []))
drafted kind school (Some zs) =
    within_put kind (school ∷ zs) ∙ ap (λ o. option_map (numbers_in kind) (done_only o)) (put_all-append (school ∷ []) zs (started (slots_of_kind kind) []))

-- the same of a draft that has begun
pub drafted_from : (kind : Kind) (school : ℤ) (zs : Option (List ℤ)) (p : Progress) (o : Option Progress) → p.slots ≡ slots_of_kind kind → p.earlier ≡ []
    → o ≡ option_and_then (put_said zs) (put_all (school ∷ []) p)
    → option_map (numbers_in kind) (done_only o) ≡ option_and_then (λ zs. within kind (school ∷ zs)) zs
drafted_from kind school zs p o slots none is =
    let begun : p ≡ started (slots_of_kind kind) [] = λ i. record { slots = slots i; earlier = none i } in
    ap (λ o. option_map (numbers_in kind) (done_only o)) (is ∙ ap (λ p. option_and_then (put_said zs) (put_all (school ∷ []) p)) begun) ∙ sym (drafted kind school zs)

-- numbers within their limits are those of a filing
abbrev pub filed : Kind → List ℤ → Option (Kind × List ℤ)
filed kind zs = Some (kind, zs)

abbrev pub not_filed : Option (Kind × List ℤ)
not_filed = None

numbers_filed : Option (Kind × List ℤ) → List ℤ
numbers_filed None = []
numbers_filed (Some x) = x.1

within-are : (kind : Kind) (zs : List ℤ) (x : List ℤ) (b : Bool) → are_numbers (slots_of_kind kind) [] zs ≡ b → filed kind x ≡ (if b then filed kind zs else None)
    → AreNumbers (slots_of_kind kind) [] x
unfolding numbers_filed
within-are kind zs x true e h = subst (AreNumbers (slots_of_kind kind) []) (sym (ap numbers_filed h)) (are_numbers-AreNumbers (slots_of_kind kind) [] zs e)
within-are kind zs x false e h = absurd cc

pub filing-are : (kind : Kind) (school : ℤ) (zs : Option (List ℤ)) (x : List ℤ) → filed kind x ≡ option_and_then (λ zs. within kind (school ∷ zs)) zs → AreNumbers (slots_of_kind kind) [] x
filing-are kind school None x h = absurd cc
filing-are kind school (Some zs) x h = within-are kind (school ∷ zs) x (are_numbers (slots_of_kind kind) [] (school ∷ zs)) refl h

-- ---- the fields of a filing, part by part
-- those of two lists of fields
pub put_fields : (slots more : List Slot) (d : Data) (p : Progress) → put_said (numbers_said (slots ++ more) d) p ≡ option_and_then (put_said (numbers_said more d)) (put_said (numbers_said slots d) p)
put_fields [] more d p = refl
put_fields (slot ∷ slots) more d p =
    let first = option_and_then (member_said slot.first slot.line.form) (get slot.line.name d) in
    put_joined first (numbers_said (slots ++ more) d) p
    ∙ by (put_said first p) (put_fields slots more d)
    ∙ ap (option_and_then (put_said (numbers_said more d))) (sym (put_joined first (numbers_said slots d) p))
  where
    by : (o : Option Progress) → ((p : Progress) → put_said (numbers_said (slots ++ more) d) p ≡ option_and_then (put_said (numbers_said more d)) (put_said (numbers_said slots d) p))
        → option_and_then (put_said (numbers_said (slots ++ more) d)) o ≡ option_and_then (put_said (numbers_said more d)) (option_and_then (put_said (numbers_said slots d)) o)
    by None h = refl
    by (Some q) h = h q

-- ---- the keys
-- each key stands where each field says its numbers
keys_stand : (slots : List Slot) (d : Data) (zs : List ℤ) → numbers_said slots d ≡ Some zs → list_all (λ key. is_some (get key d)) (map (λ slot. slot.line.name) slots) ≡ true
keys_stand [] d zs h = refl
keys_stand (slot ∷ slots) d zs h = by (get slot.line.name d) (numbers_said slots d) refl (keys_stand slots d) h
  where
    by : (v : Option Data) (more : Option (List ℤ)) → numbers_said slots d ≡ more
        → ((ys : List ℤ) → numbers_said slots d ≡ Some ys → list_all (λ key. is_some (get key d)) (map (λ slot. slot.line.name) slots) ≡ true)
        → joined (option_and_then (member_said slot.first slot.line.form) v) more ≡ Some zs
        → (is_some v && list_all (λ key. is_some (get key d)) (map (λ slot. slot.line.name) slots)) ≡ true
    by None more e all h = absurd cc
    by (Some x) None e all h = absurd (no_more (member_said slot.first slot.line.form x) zs h)
      where
        no_more : (o : Option (List ℤ)) (zs : List ℤ) → joined o None ≡ Some zs → ⊥
        no_more None zs h = cc
        no_more (Some xs) zs h = cc
    by (Some x) (Some ys) e all h = all ys e

-- a value that has the kind's name, each field and so many members has the kind's keys and no others
pub exactly : (kind : Kind) (d : Data) (n : ℕ) (zs : Option (List ℤ)) (school : ℤ) (b : Bool) → is_some (get (codes "kind") d) ≡ true → n ≡ length (keys_of kind) → has_len n d ≡ b → numbers_said (fields_of kind) d ≡ zs
    → (if has_exactly (keys_of kind) d then option_and_then (λ zs. within kind (school ∷ zs)) zs else None) ≡ (if b then option_and_then (λ zs. within kind (school ∷ zs)) zs else None)
exactly kind d n zs school false named many len said =
    ap (λ (x : Bool). if x && has_all (keys_of kind) d then option_and_then (λ zs. within kind (school ∷ zs)) zs else None) (ap (λ (k : ℕ). has_len k d) (sym many) ∙ len)
exactly kind d n None school true named many len said = either (has_exactly (keys_of kind) d)
  where
    either : (x : Bool) → (if x then not_filed else not_filed) ≡ not_filed
    either true = refl
    either false = refl
exactly kind d n (Some zs) school true named many len said =
    ap (λ (x : Bool). if x && has_all (keys_of kind) d then within kind (school ∷ zs) else None) (ap (λ (k : ℕ). has_len k d) (sym many) ∙ len)
    ∙ ap (λ (x : Bool). if x && list_all (λ key. is_some (get key d)) (map (λ slot. slot.line.name) (fields_of kind)) then within kind (school ∷ zs) else None) named
    ∙ ap (λ (x : Bool). if x then within kind (school ∷ zs) else None) (keys_stand (fields_of kind) d zs said)

-- ---- what the calls put
-- a number, those of some fields and those of more
put_after : (first more : List Slot) (d : Data) (o : Option Progress)
    → option_and_then (put_said (numbers_said more d)) (option_and_then (put_said (numbers_said first d)) o) ≡ option_and_then (put_said (numbers_said (first ++ more) d)) o
put_after first more d None = refl
put_after first more d (Some p) = sym (put_fields first more d p)

pub put_three : (first more whole : List Slot) (d : Data) (y school : ℤ) (start : Progress) (one two three : Option Progress) → first ++ more ≡ whole → y ≡ school
    → one ≡ put_all (y ∷ []) start → two ≡ option_and_then (put_said (numbers_said first d)) one → three ≡ option_and_then (put_said (numbers_said more d)) two
    → three ≡ option_and_then (put_said (numbers_said whole d)) (put_all (school ∷ []) start)
put_three first more whole d y school start one two three fields same a b c =
    c ∙ ap (option_and_then (put_said (numbers_said more d))) b ∙ put_after first more d one
    ∙ ap (λ (w : List Slot). option_and_then (put_said (numbers_said w d)) one) fields
    ∙ ap (option_and_then (put_said (numbers_said whole d))) (a ∙ ap (λ (z : ℤ). put_all (z ∷ []) start) same)

-- whether a field is to come
pub next_done : {A : Type 0} (f : A → Line) (o : Option A) (slots : List Slot) → option_map f o ≡ option_map (λ slot. slot.line) (slice_get slots 0) → is_done slots ≡ not (is_some o)
next_done f None [] h = refl
next_done f None (slot ∷ slots) h = absurd cc
next_done f (Some x) [] h = absurd cc
next_done f (Some x) (slot ∷ slots) h = refl

-- a draft to which no field is to come has the filing of its kind, and one to which a field is to come has none
pub has_filing : (kind : Kind) (school : ℕ) (d : Data) (p q : Progress) → p.slots ≡ slots_of_kind kind → p.earlier ≡ []
    → Some q ≡ option_and_then (put_said (numbers_said (fields_of kind) d)) (put_all (pos school ∷ []) p) → is_done q.slots ≡ true
    → Some (kind, reverse q.earlier) ≡ filing_by_fields school d kind
has_filing kind school d p q slots none is done =
    sym (ap (λ (b : Bool). option_map (numbers_in kind) (if b then Some q else None)) done)
    ∙ drafted_from kind (pos school) (numbers_said (fields_of kind) d) p (Some q) slots none is

pub has_none : (kind : Kind) (school : ℕ) (d : Data) (p q : Progress) → p.slots ≡ slots_of_kind kind → p.earlier ≡ []
    → Some q ≡ option_and_then (put_said (numbers_said (fields_of kind) d)) (put_all (pos school ∷ []) p) → is_done q.slots ≡ false
    → None ≡ filing_by_fields school d kind
has_none kind school d p q slots none is done =
    sym (ap (λ (b : Bool). option_map (numbers_in kind) (if b then Some q else None)) done)
    ∙ drafted_from kind (pos school) (numbers_said (fields_of kind) d) p (Some q) slots none is

pub not_put : (kind : Kind) (school : ℕ) (d : Data) (p : Progress) → p.slots ≡ slots_of_kind kind → p.earlier ≡ []
    → None ≡ option_and_then (put_said (numbers_said (fields_of kind) d)) (put_all (pos school ∷ []) p) → filing_by_fields school d kind ≡ None
not_put kind school d p slots none is = sym (drafted_from kind (pos school) (numbers_said (fields_of kind) d) p None slots none is)

-- ---- the filing of a value
-- a value that names a kind has the key for it
has_kind : (kind : Kind) (v : Option Data) → Some kind ≡ option_and_then kind_named (option_and_then as_str v) → is_some v ≡ true
has_kind kind None h = absurd cc
has_kind kind (Some d) h = refl

-- so many keys a kind has
pub many_keys : (kind : Kind) (parts : List Part) → slots_of parts ≡ (table_row_of kind).slots → length parts + 2 ≡ length (keys_of kind)
many_keys kind parts is =
    let parts_many : length (slots_of parts) ≡ length parts = length-map parts slot_of in
    let same : length (slots_of parts) ≡ length (table_row_of kind).slots = ap (λ (ss : List Slot). length ss) is in
    let names : length (map (λ (slot : Slot). slot.line.name) (table_row_of kind).slots) ≡ length (table_row_of kind).slots = length-map (table_row_of kind).slots (λ (slot : Slot). slot.line.name) in
    omega (arith, parts_many, same, names)

by_kind : (school : ℕ) (d : Data) (kind : Kind) → Some kind ≡ kind_in d → filing_in school d ≡ filing_of_kind school d kind
by_kind school d kind k = ap (option_and_then (filing_of_kind school d)) (sym k)

-- one with its keys and no others
pub right_keys : (school : ℕ) (d : Data) (kind : Kind) (n : ℕ) → Some kind ≡ kind_in d → has_bodies kind ≡ true → n ≡ length (keys_of kind) → has_len n d ≡ true
    → filing_in school d ≡ filing_by_fields school d kind
unfolding filing_of_kind
right_keys school d kind n k bodies many len =
    by_kind school d kind k ∙ ap (λ (b : Bool). if b && has_exactly (keys_of kind) d then filing_by_fields school d kind else None) bodies
    ∙ exactly kind d n (numbers_said (fields_of kind) d) (pos school) true (has_kind kind (get (codes "kind") d) k) many len refl

-- one of another number of members
pub wrong_keys : (school : ℕ) (d : Data) (kind : Kind) (n : ℕ) → Some kind ≡ kind_in d → n ≡ length (keys_of kind) → has_len n d ≡ false → filing_in school d ≡ None
unfolding filing_of_kind
wrong_keys school d kind n k many len = by_kind school d kind k ∙ by (has_bodies kind) (exactly kind d n (numbers_said (fields_of kind) d) (pos school) false (has_kind kind (get (codes "kind") d) k) many len refl)
  where
    by : (b : Bool) → (if has_exactly (keys_of kind) d then filing_by_fields school d kind else None) ≡ not_filed
        → (if b && has_exactly (keys_of kind) d then filing_by_fields school d kind else None) ≡ not_filed
    by true h = h
    by false h = refl

-- and one of a book
pub no_bodies : (school : ℕ) (d : Data) (kind : Kind) → Some kind ≡ kind_in d → has_bodies kind ≡ false → filing_in school d ≡ None
unfolding filing_of_kind
no_bodies school d kind k bodies = by_kind school d kind k ∙ ap (λ (b : Bool). if b && has_exactly (keys_of kind) d then filing_by_fields school d kind else None) bodies
