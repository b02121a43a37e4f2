-- Numbers of fields that come in parts.
use Rattle.std.proofs.Common.{◌≡◌, ℕ, pos, zero, suc, ◌≤◌, ◌<◌, ℤ, List, [], ◌∷◌, ◌++◌, Bool, ◌&&◌, true, false, length, take, drop, refl, sym, ap, subst, ◌∙◌, append_assoc, length-append, arith}
use Rattle.std.specs.Prelude.{◌==◌, Option, Some, None, slice_index_or, IsTrue, map, unsigned_abs}
use Rattle.std.specs.List.{list_all}
use Rattle.std.proofs.lemmas.Bool.{and_from, and_parts, eqb-true, true≢false}
use Rattle.std.proofs.Common.{◌-◌, length-drop}
use Rattle.std.proofs.Math.Seq.{take-length}
use Rattle.std.proofs.lemmas.List.{append-nil}
use Rattle.format_table.specs.Layout.{AreNumbers, after, plain, rows, rows_again}
use Rattle.format_table.proofs.LayoutLemmas.{cut-zero}
use Rattle.format_kinds.proofs.Plain.{behind_all}
use Rattle.std.proofs.lemmas.Int.{ints}
use Rattle.aid_types.specs.Ranges.{IsBetween}
use Rattle.format_table.specs.declared.field.Limit.TheVariants.{Between}
use Rattle.format_table.specs.Limits.{fits, is_between}
use Rattle.format_bytes.proofs.Ranges.{within}
use Rattle.format_table.specs.Parts.{Line, Slot}
use Rattle.format_table.specs.declared.field.Limit.{Limit}
use Rattle.format_bytes.specs.Parts.{FitAnywhere, FitSomewhere}

-- ---- fields of which each leaves all
abbrev pub have_no_ends : List Slot → Bool
have_no_ends slots = list_all (λ slot. slot.ends == 0) slots

no_ends-append : (xs ys : List Slot) → have_no_ends xs ≡ true → have_no_ends ys ≡ true → have_no_ends (xs ++ ys) ≡ true
no_ends-append [] ys h k = k
no_ends-append (x ∷ xs) ys h k =
    let both = and_parts (x.ends == 0) (have_no_ends xs) h in
    and_from (x.ends == 0) (have_no_ends (xs ++ ys)) both.0 (no_ends-append xs ys both.1 k)

no_ends-plain : (lines : List Line) → have_no_ends (map plain lines) ≡ true
no_ends-plain [] = refl
no_ends-plain (line ∷ lines) = no_ends-plain lines

pub no_ends-rows_again : (n : ℕ) (lines : List Line) → have_no_ends (rows_again n lines) ≡ true
no_ends-rows_again zero lines = refl
no_ends-rows_again (suc n) lines = no_ends-append (map plain lines) (rows_again n lines) (no_ends-plain lines) (no_ends-rows_again n lines)

no_ends-rows : (n : ℕ) (first later : List Line) → have_no_ends (rows n first later) ≡ true
no_ends-rows n [] later = refl
no_ends-rows zero (line ∷ lines) later = refl
no_ends-rows (suc n) (line ∷ lines) later = no_ends-append (map plain (line ∷ lines)) (rows_again n later) (no_ends-plain (line ∷ lines)) (no_ends-rows_again n later)

-- ---- numbers of fields one after the other, where those in front leave all
pub joined : (front back : List Slot) (earlier xs ys : List ℤ) → have_no_ends front ≡ true → AreNumbers front earlier xs → FitAnywhere back ys → AreNumbers (front ++ back) earlier (xs ++ ys)
joined [] back earlier [] ys p h k = k earlier
joined [] back earlier (x ∷ xs) ys p h k = absurd h
joined (slot ∷ front) back earlier [] ys p h k = absurd h
joined (slot ∷ front) back earlier (x ∷ xs) ys p h k =
    let counted = rows (unsigned_abs x) slot.first slot.later in
    let both = and_parts (slot.ends == 0) (have_no_ends front) p in
    let none : slot.ends ≡ 0 = eqb-true slot.ends 0 both.0 in
    let more : AreNumbers ((counted ++ front) ++ back) (x ∷ earlier) (xs ++ ys) = joined (counted ++ front) back (x ∷ earlier) xs ys (no_ends-append counted front (no_ends-rows (unsigned_abs x) slot.first slot.later) both.1) (behind_all slot front (x ∷ earlier) xs x none h.1) k in
    (h.0, subst (λ (slots : List Slot). AreNumbers slots (x ∷ earlier) (xs ++ ys)) (append_assoc counted front back ∙ ap (λ (slots : List Slot). counted ++ slots) (sym (cut-zero slot.ends x (front ++ back) none))) more)

pub fit_joined : (front back : List Slot) (xs ys : List ℤ) → have_no_ends front ≡ true → FitAnywhere front xs → FitAnywhere back ys → FitAnywhere (front ++ back) (xs ++ ys)
fit_joined front back xs ys p h k earlier = joined front back earlier xs ys p (h earlier) k

-- each field takes a number at least
pub enough : (slots : List Slot) (earlier zs : List ℤ) → have_no_ends slots ≡ true → AreNumbers slots earlier zs → length slots ≤ length zs
enough [] earlier zs p h = omega arith
enough (slot ∷ slots) earlier [] p h = absurd h
enough (slot ∷ slots) earlier (z ∷ zs) p h =
    let counted = rows (unsigned_abs z) slot.first slot.later in
    let both = and_parts (slot.ends == 0) (have_no_ends slots) p in
    let more = enough (counted ++ slots) (z ∷ earlier) zs (no_ends-append counted slots (no_ends-rows (unsigned_abs z) slot.first slot.later) both.1) (behind_all slot slots (z ∷ earlier) zs z (eqb-true slot.ends 0 both.0) h.1) in
    omega (arith, more, length-append counted slots)

-- ---- fields that count nothing
abbrev pub has_none : List Line → Bool
has_none [] = true
has_none (line ∷ lines) = false

abbrev pub are_plain : List Slot → Bool
are_plain slots = list_all (λ slot. has_none slot.first && (slot.ends == 0)) slots

no_rows : (n : ℕ) (first later : List Line) → has_none first ≡ true → rows n first later ≡ []
no_rows n [] later h = refl
no_rows n (line ∷ lines) later h = absurd (true≢false (sym h))

-- what is behind one
after_plain : (slot : Slot) (slots : List Slot) (z : ℤ) → (has_none slot.first && (slot.ends == 0)) ≡ true → after (slot ∷ slots) z ≡ slots
after_plain slot slots z h =
    let both = and_parts (has_none slot.first) (slot.ends == 0) h in
    ap (λ (s : List Slot). rows (unsigned_abs z) slot.first slot.later ++ s) (cut-zero slot.ends z slots (eqb-true slot.ends 0 both.1))
    ∙ ap (λ (s : List Slot). s ++ slots) (no_rows (unsigned_abs z) slot.first slot.later both.0)

-- the first of them, and those behind
pub parted : (n : ℕ) (slots : List Slot) (earlier zs : List ℤ) → are_plain (take n slots) ≡ true → AreNumbers slots earlier zs
    → AreNumbers (take n slots) earlier (take n zs) × FitSomewhere (drop n slots) (drop n zs)
parted zero slots earlier zs p h = (tt, (earlier, h))
parted (suc n) [] earlier [] p h = (tt, (earlier, tt))
parted (suc n) [] earlier (z ∷ zs) p h = absurd h
parted (suc n) (slot ∷ slots) earlier [] p h = absurd h
parted (suc n) (slot ∷ slots) earlier (z ∷ zs) p h =
    let both = and_parts (has_none slot.first && (slot.ends == 0)) (are_plain (take n slots)) p in
    let more : AreNumbers slots (z ∷ earlier) zs = subst (λ (s : List Slot). AreNumbers s (z ∷ earlier) zs) (after_plain slot slots z both.0) h.1 in
    let k = parted n slots (z ∷ earlier) zs both.1 more in
    ((h.0, subst (λ (s : List Slot). AreNumbers s (z ∷ earlier) (take n zs)) (sym (after_plain slot (take n slots) z both.0)) k.0), k.1)

pub fit_parted : (n : ℕ) (slots : List Slot) (zs : List ℤ) → are_plain (take n slots) ≡ true → FitSomewhere slots zs
    → FitSomewhere (take n slots) (take n zs) × FitSomewhere (drop n slots) (drop n zs)
fit_parted n slots zs p h = let k = parted n slots h.0 zs p h.1 in ((h.0, k.0), k.1)

pub as_many : (slots : List Slot) (earlier zs : List ℤ) → are_plain slots ≡ true → AreNumbers slots earlier zs → length zs ≡ length slots
as_many [] earlier [] p h = refl
as_many [] earlier (z ∷ zs) p h = absurd h
as_many (slot ∷ slots) earlier [] p h = absurd h
as_many (slot ∷ slots) earlier (z ∷ zs) p h =
    let both = and_parts (has_none slot.first && (slot.ends == 0)) (are_plain slots) p in
    let more : AreNumbers slots (z ∷ earlier) zs = subst (λ (s : List Slot). AreNumbers s (z ∷ earlier) zs) (after_plain slot slots z both.0) h.1 in
    ap suc (as_many slots (z ∷ earlier) zs both.1 more)

-- fields with the same limits
abbrev pub limits_of : List Slot → List Limit
limits_of slots = map (λ slot. slot.line.limit) slots

pub same_limits : (slots others : List Slot) (earlier zs : List ℤ) → are_plain slots ≡ true → are_plain others ≡ true → limits_of slots ≡ limits_of others
    → AreNumbers slots earlier zs → AreNumbers others earlier zs
same_limits [] [] earlier zs p q e h = h
same_limits [] (other ∷ others) earlier zs p q e h = absurd cc
same_limits (slot ∷ slots) [] earlier zs p q e h = absurd cc
same_limits (slot ∷ slots) (other ∷ others) earlier [] p q e h = absurd h
same_limits (slot ∷ slots) (other ∷ others) earlier (z ∷ zs) p q e h =
    let here : slot.line.limit ≡ other.line.limit = cc in
    let rest : limits_of slots ≡ limits_of others = cc in
    let ours = and_parts (has_none slot.first && (slot.ends == 0)) (are_plain slots) p in
    let theirs = and_parts (has_none other.first && (other.ends == 0)) (are_plain others) q in
    let more : AreNumbers slots (z ∷ earlier) zs = subst (λ (s : List Slot). AreNumbers s (z ∷ earlier) zs) (after_plain slot slots z ours.0) h.1 in
    let k : AreNumbers others (z ∷ earlier) zs = same_limits slots others (z ∷ earlier) zs ours.1 theirs.1 rest more in
    (subst (λ (limit : Limit). IsTrue (fits limit earlier z)) here h.0, subst (λ (s : List Slot). AreNumbers s (z ∷ earlier) zs) (sym (after_plain other others z theirs.0)) k)

-- ---- rows
pub rows-again : (n : ℕ) (lines : List Line) → has_none lines ≡ false → rows n lines lines ≡ rows_again n lines
rows-again n [] h = absurd (true≢false h)
rows-again zero (line ∷ lines) h = refl
rows-again (suc n) (line ∷ lines) h = refl

pub rows_again-more : (n : ℕ) (lines : List Line) → rows_again n lines ++ map plain lines ≡ rows_again (suc n) lines
rows_again-more zero lines = sym (append-nil (map plain lines))
rows_again-more (suc n) lines = append_assoc (map plain lines) (rows_again n lines) (map plain lines) ∙ ap (λ (slots : List Slot). map plain lines ++ slots) (rows_again-more n lines)

-- what is behind the first numbers, as a slice of it is handed on
pub all_of_rest : (n : ℕ) (zs : List ℤ) → take (length zs - n) (drop n zs) ≡ drop n zs
all_of_rest n zs = rw (← length-drop n zs) (take-length (drop n zs))

-- seven numbers, each by its place
pub seven_are : (zs : List ℤ) (a b c d e f g : ℤ) → 7 ≤ length zs → length zs < 8
    → a ≡ slice_index_or zs 0 (pos 0) → b ≡ slice_index_or zs 1 (pos 0) → c ≡ slice_index_or zs 2 (pos 0) → d ≡ slice_index_or zs 3 (pos 0) → e ≡ slice_index_or zs 4 (pos 0)
    → f ≡ slice_index_or zs 5 (pos 0) → g ≡ slice_index_or zs 6 (pos 0) → a ∷ b ∷ c ∷ d ∷ e ∷ f ∷ g ∷ [] ≡ zs
seven_are (z0 ∷ z1 ∷ z2 ∷ z3 ∷ z4 ∷ z5 ∷ z6 ∷ []) a b c d e f g few most p0 p1 p2 p3 p4 p5 p6 = λ i. p0 i ∷ p1 i ∷ p2 i ∷ p3 i ∷ p4 i ∷ p5 i ∷ p6 i ∷ []
seven_are zs a b c d e f g few most p0 p1 p2 p3 p4 p5 p6 = absurd (omega arith)

-- ---- a number by its place
abbrev pub limit_at : List Slot → ℕ → Option Limit
limit_at [] k = None
limit_at (slot ∷ slots) zero = Some slot.line.limit
limit_at (slot ∷ slots) (suc k) = limit_at slots k

natural_within : (low high : ℕ) (z : ℤ) → IsTrue (is_between (pos low) (pos high) z) → IsBetween low high (unsigned_abs z)
natural_within low high z h = let r = within (pos low) (pos high) z h in (grind (arith, ints), grind (arith, ints))

-- its range, where the fields up to it count nothing
pub natural_at : (k low high : ℕ) (slots : List Slot) (earlier zs : List ℤ) → are_plain (take k slots) ≡ true → limit_at slots k ≡ Some (Between (pos low) (pos high))
    → AreNumbers slots earlier zs → IsBetween low high (unsigned_abs (slice_index_or zs k (pos 0)))
natural_at k low high [] earlier zs p e h = absurd cc
natural_at k low high (slot ∷ slots) earlier [] p e h = absurd h
natural_at zero low high (slot ∷ slots) earlier (z ∷ zs) p e h =
    let limit : slot.line.limit ≡ Between (pos low) (pos high) = cc in
    natural_within low high z (subst (λ (l : Limit). IsTrue (fits l earlier z)) limit h.0)
natural_at (suc k) low high (slot ∷ slots) earlier (z ∷ zs) p e h =
    let both = and_parts (has_none slot.first && (slot.ends == 0)) (are_plain (take k slots)) p in
    let more : AreNumbers slots (z ∷ earlier) zs = subst (λ (s : List Slot). AreNumbers s (z ∷ earlier) zs) (after_plain slot slots z both.0) h.1 in
    natural_at k low high slots (z ∷ earlier) zs both.1 e more
