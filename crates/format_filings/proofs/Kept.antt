-- Each number of a filing is one that its field's form spells, by the table of kinds.
use Rattle.std.proofs.Common.{◌≡◌, ℕ, zero, suc, ℤ, pos, neg_ℤ, int_le, unsigned_abs, Bool, true, false, ◌&&◌, List, [], ◌∷◌, ◌++◌, map, take, refl, ◌∙◌, arith}
use Rattle.std.specs.List.{list_all}
use Rattle.std.proofs.lemmas.Bool.{and_from, and_parts}
use Rattle.std.proofs.lemmas.Int.{ints}
use Rattle.std.proofs.lemmas.List.Folds.{list_all-append}
use Rattle.aid_types.proofs.SignedLemmas.{int_le-true}
use Rattle.format_table.proofs.Laws.{of_cut}
use Rattle.format_table.specs.Layout.{AreNumbers, after, cut, plain, rows, rows_again}
use Rattle.format_table.specs.Limits.{fits, is_between}
use Rattle.format_table.specs.Parts.{Line, Slot}
use Rattle.format_table.specs.declared.field.Form.{Form}
use Rattle.format_table.specs.declared.field.Form.TheVariants.{U8, U16, U32, U64, I64, Cents, Day, Flag, Word, Count}
use Rattle.format_table.specs.declared.field.Limit.{Limit}
use Rattle.format_table.specs.declared.field.Limit.TheVariants.{Between, UpToLast, AboveRow, Continues, Begins}
use Rattle.format_kinds.specs.Kinds.{slots_of_kind, table_row_of}
use Rattle.format_kinds.specs.declared.kind.Kind.{Kind}
use Rattle.format_kinds.specs.declared.kind.Kind.TheVariants.{Book, School, Calendar, Prior, Apply, Enroll, Originate, Pay, Withdraw, Repay, Adjust, Cost, Sent, Amend}
use Rattle.format_filings.specs.Spelled.{are_spelled, is_spelled}

-- whether a form spells each number of a limit
abbrev pub spells : Form → Limit → Bool
spells Cents (Between low high) = is_spelled Cents low && is_spelled Cents high
spells Day (Between low high) = is_spelled Day low && is_spelled Day high
spells Word (Between low high) = is_spelled Word low && is_spelled Word high
spells Cents _ = false
spells Day _ = false
spells Word _ = false
spells _ _ = true

abbrev pub keeps : Line → Bool
keeps line = spells line.form line.limit

abbrev pub keeps_all : Slot → Bool
keeps_all slot = keeps slot.line && (list_all keeps slot.first && list_all keeps slot.later)

abbrev pub are_kept : List Slot → Bool
are_kept slots = list_all keeps_all slots

-- a number between two that are between the ends of a form
between : (least most low high z : ℤ) → (is_between least most low && is_between least most high) ≡ true → is_between low high z ≡ true → is_between least most z ≡ true
between least most low high z ends h =
    let x = and_parts (is_between least most low) (is_between least most high) ends in
    let low_in = and_parts (int_le least low) (int_le low most) x.0 in
    let high_in = and_parts (int_le least high) (int_le high most) x.1 in
    let there = and_parts (int_le low z) (int_le z high) h in
    and_from (int_le least z) (int_le z most) (int_le-true least z (omega (arith, ints, low_in.0, there.0))) (int_le-true z most (omega (arith, ints, high_in.1, there.1)))

pub kept_one : (form : Form) (limit : Limit) (earlier : List ℤ) (z : ℤ) → spells form limit ≡ true → fits limit earlier z ≡ true → is_spelled form z ≡ true
kept_one Cents (Between low high) earlier z k f = between (pos 0) (pos 99999999) low high z k f
kept_one Day (Between low high) earlier z k f = between (neg_ℤ (pos 25567)) (pos 2932896) low high z k f
kept_one Word (Between low high) earlier z k f = between (pos 0) (pos 5) low high z k f
kept_one Cents (UpToLast low) earlier z k f = absurd cc
kept_one Cents (AboveRow high) earlier z k f = absurd cc
kept_one Cents (Continues high) earlier z k f = absurd cc
kept_one Cents (Begins high) earlier z k f = absurd cc
kept_one Day (UpToLast low) earlier z k f = absurd cc
kept_one Day (AboveRow high) earlier z k f = absurd cc
kept_one Day (Continues high) earlier z k f = absurd cc
kept_one Day (Begins high) earlier z k f = absurd cc
kept_one Word (UpToLast low) earlier z k f = absurd cc
kept_one Word (AboveRow high) earlier z k f = absurd cc
kept_one Word (Continues high) earlier z k f = absurd cc
kept_one Word (Begins high) earlier z k f = absurd cc
kept_one U8 limit earlier z k f = refl
kept_one U16 limit earlier z k f = refl
kept_one U32 limit earlier z k f = refl
kept_one U64 limit earlier z k f = refl
kept_one I64 limit earlier z k f = refl
kept_one Flag limit earlier z k f = refl
kept_one Count limit earlier z k f = refl

-- ---- what is to come after a number
kept-append : (xs ys : List Slot) → are_kept xs ≡ true → are_kept ys ≡ true → are_kept (xs ++ ys) ≡ true
kept-append xs ys h k = list_all-append keeps_all xs ys ∙ and_from (are_kept xs) (are_kept ys) h k

kept-plain : (lines : List Line) → list_all keeps lines ≡ true → are_kept (map plain lines) ≡ true
kept-plain [] h = refl
kept-plain (line ∷ lines) h =
    let x = and_parts (keeps line) (list_all keeps lines) h in
    and_from (keeps_all (plain line)) (are_kept (map plain lines)) (and_from (keeps line) true x.0 refl) (kept-plain lines x.1)

kept-rows_again : (n : ℕ) (lines : List Line) → list_all keeps lines ≡ true → are_kept (rows_again n lines) ≡ true
kept-rows_again zero lines h = refl
kept-rows_again (suc n) lines h = kept-append (map plain lines) (rows_again n lines) (kept-plain lines h) (kept-rows_again n lines h)

kept-rows : (n : ℕ) (first later : List Line) → list_all keeps first ≡ true → list_all keeps later ≡ true → are_kept (rows n first later) ≡ true
kept-rows n [] later h k = refl
kept-rows zero (line ∷ lines) later h k = refl
kept-rows (suc n) (line ∷ lines) later h k = kept-append (map plain (line ∷ lines)) (rows_again n later) (kept-plain (line ∷ lines) h) (kept-rows_again n later k)

kept-take : (k : ℕ) (slots : List Slot) → are_kept slots ≡ true → are_kept (take k slots) ≡ true
kept-take zero slots h = refl
kept-take (suc k) [] h = refl
kept-take (suc k) (slot ∷ slots) h =
    let x = and_parts (keeps_all slot) (are_kept slots) h in
    and_from (keeps_all slot) (are_kept (take k slots)) x.0 (kept-take k slots x.1)

kept-after : (slot : Slot) (slots : List Slot) (z : ℤ) → are_kept (slot ∷ slots) ≡ true → are_kept (after (slot ∷ slots) z) ≡ true
kept-after slot slots z h =
    let x = and_parts (keeps_all slot) (are_kept slots) h in
    let y = and_parts (keeps slot.line) (list_all keeps slot.first && list_all keeps slot.later) x.0 in
    let lines = and_parts (list_all keeps slot.first) (list_all keeps slot.later) y.1 in
    kept-append (rows (unsigned_abs z) slot.first slot.later) (cut slot.ends z slots) (kept-rows (unsigned_abs z) slot.first slot.later lines.0 lines.1)
    (of_cut (λ s. are_kept s ≡ true) slot.ends z slots (λ k. kept-take k slots x.1) x.1)

spelled_of : (slots : List Slot) (earlier zs : List ℤ) → are_kept slots ≡ true → AreNumbers slots earlier zs → are_spelled slots zs ≡ true
spelled_of [] earlier [] k are = refl
spelled_of [] earlier (z ∷ zs) k are = absurd are
spelled_of (slot ∷ slots) earlier [] k are = refl
spelled_of (slot ∷ slots) earlier (z ∷ zs) k are =
    let x = and_parts (keeps_all slot) (are_kept slots) k in
    let y = and_parts (keeps slot.line) (list_all keeps slot.first && list_all keeps slot.later) x.0 in
    and_from (is_spelled slot.line.form z) (are_spelled (after (slot ∷ slots) z) zs)
    (kept_one slot.line.form slot.line.limit earlier z y.0 are.0) (spelled_of (after (slot ∷ slots) z) (z ∷ earlier) zs (kept-after slot slots z k) are.1)

-- ---- the table
pub kept-kind : (kind : Kind) → are_kept (slots_of_kind kind) ≡ true
unfolding table_row_of
kept-kind Book = refl
kept-kind School = refl
kept-kind Calendar = refl
kept-kind Prior = refl
kept-kind Apply = refl
kept-kind Enroll = refl
kept-kind Originate = refl
kept-kind Pay = refl
kept-kind Withdraw = refl
kept-kind Repay = refl
kept-kind Adjust = refl
kept-kind Cost = refl
kept-kind Sent = refl
kept-kind Amend = refl

pub numbers_spelled : (kind : Kind) (zs : List ℤ) → AreNumbers (slots_of_kind kind) [] zs → are_spelled (slots_of_kind kind) zs ≡ true
numbers_spelled kind zs are = spelled_of (slots_of_kind kind) [] zs (kept-kind kind) are
