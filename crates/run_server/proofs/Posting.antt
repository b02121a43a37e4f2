-- A request that files a filing, in few words, asks the office to file it.
use Rattle.std.proofs.Common.{◌≡◌, ◌≢◌, ℕ, suc, ◌+◌, ◌<◌, ℤ, pos, Bool, true, false, ◌&&◌, List, [], ◌∷◌, ◌++◌, All, Option, Some, None, codes, drop, get_or, length, map, take, refl, sym, ap, ◌∙◌, append-nil, arith}
use Rattle.std.specs.Prelude.{◌==◌, flat_map, is_some, option_and_then, option_map, if◌then◌else◌}
use Rattle.std.specs.Str.{is_utf8}
use Rattle.std.proofs.lemmas.Bool.{and_parts, true≢false}
use Rattle.std.proofs.lemmas.List.Elements.{All-cons, All-drop, All-head, All-nil, All-tail, All-take}
use Rattle.httparse.specs.Grammar.{RequestHead}
use Rattle.serde_json.specs.Data.{Data, Items, array, item, no_items, string}
use Rattle.serde_json.specs.Events.{members_len}
use Rattle.serde_json.specs.Find.{as_str, get}
use Rattle.serde_json.specs.Read.{read}
use Rattle.aid_types.specs.Programs.{rank}
use Rattle.aid_types.specs.declared.number.Program.{Program}
use Rattle.aid_types.specs.declared.number.Program.TheVariants.{Unsub, Sub, Plus, Pell, Fseog, Teach}
use Rattle.aid_filings.specs.declared.filing.Filing.{Filing}
use Rattle.aid_filings.specs.declared.filing.What.{What}
use Rattle.aid_filings.specs.declared.filing.What.TheVariants.{Book, School, Calendar, Prior, Apply, Enroll, Originate, Pay, Withdraw, Repay, Adjust, Cost, Sent, Amend}
use Rattle.aid_filings.specs.declared.reply.Operation.TheVariants.{File}
use Rattle.law_terms.proofs.DayTextLaws.{IsDayReading-day_in}
use Rattle.format_bytes.specs.Numbers.{break_days, day_number, facts_of, kind_of, numbers_of}
use Rattle.format_kinds.specs.Kinds.{first_and_last, key_slots, kind_named, slots_of_kind, table_row_of, withdraw_slots, words_of_programs}
use Rattle.format_kinds.specs.declared.kind.Kind.{Kind}
use Rattle.format_table.specs.Layout.{AreNumbers, after}
use Rattle.format_table.specs.Limits.{fits}
use Rattle.format_table.specs.Parts.{Line, Slot}
use Rattle.format_table.specs.declared.field.Form.{Form}
use Rattle.format_table.specs.declared.field.Form.TheVariants.{Cents, Count, Day, Word}
use Rattle.run_claims.proofs.FilingRanges.{is_filing}
use Rattle.run_claims.proofs.KeptBytes.{value}
use Rattle.run_claims.proofs.Texts.{day_text_of, has_form}
use Rattle.run_claims.specs.Written.{CanBeFiled, HasLists, IsInRange, Number, day, money, ranged, whole, word, written}
use Rattle.web_json.proofs.BodyLemmas.{asked_filing}
use Rattle.web_json.specs.Bodies.{are_numbers, fields_of, filing_by_fields, filing_in, filing_of_body, filing_of_kind, has_bodies, keys_of, kind_in, said, within}
use Rattle.web_json.specs.Forms.{ask_in}
use Rattle.web_json.specs.Values.{day_said, has_all, has_exactly, has_len, joined, member_said, number_said, numbers_said, one, program_said, rows_said, values_of}
use Rattle.web_session.specs.declared.call.ApiCall.TheVariants as calls
use Rattle.run_server.specs.Posted.{Posts, SaysBreaks, SaysFiling, SaysNumber, SaysNumbers, SaysWhat, names_of}

-- ---- one number
its_word : (p : Program) → program_said (get_or words_of_programs (rank p) []) ≡ Some (pos (rank p))
its_word Unsub = refl
its_word Sub = refl
its_word Plus = refl
its_word Pell = refl
its_word Fseog = refl
its_word Teach = refl

-- what says a number is read as it
number_read : (n : Number) (form : Form) (v : Data) → has_form n form ≡ true → IsInRange n → SaysNumber n v → number_said form v ≡ Some (value n)
number_read (money cents) Cents v f r s = s
number_read (money cents) _ v f r s = absurd cc
number_read (day d) Day v f r (text, is, dated) =
    ap (number_said Day) is ∙ ap day_said (((IsDayReading-day_in text).ok d).1 (day_text_of text d r dated))
number_read (day d) _ v f r s = absurd cc
number_read (word program) Word v f r s = ap (number_said Word) s ∙ its_word program
number_read (word program) _ v f r s = absurd cc
number_read _ Cents v f r s = absurd cc
number_read _ Day v f r s = absurd cc
number_read _ Word v f r s = absurd cc
number_read (whole width z) _ v f r s = s
number_read (ranged width low high n) _ v f r s = s

-- ---- the numbers of fields that count nothing
counts_none : List Line → Bool
counts_none [] = true
counts_none (line ∷ lines) = false

-- whether these numbers are those of the fields
abbrev fit : List Slot → List Number → Bool
fit [] [] = true
fit (slot ∷ slots) (n ∷ ns) = counts_none slot.first && (has_form n slot.line.form && fit slots ns)
fit _ _ = false

abbrev names : List Slot → List (List ℕ)
names slots = map (λ (slot : Slot). slot.line.name) slots

one_member : (first : List Line) (form : Form) (v : Data) → counts_none first ≡ true → member_said first form v ≡ one (number_said form v)
unfolding counts_none
one_member [] form v none = refl
one_member (line ∷ lines) form v none = absurd (true≢false (sym none))

joined_again : (z : ℤ) (zs : List ℤ) (o : Option (List ℤ)) → joined (Some (z ∷ [])) (option_map (λ (ys : List ℤ). zs ++ ys) o) ≡ option_map (λ (ys : List ℤ). z ∷ zs ++ ys) o
joined_again z zs None = refl
joined_again z zs (Some ys) = refl

joined_none : (o : Option (List ℤ)) → o ≡ option_map (λ (ys : List ℤ). [] ++ ys) o
joined_none None = refl
joined_none (Some ys) = refl

all_read : (d : Data) (slots more : List Slot) (ns : List Number) → fit slots ns ≡ true → All IsInRange ns → SaysNumbers d (names slots) ns
    → numbers_said (slots ++ more) d ≡ option_map (λ (ys : List ℤ). map value ns ++ ys) (numbers_said more d)
all_read d [] more [] f r s = joined_none (numbers_said more d)
all_read d [] more (n ∷ ns) f r s = absurd (true≢false (sym f))
all_read d (slot ∷ slots) more [] f r s = absurd (true≢false (sym f))
all_read d (slot ∷ slots) more (n ∷ ns) f r (v, at, says, rest) =
    let parts = and_parts (counts_none slot.first) (has_form n slot.line.form && fit slots ns) f in
    let both = and_parts (has_form n slot.line.form) (fit slots ns) parts.1 in
    let first : option_and_then (member_said slot.first slot.line.form) (get slot.line.name d) ≡ Some (value n ∷ []) =
    ap (option_and_then (member_said slot.first slot.line.form)) at ∙ one_member slot.first slot.line.form v parts.0
    ∙ ap one (number_read n slot.line.form v both.0 (All-head IsInRange n ns r) says) in
    (λ i. joined (first i) (all_read d slots more ns both.1 (All-tail IsInRange n ns r) rest i)) ∙ joined_again (value n) (map value ns) (numbers_said more d)

-- ---- breaks
breaks_read : (breaks : List (ℕ × ℕ)) (items : Items) → All IsInRange (flat_map (λ days. day days.0 ∷ day days.1 ∷ []) breaks) → SaysBreaks breaks items
    → (rows_said first_and_last (values_of items) ≡ Some (flat_map break_days breaks)) × (length (values_of items) ≡ length breaks)
breaks_read [] no_items r s = (refl, refl)
breaks_read (days ∷ breaks) (item (array (item first (item last no_items))) items) r (one_day, other_day, rest) =
    let later = All-tail IsInRange (day days.0) (day days.1 ∷ flat_map (λ days. day days.0 ∷ day days.1 ∷ []) breaks) r in
    let begins = number_read (day days.0) Day first refl (All-head IsInRange (day days.0) (day days.1 ∷ flat_map (λ days. day days.0 ∷ day days.1 ∷ []) breaks) r) one_day in
    let ends = number_read (day days.1) Day last refl (All-head IsInRange (day days.1) (flat_map (λ days. day days.0 ∷ day days.1 ∷ []) breaks) later) other_day in
    let more = breaks_read breaks items (All-tail IsInRange (day days.1) (flat_map (λ days. day days.0 ∷ day days.1 ∷ []) breaks) later) rest in (
      (λ i. joined (joined (one (begins i)) (joined (one (ends i)) (Some []))) (more.0 i)),
      ap (λ (n : ℕ). suc n) more.1,
    )
breaks_read _ _ r s = absurd s

-- ---- the numbers of a filing, as the table of kinds has them
break_numbers : (breaks : List (ℕ × ℕ)) → map value (flat_map (λ days. day days.0 ∷ day days.1 ∷ []) breaks) ≡ flat_map break_days breaks
break_numbers [] = refl
break_numbers (b ∷ breaks) = ap (λ (zs : List ℤ). day_number b.0 ∷ day_number b.1 ∷ zs) (break_numbers breaks)

money_numbers : (cents : List ℕ) → map value (map money cents) ≡ map (λ n. pos n) cents
money_numbers [] = refl
money_numbers (n ∷ ns) = ap (λ (zs : List ℤ). pos n ∷ zs) (money_numbers ns)

abbrev slots_of : What → List Slot
slots_of what = (table_row_of (kind_of what)).slots

could_fit : (could : List ℕ) → length could ≡ 6 → fit (drop 6 withdraw_slots) (map money could) ≡ true
unfolding counts_none
could_fit (a ∷ b ∷ c ∷ d ∷ e ∷ f ∷ []) six = refl
could_fit could six = absurd (omega arith)

-- fields that count nothing are all that are left
whole_read : (d : Data) (slots : List Slot) (ns : List Number) (zs : List ℤ) → fit slots ns ≡ true → All IsInRange ns → SaysNumbers d (names slots) ns → map value ns ≡ zs → numbers_said slots d ≡ Some zs
whole_read d slots ns zs f r s is =
    ap (λ (l : List Slot). numbers_said l d) (sym (append-nil slots)) ∙ all_read d slots [] ns f r s ∙ ap (λ (l : List ℤ). Some l) (append-nil (map value ns) ∙ is)

-- what is filed is read as its numbers
what_read : (d : Data) (what : What) → HasLists what → 1 < (written what).0 → All IsInRange (written what).2 → SaysWhat d what → numbers_said (slots_of what) d ≡ Some (facts_of what)
unfolding table_row_of facts_of counts_none
what_read d (Book x) lists has r s = absurd (omega arith)
what_read d (School x) lists has r s = whole_read d (slots_of (School x)) (written (School x)).2 (facts_of (School x)) refl r s refl
what_read d (Calendar x) lists has r (front, items, at, rows) =
    let days : List Number = flat_map (λ days. day days.0 ∷ day days.1 ∷ []) x.breaks in
    let numbers : List Number = (written (Calendar x)).2 in
    let behind : All IsInRange days = All-drop IsInRange 6 numbers r in
    let read = breaks_read x.breaks items behind rows in
    let table : numbers_said (drop 5 (slots_of (Calendar x))) d ≡ Some (pos (length x.breaks) ∷ flat_map break_days x.breaks) =
    ap (λ (o : Option Data). joined (option_and_then (member_said first_and_last Count) o) (Some [])) at
    ∙ (λ i. joined (joined (Some (pos (read.1 i) ∷ [])) (read.0 i)) (Some []))
    ∙ ap (λ (l : List ℤ). Some l) (append-nil (pos (length x.breaks) ∷ flat_map break_days x.breaks)) in
    all_read d (take 5 (slots_of (Calendar x))) (drop 5 (slots_of (Calendar x))) (take 5 numbers) refl (All-take IsInRange 5 numbers r) front
    ∙ ap (option_map (λ (ys : List ℤ). map value (take 5 numbers) ++ ys)) table
what_read d (Prior x) lists has r s = whole_read d (slots_of (Prior x)) (written (Prior x)).2 (facts_of (Prior x)) refl r s refl
what_read d (Apply x) lists has r s = whole_read d (slots_of (Apply x)) (written (Apply x)).2 (facts_of (Apply x)) refl r s refl
what_read d (Enroll x) lists has r s = whole_read d (slots_of (Enroll x)) (written (Enroll x)).2 (facts_of (Enroll x)) refl r s refl
what_read d (Originate x) lists has r s = whole_read d (slots_of (Originate x)) (written (Originate x)).2 (facts_of (Originate x)) refl r s refl
what_read d (Pay x) lists has r s = whole_read d (slots_of (Pay x)) (written (Pay x)).2 (facts_of (Pay x)) refl r s refl
what_read d (Withdraw x) lists has r s =
    whole_read d (slots_of (Withdraw x)) (written (Withdraw x)).2 (facts_of (Withdraw x)) (could_fit x.could lists) r s
    (ap (λ (zs : List ℤ). pos x.student ∷ pos x.year ∷ pos x.term ∷ day_number x.last ∷ day_number x.determined ∷ pos x.charges ∷ zs) (money_numbers x.could))
what_read d (Repay x) lists has r s = whole_read d (slots_of (Repay x)) (written (Repay x)).2 (facts_of (Repay x)) refl r s refl
what_read d (Adjust x) lists has r s = whole_read d (slots_of (Adjust x)) (written (Adjust x)).2 (facts_of (Adjust x)) refl r s refl
what_read d (Cost x) lists has r s = whole_read d (slots_of (Cost x)) (written (Cost x)).2 (facts_of (Cost x)) refl r s refl
what_read d (Sent x) lists has r s = whole_read d (slots_of (Sent x)) (written (Sent x)).2 (facts_of (Sent x)) refl r s refl
what_read d (Amend x) lists has r s = whole_read d (slots_of (Amend x)) (written (Amend x)).2 (facts_of (Amend x)) refl r s refl

-- ---- the keys of a body
keys_are : (what : What) → 1 < (written what).0 → keys_of (kind_of what) ≡ codes "kind" ∷ codes "number" ∷ names_of what
unfolding table_row_of
keys_are (Book x) has = absurd (omega arith)
keys_are (School x) has = refl
keys_are (Calendar x) has = refl
keys_are (Prior x) has = refl
keys_are (Apply x) has = refl
keys_are (Enroll x) has = refl
keys_are (Originate x) has = refl
keys_are (Pay x) has = refl
keys_are (Withdraw x) has = refl
keys_are (Repay x) has = refl
keys_are (Adjust x) has = refl
keys_are (Cost x) has = refl
keys_are (Sent x) has = refl
keys_are (Amend x) has = refl

name_is : (what : What) → kind_named (written what).1 ≡ Some (kind_of what)
unfolding table_row_of
name_is (Book x) = refl
name_is (School x) = refl
name_is (Calendar x) = refl
name_is (Prior x) = refl
name_is (Apply x) = refl
name_is (Enroll x) = refl
name_is (Originate x) = refl
name_is (Pay x) = refl
name_is (Withdraw x) = refl
name_is (Repay x) = refl
name_is (Adjust x) = refl
name_is (Cost x) = refl
name_is (Sent x) = refl
name_is (Amend x) = refl

has_body : (what : What) → 1 < (written what).0 → has_bodies (kind_of what) ≡ true
has_body (Book x) has = absurd (omega arith)
has_body (School x) has = refl
has_body (Calendar x) has = refl
has_body (Prior x) has = refl
has_body (Apply x) has = refl
has_body (Enroll x) has = refl
has_body (Originate x) has = refl
has_body (Pay x) has = refl
has_body (Withdraw x) has = refl
has_body (Repay x) has = refl
has_body (Adjust x) has = refl
has_body (Cost x) has = refl
has_body (Sent x) has = refl
has_body (Amend x) has = refl

-- a key that has a value
there : (d : Data) (key : List ℕ) (keys : List (List ℕ)) (v : Data) → get key d ≡ Some v → has_all keys d ≡ true → has_all (key ∷ keys) d ≡ true
there d key keys v at rest = ap (λ (o : Option Data). is_some o && has_all keys d) at ∙ rest

have_all : (d : Data) (keys : List (List ℕ)) (ns : List Number) → SaysNumbers d keys ns → has_all keys d ≡ true
have_all d [] ns s = refl
have_all d (key ∷ keys) [] s = absurd s
have_all d (key ∷ keys) (n ∷ ns) (v, at, says, rest) = there d key keys v at (have_all d keys ns rest)

have_more : (d : Data) (keys more : List (List ℕ)) (ns : List Number) → SaysNumbers d keys ns → has_all more d ≡ true → has_all (keys ++ more) d ≡ true
have_more d [] more ns s rest = rest
have_more d (key ∷ keys) more [] s rest = absurd s
have_more d (key ∷ keys) more (n ∷ ns) (v, at, says, later) rest = there d key (keys ++ more) v at (have_more d keys more ns later rest)

have_what : (d : Data) (what : What) → SaysWhat d what → has_all (names_of what) d ≡ true
have_what d (Book x) s = refl
have_what d (School x) s = have_all d (names_of (School x)) (written (School x)).2 s
have_what d (Calendar x) (front, items, at, rows) =
    have_more d (take 5 (names_of (Calendar x))) (codes "breaks" ∷ []) (written (Calendar x)).2 front (there d (codes "breaks") [] (array items) at refl)
have_what d (Prior x) s = have_all d (names_of (Prior x)) (written (Prior x)).2 s
have_what d (Apply x) s = have_all d (names_of (Apply x)) (written (Apply x)).2 s
have_what d (Enroll x) s = have_all d (names_of (Enroll x)) (written (Enroll x)).2 s
have_what d (Originate x) s = have_all d (names_of (Originate x)) (written (Originate x)).2 s
have_what d (Pay x) s = have_all d (names_of (Pay x)) (written (Pay x)).2 s
have_what d (Withdraw x) s = have_all d (names_of (Withdraw x)) (written (Withdraw x)).2 s
have_what d (Repay x) s = have_all d (names_of (Repay x)) (written (Repay x)).2 s
have_what d (Adjust x) s = have_all d (names_of (Adjust x)) (written (Adjust x)).2 s
have_what d (Cost x) s = have_all d (names_of (Cost x)) (written (Cost x)).2 s
have_what d (Sent x) s = have_all d (names_of (Sent x)) (written (Sent x)).2 s
have_what d (Amend x) s = have_all d (names_of (Amend x)) (written (Amend x)).2 s

-- ---- a body
test_numbers : (slots : List Slot) (earlier zs : List ℤ) → AreNumbers slots earlier zs → are_numbers slots earlier zs ≡ true
test_numbers [] earlier [] are = refl
test_numbers [] earlier (z ∷ zs) are = absurd are
test_numbers (slot ∷ slots) earlier [] are = absurd are
test_numbers (slot ∷ slots) earlier (z ∷ zs) are = let first : fits slot.line.limit earlier z ≡ true = are.0 in ap (λ (b : Bool). b && are_numbers (after (slot ∷ slots) z) (z ∷ earlier) zs) first ∙ test_numbers (after (slot ∷ slots) z) (z ∷ earlier) zs are.1

same_size : (n m : ℕ) → n ≡ m → (n == m) ≡ true
same_size n m same = grind arith

number_fits : (n : ℕ) → fit (drop 1 key_slots) (whole 8 (pos n) ∷ []) ≡ true
unfolding counts_none
number_fits n = refl

module _ (f : Filing) (can : CanBeFiled f) (has : 1 < (written f.what).0) (d : Data) (says : SaysFiling d f) where
  abbrev kind : Kind
  kind = kind_of f.what

  in_kind : kind_in d ≡ Some kind
  in_kind = ap (λ (o : Option Data). option_and_then kind_named (option_and_then as_str o)) says.kind ∙ name_is f.what

  exactly : has_exactly (keys_of kind) d ≡ true
  exactly =
      let keys = keys_are f.what has in
      let count : length (keys_of kind) ≡ length (names_of f.what) + 2 = ap (λ (l : List (List ℕ)). length l) keys ∙ omega arith in
      let size : has_len (length (keys_of kind)) d ≡ true =
      ap (has_len (length (keys_of kind))) says.is_object ∙ same_size (members_len says.members) (length (keys_of kind)) (says.count ∙ sym count) in
      let all : has_all (keys_of kind) d ≡ true =
      ap (λ (l : List (List ℕ)). has_all l d) keys
      ∙ there d (codes "kind") (codes "number" ∷ names_of f.what) (string (written f.what).1) says.kind (there d (codes "number") (names_of f.what) says.number.0 says.number.1 (have_what d f.what says.what)) in
      rw (size, all) refl

  -- the numbers of its fields
  fields : numbers_said (fields_of kind) d ≡ Some (pos f.key.number ∷ facts_of f.what)
  fields =
      let own = ranged 4 0 999999 f.key.school in
      let second = whole 8 (pos f.key.number) in
      let behind = All-tail IsInRange second (written f.what).2 (All-tail IsInRange own (second ∷ (written f.what).2) can.0) in
      all_read d (drop 1 key_slots) (slots_of f.what) (second ∷ []) (number_fits f.key.number) (All-cons IsInRange second [] tt (All-nil IsInRange)) says.number
      ∙ ap (option_map (λ (ys : List ℤ). pos f.key.number ∷ ys)) (what_read d f.what can.1 has behind says.what)

  by_fields : filing_by_fields f.key.school d kind ≡ Some (said f)
  by_fields =
      ap (option_and_then (λ (zs : List ℤ). within kind (pos f.key.school ∷ zs))) fields
      ∙ ap (λ (b : Bool). if b then Some (kind, numbers_of f) else None) (test_numbers (slots_of_kind kind) [] (numbers_of f) (is_filing f can))

  of_kind : filing_of_kind f.key.school d kind ≡ Some (said f)
  unfolding filing_of_kind
  of_kind = (λ i. if (has_body f.what has i && exactly i) then filing_by_fields f.key.school d kind else None) ∙ by_fields

  pub says_filing : (body : List ℕ) → is_utf8 body ≡ true → read body ≡ Some d → filing_of_body f.key.school body ≡ Some (said f)
  says_filing body text is =
      ap (λ (b : Bool). option_and_then (filing_in f.key.school) (if b then read body else None)) text
      ∙ ap (option_and_then (filing_in f.key.school)) is
      ∙ ap (option_and_then (filing_of_kind f.key.school d)) in_kind ∙ of_kind

-- what the body of such a request asks
pub asks_filing : (head : RequestHead) (body : List ℕ) (f : Filing) → Posts head body f → ask_in (calls.File f.key.school) body ≡ Some (File f)
asks_filing head body f (method, target, can, has, text, d, is, says) = sym (asked_filing f.key.school body f (says_filing f can has d says body text is))
