-- The rows that file what many desks added.
use Rattle.std.proofs.Common.{◌≡◌, ◌⊎◌, inl, inr, ⊎_elim, ℕ, zero, suc, ◌+◌, ◌-◌, ◌<◌, List, [], ◌∷◌, ◌++◌, Some, None, Result, Ok, Err, length, map, reverse, get_or, length-append, append_assoc, append-nil, refl, sym, ap, ap₂, ◌∙◌, subst, arith}
use Rattle.std.specs.Prelude.{Contains, codes, decimal, option_map, if◌then◌else◌}
use Rattle.std.proofs.lemmas.List.{get_or-reverse, get_or_append_left, get_or_at, length-map, length-reverse}
use mathlib.Core.List.{reverse_aux}
use Rattle.std.proofs.lemmas.List.Elements.{Contains-append_cases}
use Rattle.aid_filings.specs.declared.filing.Filing.{Filing}
use Rattle.aid_filings.specs.declared.reply.Operation.{Operation}
use Rattle.aid_filings.specs.declared.reply.Outcome.{Outcome}
use Rattle.aid_filings.specs.declared.reply.Response.{Response}
use Rattle.aid_filings.specs.declared.reply.Response.TheVariants as response
use Rattle.format_filings.specs.Rows.{meanings_from, row_meaning}
use Rattle.format_rows.specs.declared.error.RowError.{RowError}
use Rattle.run_claims.specs.AtOnce.{Admitted, DeskFiles, FilesUnder, row_at}
use Rattle.run_claims.specs.AtOnce as many
use Rattle.run_claims.specs.Filed.{Row}
use Rattle.log_desks.specs.Answered.{Answer, admitted_of, admitted_row, answer_lines, placed}
use Rattle.log_desks.specs.DeskTexts.{desk_text, stop_at, stop_text}
use Rattle.log_machine.specs.Names.{entries_of, rows_of}
use Rattle.log_machine.specs.declared.names.Filed.{Filed}
use Rattle.log_machine.specs.declared.names.RowName.{RowName}
use Rattle.log_desks.specs.declared.stop.DeskEnd.{DeskEnd}
use Rattle.log_desks.specs.declared.stop.DeskStop.TheVariants.{DiskFault}
use Rattle.office_log.specs.OwnLaws.{own_added as plainly_added}
use Rattle.office_log.specs.Submits.{asked as filing_asked, filing_asked as plainly_asked, filing_semantics, office_semantics}
use Rattle.log_stamps.specs.OwnLaws.{own_added as stamped_added}
use Rattle.log_machine.specs.Texts.{row_line}
use Rattle.run_rows.specs.Asks.{asked, desk_texts, said_by}
use Rattle.office_history.specs.Answer.{answer_to, is_admit}
use Rattle.log_lock.specs.Passes.{numbered}
use Rattle.log_lock.specs.declared.turned.Snapshot.{Snapshot}
use Rattle.run_claims.proofs.Office.{files_under}
use Rattle.log_stamps.specs.Entries.{entries, with_stamp}
use Rattle.log_stamps.specs.Rows.{said_under, stamped_rows, stamped_texts}
use Rattle.log_stamps.specs.declared.entry.StampedOperation.{StampedOperation}
use Rattle.log_stamps.specs.declared.entry.StampedEntry.{StampedEntry}
use Rattle.log_stamps.specs.declared.entry.StampedError.{StampedError}
use Rattle.aid_stamps.specs.declared.stamp.Stamp.{Stamp}
use Rattle.log_desk_runs.specs.DeskTexts.{admitted_text, desk_prefix, desks_text, stop_line, stop_words}
use Rattle.log_desk_runs.specs.DesksDone.{HasNamed, by_answer, by_stop}
use Rattle.log_desk_runs.specs.Names.{names_of}
use Rattle.run_office.specs.Copies.{same_stamped}
use Rattle.run_office.specs.RanDesks.{FilesOwn, View}
use Rattle.log_desk_runs.proofs.Admits.{admits_at, in_placed}
use Rattle.log_desk_runs.proofs.NameLists.{entries_told, length-told, rows_told, told_all, told_at, told_by}
use Rattle.run_office.proofs.Replies.{IsOf, fault_of, no_files, said_in, stop_begins}

-- each row that was taken says what it means
said_at : (stamp : Stamp) (number : ℕ) (rows : List Row) (taken : List (Result (StampedOperation Operation) (StampedError RowError))) (rest : List (stamped_texts desk_texts).Meaning) (i : ℕ) (s : Result (StampedOperation Operation) (StampedError RowError))
    → stamped_rows stamp (map asked (meanings_from number rows)) ≡ map (said_under said_by) taken ++ rest → i < length taken
    → said_under said_by (get_or taken i s) ≡ (asked (row_meaning (number + i) (get_or rows i [])), stamp)
said_at stamp number rows [] rest i s is lt = absurd (omega (arith, lt))
said_at stamp number [] (t ∷ taken) rest i s is lt = absurd (let bad : ⊥ = cc in bad)
said_at stamp number (row ∷ rows) (t ∷ taken) rest zero s is lt =
    let here : said_under said_by t ≡ (asked (row_meaning number row), stamp) = cc in
    here ∙ ap (λ (n : ℕ). (asked (row_meaning n row), stamp)) (let same : number ≡ number + 0 = omega arith in same)
said_at stamp number (row ∷ rows) (t ∷ taken) rest (suc i) s is lt =
    let more : stamped_rows stamp (map asked (meanings_from (suc number) rows)) ≡ map (said_under said_by) taken ++ rest = cc in
    said_at stamp (suc number) rows taken rest i s more (omega (arith, lt)) ∙ ap (λ (n : ℕ). (asked (row_meaning n (get_or rows i [])), stamp)) (let same : suc number + i ≡ number + suc i = omega arith in same)

-- a filing that was added past others is that which was asked
pub asked_of : (past : List (StampedEntry Filing)) (operation : StampedOperation Operation) (f : StampedEntry Filing) → office_semantics.added past operation ≡ Some f → filing_asked operation ≡ Some f
asked_of past operation f = stamped_added filing_semantics plainly_asked plainly_added past operation f

-- ---- a row files what it added
files_at : (inputs : List DeskFiles) (by : RowName) (k i : ℕ) (operation : StampedOperation Operation) (f : StampedEntry Filing) (taken : List (Result (StampedOperation Operation) (StampedError RowError))) (rest : List (stamped_texts desk_texts).Meaning)
    → by.desk ≡ k + 1 → by.row ≡ i + 1 → i < length taken → get_or taken i (Ok operation) ≡ Ok operation → filing_asked operation ≡ Some f
    → said_in (get_or inputs k no_files) ≡ map (said_under said_by) taken ++ rest → FilesUnder (row_at inputs by) f
files_at inputs by k i operation f taken rest desk row lt at files is =
    let own = get_or inputs k no_files in
    subst (λ (r : Stamp × Row). FilesUnder r f) (ap₂ named (let d : suc k ≡ by.desk = omega (arith, desk) in d) (let r : suc i ≡ by.row = omega (arith, row) in r))
    (files_under (1 + i) (get_or own.1 i []) own.0 operation f (ap (said_under said_by) (sym at) ∙ said_at own.0 1 own.1 taken rest i (Ok operation) is lt) files)
  where
    named : ℕ → ℕ → Stamp × Row
    named m n = row_at inputs (record { desk = m; row = n })

pub row_files : {opening : Snapshot (Filed (StampedEntry Filing))} (inputs : List DeskFiles) (k : ℕ) (before after : View) (own : FilesOwn opening before after) (entry : ℕ × Filed (StampedEntry Filing))
    → IsOf (k + 1) (get_or inputs k no_files) before → HasNamed own entry → FilesUnder (row_at inputs entry.1.by) entry.1.entry
row_files inputs k before after own entry of (by_answer has) =
    let (i, operation, lt, is, files, desk, row) = admits_at office_semantics filing_asked asked_of before.number 1 own.files.answers entry has in
    let rows = map (λ (a : Answer (StampedEntry Filing) (StampedOperation Operation) (StampedError RowError)). a.row) own.files.answers in
    let many : length rows ≡ length own.files.answers = length-map own.files.answers (λ (a : Answer (StampedEntry Filing) (StampedOperation Operation) (StampedError RowError)). a.row) in
    files_at inputs entry.1.by k i operation entry.1.entry (rows ++ own.files.taken) own.files.rest (desk ∙ of.numbered) (omega (arith, row))
    (omega (arith, lt, many, length-append rows own.files.taken)) (get_or_append_left rows own.files.taken (Ok operation) i (omega (arith, lt, many)) ∙ is) files
    (sym of.rows_are ∙ own.files.split)
row_files inputs k before after own entry of (by_stop left) =
    let operation = left.operation in
    let by = left.by in
    let rows = map (λ (a : Answer (StampedEntry Filing) (StampedOperation Operation) (StampedError RowError)). a.row) own.files.answers in
    let many : length rows ≡ length own.files.answers = length-map own.files.answers (λ (a : Answer (StampedEntry Filing) (StampedOperation Operation) (StampedError RowError)). a.row) in
    let all : rows ++ own.files.taken ≡ rows ++ Ok operation ∷ [] = ap (λ l. rows ++ l) left.taken in
    let desk : entry.1.by.desk ≡ before.number = ap (λ (r : RowName). r.desk) by in
    let row : entry.1.by.row ≡ after.answered + 1 = ap (λ (r : RowName). r.row) by in
    let counted = own.files.counted in
    files_at inputs entry.1.by k (length rows) operation entry.1.entry (rows ++ Ok operation ∷ []) own.files.rest (desk ∙ of.numbered) (omega (arith, row, counted, many))
    (omega (arith, length-append rows (Ok operation ∷ []))) (get_or_at rows (Ok operation) [] (Ok operation) (length rows) refl) left.files
    (sym of.rows_are ∙ (own.files.split ∙ ap (λ l. map (said_under said_by) l ++ own.files.rest) all))

-- ---- the line of a row tells of what it added
-- in a text a row's line says that the row was accepted behind so many, or that its desk stopped at it with the next position in doubt
pub record IsShown (lines : List ℕ) (by : RowName) (count : ℕ) : Type 0 where
  pub front : List ℕ
  pub words : List ℕ
  pub behind : List ℕ
  pub within : lines ≡ front ++ (codes "desk " ++ decimal by.desk ++ codes " " ++ decimal by.row ++ codes " " ++ words) ++ behind
  pub says : (words ≡ decimal count ++ codes " accepted " ++ decimal (count + 1) ++ codes " ") ⊎ (words ≡ codes "fault disk " ++ decimal (count + 1) ++ codes "\n")

-- what a part shows the whole shows
shown_left : (text after : List ℕ) (by : RowName) (count : ℕ) → IsShown text by count → IsShown (text ++ after) by count
shown_left text after by count s = record {
  front = s.front;
  words = s.words;
  behind = s.behind ++ after;
  within = ap (λ t. t ++ after) s.within ∙ append_assoc _ s.behind after;
  says = s.says;
}

shown_right : (before text : List ℕ) (by : RowName) (count : ℕ) → IsShown text by count → IsShown (before ++ text) by count
shown_right before text by count s = record {
  front = before ++ s.front;
  words = s.words;
  behind = s.behind;
  within = ap (λ t. before ++ t) s.within ∙ (sym (append_assoc before _ s.behind) ∙ ap (λ t. t ++ s.behind) (sym (append_assoc before s.front _)));
  says = s.says;
}

-- a line in parts: what names the row, what it says, and the rest
parted : (prefix row space front answer position end outcome last : List ℕ)
    → prefix ++ (row ++ space ++ front ++ answer ++ position ++ end ++ outcome ++ last) ≡ (prefix ++ row ++ space ++ (front ++ answer ++ position ++ end)) ++ (outcome ++ last)
parted prefix row space front answer position end outcome last =
    ap (λ l. prefix ++ l) (append_assoc (row ++ space ++ front ++ answer ++ position ++ end) outcome last)
    ∙ (sym (append_assoc prefix (row ++ space ++ front ++ answer ++ position ++ end) (outcome ++ last)) ∙ ap (λ l. l ++ (outcome ++ last)) named)
  where
    said : row ++ space ++ front ++ answer ++ position ++ end ≡ (row ++ space) ++ (front ++ answer ++ position ++ end)
    said = ap (λ l. l ++ position ++ end) (append_assoc (row ++ space) front answer) ∙ (ap (λ l. l ++ end) (append_assoc (row ++ space) (front ++ answer) position) ∙ append_assoc (row ++ space) (front ++ answer ++ position) end)

    named : prefix ++ (row ++ space ++ front ++ answer ++ position ++ end) ≡ prefix ++ row ++ space ++ (front ++ answer ++ position ++ end)
    named = ap (λ l. prefix ++ l) said ∙ (sym (append_assoc prefix (row ++ space) (front ++ answer ++ position ++ end)) ∙ ap (λ l. l ++ (front ++ answer ++ position ++ end)) (sym (append_assoc prefix row space)))

accepted_parted : (prefix : List ℕ) (number front : ℕ) (outcome : Outcome)
    → (behind : List ℕ) × (prefix ++ desk_texts.answer_line number front (response.Admit outcome) ≡ (prefix ++ decimal number ++ codes " " ++ (decimal front ++ codes " accepted " ++ decimal (front + 1) ++ codes " ")) ++ behind)
accepted_parted prefix number front outcome = (_, parted prefix (decimal number) (codes " ") (decimal front) (codes " accepted ") (decimal (front + 1)) (codes " ") _ (codes "\n"))

-- the line of a row that was accepted
accepted_shown : (desk number count : ℕ) (past : List (StampedEntry Filing)) (row : Result (StampedOperation Operation) (StampedError RowError)) (entry : ℕ × Filed (StampedEntry Filing)) → entry.0 ≡ count + 1
    → Contains (admitted_row office_semantics (record { desk = desk; row = number }) past row) entry → IsShown (desk_prefix desk ++ row_line office_semantics (stamped_texts desk_texts) past number row) entry.1.by count
accepted_shown desk number count past (Err error) entry at (k, lt, is) = absurd (omega (arith, lt))
accepted_shown desk number count past (Ok operation) entry at has = go (answer_to (entries past) operation.operation) has
  where
    own : RowName
    own = record { desk = desk; row = number }

    go : (v : Response) → Contains (placed (length past + 1) (option_map (with_stamp operation.stamp) (if is_admit v then plainly_asked operation.operation else None)) own) entry → IsShown (desk_prefix desk ++ desk_texts.answer_line number (length past) v) entry.1.by count
    go (response.Admit outcome) there =
        let (files, place, by) = in_placed (length past + 1) (filing_asked operation) own entry there in
        let same : length past ≡ count = omega (arith, at, place) in
        subst (λ (n : RowName). IsShown (desk_prefix desk ++ desk_texts.answer_line number (length past) (response.Admit outcome)) n count) (sym by)
        (subst (λ (c : ℕ). IsShown (desk_prefix desk ++ desk_texts.answer_line number (length past) (response.Admit outcome)) own c) same (record {
          front = [];
          words = decimal (length past) ++ codes " accepted " ++ decimal (length past + 1) ++ codes " ";
          behind = (accepted_parted (desk_prefix desk) number (length past) outcome).0;
          within = (accepted_parted (desk_prefix desk) number (length past) outcome).1;
          says = inl refl;
        }))
    go (response.Again position outcome) (k, lt, is) = absurd (omega (arith, lt))
    go (response.Refused refusal) (k, lt, is) = absurd (omega (arith, lt))
    go (response.Quoted cents) (k, lt, is) = absurd (omega (arith, lt))
    go (response.Standing place) (k, lt, is) = absurd (omega (arith, lt))

answers_shown : (desk number count : ℕ) (answers : List (Answer (StampedEntry Filing) (StampedOperation Operation) (StampedError RowError))) (entry : ℕ × Filed (StampedEntry Filing)) → entry.0 ≡ count + 1
    → Contains (admitted_of office_semantics desk number answers) entry → IsShown (answer_lines office_semantics (stamped_texts desk_texts) (desk_prefix desk) number answers) entry.1.by count
answers_shown desk number count [] entry at (k, lt, is) = absurd (omega (arith, lt))
answers_shown desk number count (a ∷ answers) entry at has =
    ⊎_elim (λ here. shown_left line behind entry.1.by count (accepted_shown desk number count a.past a.row entry at here))
    (λ later. shown_right line behind entry.1.by count (answers_shown desk (number + 1) count answers entry at later))
    (Contains-append_cases (admitted_row office_semantics (record { desk = desk; row = number }) a.past a.row) (admitted_of office_semantics desk (number + 1) answers) entry has)
  where
    line : List ℕ
    line = desk_prefix desk ++ row_line office_semantics (stamped_texts desk_texts) a.past number a.row

    behind : List ℕ
    behind = answer_lines office_semantics (stamped_texts desk_texts) (desk_prefix desk) (number + 1) answers

-- what a desk wrote
abbrev text_of : View → List ℕ
text_of d = desk_text (stop_line d.prefix) d

desk_shown : {opening : Snapshot (Filed (StampedEntry Filing))} (number count : ℕ) (rows : DeskFiles) (before after : View) (own : FilesOwn opening before after) (entry : ℕ × Filed (StampedEntry Filing))
    → IsOf number rows before → HasNamed own entry → entry.0 ≡ count + 1 → IsShown (text_of after) entry.1.by count
desk_shown number count rows before after own entry of (by_answer has) at =
    let prefix : before.prefix ≡ desk_prefix before.number = of.prefix ∙ ap desk_prefix (sym of.numbered) in
    shown_left after.text (stop_text (stop_line after.prefix) (stop_at after.number after.answered after.ended)) entry.1.by count
    (subst (λ t. IsShown t entry.1.by count) (sym (own.files.text ∙ ap (λ p. answer_lines office_semantics (stamped_texts desk_texts) p 1 own.files.answers) prefix))
    (answers_shown before.number 1 count own.files.answers entry at has))
desk_shown number count rows before after own entry of (by_stop left) at =
    shown_right after.text (stop_text (stop_line after.prefix) (stop_at after.number after.answered after.ended)) entry.1.by count
    (subst (λ (n : RowName). IsShown (stop_text (stop_line after.prefix) (stop_at after.number after.answered after.ended)) n count) (sym left.by)
    (subst (λ (e : DeskEnd). IsShown (stop_text (stop_line after.prefix) (stop_at after.number after.answered e)) (record { desk = before.number; row = after.answered + 1 }) count) (sym left.ended)
    (record {
      front = [];
      words = fault_of (DiskFault (Some entry.0));
      behind = [];
      within = ap (λ p. p ++ stop_words (after.answered + 1) (DiskFault (Some entry.0))) (own.prefix ∙ (of.prefix ∙ ap desk_prefix (sym of.numbered)))
          ∙ (stop_begins (desk_prefix before.number) (after.answered + 1) (DiskFault (Some entry.0)) ∙ sym (append-nil _));
      says = inr (ap (λ (p : ℕ). codes "fault disk " ++ decimal p ++ codes "\n") at);
    })))

-- what one desk's text shows that of all desks shows
pub all_shown : (desks : List View) (k : ℕ) (d : View) (by : RowName) (count : ℕ) → k < length desks → IsShown (text_of (get_or desks k d)) by count → IsShown (desks_text desks) by count
all_shown [] k d by count lt s = absurd (omega (arith, lt))
all_shown (x ∷ desks) zero d by count lt s = shown_left (text_of x) (desks_text desks) by count s
all_shown (x ∷ desks) (suc k) d by count lt s = shown_right (text_of x) (desks_text desks) by count (all_shown desks k d by count (omega (arith, lt)) s)

-- a row that is named files what it added, and its line shows it
pub record IsOwn (inputs : List DeskFiles) (lines : List ℕ) (f : Filed (StampedEntry Filing)) (count : ℕ) : Type 0 where
  pub files : FilesUnder (row_at inputs f.by) f.entry
  pub shown : IsShown lines f.by count

pub row_shown : {opening : Snapshot (Filed (StampedEntry Filing))} (inputs : List DeskFiles) (desks : List View) (k count : ℕ) (before x : View) (own : FilesOwn opening before (get_or desks k x)) (entry : ℕ × Filed (StampedEntry Filing))
    → k < length desks → IsOf (k + 1) (get_or inputs k no_files) before → HasNamed own entry → entry.0 ≡ count + 1 → IsOwn inputs (desks_text desks) entry.1 count
row_shown inputs desks k count before x own entry lt of named at = record {
  files = row_files inputs k before (get_or desks k x) own entry of named;
  shown = all_shown desks k x entry.1.by count lt (desk_shown (k + 1) count (get_or inputs k no_files) before (get_or desks k x) own entry of named at);
}

-- each entry that was added is among those that are numbered, at its place
pub numbered_at : {E : Type 0} (n : ℕ) (added : List E) (k : ℕ) (d : E) → k < length added → Contains (numbered n added) (n + (length added - 1 - k) + 1, get_or added k d)
numbered_at n [] k d lt = absurd (omega (arith, lt))
numbered_at n (f ∷ added) zero d lt = (0, omega arith, ap (λ (p : ℕ). (p, f)) (omega arith))
numbered_at n (f ∷ added) (suc k) d lt =
    let same : n + (length added - 1 - k) + 1 ≡ n + (suc (length added) - 1 - suc k) + 1 = omega (arith, lt) in
    let (j, less, is) = subst (λ (p : ℕ). Contains (numbered n added) (p, get_or added k d)) same (numbered_at n added k d (omega (arith, lt))) in
    (suc j, omega (arith, less), is)

-- ---- a line for each filing that was added
turned : (one other : List (Filed (StampedEntry Filing))) → entries_of (reverse_aux one other) ≡ reverse_aux (entries_of one) (entries_of other)
turned [] other = refl
turned (f ∷ one) other = turned one (f ∷ other)

turned_rows : (one other : List (Filed (StampedEntry Filing))) → rows_of (reverse_aux one other) ≡ reverse_aux (rows_of one) (rows_of other)
turned_rows [] other = refl
turned_rows (f ∷ one) other = turned_rows one (f ∷ other)

admits : (inputs : List DeskFiles) (lines : List ℕ) (count : ℕ) (list : List (Filed (StampedEntry Filing))) → ((k : ℕ) (d : Filed (StampedEntry Filing)) → k < length list → IsOwn inputs lines (get_or list k d) (count + k))
    → Admitted inputs lines count (entries_of list) (admitted_text (count + 1) (rows_of list))
admits inputs lines count [] each = many.none count
admits inputs lines count (f ∷ list) each =
    let own : IsOwn inputs lines f count = subst (IsOwn inputs lines f) (omega arith) (each 0 f (omega arith)) in
    many.more count f.entry (entries_of list) f.by (admitted_text (count + 1 + 1) (rows_of list)) own.shown.front own.shown.words own.shown.behind own.files own.shown.within own.shown.says
    (admits inputs lines (count + 1) list (λ k d lt. subst (IsOwn inputs lines (get_or list k d)) (omega arith) (each (suc k) d (omega (arith, lt)))))

-- the oldest first, each with the row that is told of for it
pub admitted_lines : (inputs : List DeskFiles) (lines : List ℕ) (desks : List View) (count : ℕ) (added : List (Filed (StampedEntry Filing)))
    → ((k n : ℕ) (d : Filed (StampedEntry Filing)) → k < length added → n ≡ count + (length added - 1 - k) → IsOwn inputs lines (told_by same_stamped desks (n + 1) (get_or added k d)) n)
    → Admitted inputs lines count (reverse (entries_of added)) (admitted_text (count + 1) (names_of same_stamped desks (count + 1) (reverse (rows_of added))))
admitted_lines inputs lines desks count added each =
    subst (λ l. Admitted inputs lines count l (admitted_text (count + 1) (names_of same_stamped desks (count + 1) (reverse (rows_of added))))) (entries_told same_stamped desks (count + 1) (reverse added) ∙ turned added [])
    (subst (λ l. Admitted inputs lines count (entries_of told) (admitted_text (count + 1) l)) (rows_told same_stamped desks (count + 1) (reverse added) ∙ ap (names_of same_stamped desks (count + 1)) (turned_rows added []))
    (admits inputs lines count told behind))
  where
    told : List (Filed (StampedEntry Filing))
    told = told_all same_stamped desks (count + 1) (reverse added)

    behind : (k : ℕ) (d : Filed (StampedEntry Filing)) → k < length told → IsOwn inputs lines (get_or told k d) (count + k)
    behind k d lt =
        let inside : k < length added = omega (arith, lt, length-told same_stamped desks (count + 1) (reverse added), length-reverse added) in
        let submit : k < length (reverse added) = omega (arith, inside, length-reverse added) in
        subst (λ (f : Filed (StampedEntry Filing)). IsOwn inputs lines f (count + k))
        (ap₂ (λ (n : ℕ) (f : Filed (StampedEntry Filing)). told_by same_stamped desks n f) (let same : count + k + 1 ≡ count + 1 + k = omega arith in same) (sym (get_or-reverse added k d inside)) ∙ sym (told_at same_stamped desks (count + 1) (reverse added) k d submit))
        (each (length added - 1 - k) (count + k) d (omega (arith, inside)) (omega (arith, inside)))
