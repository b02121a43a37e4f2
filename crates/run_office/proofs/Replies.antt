-- The lines of desks, as replies to their rows.
use Rattle.std.proofs.Common.{◌≡◌, ◌≢◌, ◌⊎◌, inl, inr, ℕ, suc, ◌+◌, ◌<◌, List, [], ◌∷◌, ◌++◌, Some, None, Result, length, map, get_or, append_assoc, append-nil, refl, sym, ap, ap₂, ◌∙◌, subst, arith}
use Rattle.std.specs.Prelude.{codes, decimal}
use Rattle.aid_filings.specs.declared.filing.Filing.{Filing}
use Rattle.aid_filings.specs.declared.reply.Operation.{Operation}
use Rattle.format_filings.specs.Rows.{meanings_from, row_meaning}
use Rattle.format_rows.specs.declared.error.RowError.{RowError}
use Rattle.run_claims.specs.AtOnce.{DeskFiles, DeskText, DeskTexts, Replies}
use Rattle.run_claims.specs.AtOnce as many
use Rattle.run_claims.specs.Filed.{IsFault, Row}
use Rattle.run_claims.proofs.Office.{answered_under}
use Rattle.log_desks.specs.Answered.{Answer, Ends, Follows, answer_lines}
use Rattle.log_desks.specs.DeskTexts.{desk_text, stop_at, stop_text}
use Rattle.log_machine.specs.Names.{entries_of}
use Rattle.log_machine.specs.declared.names.Filed.{Filed}
use Rattle.log_machine.specs.declared.names.RowName.{RowName}
use Rattle.log_desks.specs.declared.stop.DeskEnd.{DeskEnd}
use Rattle.log_desks.specs.declared.stop.DeskEnd.TheVariants.{Open, Done, Stopped}
use Rattle.log_desks.specs.declared.stop.DeskStop.{DeskStop}
use Rattle.log_desks.specs.declared.stop.DeskStop.TheVariants.{DiskFault, NoMemory}
use Rattle.office_log.specs.Submits.{asked as filing_asked, office_semantics}
use Rattle.log_machine.specs.Texts.{after_row, row_line}
use Rattle.run_rows.specs.Asks.{asked, desk_texts, said_by}
use Rattle.office_history.specs.Answer.{IsLegal}
use Rattle.log_lock.specs.Passes.{IsOlder}
use Rattle.log_lock.specs.declared.turned.Snapshot.{Snapshot}
use Rattle.aid_stamps.specs.Stamps.{plain_stamp}
use Rattle.log_stamps.specs.Entries.{entries}
use Rattle.log_stamps.specs.Rows.{said_under, stamped_rows, stamped_texts}
use Rattle.log_stamps.specs.declared.entry.StampedOperation.{StampedOperation}
use Rattle.log_stamps.specs.declared.entry.StampedEntry.{StampedEntry}
use Rattle.log_stamps.specs.declared.entry.StampedError.{StampedError}
use Rattle.aid_stamps.specs.declared.stamp.Stamp.{Stamp}
use Rattle.log_desk_runs.specs.DeskTexts.{desk_prefix, desks_text, stop_line, stop_words}
use Rattle.run_office.specs.RanDesks.{FilesOwn, View, left_of}
use Rattle.log_desk_runs.proofs.ByPlace.{AreNamed}
use Rattle.log_desk_runs.proofs.Following.{follows_older, older_refl, older_trans}

-- a part of a legal history is legal
legal_behind : (added old : List (StampedEntry Filing)) → IsLegal (entries (added ++ old)) → IsLegal (entries old)
legal_behind [] old legal = legal
legal_behind (e ∷ added) old legal = legal_behind added old legal.0

legal_part : (old new : List (StampedEntry Filing)) → IsOlder old new → IsLegal (entries new) → IsLegal (entries old)
legal_part old new (added, is) legal = legal_behind added old (subst (λ (l : List (StampedEntry Filing)). IsLegal (entries l)) is legal)

-- what a desk files where there is none
abbrev pub no_files : DeskFiles
no_files = (plain_stamp, [])

-- what rows say under a stamp, the first of them with this number
abbrev pub said_from : ℕ → Stamp → List Row → List (stamped_texts desk_texts).Meaning
said_from number stamp rows = stamped_rows stamp (map asked (meanings_from number rows))

abbrev pub said_in : DeskFiles → List (stamped_texts desk_texts).Meaning
said_in files = said_from 1 files.0 files.1

-- what rows that mean nothing leave
none_meant : (number : ℕ) (stamp : Stamp) (rows : List Row) → said_from number stamp rows ≡ [] → rows ≡ []
none_meant number stamp [] is = refl
none_meant number stamp (row ∷ rows) is = absurd (let bad : ⊥ = cc in bad)

-- rows in front were answered by these lines; none is left where what is left says nothing
record Replied (by : ℕ → RowName) (desk : ℕ) (stamp : Stamp) (closed : List (StampedEntry Filing)) (number : ℕ) (rows : List Row) (seen : List (StampedEntry Filing)) (count : ℕ) (left : List (stamped_texts desk_texts).Meaning) (lines : List ℕ) : Type 0 where
  pub front : List Row
  pub behind : List Row
  pub whole : rows ≡ front ++ behind
  pub counted : length front ≡ count
  pub last : left ≡ [] → behind ≡ []
  pub replies : Replies by desk stamp closed number front seen lines

-- why a desk stopped, behind the row's number
abbrev pub fault_of : DeskStop → List ℕ
fault_of (DiskFault None) = codes "fault disk none\n"
fault_of (DiskFault (Some position)) = codes "fault disk " ++ decimal position ++ codes "\n"
fault_of NoMemory = codes "fault memory\n"

fault_said : (stop : DeskStop) → IsFault (fault_of stop) []
fault_said (DiskFault None) = (codes "disk none", [], refl, refl)
fault_said (DiskFault (Some position)) = (codes "disk ", position ∷ [], refl, append-nil _ ∙ ap (λ (digits : List ℕ). codes "fault disk " ++ digits ++ codes "\n") (sym (append-nil (decimal position))))
fault_said NoMemory = (codes "memory", [], refl, refl)

-- the line of a stop
pub stop_begins : (prefix : List ℕ) (row : ℕ) (stop : DeskStop) → prefix ++ stop_words row stop ≡ prefix ++ decimal row ++ codes " " ++ fault_of stop
stop_begins prefix row stop = ap (λ l. prefix ++ l) (words stop) ∙ (sym (append_assoc prefix (decimal row) (codes " " ++ fault_of stop)) ∙ sym (append_assoc (prefix ++ decimal row) (codes " ") (fault_of stop)))
  where
    words : (s : DeskStop) → stop_words row s ≡ decimal row ++ (codes " " ++ fault_of s)
    words (DiskFault None) = refl
    words (DiskFault (Some position)) = append_assoc (decimal row ++ codes " fault disk ") (decimal position) (codes "\n") ∙ append_assoc (decimal row) (codes " fault disk ") (decimal position ++ codes "\n")
    words NoMemory = refl

-- one row more, in front
reply : (by : ℕ → RowName) (desk number : ℕ) (stamp : Stamp) (closed seen now : List (StampedEntry Filing)) (a : Answer (StampedEntry Filing) (StampedOperation Operation) (StampedError RowError)) (answers : List (Answer (StampedEntry Filing) (StampedOperation Operation) (StampedError RowError))) (row : Row) (rows : List Row) (left : List (stamped_texts desk_texts).Meaning)
    → IsLegal (entries closed) → IsOlder now closed → Follows office_semantics seen (a ∷ answers) now → AreNamed office_semantics by desk number (a ∷ answers) → said_under said_by a.row ≡ (asked (row_meaning number row), stamp)
    → Replied by desk stamp closed (number + 1) rows (after_row office_semantics a.past a.row) (length answers) left (answer_lines office_semantics (stamped_texts desk_texts) (desk_prefix desk) (number + 1) answers)
    → Replied by desk stamp closed number (row ∷ rows) seen (length (a ∷ answers)) left (answer_lines office_semantics (stamped_texts desk_texts) (desk_prefix desk) number (a ∷ answers))
reply by desk number stamp closed seen now a answers row rows left legal older follows named means more = record {
  front = row ∷ more.front;
  behind = more.behind;
  whole = ap (λ l. row ∷ l) more.whole;
  counted = ap suc more.counted;
  last = more.last;
  replies = many.more number row more.front seen a.past (after_row office_semantics a.past a.row) (row_line office_semantics (stamped_texts desk_texts) a.past number a.row)
      (answer_lines office_semantics (stamped_texts desk_texts) (desk_prefix desk) (number + 1) answers) follows.0
      (answered_under stamp a.past number row a.row (legal_part a.past closed (older_trans a.past now closed before older) legal) means) named.0
      (older_trans (after_row office_semantics a.past a.row) now closed (follows_older office_semantics (after_row office_semantics a.past a.row) now answers follows.1) older) more.replies;
}
  where
    before : IsOlder a.past now
    before = follows_older office_semantics a.past now (a ∷ answers) (older_refl a.past, follows.1)

-- the answers of a desk are replies to its rows in front
replied : (by : ℕ → RowName) (desk number : ℕ) (stamp : Stamp) (closed seen now : List (StampedEntry Filing)) (answers : List (Answer (StampedEntry Filing) (StampedOperation Operation) (StampedError RowError))) (taken : List (Result (StampedOperation Operation) (StampedError RowError))) (rest : List (stamped_texts desk_texts).Meaning) (rows : List Row)
    → IsLegal (entries closed) → IsOlder now closed → Follows office_semantics seen answers now → AreNamed office_semantics by desk number answers
    → said_from number stamp rows ≡ map (said_under said_by) (map (λ (a : Answer (StampedEntry Filing) (StampedOperation Operation) (StampedError RowError)). a.row) answers ++ taken) ++ rest
    → Replied by desk stamp closed number rows seen (length answers) (map (said_under said_by) taken ++ rest) (answer_lines office_semantics (stamped_texts desk_texts) (desk_prefix desk) number answers)
replied by desk number stamp closed seen now [] taken rest rows legal older follows named is = record {
  front = [];
  behind = rows;
  whole = refl;
  counted = refl;
  last = λ none. none_meant number stamp rows (is ∙ none);
  replies = many.none number seen;
}
replied by desk number stamp closed seen now (a ∷ answers) taken rest [] legal older follows named is = absurd (let bad : ⊥ = cc in bad)
replied by desk number stamp closed seen now (a ∷ answers) taken rest (row ∷ rows) legal older follows named is =
    let means : said_under said_by a.row ≡ (asked (row_meaning number row), stamp) = cc in
    let others : said_from (suc number) stamp rows ≡ map (said_under said_by) (map (λ (x : Answer (StampedEntry Filing) (StampedOperation Operation) (StampedError RowError)). x.row) answers ++ taken) ++ rest = cc in
    reply by desk number stamp closed seen now a answers row rows (map (said_under said_by) taken ++ rest) legal older follows named means
    (replied by desk (number + 1) stamp closed (after_row office_semantics a.past a.row) now answers taken rest rows legal older follows.1 named.1
    (subst (λ (n : ℕ). said_from n stamp rows ≡ map (said_under said_by) (map (λ (x : Answer (StampedEntry Filing) (StampedOperation Operation) (StampedError RowError)). x.row) answers ++ taken) ++ rest) (omega arith) others))

-- the desk has this number, and files these rows under their stamp
pub record IsOf (number : ℕ) (files : DeskFiles) (desk : View) : Type 0 where
  pub numbered : desk.number ≡ number
  pub prefix : desk.prefix ≡ desk_prefix number
  pub rows_are : left_of desk.rows ≡ said_in files

module _ (by : ℕ → RowName) (opening : Snapshot (Filed (StampedEntry Filing))) (past closed : List (StampedEntry Filing)) (status : ℕ) (opens : entries_of opening.list ≡ past) (legal : IsLegal (entries closed)) where
  -- what a desk writes
  one_desk : (number : ℕ) (files : DeskFiles) (before after : View) (own : FilesOwn opening before after) → IsOf number files before → IsOlder (entries_of own.known.seen) closed
      → AreNamed office_semantics by number 1 own.files.answers → ((stop : DeskStop) → after.ended ≡ Stopped stop → status ≢ 0) → DeskText by number files.0 files.1 past closed status (desk_text (stop_line after.prefix) after)
  one_desk number files before after own of older named stopped = record {
    answered = replies.front;
    left = replies.behind;
    whole = replies.whole;
    lines = answer_lines office_semantics (stamped_texts desk_texts) (desk_prefix number) 1 own.files.answers;
    stop = stop_text (stop_line after.prefix) (stop_at after.number after.answered after.ended);
    written = ap (λ t. t ++ stop_text (stop_line after.prefix) (stop_at after.number after.answered after.ended))
        (own.files.text ∙ ap (λ p. answer_lines office_semantics (stamped_texts desk_texts) p 1 own.files.answers) of.prefix);
    replies = replies.replies;
    stops = ends after.ended refl own.files.ends;
  }
    where
      replies : Replied by number files.0 closed 1 files.1 past (length own.files.answers) (map (said_under said_by) own.files.taken ++ own.files.rest)
          (answer_lines office_semantics (stamped_texts desk_texts) (desk_prefix number) 1 own.files.answers)
      replies = replied by number 1 files.0 closed past (entries_of own.known.seen) own.files.answers own.files.taken own.files.rest files.1 legal older
          (subst (λ l. Follows office_semantics l own.files.answers (entries_of own.known.seen)) (ap (λ (s : Snapshot (Filed (StampedEntry Filing))). entries_of s.list) own.opening_is ∙ opens) own.files.follows) named
          (sym of.rows_are ∙ own.files.split)

      stop_is : (stop : DeskStop) → stop_line after.prefix (record { desk = after.number; row = after.answered + 1 }) stop
          ≡ codes "desk " ++ decimal number ++ codes " " ++ decimal (length replies.front + 1) ++ codes " " ++ fault_of stop
      stop_is stop = ap₂ (λ p (n : ℕ). p ++ stop_words (n + 1) stop) (own.prefix ∙ of.prefix) (own.files.counted ∙ sym replies.counted) ∙ stop_begins (desk_prefix number) (length replies.front + 1) stop

      ends : (end : DeskEnd) → after.ended ≡ end → Ends filing_asked (record { desk = before.number; row = after.answered + 1 }) end own.files.taken own.files.rest own.known
          → ((replies.behind ≡ []) × (stop_text (stop_line after.prefix) (stop_at after.number after.answered end) ≡ []))
          ⊎ ((status ≢ 0) × (line : List ℕ) × IsFault line [] × (stop_text (stop_line after.prefix) (stop_at after.number after.answered end)
          ≡ codes "desk " ++ decimal number ++ codes " " ++ decimal (length replies.front + 1) ++ codes " " ++ line))
      ends Open is clean = absurd (own.ended is)
      ends Done is done = inl (replies.last (ap₂ (λ t r. map (said_under said_by) t ++ r) done.0 done.1), refl)
      ends (Stopped stop) is at = inr (stopped stop is, fault_of stop, fault_said stop, stop_is stop)

  -- what all desks write, the first of them with this number
  pub all_desks : (number : ℕ) (inputs : List DeskFiles) (before desks : List View) → length before ≡ length inputs → length desks ≡ length before
      → (each : (k : ℕ) (d : View) → k < length before → FilesOwn opening (get_or before k d) (get_or desks k d))
      → ((k : ℕ) (d : View) → k < length before → IsOf (number + k) (get_or inputs k no_files) (get_or before k d))
      → ((k : ℕ) (d : View) (lt : k < length before) → IsOlder (entries_of (each k d lt).known.seen) closed)
      → ((k : ℕ) (d : View) (lt : k < length before) → AreNamed office_semantics by (number + k) 1 (each k d lt).files.answers)
      → ((k : ℕ) (d : View) (stop : DeskStop) → k < length before → (get_or desks k d).ended ≡ Stopped stop → status ≢ 0) → DeskTexts by past closed status number inputs (desks_text desks)
  all_desks number [] [] [] one two each of older named stopped = many.none number
  all_desks number [] [] (d ∷ desks) one two each of older named stopped = absurd (omega (arith, two))
  all_desks number [] (b ∷ before) desks one two each of older named stopped = absurd (omega (arith, one))
  all_desks number (files ∷ inputs) [] desks one two each of older named stopped = absurd (omega (arith, one))
  all_desks number (files ∷ inputs) (b ∷ before) [] one two each of older named stopped = absurd (omega (arith, two))
  all_desks number (files ∷ inputs) (b ∷ before) (d ∷ desks) one two each of older named stopped =
      many.more number files inputs (desk_text (stop_line d.prefix) d) (desks_text desks)
      (one_desk number files b d (each 0 b (omega arith)) (subst (λ (n : ℕ). IsOf n files b) (omega arith) (of 0 b (omega arith))) (older 0 b (omega arith))
      (subst (λ (n : ℕ). AreNamed office_semantics by n 1 (each 0 b (omega arith)).files.answers) (omega arith) (named 0 b (omega arith))) (λ stop is. stopped 0 b stop (omega arith) is))
      (all_desks (number + 1) inputs before desks (omega (arith, one)) (omega (arith, two)) (λ k x lt. each (suc k) x (omega (arith, lt)))
      (λ k x lt. subst (λ (n : ℕ). IsOf n (get_or inputs k no_files) (get_or before k x)) (omega arith) (of (suc k) x (omega (arith, lt))))
      (λ k x lt. older (suc k) x (omega (arith, lt)))
      (λ k x lt. subst (λ (n : ℕ). AreNamed office_semantics by n 1 (each (suc k) x (omega (arith, lt))).files.answers) (omega arith) (named (suc k) x (omega (arith, lt)))) (λ k x stop lt is. stopped (suc k) x stop (omega (arith, lt)) is))
