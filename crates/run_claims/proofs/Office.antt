-- A file and a row, in the headline's words and in those of the kept office: both say the same.
use Rattle.std.proofs.Common.{◌≡◌, ◌≢◌, ◌⊎◌, inl, inr, ℕ, zero, suc, ◌+◌, ◌/◌, ◌%◌, ◌≤◌, arith, refl, sym, ap, subst, ◌∙◌, Bool, true, false, List, [], ◌∷◌, ◌++◌, length, get_or, codes, append_assoc, Option, Some, None, Result, Ok, Err, All}
use Rattle.std.specs.Prelude.{ℤ, pos, neg_ℤ, ◌≤ℤ◌, decimal, is_none, option_map, if◌then◌else◌}
use Rattle.std.specs.Int.{cast_unsigned, to_le_bytes, w32, w64}
use Rattle.std.proofs.lemmas.Int.{ints}
use Rattle.std.proofs.lemmas.List.Elements.{All-nil, All-cons, All-head, All-tail}
use Rattle.aid_types.specs.declared.award.Refusal.{Refusal}
use Rattle.aid_filings.specs.declared.filing.Filing.{Filing}
use Rattle.aid_filings.proofs.SameFiling.{tells_filing}
use Rattle.aid_filings.specs.declared.reply.Operation.{Operation}
use Rattle.aid_filings.specs.declared.reply.Operation.TheVariants.{File, Quote, Standing}
use Rattle.aid_filings.specs.declared.reply.Response.{Response}
use Rattle.aid_filings.specs.declared.reply.Response.TheVariants as response
use Rattle.format_rows.specs.Causes.{number_of}
use Rattle.format_filings.specs.Lines.{error_line}
use Rattle.format_filings.specs.Rows.{row_meaning}
use Rattle.format_rows.specs.declared.error.RowError.{RowError}
use Rattle.format_bytes.specs.Spelling.{spelling}
use Rattle.log_journal.specs.Stands.{ArePayloads, body_of, front_of}
use Rattle.log_journal.specs.Header.{header_bytes}
use Rattle.log_journal.proofs.Gates.{front_of-push, payloads-push}
use Rattle.format_kinds.specs.declared.kind.Kind.{Kind}
use Rattle.format_bytes.specs.Numbers.{day_number, kind_of, numbers_of}
use Rattle.run_claims.specs.AtOnce.{FilesUnder}
use Rattle.run_claims.specs.Office.{Answered, AnsweredUnder, Recovers, records_of}
use Rattle.run_claims.specs.Office.Answered.{accepted, again, refused, unread}
use Rattle.log_machine.specs.Recovers.{AreEntries, payloads_of}
use Rattle.log_machine.specs.Submits.{with_entry}
use Rattle.log_machine.proofs.Histories.{recovers_once}
use Rattle.office_log.specs.Recovers as kept
use Rattle.office_log.specs.Scheme.{office_header, office_scheme}
use Rattle.office_log.specs.Submits.{asked as office_asked, filing_added, filing_asked, filing_semantics, office_semantics}
use Rattle.office_log.specs.OfficeLaws.{office_alone, office_keepable}
use Rattle.log_machine.specs.Texts.{after_row, row_line}
use Rattle.run_rows.specs.Asks.{asked, desk_texts, said_by}
use Rattle.aid_stamps.specs.Stamps.{day_bytes, stamp_bytes}
use Rattle.aid_stamps.specs.declared.stamp.Stamp.{Stamp}
use Rattle.log_stamps.specs.Entries.{entries, with_stamp}
use Rattle.log_stamps.specs.Rows.{said_under, stamped_texts}
use Rattle.log_stamps.specs.StampedLaws.{entries-added, length-entries}
use Rattle.log_stamps.specs.declared.entry.StampedOperation.{StampedOperation}
use Rattle.log_stamps.specs.declared.entry.StampedEntry.{StampedEntry}
use Rattle.log_stamps.specs.declared.entry.StampedError.{StampedError}
use Rattle.office_history.specs.Answer.{IsLegal, answer_to, answer_at, answer_new, breaks, is_admit, judged, outcome_at, outcome_of}
use Rattle.office_history.specs.Past.{filing_at, first_of_two, key_at, same_filing}
use Rattle.office_history.proofs.FirstFilings.{skipped}
use Rattle.office_history.proofs.Recorded.{outcome_at-stays, same_itself}
use Rattle.run_claims.specs.Written.{CanBeKept, Files, bytes_of, kept_bytes, lowest, stamped_bytes}
use Rattle.run_claims.specs.Written.Number.{day}
use Rattle.run_claims.proofs.FilingRanges.{can_be_filed, is_filing}
use Rattle.run_claims.proofs.KeptFilings.{kept_is_spelling}
use Rattle.run_claims.proofs.RowLaws.{error_named, row_means}
use Rattle.run_claims.proofs.Admitted.{admitted_legal, keys_differ, legal_admitted, may_follow_is}
use Rattle.format_filings.specs.Replies.{line_of}

-- a filing stands in a history, at a position that is one more than there are filings before it
record StandsAt (past : List Filing) (f : Filing) (position : ℕ) : Type 0 where
  newer : List Filing
  older : List Filing
  whole : past ≡ newer ++ f ∷ older
  place : position ≡ length older + 1

one_more : (g : Filing) (past : List Filing) (f : Filing) (n : ℕ) → StandsAt past f n → StandsAt (g ∷ past) f n
one_more g past f n s = record { newer = g ∷ s.newer; older = s.older; whole = ap (λ (l : List Filing). g ∷ l) s.whole; place = s.place }

-- where a filing is found it stands
found : (past : List Filing) (f : Filing) (n : ℕ) → filing_at f past ≡ suc n → StandsAt past f (suc n)
found [] f n is = absurd (let bad : ⊥ = cc in bad)
found (g ∷ past) f n is = go (found past f n) (same_filing f g) (filing_at f past) refl refl is
  where
    go : (filing_at f past ≡ suc n → StandsAt past f (suc n)) → (same : Bool) (before : ℕ) → same_filing f g ≡ same → filing_at f past ≡ before
        → first_of_two same before (length past + 1) ≡ suc n → StandsAt (g ∷ past) f (suc n)
    go more false before same at is = one_more g past f (suc n) (more (at ∙ is))
    go more true zero same at is = record { newer = []; older = past; whole = ap (λ (x : Filing). x ∷ past) (sym (tells_filing.same f g same)); place = sym is }
    go more true (suc before) same at is = one_more g past f (suc n) (more (at ∙ is))

-- where it isn't found it doesn't stand
not_found : (past : List Filing) (f : Filing) → filing_at f past ≡ 0 → All (λ g. g ≢ f) past
not_found past f is = λ k d lt same. differs (get_or past k d) same (skipped (λ g. same_filing f g) past is k d lt)
  where
    differs : (g : Filing) → g ≡ f → same_filing f g ≡ false → ⊥
    differs g same is = let itself = same_itself f in let told : same_filing f g ≡ true = ap (λ (x : Filing). same_filing f x) same ∙ itself in cc

-- the outcome at the position of a filing that stands
outcome_told : (past : List Filing) (f : Filing) (n : ℕ) (s : StandsAt past f n) → outcome_at past n ≡ outcome_of s.older f
outcome_told past f n s = ap (λ (l : List Filing). outcome_at l n) s.whole ∙ ap (λ (p : ℕ). outcome_at (s.newer ++ f ∷ s.older) p) s.place ∙ outcome_at-stays s.newer s.older f

-- a row that is a filing's means it, one that is none is an error, and no row is an ask for anything else
meant : (m : Result (Kind × List ℤ) RowError) (x : Kind × List ℤ) → Ok (Some x) ≡ asked m → m ≡ Ok x
meant (Ok y) x is = let same : x ≡ y = cc in ap (λ (z : Kind × List ℤ). Ok z) (sym same)
meant (Err e) x is = absurd cc

failed : (m : Result (Kind × List ℤ) RowError) (e : RowError) → Err e ≡ asked m → m ≡ Err e
failed (Ok y) e is = absurd cc
failed (Err d) e is = let same : e ≡ d = cc in ap (λ (z : RowError). Err z) (sym same)

asks_nothing : (m : Result (Kind × List ℤ) RowError) → Ok None ≡ asked m → ⊥
asks_nothing (Ok y) is = cc
asks_nothing (Err e) is = cc

-- ---- what is kept of a filing with its stamp
-- the four lowest bytes of a number in their range are its word's
four : (z : ℤ) → neg_ℤ (pos 25567) ≤ℤ z → z ≤ℤ pos 2932896 → lowest 4 z ≡ to_le_bytes w32 (cast_unsigned w32 z)
four z low high =
    let whole = cast_unsigned w64 z in
    let word = cast_unsigned w32 z in
    let a : whole % 256 ≡ word % 256 = omega (arith, ints, low, high) in
    let b : whole / 256 % 256 ≡ word / 256 % 256 = omega (arith, ints, low, high) in
    let c : whole / 65536 % 256 ≡ word / 65536 % 256 = omega (arith, ints, low, high) in
    let d : whole / 16777216 % 256 ≡ word / 16777216 % 256 = omega (arith, ints, low, high) in
    λ i. a i ∷ b i ∷ c i ∷ d i ∷ []

day_is : (d : ℕ) → d ≤ 2958463 → bytes_of (day d) ≡ day_bytes d
day_is d within = four (day_number d) (omega (arith, ints)) (omega (arith, ints))

stamp_is : (s : Stamp) → s.day ≤ 2958463 → bytes_of (day s.day) ++ length s.clerk ∷ s.clerk ≡ stamp_bytes s
stamp_is s within = ap (λ (l : List ℕ). l ++ length s.clerk ∷ s.clerk) (day_is s.day within)

stamped_is : (e : StampedEntry Filing) → CanBeKept e → stamped_bytes e ≡ office_scheme.spelling e
stamped_is e is =
    sym (append_assoc (bytes_of (day e.stamp.day)) (length e.stamp.clerk ∷ e.stamp.clerk) (kept_bytes e.entry))
    ∙ (λ i. stamp_is e.stamp is.0 i ++ kept_is_spelling e.entry is.2 i)

to_entry : (e : StampedEntry Filing) → CanBeKept e → office_scheme.IsEntry e
to_entry e is = (record { day = is.0; clerk = is.1 }, is_filing e.entry is.2)

from_entry : (e : StampedEntry Filing) → office_scheme.IsEntry e → CanBeKept e
from_entry e is = (is.0.day, is.0.clerk, can_be_filed e.entry is.1)

all_entries : (history : List (StampedEntry Filing)) → All CanBeKept history → AreEntries office_scheme.IsEntry history
all_entries [] filed = tt
all_entries (e ∷ past) filed = (all_entries past (All-tail CanBeKept e past filed), to_entry e (All-head CanBeKept e past filed))

can_be_all : (history : List (StampedEntry Filing)) → AreEntries office_scheme.IsEntry history → All CanBeKept history
can_be_all [] are = All-nil CanBeKept
can_be_all (e ∷ past) are = All-cons CanBeKept e past (from_entry e are.1) (can_be_all past are.0)

payloads : (history : List (StampedEntry Filing)) → AreEntries office_scheme.IsEntry history → ArePayloads (payloads_of office_scheme.spelling history)
payloads [] are = tt
payloads (e ∷ past) are = payloads-push (payloads_of office_scheme.spelling past) (office_scheme.spelling e) (payloads past are.0) (office_keepable e are.1)

-- the records of a history stand behind the header
fronts : (history : List (StampedEntry Filing)) → All CanBeKept history → front_of office_header (payloads_of office_scheme.spelling history) ≡ header_bytes office_header ++ records_of history
fronts [] filed = refl
fronts (e ∷ past) filed =
    front_of-push office_header (payloads_of office_scheme.spelling past) (office_scheme.spelling e)
    ∙ ap (λ (l : List ℕ). l ++ 1 ∷ body_of (office_scheme.spelling e)) (fronts past (All-tail CanBeKept e past filed))
    ∙ append_assoc (header_bytes office_header) (records_of past) (1 ∷ body_of (office_scheme.spelling e))
    ∙ ap (λ (l : List ℕ). header_bytes office_header ++ (records_of past ++ 1 ∷ body_of l)) (sym (stamped_is e (All-head CanBeKept e past filed)))
    ∙ ap (λ (l : List ℕ). header_bytes office_header ++ l) (sym (append_assoc (records_of past) (1 ∷ to_le_bytes w32 (length (stamped_bytes e))) (stamped_bytes e)))

pub to_kept : (file : List ℕ) (history : List (StampedEntry Filing)) → Recovers file history → kept.Recovers file history
to_kept file history r =
    let are = all_entries history r.filed in
    record {
      stands = record {
        gate = r.gate;
        free = r.free;
        closed = r.closed;
        whole = r.whole ∙ ap (λ (l : List ℕ). l ++ r.gate ∷ r.free) (sym (fronts history r.filed));
        sizes = payloads history are;
      };
      entries = are;
      legal = admitted_legal (entries history) r.admitted;
    }

pub from_kept : (file : List ℕ) (history : List (StampedEntry Filing)) → kept.Recovers file history → Recovers file history
from_kept file history r =
    let filed = can_be_all history r.entries in
    record {
      gate = r.stands.gate;
      free = r.stands.free;
      closed = r.stands.closed;
      whole = r.stands.whole ∙ ap (λ (l : List ℕ). l ++ r.stands.gate ∷ r.stands.free) (fronts history filed);
      filed = filed;
      admitted = legal_admitted (entries history) r.legal;
    }

-- a file recovers one history at most
pub one_history : (file : List ℕ) (one other : List (StampedEntry Filing)) → Recovers file one → Recovers file other → one ≡ other
one_history file one other r s = recovers_once office_scheme office_alone file one other (to_kept file one r) (to_kept file other s)

-- a row whose meaning is a filing files it
row_of : (number : ℕ) (row : List (List ℕ)) (f : Filing) → said_by (Ok (File f)) ≡ asked (row_meaning number row) → Files row f
row_of number row f is = (row_means number row f).0 (meant (row_meaning number row) (kind_of f.what, numbers_of f) is)

files_of : (number : ℕ) (row : List (List ℕ)) (operation : Operation) (f : Filing) → said_by (Ok operation) ≡ asked (row_meaning number row) → filing_asked operation ≡ Some f → Files row f
files_of number row (File g) f is operations = let same : g ≡ f = cc in subst (λ (x : Filing). Files row x) same (row_of number row g is)
files_of number row (Quote school student year term) f is operations = absurd (asks_nothing (row_meaning number row) is)
files_of number row (Standing student year) f is operations = absurd (asks_nothing (row_meaning number row) is)

-- the same of an ask with a stamp
abbrev pub row_asks : StampedOperation Operation → Result (StampedOperation Operation) (StampedError RowError)
row_asks operation = Ok operation

pub files_under : (number : ℕ) (row : List (List ℕ)) (stamp : Stamp) (operation : StampedOperation Operation) (e : StampedEntry Filing) → said_under said_by (row_asks operation) ≡ (asked (row_meaning number row), stamp)
    → office_asked operation ≡ Some e → FilesUnder (stamp, row) e
files_under number row stamp operation e is operations = go (filing_asked operation.operation) refl operations
  where
    go : (o : Option Filing) → filing_asked operation.operation ≡ o → option_map (with_stamp operation.stamp) o ≡ Some e → FilesUnder (stamp, row) e
    go None told same = absurd (let bad : ⊥ = cc in bad)
    go (Some f) told same =
        let one : with_stamp operation.stamp f ≡ e = cc in
        let files : Files row f = files_of number row operation.operation f (ap (λ m. m.0) is) told in
        subst (λ (x : StampedEntry Filing). FilesUnder (stamp, row) x) one (files, ap (λ m. m.1) is)

-- a row that is an error files nothing
files_nothing : (number : ℕ) (row : List (List ℕ)) (e : RowError) → row_meaning number row ≡ Err e → (f : Filing) → Files row f → ⊥
files_nothing number row e is f files =
    let read = (row_means number row f).1 files in
    let bad : ⊥ = cc in bad

module _ (past : List Filing) (legal : IsLegal past) (number : ℕ) (row : List (List ℕ)) (f : Filing) (files : Files row f) where
  -- the line of a verdict and the history with what it adds answer the row
  abbrev Tells : Response → Type 0
  Tells v = Answered past number row (line_of number (length past) v) (with_entry (if is_admit v then Some f else None) past)

  by_rules : key_at f.key past ≡ 0 → All (λ g. g ≢ f) past → (broken : Option Refusal) → breaks past f ≡ broken → Tells (judged past f broken)
  by_rules new differ (Some r) is = refused f r files differ (λ keys. may_follow_is past f legal ∙ ap (λ (o : Option Refusal). is_none o) is)
  by_rules new differ None is = accepted f files ((keys_differ f.key past).0 new) (may_follow_is past f legal ∙ ap (λ (o : Option Refusal). is_none o) is)

  by_key : All (λ g. g ≢ f) past → (kept : ℕ) → key_at f.key past ≡ kept → Tells (answer_new past f kept)
  by_key differ zero is = by_rules is differ (breaks past f) refl
  by_key differ (suc n) is = refused f (record { rule = 15; kept = suc n; bound = f.key.number }) files differ (λ keys. let none = (keys_differ f.key past).1 keys in absurd cc)

  by_filing : (position : ℕ) → filing_at f past ≡ position → Tells (answer_at past f position)
  by_filing zero is = by_key (not_found past f is) (key_at f.key past) refl
  by_filing (suc n) is =
      let s = found past f n is in
      let line : line_of number (length past) (response.Again (length s.older + 1) (outcome_of s.older f)) ≡ line_of number (length past) (response.Again (suc n) (outcome_at past (suc n))) =
      ap (λ (p : ℕ). line_of number (length past) (response.Again p (outcome_of s.older f))) (sym s.place) ∙ ap (λ o. line_of number (length past) (response.Again (suc n) o)) (sym (outcome_told past f (suc n) s)) in
      subst (λ (l : List ℕ). Answered past number row l past) line (again f s.newer s.older files s.whole)

-- the line that answers a row, and the history after it, are as its meaning says, stamps apart
answered : (past : List Filing) (number : ℕ) (row : List (List ℕ)) (said : Result Operation RowError) → IsLegal past → said_by said ≡ asked (row_meaning number row)
    → Answered past number row (row_line filing_semantics desk_texts past number said) (after_row filing_semantics past said)
answered past number row (Ok (File f)) legal is = by_filing past legal number row f (row_of number row f is) (filing_at f past) refl
answered past number row (Ok (Quote school student year term)) legal is = absurd (asks_nothing (row_meaning number row) is)
answered past number row (Ok (Standing student year)) legal is = absurd (asks_nothing (row_meaning number row) is)
answered past number row (Err e) legal is =
    let m = failed (row_meaning number row) e is in
    let line : decimal number ++ codes " error " ++ decimal e.field ++ codes " " ++ decimal (number_of e.cause) ++ codes "\n" ≡ error_line e =
    ap (λ (n : ℕ). decimal n ++ codes " error " ++ decimal e.field ++ codes " " ++ decimal (number_of e.cause) ++ codes "\n") (sym (error_named number row e m)) in
    subst (λ (l : List ℕ). Answered past number row l past) line (unread e.field (number_of e.cause) (files_nothing number row e m))

-- ---- with stamps
-- what a row adds joins with its stamp, and the line is that of the filings alone
pub answered_under : (stamp : Stamp) (past : List (StampedEntry Filing)) (number : ℕ) (row : List (List ℕ)) (said : Result (StampedOperation Operation) (StampedError RowError)) → IsLegal (entries past)
    → said_under said_by said ≡ (asked (row_meaning number row), stamp)
    → AnsweredUnder stamp past number row (row_line office_semantics (stamped_texts desk_texts) past number said) (after_row office_semantics past said)
answered_under stamp past number row (Err e) legal is = (answered (entries past) number row (Err e.error) legal (ap (λ m. m.0) is), inl refl)
answered_under stamp past number row (Ok operation) legal is =
    let bare = answered (entries past) number row (Ok operation.operation) legal (ap (λ m. m.0) is) in
    let line : line_of number (length (entries past)) (answer_to (entries past) operation.operation) ≡ line_of number (length past) (answer_to (entries past) operation.operation) =
    ap (λ (n : ℕ). line_of number n (answer_to (entries past) operation.operation)) (length-entries past) in
    let list : with_entry (filing_added (entries past) operation.operation) (entries past) ≡ entries (with_entry (option_map (with_stamp operation.stamp) (filing_added (entries past) operation.operation)) past) = sym (entries-added operation.stamp (filing_added (entries past) operation.operation) past) in (
      subst (λ (l : List ℕ). Answered (entries past) number row l (entries (with_entry (option_map (with_stamp operation.stamp) (filing_added (entries past) operation.operation)) past))) line
          (subst (λ (h : List Filing). Answered (entries past) number row (line_of number (length (entries past)) (answer_to (entries past) operation.operation)) h) list bare),
      joins (filing_added (entries past) operation.operation),
    )
  where
    joins : (added : Option Filing) → (with_entry (option_map (with_stamp operation.stamp) added) past ≡ past) ⊎ ((f : Filing) × (with_entry (option_map (with_stamp operation.stamp) added) past ≡ with_stamp stamp f ∷ past))
    joins None = inl refl
    joins (Some f) = inr (f, ap (λ (s : Stamp). with_stamp s f ∷ past) (ap (λ m. m.1) is))
