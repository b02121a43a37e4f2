-- What an office of any rules makes of its filings. A list is read newest first.
use Rattle.std.specs.Prelude.{◌≡◌, ℕ, zero, suc, ◌+◌, Bool, true, false, List, [], ◌∷◌, length, map, reverse, slice_get, Option, Some, None, Result, Ok, Err, if◌then◌else◌, codes, refl}
use Rattle.aid_types.specs.declared.number.Key.{Key}
use Rattle.aid_types.specs.declared.award.Refusal.{Refusal}
use Rattle.aid_types.specs.contracts.number.KeyPartialEq.TheImpl.{eq-value as key_eq}
use Rattle.log_journal.specs.declared.header.Header.{Header}
use Rattle.log_machine.specs.Scheme.{Scheme, Semantics}
use Rattle.log_rules.specs.Ruling.{Ruling}
use Rattle.log_rules.specs.declared.rules.Filed.{Filed}
use Rattle.log_rules.specs.declared.response.RuleResponse.{RuleResponse}
use Rattle.log_rules.specs.declared.response.RuleResponse.TheVariants.{Again, Refused, Admit}

-- what a contract sees of a list: its filings, the newest first, and how many more there is room for
pub record Filings (Entry : Type 0) : Type 0 where
  pub list : List Entry
  pub spare : ℕ

-- the filings alone
abbrev pub entries_of : {Entry Outcome : Type 0} → List (Filed Entry Outcome) → List Entry
entries_of filed = map (λ f. f.entry) filed

-- the filings of a list that is read oldest first
abbrev pub history_of : {Entry Outcome : Type 0} → List (Filed Entry Outcome) → List Entry
history_of filed = entries_of (reverse filed)

-- the filing at a position, counted from 1 at the oldest
abbrev pub filing_in : {Entry : Type 0} → List Entry → ℕ → Option Entry
filing_in past zero = None
filing_in past (suc n) = slice_get (reverse past) n

abbrev pub same_key : Key → Key → Bool
same_key k l = key_eq.it k l

-- a filing that stands: its position, counted from 1, and with what it was admitted
pub record Standing (Entry Outcome : Type 0) : Type 0 where
  pub position : ℕ
  pub filing : Entry
  pub outcome : Outcome

abbrev pub standing_with : {Entry Outcome : Type 0} → ℕ → Entry → Outcome → Standing Entry Outcome
standing_with position filing outcome = record { position = position; filing = filing; outcome = outcome }

-- a filing as it stands right after the filings past
abbrev pub standing_after : {Entry Outcome : Type 0} → Ruling Entry Outcome → List Entry → Entry → Standing Entry Outcome
standing_after ruling past g = standing_with (length past + 1) g (ruling.outcome past g)

-- what was found before, or else what is found here
abbrev pub earlier : {A : Type 0} → Option A → Option A → Option A
earlier (Some a) here = Some a
earlier None here = here

abbrev pub here_if : {A : Type 0} → Bool → A → Option A
here_if true a = Some a
here_if false a = None

-- the earliest filing with this key
abbrev pub standing_of : {Entry Outcome : Type 0} → Ruling Entry Outcome → Key → List Entry → Option (Standing Entry Outcome)
standing_of ruling key [] = None
standing_of ruling key (g ∷ past) = earlier (standing_of ruling key past) (here_if (same_key key (ruling.key_of g)) (standing_after ruling past g))

-- no key stands twice, and each filing breaks no rule on those before it
abbrev pub IsLegal : {Entry Outcome : Type 0} → Ruling Entry Outcome → List Entry → Type 0
IsLegal ruling [] = Unit {0}
IsLegal ruling (f ∷ past) = IsLegal ruling past × (standing_of ruling (ruling.key_of f) past ≡ None) × (ruling.breaks past f ≡ None)

-- a filing that breaks no rule has its outcome, and any other the first rule that it breaks
abbrev pub by_rules : {Outcome : Type 0} → Outcome → Option Refusal → Result Outcome Refusal
by_rules outcome None = Ok outcome
by_rules outcome (Some refusal) = Err refusal

abbrev pub judged : {Entry Outcome : Type 0} → Ruling Entry Outcome → List Entry → Entry → Result Outcome Refusal
judged ruling past f = by_rules (ruling.outcome past f) (ruling.breaks past f)

abbrev pub verdict_of : {Outcome : Type 0} → Result Outcome Refusal → RuleResponse Outcome
verdict_of (Ok outcome) = Admit outcome
verdict_of (Err refusal) = Refused refusal

-- A filing whose key stands: this very filing is answered by its position and the outcome of its admission. 15: the key is used
-- for another filing.
abbrev pub answer_there : {Entry Outcome : Type 0} → Ruling Entry Outcome → Entry → Standing Entry Outcome → RuleResponse Outcome
answer_there ruling f s = if ruling.is_same f s.filing then Again s.position s.outcome else Refused (record { rule = 15; kept = s.position; bound = (ruling.key_of f).number })

-- a filing with a new key is judged by its rules
abbrev pub answer_at : {Entry Outcome : Type 0} → Ruling Entry Outcome → List Entry → Entry → Option (Standing Entry Outcome) → RuleResponse Outcome
answer_at ruling past f (Some s) = answer_there ruling f s
answer_at ruling past f None = verdict_of (judged ruling past f)

-- the answer to a filing
abbrev pub answer_of : {Entry Outcome : Type 0} → Ruling Entry Outcome → List Entry → Entry → RuleResponse Outcome
answer_of ruling past f = answer_at ruling past f (standing_of ruling (ruling.key_of f) past)

-- the verdict admits
abbrev pub is_admit : {Outcome : Type 0} → RuleResponse Outcome → Bool
is_admit (Again position outcome) = false
is_admit (Refused refusal) = false
is_admit (Admit outcome) = true

-- the filing, where it may follow
abbrev pub added_of : {Entry Outcome : Type 0} → Ruling Entry Outcome → List Entry → Entry → Option Entry
added_of ruling past f = if is_admit (answer_of ruling past f) then Some f else None

-- The name AIDPELL1 and the version 2, as the aid office's journals have them: each office opens the other's file, and finds it
-- damaged. A file of the version 1 is told apart.
abbrev pub ruled_header : Header
ruled_header = record { name = codes "AIDPELL1"; version = 2; old = Some 1; name_size = refl }

abbrev pub scheme_of : {Entry Outcome : Type 0} → Ruling Entry Outcome → Scheme Entry
scheme_of ruling = record {
  header = ruled_header;
  spelling = ruling.spelling;
  IsEntry = ruling.IsEntry;
  admits = λ past f. is_admit (answer_of ruling past f);
  IsLegal = IsLegal ruling;
}

abbrev pub semantics_of : {Entry Outcome : Type 0} → Ruling Entry Outcome → Semantics Entry Entry (RuleResponse Outcome)
semantics_of ruling = record { answer = answer_of ruling; added = added_of ruling }
