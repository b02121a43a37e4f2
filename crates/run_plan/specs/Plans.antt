-- What the words of the program say of its opening: whose they are, which file is the journal and how it is opened, and which call is
-- made. Own format.
use Rattle.std.specs.Prelude.{◌≡◌, ◌⊎◌, ◌↔◌, ◌||◌, ℕ, Bool, false, true, IsTrue, List, [], ◌∷◌, bytes_eq, codes, if◌then◌else◌, length, map, string_bytes}
use Rattle.aid_types.specs.Ranges.{IsBetween}
use Rattle.aid_stamps.specs.Stamps.{plain_stamp}
use Rattle.aid_stamps.specs.declared.stamp.Stamp.{Stamp}
use Rattle.run_words.specs.Stamped.{AreStampedDesks, AreStampedServe, IsAmend, IsStamped, IsStampedRow}
use Rattle.run_words.specs.Words.{IsChanges, IsUpgrade}
use Rattle.run_words.specs.declared.command.Command.{Command}
use Rattle.run_words.specs.declared.command.Command.TheVariants.{CheckBook, CheckRows}
use Rattle.run_words.specs.declared.command.MainRow.{MainRow}
use Rattle.run_words.specs.declared.command.MainRow.TheVariants as row
use Rattle.run_plan.specs.declared.plan.JournalPlan.{JournalPlan}
use Rattle.run_plan.specs.declared.plan.Opening.{Opening}
use Rattle.run_plan.specs.declared.plan.Opening.TheVariants as opening
use Rattle.run_plan.specs.declared.plan.Plan.{Plan}
use Rattle.run_plan.specs.declared.plan.Plan.TheVariants as plan
use Rattle.run_plan.specs.declared.plan.Program.{Program}
use Rattle.run_plan.specs.declared.plan.Program.TheVariants.{Office, Loans, Work, Sheet}

-- whose words a first word begins: `loans`, `work` or `sheet` picks a desk, and any other is the path of an aid office's journal
abbrev pub program_of : List ℕ → Program
program_of word =
    if bytes_eq word (codes "loans") then Loans
    else if bytes_eq word (codes "work") then Work
    else if bytes_eq word (codes "sheet") then Sheet
    else Office

-- whose the words are
abbrev pub program_in : List (List ℕ) → Program
program_in [] = Office
program_in (word ∷ behind) = program_of word

-- the words are the auditor's
abbrev pub is_audit : List (List ℕ) → Bool
is_audit [] = false
is_audit (word ∷ behind) = bytes_eq word (codes "audit") || bytes_eq word (codes "clock")

-- the words behind the first
abbrev pub behind_first : List (List ℕ) → List (List ℕ)
behind_first [] = []
behind_first (word ∷ behind) = behind

-- the words from the journal's path on
abbrev pub from_path : Program → List (List ℕ) → List (List ℕ)
from_path Office words = words
from_path Loans words = behind_first words
from_path Work words = behind_first words
from_path Sheet words = behind_first words

-- The words behind the path are `desks` and so many files, 1 to 16: of the aid office under a stamp, of the loan desk under none.
abbrev pub AreDesksOf : Program → List (List ℕ) → ℕ → Stamp → Type 0
AreDesksOf Office words files stamp = AreStampedDesks words files stamp
AreDesksOf Loans words files stamp = (stamp ≡ plain_stamp) × (paths : List (List ℕ)) × (words ≡ codes "desks" ∷ paths) × (files ≡ length paths) × IsBetween 1 16 files
AreDesksOf Work words files stamp = ⊥
AreDesksOf Sheet words files stamp = ⊥

-- the words behind a desk's journal ask for a text of its list: they begin with `report` or with `upto`
abbrev pub asks_report : List (List ℕ) → Bool
asks_report [] = false
asks_report (word ∷ behind) = bytes_eq word (codes "report") || bytes_eq word (codes "upto")

-- the words need no more than to read the journal: those of a sheet, and of a text of a desk's list
abbrev pub is_reading : Program → List (List ℕ) → Bool
is_reading Office words = false
is_reading Loans words = asks_report words
is_reading Work words = asks_report words
is_reading Sheet words = true

-- the words found a list in the journal's file, or build one there of another journal
abbrev pub IsFounding : Program → List (List ℕ) → Type 0
IsFounding Office words = ((stamp : Stamp) × IsStamped words stamp (codes "found" ∷ []))
    ⊎ (((file : List ℕ) × IsUpgrade words file) ⊎ ((stamp : Stamp) × (file : List ℕ) × (number : ℕ) × IsAmend words stamp file number))
IsFounding Loans words = words ≡ codes "found" ∷ []
IsFounding Work words = words ≡ codes "found" ∷ []
IsFounding Sheet words = ⊥

-- the words need no journal: they are no row of the aid office's, or that of a check
pub record IsUnheld (call : MainRow) (words : List (List ℕ)) : Type 0 where
  pub run : call ≡ row.Run
  pub check : (names : List (List ℕ)) (stamp : Stamp) (command : Command) → IsStampedRow names words stamp command → (command ≡ CheckRows) ⊎ (command ≡ CheckBook)

-- The call that the words behind the path need, and how the journal's file is opened for it.
pub record Suits (program : Program) (words : List (List ℕ)) (call : MainRow) (how : Opening) : Type 0 where
  pub desks : (files : ℕ) (stamp : Stamp) → (call ≡ row.Desks files stamp) ↔ AreDesksOf program words files stamp
  pub serve : (port workers sessions : ℕ) (stamp : Stamp) → (call ≡ row.Serve port workers sessions stamp) ↔ ((program ≡ Office) × AreStampedServe words port workers sessions stamp)
  pub upgrade : (call ≡ row.Upgrade) ↔ ((program ≡ Office) × ((file : List ℕ) × IsUpgrade words file))
  pub amend : (call ≡ row.Amend) ↔ ((program ≡ Office) × (stamp : Stamp) × (file : List ℕ) × (number : ℕ) × IsAmend words stamp file number)
  pub changes : (call ≡ row.Changes) ↔ ((program ≡ Sheet) × ((file : List ℕ) × IsChanges words file))
  -- only a journal that is read alone is opened so
  pub read : (how ≡ opening.Read) ↔ IsTrue (is_reading program words)
  -- only a journal that nothing is done with isn't held
  pub unheld : how ≡ opening.Open → (program ≡ Office) × IsUnheld call words
  pub founds : (how ≡ opening.Found) ↔ IsFounding program words

-- the plan of words that aren't the auditor's, from the journal's path on
pub data IsPlanFromPath (program : Program) (words : List (List ℕ)) : Plan → Type 0 where
  pathless : words ≡ [] → IsPlanFromPath program words (plan.NoJournal program)
  works : (it : JournalPlan) → it.program ≡ program → words ≡ string_bytes it.path ∷ map string_bytes it.words.items
      → Suits program (map string_bytes it.words.items) it.row it.opening → IsPlanFromPath program words (plan.Journal it)

-- What the words of the program say. An auditor's plan has all of them.
abbrev pub IsPlan : List (List ℕ) → Plan → Type 0
IsPlan words (plan.Audit all) = IsTrue (is_audit words) × (map string_bytes all.items ≡ words)
IsPlan words it = (is_audit words ≡ false) × IsPlanFromPath (program_in words) (from_path (program_in words) words) it
