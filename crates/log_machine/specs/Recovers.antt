-- The list that a journal file stands for.
use Rattle.std.specs.Prelude.{◌⊎◌, ℕ, List, [], ◌∷◌, ◌++◌}
use Rattle.log_journal.specs.Stands.{Payloads, StandsFor}
use Rattle.log_machine.specs.Scheme.{Scheme}

-- the spellings of a list's entries, the oldest first
abbrev pub payloads_of : {Entry : Type 0} → (Entry → List ℕ) → List Entry → Payloads
payloads_of spelling [] = []
payloads_of spelling (e ∷ past) = payloads_of spelling past ++ spelling e ∷ []

-- each number of each entry is in its range
abbrev pub AreEntries : {Entry : Type 0} → (Entry → Type 0) → List Entry → Type 0
AreEntries IsEntry [] = Unit {0}
AreEntries IsEntry (e ∷ past) = AreEntries IsEntry past × IsEntry e

-- the file stands for the spellings of this list, and the list is legal
pub record Recovers {Entry : Type 0} (scheme : Scheme Entry) (file : List ℕ) (history : List Entry) : Type 0 where
  pub stands : StandsFor scheme.header file (payloads_of scheme.spelling history)
  pub entries : AreEntries scheme.IsEntry history
  pub legal : scheme.IsLegal history

-- the file recovers one list or the other
abbrev pub RecoversEither : {Entry : Type 0} → Scheme Entry → List Entry → List Entry → List ℕ → Type 0
RecoversEither scheme one other file = Recovers scheme file one ⊎ Recovers scheme file other
