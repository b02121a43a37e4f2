-- What the tasks of an amendment and of a comparison take from the words.
use Rattle.std.specs.Prelude.{ℕ, List}
use Rattle.aid_stamps.specs.declared.stamp.Stamp.{Stamp}
use Rattle.run_words.specs.Stamped.{IsAmend}
use Rattle.run_words.specs.Words.{IsChanges}
use Rattle.run_plan.specs.declared.plan.Program.{Program}
use Rattle.run_plan.specs.declared.plan.Program.TheVariants.{Loans, Work}
use Rattle.run_program.specs.declared.task.Task.{Task}
use Rattle.run_program.specs.declared.task.Task.TheVariants as task

-- where the words are an amendment's, the task is one, with the stamp and the number of its first record that they say
abbrev pub TakesRequest : {D B F P : Type 0} → List (List ℕ) → Task D B F P → Type 0
TakesRequest words (task.Amend source target request) = (file : List ℕ) × IsAmend words request.stamp file request.number
TakesRequest words other = (stamp : Stamp) (file : List ℕ) (number : ℕ) → IsAmend words stamp file number → ⊥

-- where the words are those of a comparison, the task is one; else it is a sheet
abbrev pub IsOfSheet : {D B F P : Type 0} → List (List ℕ) → Task D B F P → Type 0
IsOfSheet words (task.Changes old new) = (file : List ℕ) × IsChanges words file
IsOfSheet words (task.Sheet journal) = (file : List ℕ) → IsChanges words file → ⊥
IsOfSheet words other = ⊥

-- the task of words that need no more than to read a journal: of each desk its own, and else that of a sheet
abbrev pub IsReading : {D B F P : Type 0} → Program → List (List ℕ) → Task D B F P → Type 0
IsReading Loans words (task.LoanSheet journal) = Unit {0}
IsReading Loans words other = ⊥
IsReading Work words (task.WorkSheet journal) = Unit {0}
IsReading Work words other = ⊥
IsReading program words of = IsOfSheet words of
