-- How the entries of a list are kept, and what the list makes of an ask. A list is read newest first.
use Rattle.std.specs.Prelude.{ℕ, Bool, List, Option}
use Rattle.log_journal.specs.declared.header.Header.{Header}

-- how entries are kept: the journal's header, their spelling, and which lists of them are legal
pub record Scheme (Entry : Type 0) : Type 1 where
  -- what the front of its journal says
  pub header : Header
  -- the one spelling of an entry in a journal
  pub spelling : Entry → List ℕ
  -- each number of the entry is in its range, as it is in each entry that a program holds
  pub IsEntry : Entry → Type 0
  -- whether an entry may follow these
  pub admits : List Entry → Entry → Bool
  -- each entry was admitted after those before it
  pub IsLegal : List Entry → Type 0

-- what a list makes of an ask
pub record Semantics (Entry Operation Response : Type 0) : Type 0 where
  -- the answer to the ask
  pub answer : List Entry → Operation → Response
  -- the entry that the ask adds to the list, where it adds one
  pub added : List Entry → Operation → Option Entry
