-- Reading a filing's bytes from left to right, with the place of the first fault.
use Rattle.std.specs.Prelude.{◌≡◌, ℕ, ℤ, List, [], ◌∷◌, Option, Some, None, Result, Ok, Err}
use Rattle.aid_filings.specs.declared.filing.Filing.{Filing}
use Rattle.format_table.specs.Taking.{byte_source, placed}
use Rattle.format_kinds.specs.Drafts.{numbers_of_kind}
use Rattle.format_kinds.specs.Kinds.{kind_at}
use Rattle.format_kinds.specs.declared.kind.Kind.{Kind}
use Rattle.format_kinds.specs.declared.kind.Kind.TheVariants.{Book}
use Rattle.format_bytes.specs.Numbers.{kind_of, numbers_of}
use Rattle.format_bytes.specs.declared.reading.TakeError.{TakeError}
use Rattle.format_bytes.specs.declared.reading.TakeError.TheVariants.{NotFiling, NoMemory}

-- numbers with their kind
abbrev pub with_kind : Kind → Result (List ℤ) ℕ → Result (Kind × List ℤ) ℕ
with_kind kind (Ok zs) = Ok (kind, zs)
with_kind kind (Err place) = Err place

-- the numbers of a kind, behind its code
abbrev pub of_kind : Option Kind → List ℕ → Result (Kind × List ℤ) ℕ
of_kind None bytes = Err 0
of_kind (Some kind) bytes = with_kind kind (numbers_of_kind byte_source kind (placed 1 bytes))

-- the kind and the numbers that the bytes spell, or the place of the first fault; an unknown kind is one at place 0
abbrev pub taken : List ℕ → Result (Kind × List ℤ) ℕ
taken [] = Err 0
taken (code ∷ bytes) = of_kind (kind_at code) bytes

-- an answer is what reading gives, or that a book was read and memory for it ran out
abbrev pub Gives : Result Filing TakeError → Result (Kind × List ℤ) ℕ → Type 0
Gives (Ok filing) read = read ≡ Ok (kind_of filing.what, numbers_of filing)
Gives (Err (NotFiling place)) read = read ≡ Err place
Gives (Err NoMemory) read = (zs : List ℤ) × (read ≡ Ok (Book, zs))
