-- What the front of a file says.
use Rattle.std.specs.Prelude.{◌≡◌, ◌≢◌, ◌≤◌, ◌<◌, ℕ, List, length, take, slice_index, Some}
use Rattle.log_journal.specs.Header.{header_bytes, with_version}
use Rattle.log_journal.specs.Stands.{IsUnborn}
use Rattle.log_journal.specs.declared.header.Header.{Header}
use Rattle.log_journal.specs.declared.head.FileHead.{FileHead}
use Rattle.log_journal.specs.declared.head.FileHead.TheVariants.{Short, Unfinished, Born, Old, Foreign}

-- this header stands there, and a byte behind it
pub record IsBorn (header : Header) (file : List ℕ) : Type 0 where
  pub long : 17 ≤ length file
  pub starts : take 16 file ≡ header_bytes header

-- this header with the version that it names as the one before stands there; never where it names none
abbrev pub StartsOld : Header → List ℕ → Type 0
StartsOld header file = (version : ℕ) × (header.old ≡ Some version) × (take 16 file ≡ header_bytes (with_version header version))

-- the version before stands there, and a byte behind it
pub record IsOld (header : Header) (file : List ℕ) : Type 0 where
  pub long : 17 ≤ length file
  pub starts : StartsOld header file
  pub not_born : IsBorn header file → ⊥

-- neither a journal, nor one of the version before, nor a file in which one may be founded
pub record IsForeign (header : Header) (file : List ℕ) : Type 0 where
  pub not_unborn : IsUnborn file → ⊥
  pub not_born : IsBorn header file → ⊥
  pub not_old : IsOld header file → ⊥

abbrev pub HasHead : Header → List ℕ → FileHead → Type 0
HasHead header file Short = length file < 17
HasHead header file Unfinished = (length file ≡ 17) × (slice_index file 0 ≢ 1)
HasHead header file Born = IsBorn header file
HasHead header file Old = IsOld header file
HasHead header file Foreign = IsForeign header file
