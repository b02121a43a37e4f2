-- The one spelling of a filing: its kind's code, and its numbers in the order of the kind's fields, each in its form's
-- bytes with the lowest first. Own format.
use Rattle.std.specs.Prelude.{◌≡◌, ℕ, List, [], ◌∷◌}
use Rattle.aid_filings.specs.declared.filing.Filing.{Filing}
use Rattle.format_table.specs.Spelling.{numbers_bytes}
use Rattle.format_kinds.specs.Kinds.{code_of, slots_of_kind}
use Rattle.format_bytes.specs.Numbers.{kind_of, numbers_of}

-- the bytes of a filing
abbrev pub spelling : Filing → List ℕ
spelling filing = code_of (kind_of filing.what) ∷ numbers_bytes (slots_of_kind (kind_of filing.what)) (numbers_of filing)

-- a spelling that begins another is that other, of the same filing
pub record IsAlone (filing other : Filing) (rest : List ℕ) : Type 0 where
  pub same : filing ≡ other
  pub nothing : rest ≡ []
