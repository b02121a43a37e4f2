-- The filing of a body. Own format.
use Rattle.std.specs.Prelude.{ℕ, ℤ, pos, Bool, true, false, ◌&&◌, List, [], ◌∷◌, codes, drop, map, Option, Some, None, option_and_then, if◌then◌else◌}
use Rattle.serde_json.specs.Data.{Data}
use Rattle.serde_json.specs.Find.{get, as_str}
use Rattle.aid_filings.specs.declared.filing.Filing.{Filing}
use Rattle.format_kinds.specs.Kinds.{kind_named, slots_of_kind}
use Rattle.format_table.specs.Layout.{after}
use Rattle.format_table.specs.Limits.{fits}
use Rattle.format_table.specs.Parts.{Slot}
use Rattle.format_kinds.specs.declared.kind.Kind.{Kind}
use Rattle.format_kinds.specs.declared.kind.Kind.TheVariants.{Book}
use Rattle.format_bytes.specs.Numbers.{kind_of, numbers_of}
use Rattle.web_json.specs.Values.{has_exactly, numbers_said, value_of}

-- a kind has bodies unless it is the book, which is a text of its own
abbrev pub has_bodies : Kind → Bool
has_bodies Book = false
has_bodies _ = true

-- the kind that a value names
abbrev pub kind_in : Data → Option Kind
kind_in d = option_and_then kind_named (option_and_then as_str (get (codes "kind") d))

-- the fields that a body has: all of a filing but the school, which isn't in it
abbrev pub fields_of : Kind → List Slot
fields_of kind = drop 1 (slots_of_kind kind)

-- the keys of a body
abbrev pub keys_of : Kind → List (List ℕ)
keys_of kind = codes "kind" ∷ map (λ slot. slot.line.name) (fields_of kind)

-- whether these are numbers for all that is to come, none left over, each within its limit after the numbers before it
abbrev pub are_numbers : List Slot → List ℤ → List ℤ → Bool
are_numbers [] earlier [] = true
are_numbers [] earlier (z ∷ zs) = false
are_numbers (slot ∷ slots) earlier [] = false
are_numbers (slot ∷ slots) earlier (z ∷ zs) = fits slot.line.limit earlier z && are_numbers (after (slot ∷ slots) z) (z ∷ earlier) zs

-- a kind with its numbers, where they are within their limits
abbrev pub within : Kind → List ℤ → Option (Kind × List ℤ)
within kind zs = if are_numbers (slots_of_kind kind) [] zs then Some (kind, zs) else None

-- the filing of a kind at a school whose other numbers a value says, each under its key
abbrev pub filing_by_fields : ℕ → Data → Kind → Option (Kind × List ℤ)
filing_by_fields school d kind = option_and_then (λ zs. within kind (pos school ∷ zs)) (numbers_said (fields_of kind) d)

-- the filing of a kind that a value says at a school, where it has the kind's keys and no others
unfoldable pub filing_of_kind : ℕ → Data → Kind → Option (Kind × List ℤ)
filing_of_kind school d kind = if has_bodies kind && has_exactly (keys_of kind) d then filing_by_fields school d kind else None

-- the filing that a value says at a school: a kind and its numbers
abbrev pub filing_in : ℕ → Data → Option (Kind × List ℤ)
filing_in school d = option_and_then (filing_of_kind school d) (kind_in d)

-- the filing of a body
abbrev pub filing_of_body : ℕ → List ℕ → Option (Kind × List ℤ)
filing_of_body school body = option_and_then (filing_in school) (value_of body)

-- what a filing says
abbrev pub said : Filing → Kind × List ℤ
said filing = (kind_of filing.what, numbers_of filing)
