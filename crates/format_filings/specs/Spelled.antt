-- Which numbers have a text.
use Rattle.std.specs.Prelude.{ℤ, pos, neg_ℤ, Bool, true, ◌&&◌, List, [], ◌∷◌}
use Rattle.format_table.specs.Layout.{after}
use Rattle.format_table.specs.Limits.{is_between}
use Rattle.format_table.specs.Parts.{Slot}
use Rattle.format_table.specs.declared.field.Form.{Form}
use Rattle.format_table.specs.declared.field.Form.TheVariants.{Cents, Day, Word}

-- a number that a form's text spells: up to 999,999.99 dollars, a civil day, the place of a program's word, or any number
abbrev pub is_spelled : Form → ℤ → Bool
is_spelled Cents z = is_between (pos 0) (pos 99999999) z
is_spelled Day z = is_between (neg_ℤ (pos 25567)) (pos 2932896) z
is_spelled Word z = is_between (pos 0) (pos 5) z
is_spelled _ z = true

-- each number is one of its field's form
abbrev pub are_spelled : List Slot → List ℤ → Bool
are_spelled slots [] = true
are_spelled [] (z ∷ zs) = true
are_spelled (slot ∷ slots) (z ∷ zs) = is_spelled slot.line.form z && are_spelled (after (slot ∷ slots) z) zs
