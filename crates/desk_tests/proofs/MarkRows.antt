-- The numbers of a mark are in range.
use Rattle.std.proofs.Common.{ℕ, pos, ◌≤◌, refl, arith}
use Rattle.std.specs.Prelude.{int_le, IsTrue}
use Rattle.std.proofs.lemmas.Bool.{and_from}
use Rattle.std.proofs.lemmas.Int.{ints}
use Rattle.aid_types.proofs.SignedLemmas.{int_le-true}
use Rattle.format_table.specs.Limits.{is_between}
use Rattle.format_table.specs.Tables.{IsRow}
use Rattle.desk_tests.specs.Marks.{code_of, mark_key, mark_kinds, numbers_of}
use Rattle.desk_tests.specs.declared.mark.Mark.{Mark}

is_natural_within : (low high n : ℕ) → low ≤ n → n ≤ high → IsTrue (is_between (pos low) (pos high) (pos n))
is_natural_within low high n p q =
    and_from (int_le (pos low) (pos n)) (int_le (pos n) (pos high)) (int_le-true (pos low) (pos n) (grind (arith, ints))) (int_le-true (pos n) (pos high) (grind (arith, ints)))

pub IsRow-mark : (m : Mark) → IsRow mark_key mark_kinds (code_of m) (numbers_of m)
IsRow-mark m = record {
  known = refl;
  are = (is_natural_within 1 999999 m.number m.numbered.0 m.numbered.1, (is_natural_within 0 200 m.amount (omega arith) m.in_range, tt));
}
