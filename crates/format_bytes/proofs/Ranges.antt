-- The test of a range, and the range.
use Rattle.std.proofs.Common.{ℕ, ℤ, pos, ◌≤ℤ◌, ◌≤◌}
use Rattle.std.specs.Prelude.{int_le, IsTrue}
use Rattle.std.specs.Bool.{passes}
use Rattle.std.specs.Int.Signed.{le_z_yes}
use Rattle.std.proofs.lemmas.Bool.{and_parts, and_from}
use Rattle.std.proofs.Common.{arith}
use Rattle.std.proofs.lemmas.Int.{ints}
use Rattle.aid_types.proofs.SignedLemmas.{int_le-true}
use Rattle.aid_types.specs.Ranges.{IsWithin}
use Rattle.format_table.specs.Limits.{is_between}

pub within : (low high z : ℤ) → IsTrue (is_between low high z) → IsWithin low high z
within low high z h =
    let k = and_parts (int_le low z) (int_le z high) h in
    (le_z_yes (passes (int_le low z) k.0), le_z_yes (passes (int_le z high) k.1))

pub is_within : (low high z : ℤ) → low ≤ℤ z → z ≤ℤ high → IsTrue (is_between low high z)
is_within low high z p q = and_from (int_le low z) (int_le z high) (int_le-true low z p) (int_le-true z high q)

pub is_natural_within : (low high n : ℕ) → low ≤ n → n ≤ high → IsTrue (is_between (pos low) (pos high) (pos n))
is_natural_within low high n p q = is_within (pos low) (pos high) (pos n) (grind (arith, ints)) (grind (arith, ints))
