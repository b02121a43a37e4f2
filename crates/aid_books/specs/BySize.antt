-- Amounts that go by the size of a family.
use Rattle.std.specs.Prelude.{ℕ, ◌-◌, ℤ, pos, ◌+ℤ◌, ◌*ℤ◌, List, length, min, slice_index_or}

-- the amount of a family: the entry for its size, or the last entry and `extra` for each member past that size. The
-- entries are for the sizes from `first` on, and a smaller family has the first one (HEA 478(b); the poverty guidelines
-- of 42 U.S.C. 9902(2))
unfoldable pub by_size : ℕ → List ℤ → ℤ → ℕ → ℤ
by_size first sizes extra family =
    let last = length sizes - 1 in
    slice_index_or sizes (min (family - first) last) (pos 0) +ℤ pos (family - first - last) *ℤ extra
