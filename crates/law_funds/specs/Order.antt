-- The order in which candidates are awarded: the lowest index first (34 CFR 676.10(a)), of one index by the student's number.
use Rattle.std.specs.Prelude.{ℕ, ◌+◌, ◌<◌, nat_lt, int_lt, Bool, ◌&&◌, ◌||◌, List, length, IsTrue, slice_index_or}
use Rattle.std.specs.Ordering.{int_eq}
use Rattle.law_funds.specs.declared.candidate.Candidate.{Candidate}

-- one candidate stands before another
abbrev pub comes_before : Candidate → Candidate → Bool
comes_before a b = int_lt a.sai b.sai || (int_eq a.sai b.sai && nat_lt a.student b.student)

-- each candidate stands before the next
abbrev pub IsInOrder : List Candidate → Type 0
IsInOrder list = (k : ℕ) (none : Candidate) → k + 1 < length list → IsTrue (comes_before (slice_index_or list k none) (slice_index_or list (k + 1) none))
