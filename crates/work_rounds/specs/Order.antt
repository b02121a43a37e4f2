-- Candidates whom the order of awards doesn't tell apart.
use Rattle.std.specs.Prelude.{◌==◌, ◌&&◌, Bool}
use Rattle.std.specs.Ordering.{int_eq}
use Rattle.law_funds.specs.declared.candidate.Candidate.{Candidate}

abbrev pub is_alike : Candidate → Candidate → Bool
is_alike c d = int_eq c.sai d.sai && c.student == d.student
