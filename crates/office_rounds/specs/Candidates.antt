-- Whom a fund of Federal Supplemental Educational Opportunity Grants may award in a school's term, on a history with its newest
-- filing first.
use Rattle.std.specs.Prelude.{◌≡◌, ℕ, ◌-◌, ◌*◌, ◌/◌, ◌<◌, ◌==◌, ◌&&◌, Bool, List, Option, None, ◌↔◌}
use Rattle.std.specs.List.{Contains}
use Rattle.std.specs.Ordering.{int_eq}
use Rattle.aid_types.specs.declared.number.Key.{Key}
use Rattle.aid_filings.specs.declared.filing.Filing.{Filing}
use Rattle.aid_filings.specs.declared.filing.What.{What}
use Rattle.aid_filings.specs.declared.filing.What.TheVariants.{Originate}
use Rattle.law_terms.specs.Terms.{intensity_of}
use Rattle.law_funds.specs.Order.{IsInOrder}
use Rattle.law_funds.specs.declared.candidate.Candidate.{Candidate}
use Rattle.office_history.specs.Answer.{standing_of}
use Rattle.office_history.specs.Net.{cell_at, Cell, at_school_in_year, net, net_at}
use Rattle.office_history.specs.Positions.{cost_at, full_of, withdrawn_at}
use Rattle.office_history.specs.Past.{cost, credits, given, the_school}
use Rattle.office_rounds.specs.declared.request.RoundRequest.{RoundRequest}

-- where a student's grants of the fund stand
abbrev pub fund_cell : RoundRequest → ℕ → Cell
fund_cell r student = cell_at r.school student r.year r.term 4

-- A student's need in whole dollars: the cost of attendance less the net of all programs in the year at the school, rounded down
-- and not below 0 (HEA 471, 472; own: all programs of this office count, and nothing else does).
abbrev pub need_of : List Filing → RoundRequest → ℕ → ℕ
need_of past r student = (100 * cost past r.school student r.year - net past (at_school_in_year r.school student r.year)) / 100

-- A candidate has a cost of attendance on file at the school in the year (`originated`) and an application in force, is enrolled in the
-- term, hasn't withdrawn from it there, and has no grant of the fund's program in it yet (34 CFR 676.9, 676.10; own: the last one). The
-- index is the final one of the application in force.
pub record IsCandidate (past : List Filing) (r : RoundRequest) (c : Candidate) : Type 0 where
  pub originated : 0 < cost_at past r.school c.student r.year
  pub applied : 0 < (standing_of past c.student r.year).transaction
  pub enrolled : 0 < credits past r.school c.student r.year r.term
  pub attends : withdrawn_at past r.school c.student r.year r.term ≡ 0
  pub unpaid : net_at past (fund_cell r c.student) ≡ 0
  pub sai : c.sai ≡ (standing_of past c.student r.year).sai
  pub need : c.need ≡ need_of past r c.student
  pub intensity : c.intensity ≡ intensity_of (credits past r.school c.student r.year r.term) (full_of (the_school past r.school))

-- Exactly the candidates, those with the lowest index first (34 CFR 676.10(a)), of one index by the student's number. There is one such
-- list: `one_list_of_candidates`.
abbrev pub AreCandidates : List Filing → RoundRequest → List Candidate → Type 0
AreCandidates past r cs = IsInOrder cs × ((c : Candidate) → Contains cs c ↔ IsCandidate past r c)

-- the student of an origination at the school in the year
abbrev pub originated : RoundRequest → Key → What → Option ℕ
originated r key (Originate o) = given (key.school == r.school && o.year == r.year) o.student
originated r key _ = None

-- candidates whom the order of awards doesn't tell apart
abbrev pub is_alike : Candidate → Candidate → Bool
is_alike c d = int_eq c.sai d.sai && c.student == d.student
