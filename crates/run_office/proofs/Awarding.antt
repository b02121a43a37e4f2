-- Rounds of awards: their requests, and what their policies give.
use Rattle.std.proofs.Common.{◌≡◌, ℕ, ℤ, ◌-◌, List, [], ◌∷◌, map, Some, Result, Ok, ap, refl, sym, subst}
use Rattle.std.specs.Coded.{le_prop}
use Rattle.std.specs.List.{slice_get}
use Rattle.aid_types.proofs.Same.{same_with_fact}
use Rattle.aid_types.specs.Ranges.{IsBetween}
use Rattle.aid_filings.specs.declared.filing.Filing.{Filing}
use Rattle.aid_filings.specs.declared.reply.Operation.{Operation}
use Rattle.office_rounds.specs.Planned.{IsPlanned}
use Rattle.office_rounds.specs.declared.request.RoundRequest.{RoundRequest}
use Rattle.io_traits.specs.declared.disk.Disk.{Ghosts}
use Rattle.law_funds.specs.Rounds.{IsRound}
use Rattle.law_funds.specs.declared.candidate.Candidate.{Candidate}
use Rattle.log_machine.specs.Scheme.{Semantics, Scheme}
use Rattle.log_session.specs.Planned.{Closes, Planned, filed, unopened, unplanned}
use Rattle.log_session.specs.Edges.{Output}
use Rattle.log_machine.specs.Texts.{Texts}
use Rattle.log_session.specs.declared.stop.FileStop.{FileStop}
use Rattle.log_session.specs.declared.stop.SessionStop.{SessionStop}
use Rattle.office_log.specs.Scheme.{office_scheme}
use Rattle.office_log.specs.Submits.{office_semantics}
use Rattle.log_session.specs.Asks.{rows_of_asks}
use Rattle.aid_stamps.specs.declared.stamp.Stamp.{Stamp}
use Rattle.log_stamps.specs.Entries.{entries}
use Rattle.log_stamps.specs.Rows.{ask_under, stamped_rows, stamped_texts}
use Rattle.log_stamps.specs.declared.entry.StampedOperation.{StampedOperation}
use Rattle.log_stamps.specs.declared.entry.StampedEntry.{StampedEntry}
use Rattle.log_stamps.specs.declared.entry.StampedError.{StampedError}
use Rattle.run_office.specs.Rounds.{asks_of, gives_at, left_line, round_plans, round_texts}

-- rounds with the same fields are the same
pub same_round : (x y : RoundRequest) → x.school ≡ y.school → x.year ≡ y.year → x.term ≡ y.term → x.amount ≡ y.amount → x.number ≡ y.number → x ≡ y
same_round x y school year term amount number =
    let P : ℕ × (ℕ × (ℕ × (ℕ × ℕ))) → Type 0 = λ b. IsBetween 1 8 b.1.1.0 × IsBetween 1 999999000000 b.1.1.1.1 in
    let make : (b : ℕ × (ℕ × (ℕ × (ℕ × ℕ)))) → P b → RoundRequest = λ b p. record { school = b.0; year = b.1.0; term = b.1.1.0; amount = b.1.1.1.0; number = b.1.1.1.1; in_range = p } in
    same_with_fact P make (λ b. hlevel (le_prop)) (x.school, (x.year, (x.term, (x.amount, x.number)))) (y.school, (y.year, (y.term, (y.amount, y.number)))) x.in_range y.in_range
    (λ i. (school i, (year i, (term i, (amount i, number i)))))

module _ (gives other : ℕ → ℤ → ℕ → ℕ → Type 0) (also : (need : ℕ) (sai : ℤ) (intensity award : ℕ) → gives need sai intensity award → other need sai intensity award) where
  -- a round by a policy is one by any that may give as much
  round_also : (fund : ℕ) (cs : List Candidate) (awards : List ℕ) (left : ℕ) → IsRound gives fund cs awards left → IsRound other fund cs awards left
  round_also fund [] awards left is = is
  round_also fund (c ∷ cs) awards left (award, rest, same, (answer, gave, cut), others) =
      (award, rest, same, (answer, also c.need c.sai c.intensity answer gave, cut), round_also (fund - award) cs rest left others)

  planned_also : (past : List Filing) (r : RoundRequest) (filings : List Filing) (left : ℕ) → IsPlanned gives past r filings left → IsPlanned other past r filings left
  planned_also past r filings left is = record {
    candidates = is.candidates;
    awards = is.awards;
    are_candidates = is.are_candidates;
    round = round_also _ is.candidates is.awards left is.round;
    payments = is.payments;
  }

  plans_also : (stamp : Stamp) (r : RoundRequest) (past : List (StampedEntry Filing)) (operations : List (StampedOperation Operation)) (closing : List ℕ) → round_plans gives stamp r past operations closing → round_plans other stamp r past operations closing
  plans_also stamp r past operations closing (filings, left, is, asked, closed) = (filings, left, planned_also (entries past) r filings left is, asked, closed)

-- what was planned on the filings of a list is a plan on the list: of the same round, each ask under the stamp
pub plans_under : (gives : ℕ → ℤ → ℕ → ℕ → Type 0) (stamp : Stamp) (r same : RoundRequest) (list : List Filing) (past : List (StampedEntry Filing)) (filings : List Filing) (closing : List ℕ) → r ≡ same → list ≡ entries past
    → (left : ℕ) × IsPlanned gives list r filings left × (closing ≡ left_line left) → round_plans gives stamp same past (map (ask_under stamp) (asks_of filings)) closing
plans_under gives stamp r same list past filings closing is at (left, planned, closed) = (
  filings,
  left,
  subst (λ (k : RoundRequest). IsPlanned gives (entries past) k filings left) is (subst (λ (h : List Filing). IsPlanned gives h r filings left) at planned),
  refl,
  closed,
)

-- rows that are asks, under a stamp, are those of the asks under it
pub rows_under : {Operation Response Error : Type 0} (texts : Texts Operation Response Error) (stamp : Stamp) (operations : List Operation)
    → stamped_rows stamp (map texts.said (rows_of_asks {Error = Error} operations)) ≡ map (stamped_texts texts).said (rows_of_asks {Error = StampedError Error} (map (ask_under stamp) operations))
rows_under texts stamp [] = refl
rows_under texts stamp (operation ∷ operations) = ap (λ (l : List _). (texts.said (Ok operation), stamp) ∷ l) (rows_under texts stamp operations)

-- the disk was given back, and the rows and the closing text are known by other words
pub closes_as : {D Entry Operation Response Error : Type 0} (disk : Ghosts D) (scheme : Scheme Entry) (semantics : Semantics Entry Operation Response) (texts : Texts Operation Response Error) (past : List Entry) (at new given : D) (output : Output)
    (left others : List texts.Meaning) (closing same : List ℕ) (ended : Result Unit FileStop) → given ≡ new → left ≡ others → closing ≡ same
    → Closes disk scheme semantics texts past at new output left closing ended → Closes disk scheme semantics texts past at given output others same ended
closes_as disk scheme semantics texts past at new given output left others closing same ended back are is closes =
    subst (λ (d : _). Closes disk scheme semantics texts past at d output others same ended) (sym back)
    (subst (λ (t : List ℕ). Closes disk scheme semantics texts past at new output others t ended) is
    (subst (λ (l : List texts.Meaning). Closes disk scheme semantics texts past at new output l closing ended) are closes))

-- rows that were planned by one relation were by any that follows from it
pub planned_by : {D Entry Operation Response Error : Type 0} (disk : Ghosts D) (scheme : Scheme Entry) (semantics : Semantics Entry Operation Response) (texts : Texts Operation Response Error) (plans other : List Entry → List Operation → List ℕ → Type 0)
    → ((past : List Entry) (operations : List Operation) (closing : List ℕ) → plans past operations closing → other past operations closing)
    → (old new : D) (output : Output) (ended : Result Unit SessionStop) → Planned disk scheme semantics texts plans old new output ended → Planned disk scheme semantics texts other old new output ended
planned_by disk scheme semantics texts plans other also old new output ended (unopened error not same) = unopened error not same
planned_by disk scheme semantics texts plans other also old new output ended (unplanned past is same) = unplanned past is same
planned_by disk scheme semantics texts plans other also old new output ended (filed past at operations closing inner is planned closes) = filed past at operations closing inner is (also past operations closing planned) closes

-- a round by the policy that stands at a place is one by what the policies give
pub planned_at : {D Policy : Type 0} (disk : Ghosts D) (policies : List Policy) (policy : Policy) (place : ℕ) (gives : Policy → ℕ → ℤ → ℕ → ℕ → Type 0) (stamp : Stamp) (r : RoundRequest) (old new : D) (output : Output) (ended : Result Unit SessionStop)
    → slice_get policies place ≡ Some policy → Planned disk office_scheme office_semantics (stamped_texts round_texts) (round_plans (gives policy) stamp r) old new output ended
    → Planned disk office_scheme office_semantics (stamped_texts round_texts) (round_plans (gives_at policies gives place) stamp r) old new output ended
planned_at disk policies policy place gives stamp r old new output ended stands planned =
    planned_by disk office_scheme office_semantics (stamped_texts round_texts) (round_plans (gives policy) stamp r) (round_plans (gives_at policies gives place) stamp r)
    (plans_also (gives policy) (gives_at policies gives place) (λ need sai intensity award gave. (policy, stands, gave)) stamp r) old new output ended planned
