-- What a run comes to, by the command that its words say.
use Rattle.std.proofs.Common.{◌≡◌, ℕ, ℤ, ◌-◌, Bool, true, false, List, [], ◌∷◌, Option, Some, None, refl, sym, subst, ap}
use Rattle.io_traits.specs.declared.sink.Sink.{Ghosts as SinkGhosts}
use Rattle.io_traits.specs.DiskState.{EachMoment, DiskState}
use Rattle.io_traits.specs.declared.disk.Disk.{Ghosts}
use Rattle.law_funds.specs.Rounds.{IsRound}
use Rattle.law_funds.specs.declared.candidate.Candidate.{Candidate}
use Rattle.work_rounds.specs.Fronts.{HeadedStands, RecoversHeaded}
use Rattle.work_rounds.specs.HeadedRounds.{RanRound}
use Rattle.work_rounds.proofs.Also.{moments_also, ran_also, stands_also}
use Rattle.log_runs.specs.Counts.{Counts}
use Rattle.log_runs.specs.Ends.{IsShort}
use Rattle.log_runs.specs.Lists.{IsListAt}
use Rattle.log_runs.specs.Lists as lists
use Rattle.log_runs.specs.declared.list.ListCommand.{ListCommand}
use Rattle.log_session.specs.Edges.{Input}
use Rattle.work_rounds.specs.Plans.{IsPlanned, policies_give, round_plans, round_texts}
use Rattle.work_rounds.specs.Runs.{CanBeDone, MayRecoverWork, RanWork, RecoversWork, SchoolGives, StandsWork, StoodBefore, reads_input, work_semantics, work_rows, work_scheme, work_texts}
use Rattle.work_rounds.specs.Words.{WorkCommand, OfList, OfRound, or_list, policy_of}
use Rattle.work_rounds.specs.declared.words.RoundRequest.{RoundRequest}
use Rattle.law_work.specs.declared.filing.WorkFiling.{WorkFiling}

some_command : (x y : WorkCommand) → ◌≡◌ {A = Option WorkCommand} (Some x) (Some y) → x ≡ y
some_command x y e = ap (λ (o : Option WorkCommand). elim o [ Some z ↦ z | None ↦ x ]) e

-- a round by a policy is one by any that may give as much
module _ (gives other : ℕ → ℤ → ℕ → ℕ → Type 0) (also : (need : ℕ) (sai : ℤ) (intensity award : ℕ) → gives need sai intensity award → other need sai intensity award) where
  round_also : (fund : ℕ) (cs : List Candidate) (awards : List ℕ) (left : ℕ) → IsRound gives fund cs awards left → IsRound other fund cs awards left
  round_also fund [] awards left is = is
  round_also fund (c ∷ cs) awards left (award, others, same, (answer, gave, cut), later) =
      (award, others, same, (answer, also c.need c.sai c.intensity answer gave, cut), round_also (fund - award) cs others left later)

  pub planned_also : (r : RoundRequest) (text : List ℕ) (past : List WorkFiling) (heading : List ℕ) (filings : List WorkFiling) (closing : List ℕ) → IsPlanned gives r text past heading filings closing → IsPlanned other r text past heading filings closing
  planned_also r text past heading filings closing is = record {
    candidates = is.candidates;
    awards = is.awards;
    left = is.left;
    lines = is.lines;
    are_candidates = is.are_candidates;
    round = round_also _ is.candidates is.awards is.left is.round;
    awarded = is.awarded;
    last = is.last;
  }

-- ---- by what the policies of schools give
module _ {Policy : Type 0} (policies : List (ℕ × Policy)) (gives : Policy → ℕ → ℤ → ℕ → ℕ → Type 0) where
  abbrev At : SchoolGives
  At = policies_give policies gives

  -- the words are a round's, whose school has the policy
  module _ (r : RoundRequest) (policy : Policy) (stands : policy_of policies r.school ≡ Some policy) (said : Option RoundRequest) (is : Some r ≡ said) (listed : Option ListCommand) where
    abbrev Known : List ℕ → List WorkFiling → List ℕ → List WorkFiling → List ℕ → Type 0
    Known = round_plans (gives policy) r

    also : (text : List ℕ) (past : List WorkFiling) (heading : List ℕ) (filings : List WorkFiling) (closing : List ℕ) → Known text past heading filings closing → round_plans (At r.school) r text past heading filings closing
    also text past heading filings closing planned = planned_also (gives policy) (At r.school) (λ need sai intensity award gave. (policy, stands, gave)) r text past heading filings closing planned

    pub round_ran : {D K : Type 0} (disk : Ghosts D) (sink : SinkGhosts K) (counts : Counts) (old new : D) (input : Input) (out out' : K) (status : ℕ)
        → RanRound disk sink work_scheme work_semantics round_texts Known counts old new input out out' status → RanWork At disk sink counts old new input out out' (or_list said listed) status
    round_ran disk sink counts old new input out out' status ran =
        subst (λ (o : Option RoundRequest). RanWork At disk sink counts old new input out out' (or_list o listed) status) is
        (ran_also work_scheme work_semantics Known (round_plans (At r.school) r) also disk round_texts sink counts old new input out out' status ran)

    pub round_reads : {Same : Type 0} → reads_input (or_list said listed) ≡ false → Same
    round_reads h = absurd (let bad : true ≡ false = subst (λ (o : Option RoundRequest). reads_input (or_list o listed) ≡ false) (sym is) h in cc)

    pub round_moments : (input : Input) (past : List WorkFiling) (old new : DiskState) → EachMoment old new (RecoversHeaded work_scheme work_semantics Known input past) → EachMoment old new (MayRecoverWork At (or_list said listed) input past)
    round_moments input past old new each =
        subst (λ (o : Option RoundRequest). EachMoment old new (MayRecoverWork At (or_list o listed) input past)) is (moments_also work_scheme work_semantics Known (round_plans (At r.school) r) also input past old new each)

    command : (it : WorkCommand) → or_list said listed ≡ Some it → OfRound r ≡ it
    command it h = some_command (OfRound r) it (subst (λ (o : Option RoundRequest). or_list o listed ≡ Some it) (sym is) h)

    pub round_stands : (it : WorkCommand) → or_list said listed ≡ Some it → (input : Input) (past : List WorkFiling) (told : DiskState) (file : List ℕ)
        → (RecoversWork file past → HeadedStands work_scheme work_semantics Known input past told) → StoodBefore it file past → StandsWork At it input past told
    round_stands it h input past told file stood = subst (λ (k : WorkCommand). StoodBefore k file past → StandsWork At k input past told) (command it h)
        (λ before. stands_also work_scheme work_semantics Known (round_plans (At r.school) r) also input past told (stood before))

    pub round_done : (it : WorkCommand) → or_list said listed ≡ Some it → (honest : Bool) (size : ℕ) (told : DiskState) → CanBeDone it honest size told → IsShort honest size × IsListAt work_scheme told
    round_done it h honest size told = subst (λ (k : WorkCommand). CanBeDone k honest size told → IsShort honest size × IsListAt work_scheme told) (command it h) (λ can. can)

  -- they are none
  module _ (said : Option RoundRequest) (none : None ≡ said) where
    pub list_ran : {D K : Type 0} (disk : Ghosts D) (sink : SinkGhosts K) (counts : Counts) (old new : D) (input : Input) (out out' : K) (status : ℕ) (listed : Option ListCommand)
        → lists.RanList disk sink work_scheme work_semantics work_texts work_rows counts old new input out out' listed status → RanWork At disk sink counts old new input out out' (or_list said listed) status
    list_ran disk sink counts old new input out out' status listed ran =
        subst (λ (o : Option RoundRequest). RanWork At disk sink counts old new input out out' (or_list o listed) status) none (go listed ran)
      where
        go : (o : Option ListCommand) → lists.RanList disk sink work_scheme work_semantics work_texts work_rows counts old new input out out' o status → RanWork At disk sink counts old new input out out' (or_list None o) status
        go None ran = ran
        go (Some it) ran = ran

    pub list_reads : (listed : Option ListCommand) → reads_input (or_list said listed) ≡ false → lists.reads_input listed ≡ false
    list_reads listed h = go listed (subst (λ (o : Option RoundRequest). reads_input (or_list o listed) ≡ false) (sym none) h)
      where
        go : (o : Option ListCommand) → reads_input (or_list None o) ≡ false → lists.reads_input o ≡ false
        go None h = refl
        go (Some it) h = h

    pub list_moments : (input : Input) (past : List WorkFiling) (old new : DiskState) (listed : Option ListCommand) → EachMoment old new (lists.MayRecoverList work_scheme work_semantics work_texts work_rows listed input past)
        → EachMoment old new (MayRecoverWork At (or_list said listed) input past)
    list_moments input past old new listed each = subst (λ (o : Option RoundRequest). EachMoment old new (MayRecoverWork At (or_list o listed) input past)) none (go listed each)
      where
        go : (o : Option ListCommand) → EachMoment old new (lists.MayRecoverList work_scheme work_semantics work_texts work_rows o input past) → EachMoment old new (MayRecoverWork At (or_list None o) input past)
        go None each = each
        go (Some it) each = each

    -- the command of the list that is done
    command_of : (listed : Option ListCommand) (it : WorkCommand) → or_list said listed ≡ Some it → (k : ListCommand) × (listed ≡ Some k) × (it ≡ OfList k)
    command_of listed it h = go listed (subst (λ (o : Option RoundRequest). or_list o listed ≡ Some it) (sym none) h)
      where
        go : (o : Option ListCommand) → or_list None o ≡ Some it → (k : ListCommand) × (o ≡ Some k) × (it ≡ OfList k)
        go None h = absurd (let bad : ⊥ = cc in bad)
        go (Some k) h = (k, refl, sym (some_command (OfList k) it h))

    pub list_stands : (listed : Option ListCommand) (it : WorkCommand) → or_list said listed ≡ Some it → (input : Input) (past : List WorkFiling) (told : DiskState) (file : List ℕ)
        → ((k : ListCommand) → listed ≡ Some k → lists.StoodBefore work_scheme k file past → lists.StandsList work_scheme work_semantics work_texts work_rows k input past told) → StoodBefore it file past → StandsWork At it input past told
    list_stands listed it h input past told file stood =
        let (k, at, is) = command_of listed it h in
        subst (λ (w : WorkCommand). StoodBefore w file past → StandsWork At w input past told) (sym is) (stood k at)

    pub list_done : {Done : Type 0} (listed : Option ListCommand) (it : WorkCommand) → or_list said listed ≡ Some it → (honest : Bool) (size : ℕ) (told : DiskState)
        → ((k : ListCommand) → listed ≡ Some k → lists.CanBeDone work_scheme k honest size told → Done) → CanBeDone it honest size told → Done
    list_done {Done} listed it h honest size told done =
        let (k, at, is) = command_of listed it h in
        subst (λ (w : WorkCommand). CanBeDone w honest size told → Done) (sym is) (done k at)
