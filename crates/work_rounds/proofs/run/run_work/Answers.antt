use Rattle.std.proofs.Common.{refl}
use Rattle.format_kinds.specs.Kinds.{key_slots}
use Rattle.log_machine.proofs.Histories.{recovers_once}
use Rattle.log_rules.specs.RowLaws.{alone}
use Rattle.work_rounds.specs.Runs.{work_scheme}
use Rattle.work_rounds.proofs.Ran.{list_done, list_moments, list_ran, list_stands, round_moments, round_ran, round_stands}
use Rattle.work_rounds.proofs.run.run_work.Goals as goal
use Rattle.work_study.specs.Kinds.{work_kinds}
use Rattle.work_study.specs.Numbers.{code_of_work, numbers_of_work}
use Rattle.work_study.specs.Ruling.{legal_work_adds_up, spells_work, work_ruling}
use Rattle.work_study.specs.Same.{same_work}

pub returns-in-Some-clause-within : goal.returns-in-Some-clause-within
returns-in-Some-clause-within g c file history is = legal_work_adds_up history is.legal

pub returns-in-None-clause-within : goal.returns-in-None-clause-within
returns-in-None-clause-within g c file history is = legal_work_adds_up history is.legal

pub returns-in-Some-clause-one : goal.returns-in-Some-clause-one
returns-in-Some-clause-one g c file history other is also = recovers_once work_scheme (alone work_ruling key_slots work_kinds code_of_work numbers_of_work spells_work refl same_work) file history other is also

pub returns-in-None-clause-one : goal.returns-in-None-clause-one
returns-in-None-clause-one g c file history other is also = recovers_once work_scheme (alone work_ruling key_slots work_kinds code_of_work numbers_of_work spells_work refl same_work) file history other is also

-- a round
pub returns-in-Some-clause-ran : goal.returns-in-Some-clause-ran
returns-in-Some-clause-ran g c =
    round_ran c.args.policies.now.list.items _ c.in-Some.request c.in-Some.policy.now c.in-Some.ensures.policy _ c.in-Some.ensures.round _ g.D.Disk g.K.Sink _ _ _ _ _ _ _ c.run_headed_round.ensures.ran

pub returns-in-Some-clause-moments : goal.returns-in-Some-clause-moments
returns-in-Some-clause-moments g c past honest each =
    round_moments c.args.policies.now.list.items _ c.in-Some.request c.in-Some.policy.now c.in-Some.ensures.policy _ c.in-Some.ensures.round _ _ past _ _ (c.run_headed_round.ensures.moments past honest each)

pub returns-in-Some-clause-stands : goal.returns-in-Some-clause-stands
returns-in-Some-clause-stands g c it past is well honest stood =
    round_stands c.args.policies.now.list.items _ c.in-Some.request c.in-Some.policy.now c.in-Some.ensures.policy _ c.in-Some.ensures.round _ it is _ past _ _ (λ reads. c.run_headed_round.ensures.stands past well honest reads) stood

-- `found` or `file`, or no row
pub returns-in-None-clause-ran : goal.returns-in-None-clause-ran
returns-in-None-clause-ran g c =
    let ran = rw c.list_of.ensures at c.run_list.ensures.ran in
    list_ran c.args.policies.now.list.items _ _ c.in-None.ensures.round g.D.Disk g.K.Sink _ _ _ _ _ _ _ _ ran

pub returns-in-None-clause-moments : goal.returns-in-None-clause-moments
returns-in-None-clause-moments g c past honest each =
    let moments = rw c.list_of.ensures at c.run_list.ensures.moments in
    list_moments c.args.policies.now.list.items _ _ c.in-None.ensures.round _ past _ _ _ (moments past honest each)

pub returns-in-None-clause-stands : goal.returns-in-None-clause-stands
returns-in-None-clause-stands g c it past is well honest stood =
    let stands = rw c.list_of.ensures at c.run_list.ensures.stands in
    list_stands c.args.policies.now.list.items _ _ c.in-None.ensures.round _ it is _ past _ _ (λ k at before. stands k past at well honest before) stood

pub returns-in-None-clause-complete : goal.returns-in-None-clause-complete
returns-in-None-clause-complete g c it is can source sink disk =
    let complete = rw c.list_of.ensures at c.run_list.ensures.complete in
    list_done c.args.policies.now.list.items (λ _ _ _ _ _. Unit {0}) _ c.in-None.ensures.round _ it is _ _ _ (λ k at may. complete k at may source sink disk) can
