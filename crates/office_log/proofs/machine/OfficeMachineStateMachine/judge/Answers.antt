use Rattle.office_log.proofs.Rulings.{added_ruled}
use Rattle.office_log.proofs.machine.OfficeMachineStateMachine.judge.Goals as goal

pub returns-clause-ruled : goal.returns-clause-ruled
returns-clause-ruled c =
    added_ruled c.args.self.now.office.history c.args.operation c.response-response.result c.added-added.result c.response-response.ensures c.added-added.ensures.operation c.added-added.ensures.outcome
