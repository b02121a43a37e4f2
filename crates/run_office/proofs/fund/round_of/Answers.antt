use Rattle.run_office.proofs.Awarding.{same_round}
use Rattle.run_office.specs.Rounds.{round_of}
use Rattle.std.proofs.Common.{refl}
use Rattle.run_office.proofs.fund.round_of.Goals as goal

pub returns : goal.returns
returns c =
    same_round (record { school = c.args.fund.school; year = c.args.fund.year; term = c.args.fund.term; amount = c.args.fund.amount; number = c.args.fund.number; in_range = _ })
    (round_of c.args.fund) refl refl refl refl refl
