use Rattle.std.proofs.Common.{◌+◌, ℕ, subst}
use Rattle.office_amends.specs.Gathered.{IsRecord}
use Rattle.office_amends.proofs.gathered.keep.Goals as goal

pub returns-clause-kept : goal.returns-clause-kept
returns-clause-kept c =
    let mark = c.record_of-record.result in
    let is = subst (λ (n : ℕ). IsRecord (c.args.number + n) c.args.said.change c.args.said.grounds mark) c.from.ensures c.record_of-record.ensures in
    (mark, is, c.in_ok-push.ensures.items)
