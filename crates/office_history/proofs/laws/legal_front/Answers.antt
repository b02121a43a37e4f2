use Rattle.std.proofs.Common.{sym}
use Rattle.std.proofs.lemmas.Option.{slice_get_within, get_or_from_slice_get}
use Rattle.office_history.proofs.Slices.{legal_at, legal_take}
use Rattle.office_history.proofs.laws.legal_front.Goals as goal

pub returns-clause-front : goal.returns-clause-front
returns-clause-front c count = legal_take c.args.history.now count c.requires

pub returns-clause-each : goal.returns-clause-each
returns-clause-each c index filing here =
    let h = c.args.history.now in
    let k = legal_at h index filing (slice_get_within h index filing here) (sym (get_or_from_slice_get h index filing filing here)) c.requires in
    (k.1, k.2)
