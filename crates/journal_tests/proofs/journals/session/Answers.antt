use Rattle.std.proofs.Common.{IsTrue, [], subst}
use Rattle.journal_tests.proofs.journals.session.Goals as goal

pub put_ahead-requires-clause-stands : goal.put_ahead-requires-clause-stands
put_ahead-requires-clause-stands g c honest = (_, ([], c.in-Ok.ensures.kept (subst IsTrue c.in-Ok.ensures.honest honest)))

pub put-requires-clause-stands : goal.put-requires-clause-stands
put-requires-clause-stands g c honest =
    let first = subst IsTrue c.put_ahead.ensures.honest honest in
    let before = subst IsTrue c.in-Ok.ensures.honest first in
    (_, (_, c.in-Ok-put_ahead.ensures.kept first _ [] (c.in-Ok.ensures.kept before)))
