use Rattle.std.proofs.Common.{IsTrue, [], subst}
use Rattle.io_traits.specs.DiskState.{IsHonest}
use Rattle.journal_tests.proofs.journals.lengthened.Goals as goal

pub lengthen-requires-clause-stands : goal.lengthen-requires-clause-stands
lengthen-requires-clause-stands g c honest =
    let founded = subst (λ d. IsHonest (g.D.Disk.tells d)) c.allow_lengthening.ensures.disk honest in
    (_, ([], c.allow_lengthening.ensures.kept _ [] (c.in-Ok.ensures.kept (subst IsTrue c.in-Ok.ensures.honest founded))))

pub put-requires-clause-stands : goal.put-requires-clause-stands
put-requires-clause-stands g c honest =
    let allowed = subst IsTrue c.lengthen.ensures.honest honest in
    let founded = subst (λ d. IsHonest (g.D.Disk.tells d)) c.allow_lengthening.ensures.disk allowed in
    (_, ([], c.lengthen.ensures.kept allowed _ [] (c.allow_lengthening.ensures.kept _ [] (c.in-Ok.ensures.kept (subst IsTrue c.in-Ok.ensures.honest founded)))))
