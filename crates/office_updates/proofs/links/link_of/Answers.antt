use Rattle.std.proofs.Common.{◌∷◌, ◌++◌, [], subst, sym}
use Rattle.office_updates.specs.Links.{AreLinked}
use Rattle.office_updates.specs.declared.links.EnrollmentLink.{EnrollmentLink}
use Rattle.office_updates.proofs.LinksMore.{linked_more}
use Rattle.office_updates.proofs.links.link_of.Goals as goal

pub returns : goal.returns
returns c = λ past old new befores newest links can are.
    subst (λ (l : EnrollmentLink). AreLinked (c.args.filing.now ∷ past) new (befores ++ newest ∷ []) (links ++ l ∷ [])) (sym c.link_in.ensures)
    (linked_more past old new c.args.filing.now newest c.args.slot c.args.school_at c.args.term_at can befores links are)
