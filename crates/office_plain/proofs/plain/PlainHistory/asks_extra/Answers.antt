use Rattle.std.proofs.Common.{◌≡◌, Bool}
use Rattle.office_history.specs.Past.{is_extra, the_term}
use Rattle.office_history.specs.declared.place.Place.{Place}
use Rattle.office_plain.proofs.Asked.{put_in}
use Rattle.office_plain.proofs.plain.PlainHistory.asks_extra.Goals as goal

pub returns-in_default-clause-asked : goal.returns-in_default-clause-asked
returns-in_default-clause-asked c =
    put_in (λ (a : Place × Bool). a.1 ≡ is_extra (the_term c.args.self.now a.0.school a.0.year a.0.term)) c.args.asked.now _ _ c.requires c.is_extra-extra.ensures
