use Rattle.std.proofs.Common.{rules, ◌≡◌, ◌∷◌, ◌∙◌, ap, subst, sym}
use Rattle.std.specs.Vec.Iter.{into_iter_items}
use Rattle.office_log.specs.Scheme.{office_scheme}
use Rattle.log_stamps.specs.Entries.{first_stamp, stamped, with_stamp}
use Rattle.aid_stamps.specs.declared.stamp.Stamp.{Stamp}
use Rattle.run_builds.proofs.filings.StampedFilingsEntries.next.Goals as goal

pub returns-in-Some-clause-given : goal.returns-in-Some-clause-given
returns-in-Some-clause-given c some =
    let filing = c.in-Some.entry in
    let stamps = into_iter_items c.args.self.now.stamps in
    let is_first : into_iter_items c.args.self.now.filings ≡ filing ∷ into_iter_items c.next.new.self = search rules in
    let under : with_stamp c.next_stamp-stamp.result filing ≡ with_stamp (first_stamp stamps) filing = ap (λ (stamp : Stamp). with_stamp stamp filing) c.next_stamp-stamp.ensures.first in
    record {
      entry = with_stamp (first_stamp stamps) filing;
      first = ap (λ filings. stamped filings stamps) is_first ∙ ap (λ later. with_stamp (first_stamp stamps) filing ∷ stamped (into_iter_items c.next.new.self) later) (sym c.next_stamp-stamp.ensures.later);
      spelled = c.encode.ensures.spelled ∙ ap office_scheme.spelling under;
      in_range = subst office_scheme.IsEntry under c.encode.ensures.in_range;
    }
