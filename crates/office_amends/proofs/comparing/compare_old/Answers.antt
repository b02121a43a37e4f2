use Rattle.std.proofs.Common.{◌≡◌, ◌<◌, ◌≤◌, length, List, reverse, take, ap, sym, subst, ◌∙◌, arith}
use Rattle.std.proofs.lemmas.List.{length-reverse}
use Rattle.aid_filings.specs.declared.filing.Filing.{Filing}
use Rattle.log_stamps.specs.Entries.{stamped, with_stamp}
use Rattle.log_stamps.specs.StampedLaws.{entries-stamped}
use Rattle.log_stamps.specs.declared.entry.StampedEntry.{StampedEntry}
use Rattle.office_amends.specs.Changes.{HasCompared, of_old}
use Rattle.office_amends.proofs.Places.{of_old_more, size_of_first, stamped_all, stamped_more}
use Rattle.office_amends.proofs.comparing.compare_old.Goals as goal

pub loop-index-preserved : goal.loop-index-preserved
loop-index-preserved c =
    let h = c.filings-filings.result.now in
    let ss = c.args.old_stamps.now in
    let i = c.loop-index.index in
    let f = c.index-filings-place.result in
    let s = c.index-old_stamps-place.result in
    let new = stamped c.args.new.now.history (reverse c.args.new_stamps.now) in
    let past = stamped (reverse (take i h)) (reverse (take i ss)) in
    let many : length h ≡ c.front-index-end.result = sym (length-reverse h) ∙ ap length c.filings-filings.ensures ∙ sym c.front-index-end.ensures.value in
    let inside : i < length h = omega (arith, c.loop-index-test.true, many) in
    let under : i < length ss = omega (arith, c.loop-index-test.true, c.requires.old_stamped, c.front-index-end.ensures.value) in
    let one = stamped_more h ss i f s inside under c.index-filings-place.is c.index-old_stamps-place.is in
    let same = c.in_ok-put_pair.ensures.same in
    let differ = c.in_ok-put_pair.ensures.differ in (
      omega (arith, same, c.loop-index.invariant.0),
      omega (arith, differ, c.loop-index.invariant.1),
      subst (λ (now : List (StampedEntry Filing)). HasCompared (of_old new now) c.put_pair.new.told) (sym one)
          (of_old_more new past c.args.new.now.history (with_stamp s f) i c.put_pair.new.told (size_of_first h ss i (omega (arith, inside))) (entries-stamped c.args.new.now.history (reverse c.args.new_stamps.now))
          (c.in_ok-put_pair.ensures.compared (of_old new past) c.loop-index.invariant.2)),
    )

pub returns-clause-compared : goal.returns-clause-compared
returns-clause-compared c =
    let h = c.filings-filings.result.now in
    let ss = c.args.old_stamps.now in
    let i = c.loop-index.index in
    let many : length h ≡ c.front-index-end.result = sym (length-reverse h) ∙ ap length c.filings-filings.ensures ∙ sym c.front-index-end.ensures.value in
    let all : length h ≤ i = omega (arith, many, c.loop-index-test.false) in
    let all_stamps : length ss ≤ i = omega (arith, c.requires.old_stamped, c.front-index-end.ensures.value, c.loop-index-test.false) in
    subst (λ (now : List (StampedEntry Filing)). HasCompared (of_old (stamped c.args.new.now.history (reverse c.args.new_stamps.now)) now) c.loop-index.told)
    (stamped_all h ss i c.args.old.now.history all all_stamps c.filings-filings.ensures) c.loop-index.invariant.2
