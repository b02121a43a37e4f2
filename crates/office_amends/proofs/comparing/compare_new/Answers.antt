use Rattle.std.proofs.Common.{◌≡◌, ◌<◌, ◌≤◌, length, List, reverse, take, ap, sym, subst, ◌∙◌, arith}
use Rattle.std.proofs.lemmas.List.{length-reverse}
use Rattle.aid_filings.specs.declared.filing.Filing.{Filing}
use Rattle.log_stamps.specs.Entries.{stamped, with_stamp}
use Rattle.log_stamps.specs.StampedLaws.{entries-stamped}
use Rattle.log_stamps.specs.declared.entry.StampedEntry.{StampedEntry}
use Rattle.office_amends.specs.Changes.{HasCompared, of_new}
use Rattle.office_amends.proofs.Places.{of_new_more, size_of_first, stamped_all, stamped_more}
use Rattle.office_amends.proofs.comparing.compare_new.Goals as goal

pub loop-index-preserved : goal.loop-index-preserved
loop-index-preserved c =
    let h = c.filings-filings.result.now in
    let ss = c.args.new_stamps.now in
    let i = c.loop-index.index in
    let f = c.index-filings-place.result in
    let s = c.index-new_stamps-place.result in
    let old = stamped c.args.old.now.history (reverse c.args.old_stamps.now) in
    let past = stamped (reverse (take i h)) (reverse (take i ss)) in
    let many : length h ≡ c.front-index-end.result = sym (length-reverse h) ∙ ap length c.filings-filings.ensures ∙ sym c.front-index-end.ensures.value in
    let inside : i < length h = omega (arith, c.loop-index-test.true, many) in
    let under : i < length ss = omega (arith, c.loop-index-test.true, c.requires.new_stamped, c.front-index-end.ensures.value) in
    let one = stamped_more h ss i f s inside under c.index-filings-place.is c.index-new_stamps-place.is in
    let differ = c.in_ok-put_alone.ensures.differ in (
      omega (arith, differ, c.loop-index.invariant.0),
      λ d has. subst (λ (now : List (StampedEntry Filing)). HasCompared (of_new old d now) c.put_alone.new.told) (sym one)
          (of_new_more old past c.args.old.now.history d (with_stamp s f) i c.put_alone.new.told (size_of_first h ss i (omega (arith, inside)))
          (entries-stamped c.args.old.now.history (reverse c.args.old_stamps.now))
          (c.in_ok-put_alone.ensures.compared (of_new old d past) (c.loop-index.invariant.1 d has))),
    )

pub returns : goal.returns
returns c =
    let h = c.filings-filings.result.now in
    let ss = c.args.new_stamps.now in
    let i = c.loop-index.index in
    let many : length h ≡ c.front-index-end.result = sym (length-reverse h) ∙ ap length c.filings-filings.ensures ∙ sym c.front-index-end.ensures.value in
    let all : length h ≤ i = omega (arith, many, c.loop-index-test.false) in
    let all_stamps : length ss ≤ i = omega (arith, c.requires.new_stamped, c.front-index-end.ensures.value, c.loop-index-test.false) in
    record {
      compared = λ d has. subst (λ (now : List (StampedEntry Filing)). HasCompared (of_new (stamped c.args.old.now.history (reverse c.args.old_stamps.now)) d now) c.loop-index.told)
          (stamped_all h ss i c.args.new.now.history all all_stamps c.filings-filings.ensures) (c.loop-index.invariant.1 d has);
    }
