use Rattle.std.proofs.Common.{◌≡◌, ◌+◌, ◌<◌, ◌≤◌, suc, length, List, ◌∷◌, ◌++◌, reverse, take, drop, take_all, ap, sym, subst, ◌∙◌, arith}
use Rattle.std.proofs.lemmas.List.{length-reverse, length-take-le}
use Rattle.aid_filings.specs.declared.filing.Filing.{Filing}
use Rattle.log_stamps.specs.Entries.{entries, stamped, with_stamp}
use Rattle.log_stamps.specs.StampedLaws.{entries-stamped}
use Rattle.log_stamps.specs.declared.entry.StampedEntry.{StampedEntry}
use Rattle.log_stamps.proofs.Steps.{length-stamped}
use Rattle.office_history.proofs.Oldest.{reverse-at}
use Rattle.office_history.proofs.Slices.{one_more}
use Rattle.office_amends.specs.Amended.{corrected}
use Rattle.office_amends.specs.Stood.{Makes}
use Rattle.office_amends.specs.Texts.{told_corrected}
use Rattle.office_amends.proofs.Steps.{item_more}
use Rattle.office_amends.proofs.list.amend_list.Goals as goal

pub loop-index-preserved : goal.loop-index-preserved
loop-index-preserved c =
    let run = c.args.stamp.now in
    let cs = c.args.corrections.now in
    let h = c.filings-filings.result.now in
    let ss = c.args.stamps.now in
    let i = c.loop-index.index in
    let f = c.index-filings-index.result in
    let s = c.index-stamps-index.result in
    let past = stamped (reverse (take i h)) (reverse (take i ss)) in
    let newer = reverse (drop (suc i) h) in
    let lt = c.loop-index-test.true in
    let many : length h ≡ c.front-index-end.result = sym (length-reverse h) ∙ ap length c.filings-filings.ensures ∙ sym c.front-index-end.ensures.value in
    let inside : i < length h = omega (arith, lt, many) in
    let inside_stamps : i < length ss = omega (arith, lt, c.requires.as_many, c.front-index-end.ensures.value) in
    let split : c.args.old.now.history ≡ newer ++ f ∷ entries past =
    sym c.filings-filings.ensures ∙ reverse-at h i f inside
    ∙ (λ k. newer ++ sym c.index-filings-index.is k ∷ sym (entries-stamped (reverse (take i h)) (reverse (take i ss))) k) in
    let size : length past ≡ i = omega (arith, length-stamped (reverse (take i h)) (reverse (take i ss)), length-reverse (take i h), length-take-le i h (omega (arith, inside))) in
    let one : stamped (reverse (take (i + 1) h)) (reverse (take (i + 1) ss)) ≡ with_stamp s f ∷ past =
    λ k. stamped (one_more h i f inside c.index-filings-index.is k) (item_more ss i s inside_stamps c.index-stamps-index.is k) in (
      c.in_ok-pass.ensures.position,
      subst (λ (now : List (StampedEntry Filing)). Makes (corrected run cs now) (told_corrected run cs now) c.pass.new.made) (sym one)
          (c.in_ok-pass.ensures.makes past newer split size c.loop-index.invariant.1),
    )

pub returns : goal.returns
returns c =
    let run = c.args.stamp.now in
    let cs = c.args.corrections.now in
    let h = c.filings-filings.result.now in
    let ss = c.args.stamps.now in
    let i = c.loop-index.index in
    let many : length h ≡ c.front-index-end.result = sym (length-reverse h) ∙ ap length c.filings-filings.ensures ∙ sym c.front-index-end.ensures.value in
    let all : length h ≤ i = omega (arith, many, c.loop-index-test.false) in
    let all_stamps : length ss ≤ i = omega (arith, c.requires.as_many, c.front-index-end.ensures.value, c.loop-index-test.false) in
    let past : stamped (reverse (take i h)) (reverse (take i ss)) ≡ stamped c.args.old.now.history (reverse ss) =
    (λ k. stamped (reverse (take_all i h all k)) (reverse (take_all i ss all_stamps k)))
    ∙ ap (λ (now : List Filing). stamped now (reverse ss)) c.filings-filings.ensures in
    let made = subst (λ (now : List (StampedEntry Filing)). Makes (corrected run cs now) (told_corrected run cs now) c.loop-index.made) past c.loop-index.invariant.1 in
    c.in_ok-put_records.ensures.makes (corrected run cs (stamped c.args.old.now.history (reverse ss))) (told_corrected run cs (stamped c.args.old.now.history (reverse ss))) made
