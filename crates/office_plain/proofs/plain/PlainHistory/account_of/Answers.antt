use Rattle.std.proofs.Common.{◌∷◌, List, Option, is_some, reverse, take, ap, sym, subst, ◌∙◌}
use Rattle.aid_filings.specs.declared.filing.Filing.{Filing}
use Rattle.office_history.specs.Accounts.{IsAccount}
use Rattle.office_history.specs.Answer.{IsLegal}
use Rattle.office_history.specs.Past.{at_school, the_withdrawal, withdrawal_in}
use Rattle.office_history.proofs.Slices.{legal_at, legal_take, one_more}
use Rattle.office_plain.proofs.Withdrawn.{told_before, told_here}
use Rattle.office_plain.proofs.plain.PlainHistory.account_of.Goals as goal
use Rattle.office_plain.proofs.plain.PlainHistory.account_of.Goals.{then-withdrawn, else-withdrawn}

pub new-requires : goal.new-requires
new-requires c = legal_take c.self.inside.filings.now c.loop-index.index c.self.invariant

pub add_entry-requires-clause-legal : goal.add_entry-requires-clause-legal
add_entry-requires-clause-legal c =
    let f = c.index-filings-index.result in
    subst (λ (past : List Filing). IsLegal (f ∷ past)) (sym c.new.ensures)
    (legal_at c.self.inside.filings.now c.loop-index.index f c.loop-index-test.true c.index-filings-index.is c.self.invariant)

pub loop-index-preserved : goal.loop-index-preserved
loop-index-preserved c =
    let p = c.args.place.now in
    let h = c.self.inside.filings.now in
    let i = c.loop-index.index in
    let f = c.index-filings-index.result in
    let past = reverse (take i h) in
    let next = sym (one_more h i f c.loop-index-test.true c.index-filings-index.is) in
    let here = at_school p.school (withdrawal_in p.student p.year p.term) f in
    let before = the_withdrawal past p.school p.student p.year p.term in
    record {
      account = subst (λ (past : List Filing). IsAccount past p.school p.student p.year p.term c.add_entry.new.so_far) next
          (subst (λ (past : List Filing). IsAccount (f ∷ past) p.school p.student p.year p.term c.add_entry.new.so_far) c.new.ensures c.add_entry.ensures);
      withdrawn = elim c.if-withdrawn.branch [
        | then-withdrawn w ↦
            w.withdrawn-is ∙ w.if-withdrawn.true ∙ told_before here before (sym c.loop-index.invariant.withdrawn ∙ w.if-withdrawn.true)
            ∙ ap (λ (past : List Filing). is_some (the_withdrawal past p.school p.student p.year p.term)) next
        | else-withdrawn w ↦
            w.withdrawn-is ∙ w.is_some-withdrawn.ensures ∙ ap (λ (o : Option _). is_some o) w.withdrawal_in.ensures
            ∙ told_here here before (sym c.loop-index.invariant.withdrawn ∙ w.if-withdrawn.false)
            ∙ ap (λ (past : List Filing). is_some (the_withdrawal past p.school p.student p.year p.term)) next
      ];
    }
