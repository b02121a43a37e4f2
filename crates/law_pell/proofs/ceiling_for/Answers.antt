use Rattle.std.proofs.Common.{◌≡◌, ◌∙◌, sym, subst, true, false, w32, arith}
use Rattle.std.proofs.lemmas.Bool.{false≢true}
use Rattle.std.proofs.lemmas.Int.{ints, to_z-of_z}
use Rattle.law_pell.specs.Award.{is_at_ceiling}
use Rattle.law_pell.proofs.CeilingLaws.{index_above, none_barred, none_below, told, untold}
use Rattle.law_pell.proofs.ceiling_for.Goals.{else-not-is_barred-via-then-not-is_barred+else-is_at_ceiling, else-not-is_barred-via-else-not-is_barred}
use Rattle.law_pell.proofs.ceiling_for.Goals as goal

pub overflow_cast-result : goal.overflow_cast-result
overflow_cast-result c =
    let index_is = to_z-of_z w32 c.args.index c.ranges.index in
    let at = subst (λ i. is_at_ceiling c.args.book.now i ≡ true) index_is (sym c.is_at_ceiling.ensures ∙ c.if-is_at_ceiling.true) in
    let above = index_above c.args.book.now c.args.index at in
    rw index_is (omega (arith, ints))

pub returns-then-is_at_ceiling-clause-told : goal.returns-then-is_at_ceiling-clause-told
returns-then-is_at_ceiling-clause-told c =
    let index_is = to_z-of_z w32 c.args.index c.ranges.index in
    let at = subst (λ i. is_at_ceiling c.args.book.now i ≡ true) index_is (sym c.is_at_ceiling.ensures ∙ c.if-is_at_ceiling.true) in
    rw (index_is, c.ceiling_bound.ensures) (told c.args.book.now c.args.a.now c.args.index (sym c.is_barred.ensures ∙ c.if-not-is_barred.true) at)

pub returns-else-not-is_barred-clause-value : goal.returns-else-not-is_barred-clause-value
returns-else-not-is_barred-clause-value c = sym (elim c.else-not-is_barred.branch [
  | else-not-is_barred-via-then-not-is_barred+else-is_at_ceiling w ↦
      let at = subst (λ i. is_at_ceiling c.args.book.now i ≡ false) (to_z-of_z w32 c.args.index c.ranges.index) (sym w.is_at_ceiling.ensures ∙ w.if-is_at_ceiling.false) in
      none_below c.args.book.now c.args.a.now c.args.index (sym c.is_barred.ensures ∙ w.if-not-is_barred.true) at
  | else-not-is_barred-via-else-not-is_barred w ↦ none_barred c.args.book.now c.args.a.now c.args.index (sym c.is_barred.ensures ∙ w.if-not-is_barred.false)
])

pub returns-else-not-is_barred-clause-told : goal.returns-else-not-is_barred-clause-told
returns-else-not-is_barred-clause-told c = untold c.args.book.now c.args.a.now c.args.index (elim c.else-not-is_barred.branch [
  | else-not-is_barred-via-then-not-is_barred+else-is_at_ceiling w ↦
      let at = subst (λ i. is_at_ceiling c.args.book.now i ≡ false) (to_z-of_z w32 c.args.index c.ranges.index) (sym w.is_at_ceiling.ensures ∙ w.if-is_at_ceiling.false) in
      λ free there. false≢true (sym at ∙ there)
  | else-not-is_barred-via-else-not-is_barred w ↦ λ free there. false≢true (sym free ∙ (sym c.is_barred.ensures ∙ w.if-not-is_barred.false))
])
