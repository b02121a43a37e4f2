use Rattle.std.proofs.Common.{◌++◌, ◌∙◌, IsTrue, ap, append_assoc, arith, drop, length-drop, subst, sym, take}
use Rattle.std.proofs.Math.Seq.{take-add}
use Rattle.std.proofs.lemmas.List.{take_rest}
use Rattle.io_traits.proofs.whole.write_whole.Goals as goal

pub loop-done-preserved : goal.loop-done-preserved
loop-done-preserved g c =
    let bytes = c.args.bytes.now in
    let done = c.loop-done.done in
    let n = c.in_ok-done.field-0 in
    record {
      within = omega (arith, c.in_ok-done.ensures.fits, length-drop done bytes);
      honest = c.write.ensures.honest ∙ c.loop-done.invariant.honest;
      text = λ honest.
          c.in_ok-done.ensures.appended (subst IsTrue (sym c.loop-done.invariant.honest) honest)
          ∙ ap (λ t. g.K.Sink.text c.loop-done.sink ++ take n t) (take_rest bytes done)
          ∙ ap (λ t. t ++ take n (drop done bytes)) (c.loop-done.invariant.text honest)
          ∙ append_assoc _ (take done bytes) (take n (drop done bytes))
          ∙ ap (λ t. g.K.Sink.text c.args.sink.now ++ t) (sym (take-add done n bytes));
      unmoved = c.in_ok-done.ensures.unmoved ∙ c.loop-done.invariant.unmoved;
    }
