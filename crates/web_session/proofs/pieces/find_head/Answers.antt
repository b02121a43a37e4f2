use Rattle.std.proofs.Common.{rules, arith, ◌∙◌, ap, refl, subst, take}
use Rattle.web_session.specs.Ends.{IsScanned}
use Rattle.web_session.proofs.EndWalk.{scanned_room}
use Rattle.web_session.proofs.PayloadBuffer.{room_kept}
use Rattle.web_session.proofs.pieces.find_head.Goals as goal

pub loop-scan-init : goal.loop-scan-init
loop-scan-init g c = record { honest = refl; text = λ _. refl; bytes = λ _. refl; room = λ _ small. small; later = omega arith; still = refl; scanned = c.new-scan.ensures (take 16384 c.args.held.now.items) }

pub loop-scan-preserved : goal.loop-scan-preserved
loop-scan-preserved g c =
    let grown = c.in_ok-fill.ensures.grown in
    let looked = c.front.ensures.front ∙ ap (take 16384) c.deref.ensures.value in
    record {
      honest = c.fill.ensures.honest ∙ c.loop-scan.invariant.honest;
      text = search rules;
      bytes = search rules;
      room = λ honest small. room_kept c.loop-scan.held.items (g.L.Connection.tells c.loop-scan.link).left c.fill.new.held.items (g.L.Connection.tells c.fill.new.link).left 16384
          (c.in_ok-fill.ensures.bytes (c.loop-scan.invariant.honest ∙ honest)) (c.fill.ensures.no_further (c.loop-scan.invariant.honest ∙ honest)) (let a = c.loop-scan-test.true in let b = c.len.ensures in omega (arith, a, b)) (omega arith);
      later = (let a = c.fill.ensures.later in let b = c.loop-scan.invariant.later in omega (arith, a, b));
      still = c.in_ok-fill.ensures.unmoved ∙ c.loop-scan.invariant.still;
      scanned = scanned_room c.advance.new.self.state c.advance.new.self.count 16384 c.loop-scan.held.items grown.got c.fill.new.held.items grown.behind
          (subst (λ l. IsScanned c.advance.new.self.state c.advance.new.self.count l) looked c.in_default.ensures.scanned);
    }
