use Rattle.std.proofs.Common.{◌≡◌, Bool, true, false, refl, reverse, ◌∷◌}
use Rattle.office_history.specs.Answer.{IsLegal, answer_of, is_admit}
use Rattle.office_history.proofs.Admitted.{admitted_legal, refused_illegal}
use Rattle.office_history.proofs.laws.admitted_is_legal.Goals as goal

pub returns : goal.returns
returns c = (admitted_legal (reverse c.args.history.now) c.args.filing.now c.requires, λ h. go h (is_admit (answer_of (reverse c.args.history.now) c.args.filing.now)) refl)
  where
    go : IsLegal (c.args.filing.now ∷ reverse c.args.history.now) → (b : Bool) → is_admit (answer_of (reverse c.args.history.now) c.args.filing.now) ≡ b → b ≡ true
    go h true e = refl
    go h false e = absurd (refused_illegal (reverse c.args.history.now) c.args.filing.now e h)
