use Rattle.std.proofs.Common.{◌≡◌, List, refl, subst, take, ℕ}
use Rattle.std.specs.Prelude.{IfOk}
use Rattle.run_sheets.proofs.Firsts.{front_text}
use Rattle.run_sheets.proofs.sheet.first_sheet.Goals as goal

pub returns : goal.returns
returns c =
    subst (λ (bytes : List ℕ). IfOk c.sheet.result (λ text. text.items ≡ bytes))
    (front_text c.args.request c.args.front c.args.office.now.history c.in_ok-past.past.history c.args.stamps.now (take c.args.front c.args.stamps.now) c.requires.length c.requires.front c.in_ok-past.ensures refl)
    c.sheet.ensures
