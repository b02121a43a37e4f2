use Rattle.std.proofs.Common.{◌≡◌, false, reverse}
use Rattle.office_history.proofs.Among.{all_reverse, all_reversed}
use Rattle.office_history.proofs.FirstFilings.{skipped, none_first, first_found, found_at}
use Rattle.office_history.proofs.least.first_found.Goals as goal

pub returns-clause-none : goal.returns-clause-none
returns-clause-none c passes =
    let h = c.args.history.now in
    (λ e. all_reversed (λ f. passes f ≡ false) h (skipped passes (reverse h) e), λ k. none_first passes (reverse h) (all_reverse (λ f. passes f ≡ false) h k))

pub returns-clause-first : goal.returns-clause-first
returns-clause-first c passes index = (first_found passes c.args.history.now index, found_at passes c.args.history.now index)
