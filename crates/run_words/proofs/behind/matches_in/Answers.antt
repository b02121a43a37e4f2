use Rattle.run_words.proofs.ClapLemmas.{first_of_and}
use Rattle.run_words.proofs.behind.matches_in.Goals as goal

pub returns-in-Ok : goal.returns-in-Ok
returns-in-Ok c =
    (c.in-Ok.ensures.kinds c.requires, (c.in-Ok.ensures.matches (first_of_and _ _ c.requires)).0)
