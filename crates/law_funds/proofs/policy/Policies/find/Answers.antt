use Rattle.std.proofs.Common.{◌∙◌, of_calls, rules}
use Rattle.std.specs.Str.{bytes_eq}
use Rattle.std.proofs.lemmas.Iterator.{YieldsList-from_slice}
use Rattle.std.proofs.lemmas.Iterator.Search.{find_from_yields_List}
use Rattle.law_funds.proofs.policy.Policies.find.Goals as goal

pub returns : goal.returns
returns g c =
    find_from_yields_List (λ p. bytes_eq p.name c.args.name.now) _ _ _ c.find.ensures.ran (YieldsList-from_slice c.args.self.now.list.items (c.iter.ensures.rest ∙ c.deref.ensures.value))
    (λ p answer after called. search (of_calls, rules))
