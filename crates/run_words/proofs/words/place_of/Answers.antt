use Rattle.std.proofs.Common.{◌∙◌, of_calls, rules, sym}
use Rattle.std.specs.Str.{bytes_eq}
use Rattle.std.proofs.lemmas.Iterator.{YieldsList-from_slice}
use Rattle.std.proofs.lemmas.Iterator.Search.{position_from_yields_List}
use Rattle.run_words.proofs.PolicyWords.{place_of_item}
use Rattle.run_words.proofs.words.place_of.Goals as goal

pub returns : goal.returns
returns g c =
    position_from_yields_List (λ p. bytes_eq p.name c.args.name.now) _ _ _ c.position.ensures.ran (YieldsList-from_slice c.args.policies.now.list.items (c.iter.ensures.rest ∙ c.deref.ensures.value))
    (λ p answer after called. search (of_calls, rules))
    ∙ sym (place_of_item (λ p. p.name) (λ known. bytes_eq known c.args.name.now) c.args.policies.now.list.items)
