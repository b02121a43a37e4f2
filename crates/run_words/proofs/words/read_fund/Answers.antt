use Rattle.std.proofs.Common.{◌≡◌, ◌∷◌, [], Global, ap, codes, map, rules, string_bytes}
use Rattle.run_words.proofs.WordsLemmas.{fund_as}
use Rattle.run_words.proofs.words.read_fund.Goals as goal

pub returns-in-Some : goal.returns-in-Some
returns-in-Some g c =
    let found = c.in-Some.words in
    let are : map (string_bytes {Z = Global}) c.args.behind.now ≡ found.school.now ∷ found.year.now ∷ found.term.now ∷ found.amount.now ∷ found.policy.now ∷ found.number.now ∷ [] = search rules in
    fund_as _ _ (codes "fund" ∷ map (string_bytes {Z = Global}) c.args.behind.now) c.fund_command.result (ap (λ ws. codes "fund" ∷ ws) are) c.fund_command.ensures
