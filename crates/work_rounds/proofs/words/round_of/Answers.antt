use Rattle.std.proofs.Common.{Global, arith, map, sym}
use Rattle.std.specs.Prelude.{string_bytes}
use Rattle.std.proofs.lemmas.List.{length-map}
use Rattle.work_rounds.proofs.Reading.{no_round}
use Rattle.work_rounds.proofs.words.round_of.Goals as goal

pub returns-then-len-ne4-clause-round : goal.returns-then-len-ne4-clause-round
returns-then-len-ne4-clause-round g c =
    let same = length-map c.args.words.now.items (string_bytes {Z = Global}) in
    sym (no_round c.args.policies.now.list.items (map (string_bytes {Z = Global}) c.args.words.now.items) (λ four. c.if-len-ne4.true (omega (arith, four, same, c.len.ensures))))
