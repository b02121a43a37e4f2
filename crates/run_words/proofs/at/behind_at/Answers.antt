use Rattle.std.proofs.Common.{◌∙◌, Bor, Global, List, String, map, string_bytes, subst, sym}
use Rattle.aid_stamps.specs.declared.stamp.Stamp.{Stamp}
use Rattle.run_words.specs.Stamped.{IsStamped, plain}
use Rattle.run_words.proofs.StampedWords.{only_found}
use Rattle.run_words.proofs.at.behind_at.Goals as goal

pub returns-then-begins_with_at-clause-only : goal.returns-then-begins_with_at-clause-only
returns-then-begins_with_at-clause-only c =
    only_found (λ (rest : Bor (List (String Global))). map (string_bytes {Z = Global}) rest.now) (map (string_bytes {Z = Global}) c.args.words.now) c.said_in.result
    c.said_in.ensures.some c.said_in.ensures.none

pub returns-else-begins_with_at-clause-some : goal.returns-else-begins_with_at-clause-some
returns-else-begins_with_at-clause-some c =
    let words = map (string_bytes {Z = Global}) c.args.words.now in
    subst (λ (stamp : Stamp). IsStamped words stamp words) (sym c.plain.ensures) (plain (sym c.begins_with_at.ensures ∙ c.if-begins_with_at.false))
