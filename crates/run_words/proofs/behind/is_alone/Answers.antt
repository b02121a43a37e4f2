use Rattle.std.proofs.Common.{◌≡◌, true, map, string_bytes, subst, sym, Global}
use Rattle.clap.specs.Words.{App, is_simple_and_free}
use Rattle.run_words.specs.Behind.{Parses}
use Rattle.run_words.proofs.BehindLemmas.{alone_parses, bare_is_simple}
use Rattle.run_words.proofs.behind.is_alone.Goals as goal

pub matches_in-requires : goal.matches_in-requires
matches_in-requires c = subst (λ (a : App). is_simple_and_free a ≡ true) (sym c.bare.ensures) (bare_is_simple c.args.name.now)

pub returns : goal.returns
returns c =
    rw c.is_some.ensures
    (alone_parses c.args.name.now (map (string_bytes {Z = Global}) c.args.words.now) c.requires c.in_ok-found.found
    (subst (λ (a : App). Parses a (map (string_bytes {Z = Global}) c.args.words.now) c.in_ok-found.found) c.bare.ensures c.in_ok-found.ensures))
