use Rattle.std.proofs.Common.{◌≡◌, ◌∷◌, [], true, Global, map, string_bytes, subst, sym}
use Rattle.clap.specs.Words.{App, app_of, is_simple_and_free}
use Rattle.run_words.specs.Behind.{number_app, number_ids}
use Rattle.run_words.proofs.BehindLemmas.{all_some, number_is_simple, number_parses, none_found, same_words, some_found}
use Rattle.run_words.proofs.behind.number_behind.Goals as goal

pub matches_in-requires : goal.matches_in-requires
matches_in-requires c = subst (λ (a : App). is_simple_and_free a ≡ true) (sym c.in_ok-command.ensures) (number_is_simple c.args.name.now)

pub returns-in_default : goal.returns-in_default
returns-in_default c =
    none_found (number_app c.args.name.now) 1 number_ids (number_parses c.args.name.now) (map (string_bytes {Z = Global}) c.args.words.now) c.requires (app_of c.in_ok-command.command) c.in_ok-command.ensures c.in_ok-matches.field-0 c.in_ok-matches.ensures c.in_default.is

pub value-requires : goal.value-requires
value-requires c =
    let found = some_found (number_app c.args.name.now) 1 number_ids (number_parses c.args.name.now) (map (string_bytes {Z = Global}) c.args.words.now) c.requires (app_of c.in_ok-command.command) c.in_ok-command.ensures c.in_ok-matches.field-0 c.in_ok-matches.ensures c.in-Some.matches c.in-Some.is in
    (all_some number_ids (map (string_bytes {Z = Global}) c.args.words.now) c.in-Some.matches found).0

pub returns : goal.returns
returns c =
    let found = some_found (number_app c.args.name.now) 1 number_ids (number_parses c.args.name.now) (map (string_bytes {Z = Global}) c.args.words.now) c.requires (app_of c.in_ok-command.command) c.in_ok-command.ensures c.in_ok-matches.field-0 c.in_ok-matches.ensures c.in-Some.matches c.in-Some.is in
    same_words number_ids (map (string_bytes {Z = Global}) c.args.words.now) (c.value.result.now ∷ []) c.in-Some.matches found (c.value.ensures, tt)
