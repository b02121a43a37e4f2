use Rattle.std.proofs.Common.{◌≡◌, ◌∷◌, [], true, Global, map, string_bytes, subst, sym}
use Rattle.clap.specs.Words.{App, app_of, is_simple_and_free}
use Rattle.run_words.specs.Behind.{generate_app, generate_ids}
use Rattle.run_words.proofs.BehindLemmas.{all_some, generate_is_simple, generate_parses, none_found, same_words, some_found}
use Rattle.run_words.proofs.behind.generate_words.Goals as goal

pub matches_in-requires : goal.matches_in-requires
matches_in-requires c = subst (λ (a : App). is_simple_and_free a ≡ true) (sym c.in_ok-command.ensures) generate_is_simple

pub returns-in_default : goal.returns-in_default
returns-in_default c =
    none_found generate_app 2 generate_ids generate_parses (map (string_bytes {Z = Global}) c.args.words.now) c.requires (app_of c.in_ok-command.command) c.in_ok-command.ensures c.in_ok-matches.field-0 c.in_ok-matches.ensures c.in_default.is

pub value-seed-requires : goal.value-seed-requires
value-seed-requires c =
    let found = some_found generate_app 2 generate_ids generate_parses (map (string_bytes {Z = Global}) c.args.words.now) c.requires (app_of c.in_ok-command.command) c.in_ok-command.ensures c.in_ok-matches.field-0 c.in_ok-matches.ensures c.in-Some.matches c.in-Some.is in
    (all_some generate_ids (map (string_bytes {Z = Global}) c.args.words.now) c.in-Some.matches found).0

pub value-students-requires : goal.value-students-requires
value-students-requires c =
    let found = some_found generate_app 2 generate_ids generate_parses (map (string_bytes {Z = Global}) c.args.words.now) c.requires (app_of c.in_ok-command.command) c.in_ok-command.ensures c.in_ok-matches.field-0 c.in_ok-matches.ensures c.in-Some.matches c.in-Some.is in
    (all_some generate_ids (map (string_bytes {Z = Global}) c.args.words.now) c.in-Some.matches found).1.0

pub returns : goal.returns
returns c =
    let found = some_found generate_app 2 generate_ids generate_parses (map (string_bytes {Z = Global}) c.args.words.now) c.requires (app_of c.in_ok-command.command) c.in_ok-command.ensures c.in_ok-matches.field-0 c.in_ok-matches.ensures c.in-Some.matches c.in-Some.is in
    same_words generate_ids (map (string_bytes {Z = Global}) c.args.words.now) (c.value-seed.result.now ∷ c.value-students.result.now ∷ []) c.in-Some.matches found (c.value-seed.ensures, (c.value-students.ensures, tt))
