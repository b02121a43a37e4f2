use Rattle.std.proofs.Common.{◌≡◌, ◌∷◌, [], true, Global, map, string_bytes, subst, sym}
use Rattle.clap.specs.Words.{App, app_of, is_simple_and_free}
use Rattle.run_words.specs.Behind.{quote_app, quote_ids}
use Rattle.run_words.proofs.BehindLemmas.{all_some, quote_is_simple, quote_parses, none_found, same_words, some_found}
use Rattle.run_words.proofs.behind.quote_words.Goals as goal

pub matches_in-requires : goal.matches_in-requires
matches_in-requires c = subst (λ (a : App). is_simple_and_free a ≡ true) (sym c.in_ok-command.ensures) quote_is_simple

pub returns-in_default : goal.returns-in_default
returns-in_default c =
    none_found quote_app 4 quote_ids quote_parses (map (string_bytes {Z = Global}) c.args.words.now) c.requires (app_of c.in_ok-command.command) c.in_ok-command.ensures c.in_ok-matches.field-0 c.in_ok-matches.ensures c.in_default.is

pub value-school-requires : goal.value-school-requires
value-school-requires c =
    let found = some_found quote_app 4 quote_ids quote_parses (map (string_bytes {Z = Global}) c.args.words.now) c.requires (app_of c.in_ok-command.command) c.in_ok-command.ensures c.in_ok-matches.field-0 c.in_ok-matches.ensures c.in-Some.matches c.in-Some.is in
    (all_some quote_ids (map (string_bytes {Z = Global}) c.args.words.now) c.in-Some.matches found).0

pub value-student-requires : goal.value-student-requires
value-student-requires c =
    let found = some_found quote_app 4 quote_ids quote_parses (map (string_bytes {Z = Global}) c.args.words.now) c.requires (app_of c.in_ok-command.command) c.in_ok-command.ensures c.in_ok-matches.field-0 c.in_ok-matches.ensures c.in-Some.matches c.in-Some.is in
    (all_some quote_ids (map (string_bytes {Z = Global}) c.args.words.now) c.in-Some.matches found).1.0

pub value-year-requires : goal.value-year-requires
value-year-requires c =
    let found = some_found quote_app 4 quote_ids quote_parses (map (string_bytes {Z = Global}) c.args.words.now) c.requires (app_of c.in_ok-command.command) c.in_ok-command.ensures c.in_ok-matches.field-0 c.in_ok-matches.ensures c.in-Some.matches c.in-Some.is in
    (all_some quote_ids (map (string_bytes {Z = Global}) c.args.words.now) c.in-Some.matches found).1.1.0

pub value-term-requires : goal.value-term-requires
value-term-requires c =
    let found = some_found quote_app 4 quote_ids quote_parses (map (string_bytes {Z = Global}) c.args.words.now) c.requires (app_of c.in_ok-command.command) c.in_ok-command.ensures c.in_ok-matches.field-0 c.in_ok-matches.ensures c.in-Some.matches c.in-Some.is in
    (all_some quote_ids (map (string_bytes {Z = Global}) c.args.words.now) c.in-Some.matches found).1.1.1.0

pub returns : goal.returns
returns c =
    let found = some_found quote_app 4 quote_ids quote_parses (map (string_bytes {Z = Global}) c.args.words.now) c.requires (app_of c.in_ok-command.command) c.in_ok-command.ensures c.in_ok-matches.field-0 c.in_ok-matches.ensures c.in-Some.matches c.in-Some.is in
    same_words quote_ids (map (string_bytes {Z = Global}) c.args.words.now) (c.value-school.result.now ∷ c.value-student.result.now ∷ c.value-year.result.now ∷ c.value-term.result.now ∷ []) c.in-Some.matches found (c.value-school.ensures, (c.value-student.ensures, (c.value-year.ensures, (c.value-term.ensures, tt))))
