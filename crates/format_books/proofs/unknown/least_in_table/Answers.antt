use Rattle.std.proofs.Common.{◌≡◌, true, false, map, option_map, string_bytes, ap, sym, ◌∙◌, rules}
use Rattle.std.specs.List.{fold}
use Rattle.std.specs.Map.{keys_of}
use Rattle.std.specs.Map.Iter.{deref}
use Rattle.std.proofs.lemmas.Map.Iter.{rest_more}
use Rattle.format_books.specs.Unknown.{dotted, is_key, keep_lesser, unknown_keys}
use Rattle.format_books.proofs.UnknownLemmas.{keep_unknown, names_view, pass_known}
use Rattle.format_books.proofs.unknown.least_in_table.Goals as goal

pub loop-key-init : goal.loop-key-init
loop-key-init c =
    let all : c.into_iter-key-iterator.result ≡ keys_of c.args.table.now.entries = search rules in
    ap (λ ks. fold keep_lesser (option_map (λ v. v.items) c.args.before) (unknown_keys c.args.is_form_2 c.args.section.now ks))
    (names_view c.args.table.now.entries ∙ ap (map string_bytes) (sym all))

pub loop-key-preserved-then-has_key : goal.loop-key-preserved-then-has_key
loop-key-preserved-then-has_key c =
    let rest = rest_more deref c.loop-key.key-iterator c.next.new.self c.next.result c.in-Some.key c.in-Some.is c.next.ensures.steps in
    let known : is_key c.args.is_form_2 c.args.section.now (string_bytes c.in-Some.key.now) ≡ true = search rules in
    rw rest at c.loop-key.invariant ∙ pass_known c.args.is_form_2 c.args.section.now (string_bytes c.in-Some.key.now) (map string_bytes c.next.new.self) _ known

pub loop-key-preserved : goal.loop-key-preserved
loop-key-preserved c =
    let rest = rest_more deref c.loop-key.key-iterator c.next.new.self c.next.result c.in-Some.key c.in-Some.is c.next.ensures.steps in
    let unknown : is_key c.args.is_form_2 c.args.section.now (string_bytes c.in-Some.key.now) ≡ false = search rules in
    let name : c.in_ok-name.name.items ≡ dotted c.args.section.now (string_bytes c.in-Some.key.now) = search rules in
    let least = rw name at c.kept-least.ensures in
    rw rest at c.loop-key.invariant
    ∙ keep_unknown c.args.is_form_2 c.args.section.now (string_bytes c.in-Some.key.now) (map string_bytes c.next.new.self) _ unknown
    ∙ ap (λ o. fold keep_lesser o (unknown_keys c.args.is_form_2 c.args.section.now (map string_bytes c.next.new.self))) (sym least)
