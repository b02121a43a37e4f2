use Rattle.std.proofs.Common.{◌≡◌, option_map}
use Rattle.std.specs.List.{fold}
use Rattle.toml.specs.View.{members_view, table_view}
use Rattle.format_books.specs.Reading.{is_form_2}
use Rattle.format_books.specs.Unknown.{keep_lesser, unknown_key, unknown_names}
use Rattle.format_books.proofs.unknown.least_unknown.Given as goal

abbrev pub invariant-loop-name : goal.invariant-loop-name
invariant-loop-name l =
    unknown_key (table_view l.table) ≡ fold keep_lesser (option_map (λ v. v.items) l.least) (unknown_names (is_form_2 (table_view l.table)) (members_view l.name-iterator))
