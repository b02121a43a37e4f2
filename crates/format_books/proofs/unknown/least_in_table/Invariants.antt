use Rattle.std.proofs.Common.{◌≡◌, map, option_map, string_bytes}
use Rattle.std.specs.List.{fold}
use Rattle.toml.specs.View.{table_view}
use Rattle.format_books.specs.Unknown.{keep_lesser, names_of, unknown_keys}
use Rattle.format_books.proofs.unknown.least_in_table.Given as goal

abbrev pub invariant-loop-key : goal.invariant-loop-key
invariant-loop-key l =
    fold keep_lesser (option_map (λ v. v.items) l.initial.least) (unknown_keys l.is_form_2 l.section (names_of (table_view l.table)))
    ≡ fold keep_lesser (option_map (λ v. v.items) l.least) (unknown_keys l.is_form_2 l.section (map string_bytes l.key-iterator))
