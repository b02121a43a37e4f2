use Rattle.std.proofs.Common.{◌≡◌, drop, map, option_map}
use Rattle.std.specs.List.{flat_map, fold}
use Rattle.toml.specs.View.{view}
use Rattle.format_books.specs.Unknown.{keep_lesser, unknown_in}
use Rattle.format_books.proofs.unknown.least_in_rows.Given as goal

abbrev pub invariant-loop-row : goal.invariant-loop-row
invariant-loop-row l =
    fold keep_lesser (option_map (λ v. v.items) l.initial.least) (flat_map (unknown_in l.is_form_2 l.section) (map view l.rows))
    ≡ fold keep_lesser (option_map (λ v. v.items) l.least) (flat_map (unknown_in l.is_form_2 l.section) (map view (drop l.row-index l.rows)))
