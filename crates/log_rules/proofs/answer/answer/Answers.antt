use Rattle.std.proofs.Common.{◌≤◌, arith, length, Some, ◌∙◌}
use Rattle.log_rules.proofs.Places.{answered_there, answered_within, row_of_key}
use Rattle.log_rules.proofs.answer.answer.Goals as goal

pub overflow_sub-position : goal.overflow_sub-position
overflow_sub-position g c =
    let row = row_of_key g.R.OfficeRules.ruling c.args.places.now.rows c.args.filing.now c.key-key.result c.name_of-name.result (Some c.in-Some.position) c.key-key.ensures c.name_of-name.ensures c.in-Some.ensures in
    (answered_within g.R.OfficeRules.ruling c.args.filings.now c.args.places.now.rows (g.R.OfficeRules.on_file c.args.index.now) (g.R.OfficeRules.ruling.key_of c.args.filing.now) c.in-Some.position c.requires row).0

pub offset_bounds-filings-position : goal.offset_bounds-filings-position
offset_bounds-filings-position g c =
    let row = row_of_key g.R.OfficeRules.ruling c.args.places.now.rows c.args.filing.now c.key-key.result c.name_of-name.result (Some c.in-Some.position) c.key-key.ensures c.name_of-name.ensures c.in-Some.ensures in
    let within = answered_within g.R.OfficeRules.ruling c.args.filings.now c.args.places.now.rows (g.R.OfficeRules.on_file c.args.index.now) (g.R.OfficeRules.ruling.key_of c.args.filing.now) c.in-Some.position c.requires row in
    let high : c.in-Some.position ≤ length c.args.filings.now = within.1 in
    omega arith

pub bounds-filings-position : goal.bounds-filings-position
bounds-filings-position g c =
    let row = row_of_key g.R.OfficeRules.ruling c.args.places.now.rows c.args.filing.now c.key-key.result c.name_of-name.result (Some c.in-Some.position) c.key-key.ensures c.name_of-name.ensures c.in-Some.ensures in
    let within = answered_within g.R.OfficeRules.ruling c.args.filings.now c.args.places.now.rows (g.R.OfficeRules.on_file c.args.index.now) (g.R.OfficeRules.ruling.key_of c.args.filing.now) c.in-Some.position c.requires row in
    let low : 1 ≤ c.in-Some.position = within.0 in
    let high : c.in-Some.position ≤ length c.args.filings.now = within.1 in
    omega arith

pub returns-in-Some : goal.returns-in-Some
returns-in-Some g c =
    let row = row_of_key g.R.OfficeRules.ruling c.args.places.now.rows c.args.filing.now c.key-key.result c.name_of-name.result (Some c.in-Some.position) c.key-key.ensures c.name_of-name.ensures c.in-Some.ensures in
    c.answer_there.ensures
    ∙ answered_there g.R.OfficeRules.ruling c.args.filings.now c.args.places.now.rows (g.R.OfficeRules.on_file c.args.index.now) c.args.filing.now c.in-Some.position c.index-filings-position.result c.requires row
    c.index-filings-position.is
