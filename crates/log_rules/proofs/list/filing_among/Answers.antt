use Rattle.std.proofs.Common.{◌≡◌, ◌-◌, ◌<◌, length, Some, refl, sym, ap, ◌∙◌, Option}
use Rattle.std.specs.Prelude.{option_map, slice_get}
use Rattle.std.proofs.lemmas.Option.{slice_get_read}
use Rattle.std.proofs.lemmas.Bool.{ltb-true}
use Rattle.log_rules.specs.declared.rules.Filed.{Filed}
use Rattle.log_rules.proofs.Positions.{filing_there}
use Rattle.log_rules.proofs.list.filing_among.Goals as goal

pub returns-in-Some : goal.returns-in-Some
returns-in-Some g c =
    let there = filing_there c.args.filings.now c.args.position c.if-position-eq0.false in
    let item = c.in-Some.ensures.lookup in
    let within : c.args.position - 1 < length c.args.filings.now = ltb-true (c.args.position - 1) (length c.args.filings.now) (sym item.0) in
    let found : slice_get c.args.filings.now (c.args.position - 1) ≡ Some c.in-Some.filed.now = slice_get_read c.args.filings.now (length c.args.filings.now) (c.args.position - 1) c.in-Some.filed.now refl within item.1 in
    sym (there ∙ ap (λ (o : Option (Filed _ _)). option_map (λ f. f.entry) o) found)
