use Rattle.std.proofs.Common.{◌≡◌, sym, ap, ◌∙◌, length, rules}
use Rattle.std.specs.Prelude.{Some, map}
use Rattle.format_table.specs.Parts.{line_of}
use Rattle.format_rows.proofs.FieldsLemmas.{counted_lines}
use Rattle.format_rows.proofs.count.fields_counted.Goals as goal

pub returns : goal.returns
returns c =
    let some : length c.args.part.now.first.now ≡ 0 → ⊥ = search rules in
    let counted = counted_lines (map (λ word. word.now) c.args.words.now) c.args.part.now.first.now (line_of c.args.part.now.field) c.args.text.now c.in_ok-count.count some (sym c.count_in.ensures ∙ c.in_ok-count.was) in
    ap Some c.saturating_mul.ensures ∙ sym counted
