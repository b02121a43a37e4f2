use Rattle.std.proofs.Common.{◌≡◌, Bool, false, [], ◌∷◌, ◌++◌, ap, sym, ◌∙◌, codes, decimal}
use Rattle.std.specs.Prelude.{bytes_eq, if◌then◌else◌}
use Rattle.std.proofs.lemmas.Result.{on_ok_weaker}
use Rattle.format_filings.specs.Replies.{outcome_text}
use Rattle.format_filings.specs.WrittenRows.{row_text}
use Rattle.office_export.specs.Lines.{line_of}
use Rattle.office_export.proofs.Written.{written}
use Rattle.office_amends.proofs.lines.put_changed.Goals as goal

pub returns : goal.returns
returns c =
    let old = c.args.out.now.items in
    let was = outcome_text c.args.was.now in
    let now = outcome_text c.args.now.now in
    let words = row_text c.args.filing.now ∷ codes "was" ∷ was ∷ codes "now" ∷ now ∷ [] in
    let same = rw (c.as_bytes.ensures.value, c.as_str.ensures.value, c.outcome_line-was.ensures, c.as_bytes-2.ensures.value, c.as_str-2.ensures.value, c.outcome_line-now.ensures) at c.eq.ensures in
    let differ : bytes_eq was now ≡ false = sym same ∙ c.if-eq.false in
    let first = rw (c.as_bytes-3.ensures.value, c.as_str-3.ensures.value, c.outcome_line-was.ensures) at c.in_ok-put_bytes-2.ensures in
    let last = rw (c.as_bytes-4.ensures.value, c.as_str-4.ensures.value, c.outcome_line-now.ensures) at c.put_bytes-4.ensures in
    on_ok_weaker c.put_bytes-4.result
    (λ e. written old (decimal c.args.position) words _
    (_, c.in_ok-put_number.ensures, (_, c.in_ok-put_whole_row.ensures, (_, c.in_ok-put_bytes.ensures, (_, first, (_, c.in_ok-put_bytes-3.ensures, e)))))
    ∙ ap (λ (b : Bool). old ++ (if b then [] else line_of (decimal c.args.position ∷ words))) (sym differ))
    last
