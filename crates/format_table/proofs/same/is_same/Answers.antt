use Rattle.std.proofs.Common.{sym, ap, ◌∙◌}
use Rattle.std.proofs.lemmas.Bool.Decides.{Decides-int_eq}
use Rattle.std.proofs.lemmas.Slice.Eq.{slice_eq-Decides}
use Rattle.format_table.proofs.same.is_same.Goals as goal

pub returns-then-code : goal.returns-then-code
returns-then-code g c =
    let d = slice_eq-Decides Decides-int_eq c.as_slice.result.now c.as_slice-then-code.result.now c.eq.result c.eq.ensures in
    let one = c.as_slice.ensures.value ∙ c.numbers-numbers.ensures.value in
    let other = c.as_slice-then-code.ensures.value ∙ c.numbers-others.ensures.value in
    let codes = sym c.code.ensures ∙ c.if-code.true ∙ c.code-2.ensures in
    (λ h. g.met.T.EntryCodec.one c.args.one.now c.args.other.now codes (sym one ∙ d.0 h ∙ other), λ e. d.1 (one ∙ ap g.T.EntryCodec.numbers_of e ∙ sym other))
