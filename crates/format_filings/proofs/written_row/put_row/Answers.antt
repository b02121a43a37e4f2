use Rattle.std.proofs.Common.{◌∙◌}
use Rattle.std.proofs.lemmas.Result.{on_ok_weaker}
use Rattle.format_kinds.specs.Kinds.{slots_of_kind}
use Rattle.format_bytes.specs.Numbers.{kind_of, numbers_of}
use Rattle.format_filings.specs.Spelled.{are_spelled}
use Rattle.format_filings.proofs.Kept.{numbers_spelled}
use Rattle.format_filings.proofs.RowLaws.{no_book, row_put}
use Rattle.format_filings.proofs.written_row.put_row.Goals as goal

pub put_numbers-requires : goal.put_numbers-requires
put_numbers-requires c =
    let f = c.args.filing.now in
    let numbers = c.as_slice.ensures.value ∙ c.numbers_in-numbers.ensures.value in
    (λ i. are_spelled (slots_of_kind (c.kind-kind.ensures.value i)) (numbers i)) ∙ numbers_spelled (kind_of f.what) (numbers_of f) c.numbers_in-numbers.ensures.in_range

pub returns-in_default : goal.returns-in_default
returns-in_default c =
    let f = c.args.filing.now in
    let has = no_book f.what c.in_default.not-Book in
    let name = c.as_bytes.ensures.value ∙ c.table_row.ensures.name in
    let numbers = c.as_slice.ensures.value ∙ c.numbers_in-numbers.ensures.value in
    record { row = on_ok_weaker c.put_numbers.result (λ e. row_put f c.kind-kind.result c.as_slice.result.now c.as_bytes.result.now c.args.out.now.items _ _ has c.kind-kind.ensures.value numbers name c.in_ok-extend_from_slice.ensures.items e) c.put_numbers.ensures }
