use Rattle.std.proofs.Common.{◌+ℤ◌, ◌-ℤ◌, ap, ◌∙◌, arith}
use Rattle.aid_books.specs.Marginal.{row_value}
use Rattle.format_table.proofs.LimitLemmas.{difference, difference_small, over_product, product_fits, product_small, sum_fits, sum_is, widened}
use Rattle.format_table.proofs.limit.value_of_last_row.Goals as goal

pub overflow_mul-begins : goal.overflow_mul-begins
overflow_mul-begins c =
    let begins = c.number_before-begins in
    let over = c.number_before-over in
    let rate = c.number_before-rate in
    rw (difference begins.result over.result begins.ensures.narrow over.ensures.narrow, widened rate.result rate.ensures.narrow)
    (product_fits (begins.result -ℤ over.result) rate.result (difference_small begins.result over.result begins.ensures.narrow over.ensures.narrow) rate.ensures.narrow)

pub nearest-requires-clause-a_in_range : goal.nearest-requires-clause-a_in_range
nearest-requires-clause-a_in_range c =
    let begins = c.number_before-begins in
    let over = c.number_before-over in
    let rate = c.number_before-rate in
    rw (over_product begins.result over.result rate.result begins.ensures.narrow over.ensures.narrow rate.ensures.narrow)
    (product_small (begins.result -ℤ over.result) rate.result (difference_small begins.result over.result begins.ensures.narrow over.ensures.narrow) rate.ensures.narrow)

pub overflow_add-result : goal.overflow_add-result
overflow_add-result c =
    let begins = c.number_before-begins in
    let over = c.number_before-over in
    let rate = c.number_before-rate in
    let base = c.number_before-base in
    let product = over_product begins.result over.result rate.result begins.ensures.narrow over.ensures.narrow rate.ensures.narrow in
    let small = product_small (begins.result -ℤ over.result) rate.result (difference_small begins.result over.result begins.ensures.narrow over.ensures.narrow) rate.ensures.narrow in
    let no_greater = rw product at c.nearest.ensures.no_greater in
    sum_fits base.result c.nearest.result base.ensures.narrow (omega arith)

pub returns : goal.returns
returns c =
    let begins = c.number_before-begins in
    let over = c.number_before-over in
    let rate = c.number_before-rate in
    let base = c.number_before-base in
    let product = over_product begins.result over.result rate.result begins.ensures.narrow over.ensures.narrow rate.ensures.narrow in
    let small = product_small (begins.result -ℤ over.result) rate.result (difference_small begins.result over.result begins.ensures.narrow over.ensures.narrow) rate.ensures.narrow in
    let no_greater = rw product at c.nearest.ensures.no_greater in
    let value = rw product at c.nearest.ensures.value in
    sum_is base.result c.nearest.result base.ensures.narrow (omega arith)
    ∙ (ap (λ q. base.result +ℤ q) value
    ∙ (λ i. row_value (record { over = over.ensures.value i; base = base.ensures.value i; rate = rate.ensures.value i }) (begins.ensures.value i)))
