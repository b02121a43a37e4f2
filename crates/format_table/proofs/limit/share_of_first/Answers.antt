use Rattle.format_table.proofs.LimitLemmas.{product_of, product_small, small}
use Rattle.format_table.proofs.limit.share_of_first.Goals as goal

pub nearest-requires-clause-a_in_range : goal.nearest-requires-clause-a_in_range
nearest-requires-clause-a_in_range c =
    let begins = c.number_before-begins in
    let rate = c.number_before-rate in
    rw (product_of begins.result rate.result begins.ensures.narrow rate.ensures.narrow)
    (product_small begins.result rate.result (small begins.result begins.ensures.narrow) rate.ensures.narrow)
