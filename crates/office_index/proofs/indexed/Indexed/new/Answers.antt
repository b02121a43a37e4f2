use Rattle.std.proofs.Common.{zero-le, rules}
use Rattle.office_index.proofs.NoRows.{empty_indexed}
use Rattle.office_index.proofs.indexed.Indexed.new.Goals as goal

pub invariant_of-result : goal.invariant_of-result
invariant_of-result c = (
  empty_indexed c.new.result.items c.new-2.result.items _ c.new.ensures.items c.new-2.ensures.items (λ i. record {
    keys = c.new-5.ensures.rows i;
    books = c.new-6.ensures.rows i;
    schools = c.new-7.ensures.rows i;
    students = c.new-8.ensures.rows i;
    places = c.new-9.ensures.rows i;
    years = c.new-10.ensures.rows i;
    school_years = c.new-11.ensures.rows i;
    befores = c.new-3.ensures.items i;
    links = c.new-4.ensures.items i;
  }),
  search rules,
  search rules,
  search rules,
  zero-le,
  zero-le,
  zero-le,
  zero-le,
  zero-le,
  zero-le,
  zero-le,
  search rules,
)
