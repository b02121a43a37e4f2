use Rattle.std.proofs.Common.{rules}
use Rattle.format_books.proofs.ReadingLemmas.{data_of-items_view}
use Rattle.format_books.proofs.reading.items_in.Goals as goal

pub returns-in-Some-as_array : goal.returns-in-Some-as_array
returns-in-Some-as_array c =
    let array = rw c.in-Some-as_array.is at c.as_array.ensures in
    rw (c.in-Some.is, ← array, data_of-items_view c.in-Some-as_array.array.now.items) (search rules)
