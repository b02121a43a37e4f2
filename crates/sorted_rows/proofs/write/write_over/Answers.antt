use Rattle.std.proofs.Common.{sym}
use Rattle.std.specs.BTreeMap.{is_at}
use Rattle.sorted_rows.proofs.Sorted.{here_read, gap_in, sorted-set, lookup-set, found, missed, some_is}
use Rattle.sorted_rows.proofs.write.write_over.Goals as goal

pub returns-in-Ok-clause-sorted : goal.returns-in-Ok-clause-sorted
returns-in-Ok-clause-sorted g c =
    let key = c.args.key in
    let rows = c.args.rows.now.items in
    let e = c.index_mut.result.now in
    let read = here_read g.met.K.Ord.total key c.as_slice.result.now rows c.in-Ok.place e c.as_slice.ensures.value c.in-Ok.ensures.found c.index_mut.ensures.value in
    sorted-set g.met.K.Ord.total key rows c.in-Ok.place e c.args.value c.requires read.0 read.1

pub returns-in-Ok-clause-written : goal.returns-in-Ok-clause-written
returns-in-Ok-clause-written g c = λ yes q.
    let key = c.args.key in
    let rows = c.args.rows.now.items in
    let e = c.index_mut.result.now in
    let read = here_read g.met.K.Ord.total key c.as_slice.result.now rows c.in-Ok.place e c.as_slice.ensures.value c.in-Ok.ensures.found c.index_mut.ensures.value in
    lookup-set g.met.K.Ord.total key rows c.in-Ok.place e c.args.value q c.requires read.0 read.1

pub returns-in-Ok-clause-had : goal.returns-in-Ok-clause-had
returns-in-Ok-clause-had g c = λ yes.
    let key = c.args.key in
    let rows = c.args.rows.now.items in
    let e = c.index_mut.result.now in
    let read = here_read g.met.K.Ord.total key c.as_slice.result.now rows c.in-Ok.place e c.as_slice.ensures.value c.in-Ok.ensures.found c.index_mut.ensures.value in
    some_is g.met.K.Ord.total rows (is_at (g.K.Ord.cmp key)) e.1 (found g.met.K.Ord.total key rows c.in-Ok.place e c.requires read.0 read.1)

pub returns-in-Err-clause-lacks : goal.returns-in-Err-clause-lacks
returns-in-Err-clause-lacks g c = λ no.
    let key = c.args.key in
    let rows = c.args.rows.now.items in
    let gap = gap_in g.met.K.Ord.total key c.as_slice.result.now rows c.in-Err.field-0 c.as_slice.ensures.value c.in-Err.ensures.gap in
    sym (missed g.met.K.Ord.total key rows c.in-Err.field-0 c.requires gap)
