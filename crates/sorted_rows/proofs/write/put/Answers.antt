use Rattle.std.proofs.Common.{arith, ◌≡◌, List, IsOk, cond, subst, sym, ap, ◌∙◌}
use Rattle.std.specs.List.{insert}
use Rattle.std.specs.List.Sorted.{IsStrictlySortedBy}
use Rattle.std.specs.Map.{keys_of, lookup}
use Rattle.std.specs.BTreeMap.{is_at}
use Rattle.std.specs.Option.{is_none}
use Rattle.sorted_rows.proofs.Sorted.{here_read, gap_in, sorted-set, lookup-set, sorted-put, lookup-put, found, missed}
use Rattle.sorted_rows.proofs.write.put.Goals as goal

pub returns-in-Ok-clause-sorted : goal.returns-in-Ok-clause-sorted
returns-in-Ok-clause-sorted g c =
    let key = c.args.key in
    let rows = c.args.rows.now.items in
    let e = c.index_mut.result.now in
    let read = here_read g.met.K.Ord.total key c.as_slice.result.now rows c.in-Ok.place e c.as_slice.ensures.value c.in-Ok.ensures.found c.index_mut.ensures.value in
    sorted-set g.met.K.Ord.total key rows c.in-Ok.place e c.args.value c.requires.sorted read.0 read.1

pub returns-in-Ok-clause-values : goal.returns-in-Ok-clause-values
returns-in-Ok-clause-values g c = λ q.
    let key = c.args.key in
    let rows = c.args.rows.now.items in
    let e = c.index_mut.result.now in
    let read = here_read g.met.K.Ord.total key c.as_slice.result.now rows c.in-Ok.place e c.as_slice.ensures.value c.in-Ok.ensures.found c.index_mut.ensures.value in
    lookup-set g.met.K.Ord.total key rows c.in-Ok.place e c.args.value q c.requires.sorted read.0 read.1

pub returns-in-Err-clause-sorted : goal.returns-in-Err-clause-sorted
returns-in-Err-clause-sorted g c =
    let key = c.args.key in
    let rows = c.args.rows.now.items in
    let gap = gap_in g.met.K.Ord.total key c.as_slice.result.now rows c.in-Err.place c.as_slice.ensures.value c.in-Err.ensures.gap in
    let ok : IsOk c.insert.result = c.insert.ensures.succeeds (c.requires.room (sym (missed g.met.K.Ord.total key rows c.in-Err.place c.requires.sorted gap))) in
    let new : c.insert.new.self.items ≡ insert rows c.in-Err.place (key, c.args.value) = c.insert.ensures.items ∙ ap (λ b. cond b (insert rows c.in-Err.place (key, c.args.value)) rows) ok in
    subst (λ (rows : List (g.row.K.Denot × g.row.V.Denot)). IsStrictlySortedBy g.K.Ord.cmp (keys_of rows)) (sym new)
    (sorted-put g.met.K.Ord.total key rows c.in-Err.place c.args.value c.requires.sorted gap)

pub returns-in-Err-clause-values : goal.returns-in-Err-clause-values
returns-in-Err-clause-values g c = λ q.
    let key = c.args.key in
    let rows = c.args.rows.now.items in
    let gap = gap_in g.met.K.Ord.total key c.as_slice.result.now rows c.in-Err.place c.as_slice.ensures.value c.in-Err.ensures.gap in
    let ok : IsOk c.insert.result = c.insert.ensures.succeeds (c.requires.room (sym (missed g.met.K.Ord.total key rows c.in-Err.place c.requires.sorted gap))) in
    let new : c.insert.new.self.items ≡ insert rows c.in-Err.place (key, c.args.value) = c.insert.ensures.items ∙ ap (λ b. cond b (insert rows c.in-Err.place (key, c.args.value)) rows) ok in
    ap (λ (rows : List (g.row.K.Denot × g.row.V.Denot)). lookup (is_at (g.K.Ord.cmp q)) rows) new
    ∙ lookup-put g.met.K.Ord.total key rows c.in-Err.place c.args.value q c.requires.sorted gap

pub returns-in-Ok-clause-new : goal.returns-in-Ok-clause-new
returns-in-Ok-clause-new g c =
    let key = c.args.key in
    let rows = c.args.rows.now.items in
    let e = c.index_mut.result.now in
    let read = here_read g.met.K.Ord.total key c.as_slice.result.now rows c.in-Ok.place e c.as_slice.ensures.value c.in-Ok.ensures.found c.index_mut.ensures.value in
    ap is_none (found g.met.K.Ord.total key rows c.in-Ok.place e c.requires.sorted read.0 read.1)

pub returns-in-Err-clause-new : goal.returns-in-Err-clause-new
returns-in-Err-clause-new g c =
    let key = c.args.key in
    let rows = c.args.rows.now.items in
    let gap = gap_in g.met.K.Ord.total key c.as_slice.result.now rows c.in-Err.place c.as_slice.ensures.value c.in-Err.ensures.gap in
    ap is_none (missed g.met.K.Ord.total key rows c.in-Err.place c.requires.sorted gap)

pub returns-in-Err-clause-count : goal.returns-in-Err-clause-count
returns-in-Err-clause-count g c =
    let key = c.args.key in
    let rows = c.args.rows.now.items in
    let gap = gap_in g.met.K.Ord.total key c.as_slice.result.now rows c.in-Err.place c.as_slice.ensures.value c.in-Err.ensures.gap in
    let room = c.requires.room (sym (missed g.met.K.Ord.total key rows c.in-Err.place c.requires.sorted gap)) in
    let ok = c.insert.ensures.succeeds room in
    grind (arith, ok, c.insert.ensures.len)

pub returns-in-Err-clause-capacity : goal.returns-in-Err-clause-capacity
returns-in-Err-clause-capacity g c =
    let key = c.args.key in
    let rows = c.args.rows.now.items in
    let gap = gap_in g.met.K.Ord.total key c.as_slice.result.now rows c.in-Err.place c.as_slice.ensures.value c.in-Err.ensures.gap in
    let room = c.requires.room (sym (missed g.met.K.Ord.total key rows c.in-Err.place c.requires.sorted gap)) in
    let ok = c.insert.ensures.succeeds room in
    grind (arith, room, c.insert.ensures.in_place, c.insert.ensures.capacity)
