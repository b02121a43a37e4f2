use Rattle.std.proofs.Common.{◌∙◌, List, ap, length, subst, sym}
use Rattle.std.specs.BTreeMap.{is_at}
use Rattle.std.specs.List.Sorted.{IsStrictlySortedBy}
use Rattle.std.specs.Map.{keys_of, lookup}
use Rattle.std.proofs.lemmas.List.Edits.{insert_end}
use Rattle.sorted_rows.proofs.Sorted.{gap_last, lookup-put, sorted-put}
use Rattle.sorted_rows.proofs.write.append.Goals as goal

pub returns-clause-sorted : goal.returns-clause-sorted
returns-clause-sorted g c =
    let rows = c.args.rows.now.items in
    let new = c.push_reserved.ensures.items ∙ sym (insert_end rows (c.args.key, c.args.value)) in
    subst (λ (xs : List (g.row.K.Denot × g.row.V.Denot)). IsStrictlySortedBy g.K.Ord.cmp (keys_of xs)) (sym new)
    (sorted-put g.met.K.Ord.total c.args.key rows (length rows) c.args.value c.requires.sorted (gap_last g.met.K.Ord.total c.args.key rows c.requires.last))

pub returns-clause-values : goal.returns-clause-values
returns-clause-values g c = λ q.
    let rows = c.args.rows.now.items in
    let new = c.push_reserved.ensures.items ∙ sym (insert_end rows (c.args.key, c.args.value)) in
    ap (λ (xs : List (g.row.K.Denot × g.row.V.Denot)). lookup (is_at (g.K.Ord.cmp q)) xs) new
    ∙ lookup-put g.met.K.Ord.total c.args.key rows (length rows) c.args.value q c.requires.sorted (gap_last g.met.K.Ord.total c.args.key rows c.requires.last)
