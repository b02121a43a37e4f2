use Rattle.std.proofs.Common.{◌≡◌, ◌∙◌, ℕ, List, ap, arith, cond, length, refl, subst}
use Rattle.std.specs.BTreeMap.{is_at}
use Rattle.std.specs.Option.{is_none}
use Rattle.sorted_rows.specs.Places.{IsAfterSmaller}
use Rattle.sorted_rows.proofs.Apart.{apart_main, neither, written_main}
use Rattle.sorted_rows.proofs.write.add.Goals as goal

pub write_new-requires-clause-not_main : goal.write_new-requires-clause-not_main
write_new-requires-clause-not_main g c = (neither (is_at (g.K.Ord.cmp c.args.key)) c.args.tail.now.items c.args.main.now.items c.requires.new).1

pub append-requires-clause-last : goal.append-requires-clause-last
append-requires-clause-last g c =
    subst (λ (rows : List (g.row.K.Denot × g.row.V.Denot)). IsAfterSmaller g.K.Ord.cmp c.args.key rows (length rows)) c.as_slice.ensures.value (c.if-is_last.ensures refl)

pub returns-then-is_last-clause-apart : goal.returns-then-is_last-clause-apart
returns-then-is_last-clause-apart g c =
    apart_main g.met.K.Ord.total c.args.key c.args.value c.args.tail.now.items c.args.main.now.items c.append.new.rows.items c.requires.apart c.append.ensures.sorted c.append.ensures.values
    (neither (is_at (g.K.Ord.cmp c.args.key)) c.args.tail.now.items c.args.main.now.items c.requires.new).0

pub returns-then-is_last-clause-values : goal.returns-then-is_last-clause-values
returns-then-is_last-clause-values g c =
    written_main g.met.K.Ord.total c.args.key c.args.value c.args.tail.now.items c.args.main.now.items c.append.new.rows.items c.append.ensures.values
    (neither (is_at (g.K.Ord.cmp c.args.key)) c.args.tail.now.items c.args.main.now.items c.requires.new).0

pub returns-else-is_last-clause-count : goal.returns-else-is_last-clause-count
returns-else-is_last-clause-count g c =
    let lacks = (neither (is_at (g.K.Ord.cmp c.args.key)) c.args.tail.now.items c.args.main.now.items c.requires.new).0 in
    let one : cond {A = ℕ} c.write_new.result 1 0 ≡ 1 = ap (λ b. cond {A = ℕ} b 1 0) (c.write_new.ensures.new ∙ ap is_none lacks) in
    omega (arith, one, c.write_new.ensures.count)
