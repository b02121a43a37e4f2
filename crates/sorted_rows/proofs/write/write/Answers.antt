use Rattle.std.proofs.Common.{ap, sym, ◌∙◌, refl, arith}
use Rattle.std.specs.BTreeMap.{is_at}
use Rattle.std.specs.Option.{is_none}
use Rattle.sorted_rows.proofs.Apart.{apart_main, written_main, tail_lacks, in_neither, first_only, not_new}
use Rattle.sorted_rows.proofs.write.write.Goals as goal

pub returns-then-write_over-clause-new : goal.returns-then-write_over-clause-new
returns-then-write_over-clause-new g c = not_new (is_at (g.K.Ord.cmp c.args.key)) c.args.tail.now.items c.args.main.now.items (c.if-write_over.ensures.had refl)

pub returns-then-write_over-clause-apart : goal.returns-then-write_over-clause-apart
returns-then-write_over-clause-apart g c =
    apart_main g.met.K.Ord.total c.args.key c.args.value c.args.tail.now.items c.args.main.now.items c.write_over.new.rows.items c.requires.apart c.write_over.ensures.sorted (c.if-write_over.ensures.written refl)
    (tail_lacks g.met.K.Ord.total c.args.key c.args.tail.now.items c.args.main.now.items c.requires.apart (c.if-write_over.ensures.had refl))

pub returns-then-write_over-clause-values : goal.returns-then-write_over-clause-values
returns-then-write_over-clause-values g c =
    written_main g.met.K.Ord.total c.args.key c.args.value c.args.tail.now.items c.args.main.now.items c.write_over.new.rows.items (c.if-write_over.ensures.written refl)
    (tail_lacks g.met.K.Ord.total c.args.key c.args.tail.now.items c.args.main.now.items c.requires.apart (c.if-write_over.ensures.had refl))

pub write_new-requires-clause-places : goal.write_new-requires-clause-places
write_new-requires-clause-places g c = λ none.
    c.requires.places (in_neither (is_at (g.K.Ord.cmp c.args.key)) c.args.tail.now.items c.args.main.now.items none (c.if-write_over.ensures.lacks refl))

pub write_new-requires-clause-room : goal.write_new-requires-clause-room
write_new-requires-clause-room g c = λ none.
    let fits = c.requires.room (in_neither (is_at (g.K.Ord.cmp c.args.key)) c.args.tail.now.items c.args.main.now.items none (c.if-write_over.ensures.lacks refl)) in
    omega (arith, c.write_over.ensures.count, c.write_over.ensures.capacity)

pub returns-clause-new : goal.returns-clause-new
returns-clause-new g c =
    c.write_new.ensures.new
    ∙ ap is_none (sym (first_only (is_at (g.K.Ord.cmp c.args.key)) c.args.tail.now.items c.args.main.now.items (c.if-write_over.ensures.lacks refl)))
