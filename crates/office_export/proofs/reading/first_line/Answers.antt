use Rattle.std.proofs.Common.{◌≡◌, ℕ, List, [], ◌∷◌, length, false, sym, ◌∙◌, take_all}
use Rattle.std.specs.Prelude.{◌==◌}
use Rattle.std.proofs.lemmas.List.{take_rest}
use Rattle.office_export.proofs.Places.{lacks_more, last_line, line_at}
use Rattle.office_export.proofs.reading.first_line.Goals as goal

pub returns-then-byte-eq10-clause-line : goal.returns-then-byte-eq10-clause-line
returns-then-byte-eq10-clause-line c = rw take_rest (line_at c.args.text.now c.loop-at.at c.loop-at-test.true c.if-byte-eq10.true c.loop-at.invariant)

pub loop-at-preserved : goal.loop-at-preserved
loop-at-preserved c = lacks_more 10 c.args.text.now c.loop-at.at c.loop-at-test.true c.if-byte-eq10.false c.loop-at.invariant

some : (text : List ℕ) → (length text == 0) ≡ false → text ≡ [] → ⊥
some [] e is = cc e
some (b ∷ text) e is = cc is

pub returns-else-is_empty-clause-line : goal.returns-else-is_empty-clause-line
returns-else-is_empty-clause-line c =
    last_line c.args.text.now (some c.args.text.now (sym c.is_empty.ensures ∙ c.if-is_empty.false)) (rw (take_all _ _ c.loop-at-test.false) at c.loop-at.invariant)
