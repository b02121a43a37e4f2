use Rattle.std.proofs.Common.{take_all}
use Rattle.std.proofs.lemmas.List.{take_rest}
use Rattle.std.proofs.lemmas.List.Splits.{slice_split_none}
use Rattle.office_export.proofs.Places.{cut_at, lacks_more}
use Rattle.office_export.proofs.Spaced.{is_blank}
use Rattle.office_export.proofs.words.cut.Goals as goal

pub returns-then-byte-eq32-clause-words : goal.returns-then-byte-eq32-clause-words
returns-then-byte-eq32-clause-words c = rw take_rest (cut_at c.args.text.now c.loop-at.at c.loop-at-test.true c.if-byte-eq32.true c.loop-at.invariant)

pub loop-at-preserved : goal.loop-at-preserved
loop-at-preserved c = lacks_more 32 c.args.text.now c.loop-at.at c.loop-at-test.true c.if-byte-eq32.false c.loop-at.invariant

pub returns-clause-words : goal.returns-clause-words
returns-clause-words c = slice_split_none is_blank c.args.text.now (rw (take_all _ _ c.loop-at-test.false) at c.loop-at.invariant)
