use Rattle.std.proofs.Common.{w64, subst, sym, ap, ◌∙◌}
use Rattle.std.proofs.lemmas.Int.{to_z-of_z}
use Rattle.aid_types.specs.Whole.{whole_of, whole_between}
use Rattle.aid_types.proofs.ClampedLemmas.{whole_between-clamped}
use Rattle.aid_types.proofs.ReadLemmas.{IsWholeReading, IsWholeReading-whole_between}
use Rattle.aid_types.proofs.text.read_whole.Goals as goal

pub returns : goal.returns
returns c =
    let text = c.args.text.now in
    let low_is = to_z-of_z w64 c.args.low c.ranges.low in
    let high_is = to_z-of_z w64 c.args.high c.ranges.high in
    let between = rw (low_is, high_is) at c.between.ensures in
    let value = between ∙ ap (whole_between c.args.low c.args.high) c.whole.ensures ∙ whole_between-clamped c.args.low c.args.high (whole_of text) c.ranges.low c.ranges.high in
    let read = subst (IsWholeReading c.args.low c.args.high text) (sym value) (IsWholeReading-whole_between c.args.low c.args.high text) in
    record { value = value; ok = read.ok; range = read.range; spelling = read.spelling }
