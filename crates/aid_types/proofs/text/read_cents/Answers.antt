use Rattle.std.proofs.Common.{subst, sym, ap, ◌∙◌}
use Rattle.aid_types.specs.Cents.{cents_of, cents_up_to}
use Rattle.aid_types.proofs.ClampedLemmas.{cents_up_to-min}
use Rattle.aid_types.proofs.ReadLemmas.{IsCentsReading, IsCentsReading-cents_up_to}
use Rattle.aid_types.proofs.text.read_cents.Goals as goal

pub returns : goal.returns
returns c =
    let text = c.args.text.now in
    let value = c.up_to.ensures ∙ ap (cents_up_to 99999999) c.cents.ensures ∙ cents_up_to-min (cents_of text) in
    let read = subst (IsCentsReading 99999999 text) (sym value) (IsCentsReading-cents_up_to 99999999 text) in
    record { value = value; ok = read.ok; range = read.range; spelling = read.spelling }
