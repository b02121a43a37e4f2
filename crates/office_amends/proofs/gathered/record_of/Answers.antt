use Rattle.std.proofs.Common.{refl}
use Rattle.office_amends.proofs.gathered.record_of.Goals as goal

pub returns : goal.returns
returns c = record {
  facts = _;
  what = refl;
  key = c.record_key.ensures;
  of = c.key_corrected.ensures;
  done = c.change_number.ensures.value;
  reason = refl;
  reference = refl;
}
