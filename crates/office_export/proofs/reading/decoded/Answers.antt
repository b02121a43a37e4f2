use Rattle.std.proofs.Common.{◌∙◌, ap, sym, subst}
use Rattle.hex.specs.Hex.{IsBytes, encode_lower}
use Rattle.office_export.proofs.Digits.{are_spelled, told}
use Rattle.office_export.proofs.Found.{front_fits, front_is, longer}
use Rattle.office_export.proofs.reading.decoded.Goals as goal

pub returns-then-count-gt-CAPACITY-clause-none : goal.returns-then-count-gt-CAPACITY-clause-none
returns-then-count-gt-CAPACITY-clause-none c bytes few e = longer c.args.digits.now bytes c.if-count-gt-CAPACITY.true few e

pub returns-in_default-clause-none : goal.returns-in_default-clause-none
returns-in_default-clause-none c bytes few e =
    let got = told c.args.digits.now c.args.room.now c.requires (rw c.told-room c.if-count-gt-CAPACITY.false) c.decode_to_slice.result c.decode_to_slice.new.out c.decode_to_slice.ensures.value in
    absurd (c.in_default.not-Ok tt got.0)

pub returns-clause-found : goal.returns-clause-found
returns-clause-found c =
    let got = told c.args.digits.now c.args.room.now c.requires (rw c.told-room c.if-count-gt-CAPACITY.false) c.decode_to_slice.result c.decode_to_slice.new.out c.decode_to_slice.ensures.value in (
      front_fits c.args.digits.now c.decode_to_slice.new.out _ c.requires got.1,
      ap encode_lower (front_is c.args.digits.now c.decode_to_slice.new.out _ c.requires got.1) ∙ (are_spelled c.args.digits.now c.requires).spelled,
    )

pub returns-clause-bytes : goal.returns-clause-bytes
returns-clause-bytes c =
    let got = told c.args.digits.now c.args.room.now c.requires (rw c.told-room c.if-count-gt-CAPACITY.false) c.decode_to_slice.result c.decode_to_slice.new.out c.decode_to_slice.ensures.value in
    subst IsBytes (sym (front_is c.args.digits.now c.decode_to_slice.new.out _ c.requires got.1)) (are_spelled c.args.digits.now c.requires).are_bytes
