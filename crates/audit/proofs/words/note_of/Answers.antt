use Rattle.std.proofs.Common.{◌∙◌, ap, sym, List, ℕ}
use Rattle.std.specs.Prelude.{pos}
use Rattle.aid_types.specs.Whole.{whole_between, whole_of}
use Rattle.office_export.specs.Forms.{is_seal}
use Rattle.audit.specs.Words.{count_by}
use Rattle.audit.proofs.Notes.{noted}
use Rattle.audit.proofs.words.note_of.Goals as goal

pub returns : goal.returns
returns c =
    let seal = ap (λ (text : List ℕ). is_seal text) (sym c.as_bytes.ensures.value) ∙ sym c.is_seal.ensures ∙ c.if-not-is_seal.false in
    let whole = ap (λ (text : List ℕ). count_by (whole_between (pos 0) (pos 4294967295) (whole_of text))) (sym c.as_bytes-2.ensures.value) ∙ (sym c.count_in.ensures.value ∙ c.in_ok-count.was) in
    noted c.args.count.now c.args.digits.now c.in_ok-count.count c.decode_to_slice.result c.decode_to_slice.new.out seal whole c.decode_to_slice.ensures.value c.in-Ok.is
