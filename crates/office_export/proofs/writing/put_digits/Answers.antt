use Rattle.std.proofs.Common.{List, ℕ, ◌++◌, append-nil, append_assoc, sym, ap, take, ◌∙◌}
use Rattle.hex.specs.Hex.{encode_lower}
use Rattle.office_export.proofs.Digits.{encode_more, no_digits}
use Rattle.office_export.proofs.writing.put_digits.Goals as goal

pub loop-byte-init : goal.loop-byte-init
loop-byte-init c = sym (ap (λ (cs : List ℕ). c.args.out.now.items ++ cs) no_digits ∙ append-nil c.args.out.now.items)

pub loop-byte-preserved : goal.loop-byte-preserved
loop-byte-preserved c =
    let old = c.args.out.now.items in
    let before = encode_lower (take c.loop-byte.byte-index c.args.bytes.now) in
    let pair = c.encode_to_slice.new.output in
    c.in_ok-extend_from_slice.ensures.items ∙ ap (λ (front : List ℕ). front ++ pair) c.loop-byte.invariant
    ∙ append_assoc old before pair ∙ ap (λ (cs : List ℕ). old ++ (before ++ cs)) c.in-Ok.ensures.written
    ∙ ap (λ (cs : List ℕ). old ++ cs) (sym (encode_more c.args.bytes.now c.loop-byte.byte-index c.loop-byte-test.true))
