use Rattle.std.proofs.Common.{◌∙◌, ap, ◌++◌, codes}
use Rattle.std.specs.Prelude.{decimal}
use Rattle.web_session.proofs.Joined.{on_last, joined3}
use Rattle.web_session.proofs.response.put_length.Goals as goal

pub returns : goal.returns
returns c =
    on_last c.extend_from_slice-3.result _ _ _
    (λ last. joined3 c.args.out.now.items (codes "Content-Length: ") (decimal c.args.length) (codes "\r\nContent-Type: application/json\r\n") _ _ _
    c.in_ok-extend_from_slice.ensures.items
    (c.in_ok-extend_from_slice-2.ensures.items ∙ ap (λ l. c.extend_from_slice.new.self.items ++ l) (c.as_bytes.ensures.value ∙ c.format.ensures.text))
    last)
    c.extend_from_slice-3.ensures.items
