use Rattle.std.proofs.Common.{◌∙◌, ap, ◌++◌, [], ◌∷◌, codes}
use Rattle.std.specs.Prelude.{decimal}
use Rattle.web_session.specs.Statuses.{code_of, phrase_of}
use Rattle.web_session.proofs.Joined.{on_last, joined5}
use Rattle.web_session.proofs.response.put_status.Goals as goal

pub returns : goal.returns
returns c =
    on_last c.extend_from_slice-4.result _ _ _
    (λ last. joined5 c.args.out.now.items (codes "HTTP/1.1 ") (decimal (code_of c.args.status)) (32 ∷ []) (phrase_of c.args.status) (codes "\r\n") _ _ _ _ _
    c.in_ok-extend_from_slice.ensures.items
    (c.in_ok-extend_from_slice-2.ensures.items ∙ ap (λ l. c.extend_from_slice.new.self.items ++ l) (c.as_bytes.ensures.value ∙ c.format.ensures.text ∙ ap decimal c.code.ensures))
    c.in_ok-push.ensures.items
    (c.in_ok-extend_from_slice-3.ensures.items ∙ ap (λ l. c.push.new.self.items ++ l) (c.as_bytes-2.ensures.value ∙ c.phrase.ensures))
    last)
    c.extend_from_slice-4.ensures.items
