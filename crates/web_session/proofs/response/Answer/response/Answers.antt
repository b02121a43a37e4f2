use Rattle.std.proofs.Common.{◌∙◌, ap, ◌++◌, [], length}
use Rattle.web_session.specs.Responses.{status_line, length_lines, closing_line, response_of}
use Rattle.web_session.proofs.Joined.{joined4}
use Rattle.web_session.proofs.response.Answer.response.Goals as goal

pub returns : goal.returns
returns c =
    let text = c.self.inside.text.items in
    joined4 [] (status_line c.self.inside.status) (length_lines (length text)) (closing_line c.args.closes) text _ _ _ _
    (c.in_ok-put_status.ensures ∙ ap (λ l. l ++ status_line c.self.inside.status) c.new-out.ensures.items)
    (c.in_ok-put_length.ensures ∙ ap (λ n. c.put_status.new.out.items ++ length_lines n) (ap length c.as_slice-text.ensures.value))
    c.in_ok-put_closing.ensures
    (c.in_ok-extend_from_slice.ensures.items ∙ ap (λ l. c.put_closing.new.out.items ++ l) c.as_slice-text.ensures.value)
    ∙ ap (response_of c.args.closes) c.self.view_is
