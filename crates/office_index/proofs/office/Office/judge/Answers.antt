use Rattle.std.proofs.Common.{◌≡◌, None, Some, List, ap, subst, sym, ◌∙◌}
use Rattle.aid_filings.specs.declared.filing.Filing.{Filing}
use Rattle.office_history.specs.Answer.{IsLegal, answer_of}
use Rattle.office_index.specs.Register.{Register}
use Rattle.office_index.proofs.AnswerLaws.{judged_new, stands_there, used_there}
use Rattle.office_index.proofs.StandingLemmas.{standing}
use Rattle.office_index.proofs.office.Office.judge.Goals as goal

pub returns : goal.returns
returns c =
    let past = c.args.self.now.history in
    let filing = c.args.filing.now in
    let view : c.self.inside.indexed.history ≡ past = ap (λ (r : Register). r.history) c.self.view_is in
    let legal : IsLegal past = subst IsLegal view c.front-filings.ensures.legal in
    let told : c.verdict_on.result ≡ answer_of past filing = c.verdict_on.ensures ∙ ap (λ (h : List Filing). answer_of h filing) view in
    record {
      answer = told;
      again = λ position at. told ∙ standing past position filing legal at;
      stands = λ position outcome said. stands_there past filing position outcome (sym told ∙ said);
      accepts = λ new sound. told ∙ judged_new past filing None new sound;
      refuses = λ refusal new broken. told ∙ judged_new past filing (Some refusal) new broken;
      used = λ refusal said fifteen. used_there past filing refusal legal (sym told ∙ said) fifteen;
    }
