use Rattle.std.proofs.Common.{◌≡◌, ℕ, ◌≤◌, List, ap, subst, sym, ◌∙◌}
use Rattle.aid_types.specs.Programs.{rank}
use Rattle.aid_filings.specs.declared.filing.Filing.{Filing}
use Rattle.office_history.specs.Answer.{IsLegal}
use Rattle.office_history.specs.Net.{cell_at, net_at}
use Rattle.office_history.proofs.Ranges.{net_is_small}
use Rattle.office_history.specs.Rows.{place_row}
use Rattle.office_index.specs.Register.{Register}
use Rattle.office_index.proofs.NetTold.{net_told}
use Rattle.office_index.proofs.office.Office.net.Goals as goal

pub returns : goal.returns
returns c =
    let past = c.args.self.now.history in
    let a = c.args in
    let view : c.self.inside.indexed.history ≡ past = ap (λ (r : Register). r.history) c.self.view_is in
    let net : c.net.result ≡ net_at past (cell_at a.school a.student a.year a.term (rank a.program)) =
    c.net.ensures
    ∙ net_told past a.school a.student a.year a.term a.program c.place_of-account.result
    (c.place_of-account.ensures ∙ ap (λ (h : List Filing). place_row h a.school a.student a.year a.term) view) in
    record {
      value = net;
      at_most = subst (λ (n : ℕ). n ≤ 99999999) (sym net)
          (net_is_small past (subst IsLegal view c.front-filings.ensures.legal) (cell_at a.school a.student a.year a.term (rank a.program)));
    }
