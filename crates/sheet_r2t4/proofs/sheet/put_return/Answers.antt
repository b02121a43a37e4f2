use Rattle.std.proofs.Common.{ℕ, List, ◌++◌, ap, ◌∙◌}
use Rattle.std.specs.Prelude.{Option}
use Rattle.std.proofs.lemmas.Result.{on_ok_weaker}
use Rattle.aid_types.specs.declared.term.Term.{Term}
use Rattle.law_r2t4.specs.declared.Lines.{Lines}
use Rattle.office_history.specs.Past.{the_term}
use Rattle.sheet_r2t4.specs.ReturnEntries.{entries_on, nets_of}
use Rattle.sheet_r2t4.specs.ReturnSheet.{places}
use Rattle.sheet_r2t4.proofs.ReturnPieces.{chained, pushed}
use Rattle.sheet_r2t4.proofs.sheet.put_return.Goals as goal

pub returns : goal.returns
returns c =
    let past = c.args.past.now in
    let now = c.args.office.now.history in
    let key = c.args.key.now in
    let w = c.args.withdrawal.now in
    let worked = c.worked_out-worked.result in
    let term = the_term past key.school w.year w.term in
    let lines = c.worked_out-worked.ensures.lines in
    let entries = ap (λ (t : Option Term). entries_on t worked.net worked.lines now key w) c.worked_out-worked.ensures.term
    ∙ ap (λ (ns : List ℕ). entries_on term ns worked.lines now key w) c.worked_out-worked.ensures.net
    ∙ ap (λ (l : Lines). entries_on term (nets_of past key w) l now key w) lines in
    let on = c.in_ok-put_places.ensures ∙ ap (λ (l : Lines). c.put_title.new.out.items ++ places c.args.position key w l.school) lines in
    let t1 = chained c.args.out.now.items _ _ c.put_title.new.out.items c.put_places.new.out.items c.in_ok-put_title.ensures on in
    let t2 = chained c.args.out.now.items _ _ c.put_places.new.out.items c.put_heading.new.out.items t1 c.in_ok-put_heading.ensures in
    on_ok_weaker c.put_figures.result
    (λ last. chained c.args.out.now.items _ _ c.put_heading.new.out.items _ t2 (pushed _ _ c.put_heading.new.out.items _ entries last))
    c.put_figures.ensures
