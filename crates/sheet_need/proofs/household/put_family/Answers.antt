use Rattle.std.proofs.Common.{rules, ℤ, ap, ◌∙◌, w64, to_z, of_z, FitsSigned}
use Rattle.std.proofs.lemmas.Int.{to_z-of_z}
use Rattle.std.proofs.lemmas.Result.{on_ok_weaker}
use Rattle.law_sai.specs.Index.{age}
use Rattle.sheet_need.specs.NeedEntries.{assessed_entries}
use Rattle.sheet_need.proofs.NeedPieces.{pushed}
use Rattle.sheet_need.proofs.household.put_family.Goals as goal

pub returns : goal.returns
returns c =
    let book = c.args.book.now in
    let a = c.args.a.now in
    let age_fits : FitsSigned w64 c.age.result = search rules in
    let years = to_z-of_z w64 c.age.result age_fits ∙ c.age.ensures in
    let fits : FitsSigned w64 book.assets.with_dependents_rate = search rules in
    let rate = to_z-of_z w64 book.assets.with_dependents_rate fits in
    let held = ap (λ (n : ℤ). assessed_entries a.own a.family n (to_z w64 (of_z w64 book.assets.with_dependents_rate)) c.args.lines.now.own) years
    ∙ ap (λ (r : ℤ). assessed_entries a.own a.family (age book a) r c.args.lines.now.own) rate in
    on_ok_weaker c.put_assessed.result (λ last. pushed _ _ c.args.out.now.items c.put_assessed.new.out.items held last) c.put_assessed.ensures
