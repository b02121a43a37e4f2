use Rattle.std.proofs.Common.{rules, ℤ, ◌≡◌, pos, ap, ◌∙◌, w64, to_z, of_z, FitsSigned, arith}
use Rattle.std.proofs.lemmas.Int.{ints, to_z-of_z}
use Rattle.std.proofs.lemmas.Result.{on_ok_weaker}
use Rattle.sheet_need.specs.NeedEntries.{assessed_entries}
use Rattle.sheet_need.proofs.NeedPieces.{pushed}
use Rattle.sheet_need.proofs.household.put_parents.Goals as goal

pub returns : goal.returns
returns c =
    let book = c.args.book.now in
    let a = c.args.a.now in
    let age : to_z w64 (of_z w64 c.from-age.result) ≡ pos a.parent_age = omega (arith, ints, c.from-age.ensures) in
    let fits : FitsSigned w64 book.assets.parents_rate = search rules in
    let rate = to_z-of_z w64 book.assets.parents_rate fits in
    let held = ap (λ (n : ℤ). assessed_entries a.parents a.family n (to_z w64 (of_z w64 book.assets.parents_rate)) c.args.lines.now.parent) age
    ∙ ap (λ (r : ℤ). assessed_entries a.parents a.family (pos a.parent_age) r c.args.lines.now.parent) rate in
    on_ok_weaker c.put_assessed.result (λ last. pushed _ _ c.args.out.now.items c.put_assessed.new.out.items held last) c.put_assessed.ensures
