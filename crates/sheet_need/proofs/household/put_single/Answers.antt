use Rattle.std.proofs.Common.{rules, ℤ, [], ◌∷◌, ap, ◌∙◌, w64, to_z, of_z, FitsSigned}
use Rattle.std.proofs.lemmas.Int.{to_z-of_z}
use Rattle.std.proofs.lemmas.Result.{on_ok_weaker}
use Rattle.law_sai.specs.Index.{age}
use Rattle.sheet_need.specs.NeedEntries.{allowance_entries, asset_entries, own_living}
use Rattle.sheet_need.proofs.NeedPieces.{joined, pushed}
use Rattle.sheet_need.specs.declared.entry.Entry.{Entry}
use Rattle.sheet_need.proofs.household.put_single.Goals as goal

pub returns : goal.returns
returns c =
    let l = c.args.lines.now in
    let book = c.args.book.now in
    let age_fits : FitsSigned w64 c.age.result = search rules in
    let rate : FitsSigned w64 book.assets.no_dependents_rate = search rules in
    let held = to_z-of_z w64 c.age.result age_fits ∙ c.age.ensures in
    let taken = to_z-of_z w64 book.assets.no_dependents_rate rate in
    let f1 = pushed _ _ c.args.out.now.items c.put_entries.new.out.items c.income.ensures c.in_ok-put_entries.ensures in
    let f2 = pushed _ _ c.put_entries.new.out.items c.put_entries-2.new.out.items (c.allowances.ensures ∙ ap (λ (e : Entry). allowance_entries e c.employment.result l.own) c.own_living.ensures
    ∙ ap (λ (e : Entry). allowance_entries (own_living l.own) e l.own) c.employment.ensures) c.in_ok-put_entries-2.ensures in
    let f3 = pushed _ _ c.put_entries-2.new.out.items c.put_entries-3.new.out.items (ap (λ (e : Entry). e ∷ []) c.from_income.ensures) c.in_ok-put_entries-3.ensures in
    let f4 = pushed _ _ c.put_entries-3.new.out.items c.put_entries-4.new.out.items c.worth.ensures c.in_ok-put_entries-4.ensures in
    let assets = c.assets.ensures ∙ ap (λ (a : ℤ). asset_entries a (to_z w64 (of_z w64 book.assets.no_dependents_rate)) l.own) held
    ∙ ap (λ (r : ℤ). asset_entries (age book c.args.a.now) r l.own) taken in
    on_ok_weaker c.put_entries-5.result
    (λ last. joined _ _ c.args.out.now.items c.put_entries.new.out.items _ f1
    (joined _ _ c.put_entries.new.out.items c.put_entries-2.new.out.items _ f2
    (joined _ _ c.put_entries-2.new.out.items c.put_entries-3.new.out.items _ f3
    (joined _ _ c.put_entries-3.new.out.items c.put_entries-4.new.out.items _ f4
    (pushed _ _ c.put_entries-4.new.out.items c.put_entries-5.new.out.items assets last)))))
    c.put_entries-5.ensures
