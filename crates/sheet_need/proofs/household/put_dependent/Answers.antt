use Rattle.std.proofs.Common.{rules, ℤ, [], ◌∷◌, ap, ◌∙◌, w64, FitsSigned}
use Rattle.std.proofs.lemmas.Int.{to_z-of_z}
use Rattle.std.proofs.lemmas.Result.{on_ok_weaker}
use Rattle.sheet_need.specs.NeedEntries.{allowance_entries, dependent_assets, own_living}
use Rattle.sheet_need.proofs.NeedPieces.{joined, pushed}
use Rattle.sheet_need.specs.declared.entry.Entry.{Entry}
use Rattle.sheet_need.proofs.household.put_dependent.Goals as goal

pub returns : goal.returns
returns c =
    let s = c.args.a.now.own in
    let l = c.args.lines.now in
    let rate : FitsSigned w64 c.args.book.now.assets.dependent_rate = search rules in
    let f1 = pushed _ _ c.args.out.now.items c.put_entries.new.out.items c.income.ensures c.in_ok-put_entries.ensures in
    let f2 = pushed _ _ c.put_entries.new.out.items c.put_entries-2.new.out.items (c.allowances.ensures ∙ ap (λ (e : Entry). allowance_entries e c.below_zero.result l.own) c.own_living.ensures
    ∙ ap (λ (e : Entry). allowance_entries (own_living l.own) e l.own) c.below_zero.ensures) c.in_ok-put_entries-2.ensures in
    let f3 = pushed _ _ c.put_entries-2.new.out.items c.put_entries-3.new.out.items (ap (λ (e : Entry). e ∷ []) c.from_income.ensures) c.in_ok-put_entries-3.ensures in
    let assets = c.dependent_assets.ensures ∙ ap (λ (r : ℤ). dependent_assets s r l.own) (to_z-of_z w64 c.args.book.now.assets.dependent_rate rate) in
    on_ok_weaker c.put_entries-4.result
    (λ last. joined _ _ c.args.out.now.items c.put_entries.new.out.items _ f1
    (joined _ _ c.put_entries.new.out.items c.put_entries-2.new.out.items _ f2
    (joined _ _ c.put_entries-2.new.out.items c.put_entries-3.new.out.items _ f3
    (pushed _ _ c.put_entries-3.new.out.items c.put_entries-4.new.out.items assets last))))
    c.put_entries-4.ensures
