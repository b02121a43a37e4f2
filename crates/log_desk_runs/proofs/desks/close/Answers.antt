use Rattle.std.proofs.Common.{rules, ℕ, ◌≡◌, ◌+◌, ◌-◌, ◌++◌, ◌∙◌, ap, arith, drop, length, refl, reverse, subst}
use Rattle.std.proofs.lemmas.List.{length-drop, take_all}
use Rattle.log_desk_runs.specs.DeskTexts.{admitted_text, desks_status, desks_text}
use Rattle.log_desk_runs.specs.Names.{names_of}
use Rattle.log_runs.specs.Ends.{EndsWith}
use Rattle.log_desk_runs.proofs.Closing.{last_rows}
use Rattle.log_desk_runs.proofs.desks.close.Goals as goal

pub returns-clause-ends : goal.returns-clause-ends
returns-clause-ends g c =
    let log = c.args.log.now in
    let from = c.saturating_sub.result in
    let amount : from ≡ length log - (length c.args.kept.history - c.args.front) = search rules in
    let size : length (drop from log) ≡ length log - from = length-drop from log in
    subst (λ rows. EndsWith g.K.Sink (desks_text c.args.desks.now ++ admitted_text (c.args.front + 1) (names_of g.C.EntryMatch.same c.args.desks.now (c.args.front + 1) rows)) (desks_status c.args.desks.now) c.args.out.now c.tell.new.out c.tell.result)
    (take_all (length log - from) (drop from log) (omega (arith, size))
    ∙ (ap (λ (n : ℕ). drop n log) amount ∙ last_rows log (reverse log) (length c.args.kept.history - c.args.front) refl))
    c.tell.ensures
