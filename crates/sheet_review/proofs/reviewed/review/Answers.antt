use Rattle.std.proofs.Common.{List, [], ap, codes, map, reverse, sym, ℕ, ◌++◌, ◌∙◌, ◌≡◌}
use Rattle.std.specs.List.{concat}
use Rattle.std.proofs.lemmas.List.{reverse-reverse}
use Rattle.aid_stamps.specs.declared.stamp.Stamp.{Stamp}
use Rattle.office_export.specs.Lines.{standing_line}
use Rattle.office_history.specs.Answer.{standing_of}
use Rattle.office_sheets.specs.Ledgers.{student_sheet}
use Rattle.sheet_need.specs.Need.{need_sheet}
use Rattle.sheet_review.specs.BookSheet.{book_sheet}
use Rattle.sheet_review.specs.ReviewSheet.{application_lines, heading, withdrawal_part, withdrawal_places}
use Rattle.sheet_review.proofs.ReviewLemmas.{behind}
use Rattle.sheet_review.proofs.reviewed.review.Goals as goal

pub returns : goal.returns
returns c =
    let past = c.args.office.now.history in
    let stamps = reverse c.args.stamps.now in
    let student = c.args.student in
    let year = c.args.year in
    let applied : List ℕ = heading (codes "Applications") ++ concat (application_lines student year past stamps) in
    let booked : List ℕ = applied ++ heading (codes "Year book") ++ book_sheet past (reverse stamps) year in
    let needed : List ℕ = booked ++ heading (codes "Need") ++ need_sheet past student year in
    let told : List ℕ = needed ++ heading (codes "Ledger") ++ student_sheet student past stamps in
    let left : List ℕ = told ++ concat (map (withdrawal_part past) (withdrawal_places student year past)) in
    let first : c.put_applications.new.out.items ≡ applied =
    behind [] c.new-out.result.items (heading (codes "Applications")) (concat (application_lines student year past stamps)) _ c.new-out.ensures.items c.in_ok-put_applications.ensures in
    let book_told = c.in_ok-put_year_book.ensures
    ∙ ap (λ (ss : List Stamp). c.put_applications.new.out.items ++ heading (codes "Year book") ++ book_sheet past ss year) (sym (reverse-reverse c.args.stamps.now)) in
    let second : c.put_year_book.new.out.items ≡ booked = behind applied _ (heading (codes "Year book")) (book_sheet past (reverse stamps) year) _ first book_told in
    let third : c.put_need.new.out.items ≡ needed = behind booked _ (heading (codes "Need")) (need_sheet past student year) _ second c.in_ok-put_need.ensures in
    let fourth : c.put_ledger.new.out.items ≡ told = behind needed _ (heading (codes "Ledger")) (student_sheet student past stamps) _ third c.in_ok-put_ledger.ensures in
    let fifth : c.put_withdrawals.new.out.items ≡ left =
    c.in_ok-put_withdrawals.ensures ∙ ap (λ (text : List ℕ). text ++ concat (map (withdrawal_part past) (withdrawal_places student year past))) fourth in
    behind left _ (heading (codes "Standing")) (standing_line student year (standing_of past student year)) _ fifth c.in_ok-put_standing.ensures
