use Rattle.std.proofs.Common.{rules, ◌≡◌, [], ◌∷◌, codes, decimal, of_z, to_z, w32}
use Rattle.std.proofs.lemmas.Result.{on_ok_weaker}
use Rattle.aid_types.specs.Cents.{cents_text}
use Rattle.aid_types.specs.Whole.{whole_text}
use Rattle.aid_types.specs.Words.{formula_text, way_text}
use Rattle.office_export.proofs.Written.{written}
use Rattle.office_export.proofs.writing.put_standing_line.Goals as goal

pub returns : goal.returns
returns c =
    let r = c.args.row.now in
    let transaction = rw c.from.ensures at c.in_ok-put_number.ensures in
    let formula = rw (c.as_bytes.ensures.value, c.formula_name.ensures.text) at c.in_ok-put_word-2.ensures in
    let same : to_z w32 (of_z w32 r.sai) ≡ r.sai = search rules in
    let sai = rw same at c.in_ok-put_whole.ensures in
    let way = rw (c.as_bytes-2.ensures.value, c.way_name.ensures.text) at c.in_ok-put_word-3.ensures in
    let scheduled = rw c.from-2.ensures at c.in_ok-put_number-2.ensures in
    let used = rw c.from-3.ensures at c.put_number-3.ensures in
    on_ok_weaker c.put_number-3.result
    (λ last. written c.args.out.now.items (codes "standing")
    (decimal c.args.student ∷ decimal c.args.year ∷ decimal r.transaction ∷ formula_text r.formula ∷ whole_text r.sai ∷ way_text r.way ∷ decimal r.scheduled ∷ cents_text r.paid ∷ decimal r.used ∷ []) _
    (_, c.in_ok-put_word.ensures, (_, c.in_ok-put_student.ensures, (_, c.in_ok-put_year.ensures, (_, transaction, (_, formula, (_, sai, (_, way, (_, scheduled, (_, c.in_ok-put_amount.ensures, last))))))))))
    used
