use Rattle.std.proofs.Common.{Ok, rules, ap, sym, ◌∙◌}
use Rattle.csv.specs.Records.{fields_of as texts_of}
use Rattle.work_rounds.specs.declared.rows.RoundSaid.{RoundSaid}
use Rattle.work_rounds.proofs.Reading.{row_of_four, said_numbers}
use Rattle.work_rounds.proofs.rows.candidate_of_row.Goals as goal

pub returns-in_err-student : goal.returns-in_err-student
returns-in_err-student c =
    let four = row_of_four c.args.row (texts_of c.args.texts.now) (sym c.len.ensures ∙ c.if-len-ne4.false) in
    let student = c.in_err-student.ensures.value in
    rw (four, ← student) (search rules)

pub returns-in_err-sai : goal.returns-in_err-sai
returns-in_err-sai c =
    let four = row_of_four c.args.row (texts_of c.args.texts.now) (sym c.len.ensures ∙ c.if-len-ne4.false) in
    let student = c.in_ok-student.ensures.value in
    let sai = c.in_err-sai.ensures.value in
    rw (four, ← student, ← sai) (search rules)

pub returns-in_err-need : goal.returns-in_err-need
returns-in_err-need c =
    let four = row_of_four c.args.row (texts_of c.args.texts.now) (sym c.len.ensures ∙ c.if-len-ne4.false) in
    let student = c.in_ok-student.ensures.value in
    let sai = c.in_ok-sai.ensures.value in
    let need = c.in_err-need.ensures.value in
    rw (four, ← student, ← sai, ← need) (search rules)

pub returns-in_err-intensity : goal.returns-in_err-intensity
returns-in_err-intensity c =
    let four = row_of_four c.args.row (texts_of c.args.texts.now) (sym c.len.ensures ∙ c.if-len-ne4.false) in
    let student = c.in_ok-student.ensures.value in
    let sai = c.in_ok-sai.ensures.value in
    let need = c.in_ok-need.ensures.value in
    let intensity = c.in_err-intensity.ensures.value in
    rw (four, ← student, ← sai, ← need, ← intensity) (search rules)

pub returns : goal.returns
returns c =
    let four = row_of_four c.args.row (texts_of c.args.texts.now) (sym c.len.ensures ∙ c.if-len-ne4.false) in
    let student = c.in_ok-student.ensures.value in
    let sai = c.in_ok-sai.ensures.value in
    let need = c.in_ok-need.ensures.value in
    let intensity = c.in_ok-intensity.ensures.value in
    rw (four, ← student, ← sai, ← need, ← intensity)
    (ap (λ (s : RoundSaid). Ok s) (said_numbers c.in_ok-student.student c.in_ok-sai.sai c.in_ok-need.need c.in_ok-intensity.intensity
    c.in_ok-student.ensures.in_range c.in_ok-sai.ensures.in_range c.in_ok-need.ensures.in_range c.in_ok-intensity.ensures.in_range))
