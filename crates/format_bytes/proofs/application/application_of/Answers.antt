use Rattle.std.proofs.Common.{◌≡◌, ◌++◌, ◌∙◌, ap, sym, length, arith}
use Rattle.std.proofs.lemmas.List.{length-map}
use Rattle.format_bytes.specs.Numbers.{flag_number}
use Rattle.format_bytes.proofs.Applications.{five_flags, parts_of, six_flags}
use Rattle.format_bytes.proofs.application.application_of.Goals as goal

pub split_at-requires-2 : goal.split_at-requires-2
split_at-requires-2 c = let p = parts_of c.args.numbers.now c.requires.in_range in omega (arith, p.many, c.split_at.ensures.back_len)

pub split_at-requires-3 : goal.split_at-requires-3
split_at-requires-3 c = let p = parts_of c.args.numbers.now c.requires.in_range in omega (arith, p.many, c.split_at.ensures.back_len, c.split_at-2.ensures.back_len)

pub split_at-requires-4 : goal.split_at-requires-4
split_at-requires-4 c =
    let p = parts_of c.args.numbers.now c.requires.in_range in
    omega (arith, p.many, c.split_at.ensures.back_len, c.split_at-2.ensures.back_len, c.split_at-3.ensures.back_len)

pub split_at-requires-5 : goal.split_at-requires-5
split_at-requires-5 c =
    let p = parts_of c.args.numbers.now c.requires.in_range in
    omega (arith, p.many, c.split_at.ensures.back_len, c.split_at-2.ensures.back_len, c.split_at-3.ensures.back_len, c.split_at-4.ensures.back_len)

pub applicant_of-student-requires : goal.applicant_of-student-requires
applicant_of-student-requires c =
    let p = parts_of c.args.numbers.now c.requires.in_range in
    record { in_range = rw c.split_at.ensures.front p.applicant }

pub standing_of-requires : goal.standing_of-requires
standing_of-requires c =
    let p = parts_of c.args.numbers.now c.requires.in_range in
    record { in_range = rw (c.split_at-2.ensures.front, c.split_at.ensures.back) p.standing }

pub upbringing_of-requires : goal.upbringing_of-requires
upbringing_of-requires c =
    let p = parts_of c.args.numbers.now c.requires.in_range in
    record { in_range = rw (c.split_at-3.ensures.front, c.split_at-2.ensures.back, c.split_at.ensures.back) p.upbringing }

pub side_of-requires : goal.side_of-requires
side_of-requires c =
    let p = parts_of c.args.numbers.now c.requires.in_range in
    record { in_range = rw (c.split_at-4.ensures.front, c.split_at-3.ensures.back, c.split_at-2.ensures.back, c.split_at.ensures.back) p.own }

pub said_of-parents_married-requires : goal.said_of-parents_married-requires
said_of-parents_married-requires c =
    let p = parts_of c.args.numbers.now c.requires.in_range in
    record { in_range = rw (c.split_at-5.ensures.front, c.split_at-4.ensures.back, c.split_at-3.ensures.back, c.split_at-2.ensures.back, c.split_at.ensures.back) p.said }

pub side_of-requires-2 : goal.side_of-requires-2
side_of-requires-2 c =
    let p = parts_of c.args.numbers.now c.requires.in_range in
    record { in_range = rw (c.split_at-5.ensures.back, c.split_at-4.ensures.back, c.split_at-3.ensures.back, c.split_at-2.ensures.back, c.split_at.ensures.back) p.parents }

pub returns : goal.returns
returns c =
    let p = parts_of c.args.numbers.now c.requires.in_range in
    let applicant = rw c.split_at.ensures.front at c.applicant_of-student.ensures.value in
    let standing = rw (c.split_at-2.ensures.front, c.split_at.ensures.back) at c.standing_of.ensures.value in
    let upbringing = rw (c.split_at-3.ensures.front, c.split_at-2.ensures.back, c.split_at.ensures.back) at c.upbringing_of.ensures.value in
    let own = rw (c.split_at-4.ensures.front, c.split_at-3.ensures.back, c.split_at-2.ensures.back, c.split_at.ensures.back) at c.side_of.ensures.value in
    let said = rw (c.split_at-5.ensures.front, c.split_at-4.ensures.back, c.split_at-3.ensures.back, c.split_at-2.ensures.back, c.split_at.ensures.back) at c.said_of-parents_married.ensures.value in
    let parents = rw (c.split_at-5.ensures.back, c.split_at-4.ensures.back, c.split_at-3.ensures.back, c.split_at-2.ensures.back, c.split_at.ensures.back) at c.side_of-2.ensures.value in
    let five : length c.standing_of.result ≡ 5 = sym (length-map c.standing_of.result flag_number) ∙ ap length c.standing_of.ensures.value ∙ c.split_at-2.ensures.front_len in
    let six : length c.upbringing_of.result ≡ 6 = sym (length-map c.upbringing_of.result flag_number) ∙ ap length c.upbringing_of.ensures.value ∙ c.split_at-3.ensures.front_len in
    let standing_is = sym (five_flags c.standing_of.result five) ∙ standing in
    let upbringing_is = sym (six_flags c.upbringing_of.result six) ∙ upbringing in
    record { value = (λ i. applicant i ++ (standing_is i ++ (upbringing_is i ++ (own i ++ (said i ++ parents i))))) ∙ p.whole }
