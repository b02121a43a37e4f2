use Rattle.std.proofs.Common.{◌≡◌, pos, rules}
use Rattle.std.specs.Prelude.{slice_index_or}
use Rattle.aid_types.specs.Programs.{rank}
use Rattle.format_bytes.specs.Numbers.{day_number}
use Rattle.format_bytes.proofs.Slots.{seven_are}
use Rattle.format_bytes.proofs.facts.sent_of.Goals as goal

pub returns : goal.returns
returns c =
    let student : pos c.student_from.result ≡ slice_index_or c.args.numbers.now 0 (pos 0) = search rules in
    let year : pos c.year_from.result ≡ slice_index_or c.args.numbers.now 1 (pos 0) = search rules in
    let term : pos c.term_from.result ≡ slice_index_or c.args.numbers.now 2 (pos 0) = search rules in
    let program : pos (rank c.program_from.result) ≡ slice_index_or c.args.numbers.now 3 (pos 0) = search rules in
    let cents : pos c.cents_from.result ≡ slice_index_or c.args.numbers.now 4 (pos 0) = search rules in
    let day : day_number c.day_from.result ≡ slice_index_or c.args.numbers.now 5 (pos 0) = search rules in
    let reference : pos c.reference_from.result ≡ slice_index_or c.args.numbers.now 6 (pos 0) = search rules in
    record { value = seven_are c.args.numbers.now _ _ _ _ _ _ _ c.in-len7.len_at_least c.in-len7.len_below student year term program cents day reference }
