use Rattle.std.proofs.Common.{pos}
use Rattle.std.proofs.lemmas.Result.{on_ok_weaker}
use Rattle.aid_types.specs.Whole.{whole_text}
use Rattle.format_filings.proofs.WritingLemmas.{three_added}
use Rattle.format_filings.proofs.written_row.put_book.Goals as goal

pub returns : goal.returns
returns c =
    on_ok_weaker c.put_year.result
    (λ last. three_added c.args.out.now.items (whole_text (pos c.args.key.now.school)) (whole_text (pos c.args.key.now.number)) (whole_text (pos c.args.year)) _ _ _ c.in_ok-put_school.ensures c.in_ok-put_natural.ensures last)
    c.put_year.ensures
