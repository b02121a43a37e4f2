use Rattle.std.proofs.Common.{◌≡◌, ◌++◌, true, drop}
use Rattle.format_kinds.specs.Kinds.{words_of_programs}
use Rattle.format_filings.specs.WrittenRows.{behind_commas, texts_of}
use Rattle.format_filings.specs.Spelled.{are_spelled}
use Rattle.format_filings.proofs.written_row.put_numbers.Given as goal

abbrev pub invariant-loop-number : goal.invariant-loop-number
invariant-loop-number l = record {
  spelled : are_spelled l.layout (drop l.number-index l.numbers) ≡ true;
  added : l.out.items ++ behind_commas (texts_of words_of_programs l.layout (drop l.number-index l.numbers)) ≡ l.initial.out.items ++ behind_commas (texts_of words_of_programs l.initial.layout l.numbers);
}
