use Rattle.std.proofs.Common.{◌≡◌, Some, inr, ap, ◌∙◌, arith}
use Rattle.std.specs.Io.Cursor.{cursor_remaining}
use Rattle.csv.specs.Reading.{source_of, strip_bom}
use Rattle.format_rows.specs.Left.{ended_lines}
use Rattle.format_rows.proofs.ReadingLemmas.{rows_few}
use Rattle.format_rows.proofs.rows.TextRows.new.Goals as goal

pub invariant_of-result : goal.invariant_of-result
invariant_of-result g c =
    let fr = c.from_reader-reader.ensures in
    let e = c.flexible.ensures in
    let f = c.has_headers.ensures in
    let text = c.args.text.items in
    let known : source_of (cursor_remaining (λ v. Some v.items)) c.from_reader-reader.result ≡ Some (strip_bom text) = rw (c.new-2.ensures.inner, c.new-2.ensures.position) at fr.source in
    let ends : c.ended_lines_in-at_most.result ≡ ended_lines text = c.ended_lines_in-at_most.ensures.ends ∙ ap ended_lines c.deref.ensures.value in (
      (λ before. record {
        bytes = strip_bom text;
        known = known;
        ready = inr (inr (rw (e, f) at fr.has_headers, fr.headers));
        config = rw (e, f) at fr.config ∙ c.new.ensures.config;
        trim = rw (e, f) at fr.trim ∙ c.new.ensures.trim;
        flexible = rw e at fr.flexible;
      }),
      record {
        first = omega arith;
        few = rw (known, fr.state) (omega (arith, rows_few text, ends));
        bound = omega (arith, c.ended_lines_in-at_most.ensures.few);
      },
    )
