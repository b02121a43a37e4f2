use Rattle.std.proofs.Common.{◌≡◌, length, map}
use Rattle.std.specs.Prelude.{All}
use Rattle.std.specs.List.{list_any}
use Rattle.httparse.specs.Spans.{IsHeaderWithin, header_bytes}
use Rattle.web_session.specs.Heads.{is_closing}
use Rattle.web_session.proofs.head.says_close.Given as goal

abbrev pub invariant-loop-rest : goal.invariant-loop-rest
invariant-loop-rest l = record {
  within : All (IsHeaderWithin (length l.block)) l.rest;
  any : list_any is_closing (map (header_bytes l.block) l.rest) ≡ list_any is_closing (map (header_bytes l.block) l.fields);
}

abbrev pub decreases-loop-rest : goal.decreases-loop-rest
decreases-loop-rest l = length l.rest
