use Rattle.std.proofs.Common.{◌≡◌, length, map}
use Rattle.std.specs.Prelude.{All, codes}
use Rattle.httparse.specs.Spans.{IsHeaderWithin, header_bytes}
use Rattle.web_session.specs.Heads.{values, length_said, capped, after_said}
use Rattle.web_session.proofs.head.length_said.Given as goal

abbrev pub invariant-loop-rest : goal.invariant-loop-rest
invariant-loop-rest l = record {
  within : All (IsHeaderWithin (length l.block)) l.rest;
  said : after_said 18446744073709551615 l.said (values (codes "content-length") (map (header_bytes l.block) l.rest))
      ≡ capped 18446744073709551615 (length_said (values (codes "content-length") (map (header_bytes l.block) l.fields)));
}

abbrev pub decreases-loop-rest : goal.decreases-loop-rest
decreases-loop-rest l = length l.rest
