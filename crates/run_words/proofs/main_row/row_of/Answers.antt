use Rattle.std.proofs.Common.{Global, map, refl, string_bytes}
use Rattle.run_words.proofs.AmendWords.{amend_no_desks, amend_no_serve}
use Rattle.run_words.proofs.main_row.row_of.Goals as goal

pub returns-in-Some-amend_request-clause-desks : goal.returns-in-Some-amend_request-clause-desks
returns-in-Some-amend_request-clause-desks c files s = (
  λ is. let bad : ⊥ = cc in absurd bad,
  λ desks. absurd (amend_no_desks (map (string_bytes {Z = Global}) c.args.words.now) _ s _ _ files c.in-Some-amend_request.ensures.some desks),
)

pub returns-in-Some-amend_request-clause-serve : goal.returns-in-Some-amend_request-clause-serve
returns-in-Some-amend_request-clause-serve c port workers sessions s = (
  λ is. let bad : ⊥ = cc in absurd bad,
  λ serve. absurd (amend_no_serve (map (string_bytes {Z = Global}) c.args.words.now) _ s _ _ port workers sessions c.in-Some-amend_request.ensures.some serve),
)

pub returns-in-None-amend_request-clause-amend : goal.returns-in-None-amend_request-clause-amend
returns-in-None-amend_request-clause-amend c = (
  λ is. absurd (c.stamped_row.ensures.no_amend is),
  λ (stamp, file, number, is). absurd (c.in-None-amend_request.ensures.none refl stamp file number is),
)
