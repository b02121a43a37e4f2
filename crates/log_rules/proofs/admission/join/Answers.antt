use Rattle.std.proofs.Common.{◌≡◌, ◌+◌, arith, length, rules, subst, vec_len, ap, ◌∙◌}
use Rattle.sorted_rows.specs.Places.{IsWritten}
use Rattle.log_rules.specs.Names.{filing_cmp, filing_name}
use Rattle.log_rules.specs.declared.number.FilingNumber.{FilingNumber}
use Rattle.log_rules.specs.Ruled.{history_of}
use Rattle.log_rules.proofs.Few.{length-history}
use Rattle.log_rules.proofs.Grown.{kept_pushed}
use Rattle.log_rules.proofs.admission.join.Goals as goal

pub returns-clause-kept : goal.returns-clause-kept
returns-clause-kept g c =
    let h = c.args.filings.now.items in
    let count : vec_len c.args.filings.now ≡ length h = search rules in
    let here : c.len.result + 1 ≡ length (history_of h) + 1 = omega (arith, c.len.ensures, length-history h) in
    let name = c.name_of.ensures ∙ ap filing_name c.key-key.ensures in
    let written = subst (λ (n : FilingNumber). IsWritten filing_cmp n (c.len.result + 1) c.args.places.now.rows c.add.new.self.rows) name c.add.ensures.values in
    kept_pushed g.R.OfficeRules.ruling h c.push_reserved.new.self.items c.args.filing c.args.outcome (c.len.result + 1) _ _ _ _ c.push_reserved.ensures.items c.requires.kept c.requires.admitted here written c.admit.ensures.joined
