use Rattle.std.proofs.Common.{◌≡◌, None, ap, subst, sym}
use Rattle.sorted_rows.specs.Places.{IsWritten, value_at}
use Rattle.aid_filings.specs.declared.filing.Filing.{Filing}
use Rattle.office_index.specs.Index.{filing_cmp, filing_name}
use Rattle.office_index.specs.declared.entries.FilingNumber.{FilingNumber}
use Rattle.office_index.proofs.RowsWritten.{keys_after}
use Rattle.office_index.proofs.filed.write_key.Goals as goal

pub add-requires-clause-new : goal.add-requires-clause-new
add-requires-clause-new c =
    subst (λ (name : FilingNumber). value_at filing_cmp name c.args.keys.now.rows ≡ None) (sym (ap (λ (f : Filing). filing_name f.key) c.filing.view_is)) c.requires.new

pub returns-clause-rows : goal.returns-clause-rows
returns-clause-rows c =
    λ past here none told.
    keys_after past c.args.filing.now c.args.position c.args.keys.now.rows c.add.new.self.rows here none
    (subst (λ (name : FilingNumber). IsWritten filing_cmp name c.args.position c.args.keys.now.rows c.add.new.self.rows)
    (ap (λ (f : Filing). filing_name f.key) c.filing.view_is) c.add.ensures.values) told
