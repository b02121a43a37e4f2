use Rattle.std.proofs.Common.{rules, ◌≡◌, [], ◌∷◌, ◌++◌, codes, decimal}
use Rattle.std.specs.List.{concat, flat_map}
use Rattle.std.specs.Prelude.{OnOk}
use Rattle.std.proofs.lemmas.Result.{on_ok_weaker}
use Rattle.sheet_review.specs.BookText.{age_text, assets_text, bracket_text, ceiling_text, employment_text, form_text, payroll_text, pell_text, percent_text, poverty_text, protection_text, schedule_text, sections}
use Rattle.sheet_review.proofs.Pieces.{appended}
use Rattle.sheet_review.proofs.book_text.put_book.Goals as goal

pub returns : goal.returns
returns c =
    let old = c.args.out.now.items in
    let form : c.put_form.new.out.items ≡ old ++ form_text c.args.book.now.ceiling = search rules in
    let year : c.put_count.new.out.items ≡ c.put_form.new.out.items ++ concat (codes "year = " ∷ decimal c.args.book.now.year ∷ codes "\n" ∷ []) = search rules in
    let pell : c.put_pell.new.out.items ≡ c.put_count.new.out.items ++ pell_text c.args.book.now.pell = search rules in
    let percents : c.put_percents.new.out.items ≡ c.put_pell.new.out.items ++ percent_text c.args.book.now.percent = search rules in
    let poverty : c.put_poverty.new.out.items ≡ c.put_percents.new.out.items ++ poverty_text c.args.book.now.poverty = search rules in
    let payroll : c.put_payroll.new.out.items ≡ c.put_poverty.new.out.items ++ payroll_text c.args.book.now.payroll = search rules in
    let protection : c.put_protection.new.out.items ≡ c.put_payroll.new.out.items ++ protection_text c.args.book.now.protection = search rules in
    let employment : c.put_employment.new.out.items ≡ c.put_protection.new.out.items ++ employment_text c.args.book.now.employment = search rules in
    let assets : c.put_assets.new.out.items ≡ c.put_employment.new.out.items ++ assets_text c.args.book.now.assets = search rules in
    let schedule : c.put_schedule.new.out.items ≡ c.put_ages.new.out.items ++ schedule_text c.args.book.now.schedule = search rules in
    let business : c.put_brackets.new.out.items ≡ c.put_assets.new.out.items ++ flat_map (bracket_text (codes "business")) c.args.book.now.business = search rules in
    let ages : c.put_ages.new.out.items ≡ c.put_brackets.new.out.items ++ flat_map age_text c.args.book.now.age = search rules in
    let bracket : c.put_brackets-2.new.out.items ≡ c.put_schedule.new.out.items ++ flat_map (bracket_text (codes "bracket")) c.args.book.now.bracket = search rules in
    let ceiling : OnOk c.put_ceiling.result (c.put_ceiling.new.out.items ≡ c.put_brackets-2.new.out.items ++ ceiling_text c.args.book.now.ceiling) = search rules in
    on_ok_weaker c.put_ceiling.result
    (λ last. appended old (sections c.args.book.now) _ (
      _,
      form,
      (
        _,
        year,
        (
          _,
          pell,
          (
            _,
            percents,
            (
              _,
              poverty,
              (
                _,
                payroll,
                (
                  _,
                  protection,
                  (_, employment, (_, assets, (_, business, (_, ages, (_, schedule, (_, bracket, last)))))),
                ),
              ),
            ),
          ),
        ),
      ),
    ))
    ceiling
