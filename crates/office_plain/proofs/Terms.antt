-- Terms on file, one filing after the other.
use Rattle.std.proofs.Common.{◌≡◌, ℕ, ◌+◌, ◌*◌, refl, sym, ap, ◌∙◌, Bool, true, false, cond, List, [], ◌∷◌, length, Option, Some, None, option_map}
use Rattle.std.specs.Prelude.{nat_lt}
use Rattle.std.specs.List.{cons_option, filter}
use Rattle.aid_filings.specs.declared.filing.CalendarFacts.{CalendarFacts}
use Rattle.aid_filings.specs.declared.filing.Filing.{Filing}
use Rattle.aid_filings.specs.declared.filing.What.{What}
use Rattle.aid_filings.specs.declared.filing.What.TheVariants.{Book as BookFiled, School, Calendar, Prior, Apply, Enroll, Originate, Pay, Withdraw, Repay, Adjust, Cost, Sent, Amend}
use Rattle.office_history.specs.Past.{FiledTerm, on_file, terms_on_file}
use Rattle.office_history.specs.Positions.{earlier_term, is_paid_beside, least_code, least_term, lesser_code, payment_at, told_over}
use Rattle.office_history.specs.Net.{pell_term}
use Rattle.office_plain.specs.Terms.{calendar_in, earlier_place, on_file_at, place_of}

-- what a filing puts on file
filed : (school here : ℕ) (what : What) → on_file school here what ≡ option_map (on_file_at school here) (calendar_in what)
filed school here (Calendar c) = refl
filed school here (BookFiled b) = refl
filed school here (School b) = refl
filed school here (Prior b) = refl
filed school here (Apply b) = refl
filed school here (Enroll b) = refl
filed school here (Originate b) = refl
filed school here (Pay b) = refl
filed school here (Withdraw b) = refl
filed school here (Repay b) = refl
filed school here (Adjust b) = refl
filed school here (Cost b) = refl
filed school here (Sent b) = refl
filed school here (Amend b) = refl

one_more : (past : List Filing) (f : Filing) (o : Option CalendarFacts) → calendar_in f.what ≡ o →
    terms_on_file (f ∷ past) ≡ cons_option (option_map (on_file_at f.key.school (length past + 1)) o) (terms_on_file past)
one_more past f o e =
    ap (λ (o : Option FiledTerm). cons_option o (terms_on_file past))
    (filed f.key.school (length past + 1) f.what ∙ ap (option_map (on_file_at f.key.school (length past + 1))) e)

-- the place of the earliest term that passes, with a term more
earlier-place : (t : FiledTerm) (o : Option FiledTerm) → option_map place_of (earlier_term t o) ≡ earlier_place (place_of t) (option_map place_of o)
earlier-place t None = refl
earlier-place t (Some u) = go (nat_lt (9 * t.school + t.term.number) (9 * u.school + u.term.number))
  where
    go : (b : Bool) → option_map place_of (cond b (Some t) (Some u)) ≡ cond b (Some (place_of t)) (Some (place_of u))
    go true = refl
    go false = refl

module _ (test : FiledTerm → Bool) where
  abbrev pub code : List Filing → ℕ
  code past = least_code test (terms_on_file past)

  abbrev pub place : List Filing → Option (ℕ × ℕ)
  place past = option_map place_of (least_term (filter test (terms_on_file past)))

  -- a calendar that doesn't pass changes nothing
  pub passed_by : (past : List Filing) (f : Filing) (c : CalendarFacts) → calendar_in f.what ≡ Some c →
      test (on_file_at f.key.school (length past + 1) c) ≡ false → (code past ≡ code (f ∷ past)) × (place past ≡ place (f ∷ past))
  passed_by past f c e fails =
      let t = on_file_at f.key.school (length past + 1) c in
      let ts = terms_on_file past in (
        sym (ap (least_code test) (one_more past f (Some c) e) ∙ ap (λ b. lesser_code b t.school (least_code test ts)) fails),
        sym (ap (λ ts. option_map place_of (least_term (filter test ts))) (one_more past f (Some c) e)
            ∙ ap (λ b. option_map place_of (least_term (cond b (t ∷ filter test ts) (filter test ts)))) fails),
      )

  -- one that passes is compared with those before it
  pub taken_up : (past : List Filing) (f : Filing) (c : CalendarFacts) → calendar_in f.what ≡ Some c →
      test (on_file_at f.key.school (length past + 1) c) ≡ true →
      (lesser_code true f.key.school (code past) ≡ code (f ∷ past)) × (earlier_place (f.key.school, c.term) (place past) ≡ place (f ∷ past))
  taken_up past f c e passes =
      let t = on_file_at f.key.school (length past + 1) c in
      let ts = terms_on_file past in (
        sym (ap (least_code test) (one_more past f (Some c) e) ∙ ap (λ b. lesser_code b t.school (least_code test ts)) passes),
        sym (ap (λ ts. option_map place_of (least_term (filter test ts))) (one_more past f (Some c) e)
            ∙ ap (λ b. option_map place_of (least_term (cond b (t ∷ filter test ts) (filter test ts)))) passes
            ∙ earlier-place t (least_term (filter test ts))),
      )

-- what is told of that term
pub told : (past : List Filing) (award student year school number : ℕ) (o : Option FiledTerm) → option_map place_of o ≡ Some (school, number) →
    told_over past award student year o ≡ Some (record { rule = 93; kept = pell_term past school student year number; bound = payment_at past award school student year number })
told past award student year school number None e = absurd cc
told past award student year school number (Some t) e =
    let both : place_of t ≡ (school, number) = cc in
    λ i. Some (record { rule = 93; kept = pell_term past (both i).0 student year (both i).1; bound = payment_at past award (both i).0 student year (both i).1 })

pub told_none : (past : List Filing) (award student year : ℕ) (o : Option FiledTerm) → option_map place_of o ≡ None → None ≡ told_over past award student year o
told_none past award student year None e = refl
told_none past award student year (Some t) e = absurd cc

-- beside no term nothing is paid
pub none_beside : (past : List Filing) (school student : ℕ) (ts : List FiledTerm) → least_code (is_paid_beside past school student None) ts ≡ 0
none_beside past school student [] = refl
none_beside past school student (t ∷ ts) = none_beside past school student ts
