-- The bytes in which a filing is kept are its one spelling.
use Rattle.std.proofs.Common.{◌≡◌, ℕ, pos, List, [], ◌∷◌, ◌++◌, drop, length, refl, sym, ap, ◌∙◌, append-nil, arith}
use Rattle.std.specs.Prelude.{flat_map, map}
use Rattle.aid_filings.specs.declared.filing.CalendarFacts.{CalendarFacts}
use Rattle.aid_filings.specs.declared.filing.Filing.{Filing}
use Rattle.aid_filings.specs.declared.filing.What.{What}
use Rattle.aid_filings.specs.declared.filing.What.TheVariants.{Book, School, Calendar, Prior, Apply, Enroll, Originate, Pay, Withdraw, Repay, Adjust, Cost, Sent, Amend}
use Rattle.aid_filings.specs.declared.filing.WithdrawFacts.{WithdrawFacts}
use Rattle.format_table.specs.Spelling.{numbers_bytes}
use Rattle.format_bytes.specs.Spelling.{spelling}
use Rattle.format_kinds.specs.Kinds.{calendar_slots, code_of, first_and_last, withdraw_slots, table_row_of}
use Rattle.format_table.specs.Layout.{rows}
use Rattle.format_bytes.specs.Numbers.{break_days, facts_of, flag_number, kind_of}
use Rattle.format_bytes.specs.Parts.{calendar_numbers, could_numbers, withdraw_numbers}
use Rattle.run_claims.specs.Written.{Number, bytes_of, kept_bytes, student, year, written, CanBeFiled, HasLists}
use Rattle.run_claims.specs.Written.Number.{whole, ranged, money, day}
use Rattle.run_claims.proofs.KeptBooks.{book_kept}
use Rattle.run_claims.proofs.KeptBytes.{map-flat_map, row_shapes, then_kept, value}

-- the days of breaks
breaks_kept : (breaks : List (ℕ × ℕ)) → numbers_bytes (rows (length breaks) first_and_last first_and_last ++ []) (flat_map break_days breaks)
    ≡ flat_map bytes_of (flat_map (λ days. day days.0 ∷ day days.1 ∷ []) breaks)
breaks_kept breaks =
    let numbers : ℕ × ℕ → List Number = λ days. day days.0 ∷ day days.1 ∷ [] in
    let slots = rows (length breaks) first_and_last first_and_last in
    let shapes = row_shapes numbers first_and_last first_and_last refl (λ row. refl) (λ row. refl) breaks in
    let values : flat_map break_days breaks ≡ map value (flat_map numbers breaks) ++ [] = sym (append-nil (map value (flat_map numbers breaks)) ∙ map-flat_map value numbers breaks) in
    ap (numbers_bytes (slots ++ [])) values ∙ then_kept slots [] (flat_map numbers breaks) [] [] shapes refl ∙ ap (flat_map bytes_of) (append-nil (flat_map numbers breaks))

calendar_kept : (x : CalendarFacts) → numbers_bytes calendar_slots (calendar_numbers x) ≡ flat_map bytes_of (written (Calendar x)).2
calendar_kept x =
    let front = year x.year ∷ whole 1 (pos x.term) ∷ whole 1 (flag_number x.extra) ∷ day x.first ∷ day x.last ∷ whole 1 (pos (length x.breaks)) ∷ [] in
    ap (λ (bs : List ℕ). flat_map bytes_of front ++ bs) (breaks_kept x.breaks)

-- the cents of each program
could_kept : (could : List ℕ) → length could ≡ 6 → numbers_bytes (drop 6 withdraw_slots) (could_numbers could) ≡ flat_map bytes_of (map money could)
could_kept (a ∷ b ∷ c ∷ d ∷ e ∷ f ∷ []) six = refl
could_kept could six = absurd (omega arith)

withdraw_kept : (x : WithdrawFacts) → length x.could ≡ 6 → numbers_bytes withdraw_slots (withdraw_numbers x) ≡ flat_map bytes_of (written (Withdraw x)).2
withdraw_kept x six =
    let front = student x.student ∷ year x.year ∷ whole 1 (pos x.term) ∷ day x.last ∷ day x.determined ∷ money x.charges ∷ [] in
    ap (λ (bs : List ℕ). flat_map bytes_of front ++ bs) (could_kept x.could six)

facts_kept : (what : What) → HasLists what → numbers_bytes (table_row_of (kind_of what)).slots (facts_of what) ≡ flat_map bytes_of (written what).2
unfolding table_row_of facts_of
facts_kept (Book x) h = book_kept x
facts_kept (School x) h = refl
facts_kept (Calendar x) h = calendar_kept x
facts_kept (Prior x) h = refl
facts_kept (Apply x) h = refl
facts_kept (Enroll x) h = refl
facts_kept (Originate x) h = refl
facts_kept (Pay x) h = refl
facts_kept (Withdraw x) h = withdraw_kept x h
facts_kept (Repay x) h = refl
facts_kept (Adjust x) h = refl
facts_kept (Cost x) h = refl
facts_kept (Sent x) h = refl
facts_kept (Amend x) h = refl

code_written : (what : What) → (written what).0 ≡ code_of (kind_of what)
unfolding table_row_of
code_written (Book x) = refl
code_written (School x) = refl
code_written (Calendar x) = refl
code_written (Prior x) = refl
code_written (Apply x) = refl
code_written (Enroll x) = refl
code_written (Originate x) = refl
code_written (Pay x) = refl
code_written (Withdraw x) = refl
code_written (Repay x) = refl
code_written (Adjust x) = refl
code_written (Cost x) = refl
code_written (Sent x) = refl
code_written (Amend x) = refl

pub kept_is_spelling : (f : Filing) → CanBeFiled f → kept_bytes f ≡ spelling f
kept_is_spelling f can =
    let key = ranged 4 0 999999 f.key.school ∷ whole 8 (pos f.key.number) ∷ [] in
    λ i. code_written f.what i ∷ (flat_map bytes_of key ++ sym (facts_kept f.what can.1) i)
