-- What a filing moves in a term, summed over a student's year.
use Rattle.std.proofs.Common.{◌≡◌, ℕ, ◌+◌, ◌-◌, Bool, true, false, not, ◌&&◌, refl, sym, ap, subst, ◌∙◌, arith, [], ◌∷◌, List, eq-eqb}
use Rattle.std.specs.Prelude.{◌==◌}
use Rattle.aid_types.specs.Programs.{minus, plus, six}
use Rattle.aid_types.specs.declared.number.Key.{Key}
use Rattle.aid_filings.specs.declared.filing.Filing.{Filing}
use Rattle.aid_filings.specs.declared.filing.WithdrawFacts.{WithdrawFacts}
use Rattle.aid_filings.specs.declared.filing.What.{What}
use Rattle.office_history.specs.Answer.{IsLegal}
use Rattle.office_history.specs.Net.{cell_at, Cell, Move, in_main_terms, in_year, is_cell, moved, moves_at, net, net_at, paid, payments_in, pell_main, taken, takings_in}
use Rattle.office_history.specs.Past.{is_extra, the_term}
use Rattle.office_history.proofs.AnyNets.{any_net_stands}
use Rattle.office_history.proofs.Cells.{onto_is}
use Rattle.office_history.specs.Accounts.{IsEntry}
use Rattle.office_history.specs.declared.account.Account.{Account}
use Rattle.office_history.proofs.Sixes.{six-ext}
use Rattle.office_updates.specs.Moved.{main_moved}

-- moves at cells of one student's term at a school
abbrev pub AreOf : ℕ → ℕ → ℕ → ℕ → List Move → Type 0
AreOf school student year term [] = Unit {0}
AreOf school student year term (m ∷ ms) = (m.at ≡ cell_at school student year term m.at.program) × AreOf school student year term ms

-- a filing moves money at such cells alone
pub record MovesIn (past : List Filing) (key : Key) (what : What) (school student year term : ℕ) : Type 0 where
  pub pays : AreOf school student year term (payments_in key what)
  pub takes : AreOf school student year term (takings_in past (net_at past) key what)

pub moves_of_sheet : (key : Key) (w : WithdrawFacts) (p : ℕ) (ns : List ℕ) → AreOf key.school w.student w.year w.term (moves_at key w p ns)
moves_of_sheet key w p [] = tt
moves_of_sheet key w p (n ∷ ns) = (refl, moves_of_sheet key w (p + 1) ns)

module _ (school student year term : ℕ) where
  -- two selections that agree on those cells
  moved_alike : (sel sel' : Cell → Bool) → ((q : ℕ) → sel (cell_at school student year term q) ≡ sel' (cell_at school student year term q)) →
      (ms : List Move) → AreOf school student year term ms → moved sel ms ≡ moved sel' ms
  moved_alike sel sel' alike [] are = refl
  moved_alike sel sel' alike (m ∷ ms) are =
      let here : sel m.at ≡ sel' m.at = subst (λ (c : Cell). sel c ≡ sel' c) (sym are.0) (alike m.at.program) in
      rw (here, moved_alike sel sel' alike ms are.1) refl

  moved_none : (sel : Cell → Bool) → ((q : ℕ) → sel (cell_at school student year term q) ≡ false) →
      (ms : List Move) → AreOf school student year term ms → moved sel ms ≡ 0
  moved_none sel away [] are = refl
  moved_none sel away (m ∷ ms) are =
      let here : sel m.at ≡ false = subst (λ (c : Cell). sel c ≡ false) (sym are.0) (away m.at.program) in
      rw (here, moved_none sel away ms are.1) refl

-- the cells of the year and of its main terms, on those cells
in_own_year : (school student year term p q : ℕ) →
    in_year student year p (cell_at school student year term q) ≡ is_cell (cell_at school student year term p) (cell_at school student year term q)
in_own_year school student year term p q =
    rw (eq-eqb school school refl, eq-eqb student student refl, eq-eqb year year refl, eq-eqb term term refl) refl

in_other_year : (school student year term s y p q : ℕ) → (student == s && year == y) ≡ false → in_year s y p (cell_at school student year term q) ≡ false
in_other_year school student year term s y p q off = third (student == s) (year == y) (q == p) off
  where
    third : (a b c : Bool) → (a && b) ≡ false → (a && (b && c)) ≡ false
    third true true c h = cc
    third true false c h = refl
    third false b c h = refl

-- a net after a filing
pub net_moved : (past : List Filing) (f : Filing) (sel : Cell → Bool) → IsLegal past →
    net (f ∷ past) sel ≡ (net past sel + moved sel (payments_in f.key f.what)) - moved sel (takings_in past (net_at past) f.key f.what)
net_moved past f sel legal =
    let stands = any_net_stands past legal sel in
    rw (onto_is sel (payments_in f.key f.what) (paid past sel), onto_is sel (takings_in past (net_at past) f.key f.what) (taken past sel)) (omega arith)

module _ (past : List Filing) (f : Filing) (school student year term : ℕ) (legal : IsLegal past) (moves : MovesIn past f.key f.what school student year term) where
  -- where nothing moves the net stays
  net_away : (sel : Cell → Bool) → ((q : ℕ) → sel (cell_at school student year term q) ≡ false) → net (f ∷ past) sel ≡ net past sel
  net_away sel away =
      let n = net_moved past f sel legal in
      let a = moved_none school student year term sel away (payments_in f.key f.what) moves.pays in
      let b = moved_none school student year term sel away (takings_in past (net_at past) f.key f.what) moves.takes in
      omega arith

  pub net_of_other : (s y : ℕ) → (student == s && year == y) ≡ false → (p : ℕ) → net (f ∷ past) (in_year s y p) ≡ net past (in_year s y p)
  net_of_other s y off p = net_away (in_year s y p) (λ q. in_other_year school student year term s y p q off)

  pub main_of_other : (s y : ℕ) → (student == s && year == y) ≡ false → net (f ∷ past) (in_main_terms past s y 3) ≡ pell_main past s y
  main_of_other s y off = net_away (in_main_terms past s y 3)
      (λ q. ap (λ (b : Bool). b && not (is_extra (the_term past school year term))) (in_other_year school student year term s y 3 q off))

  -- of the year itself it changes by what moves at the cell of the program
  net_here : (sel : Cell → Bool) (p : ℕ) → ((q : ℕ) → sel (cell_at school student year term q) ≡ is_cell (cell_at school student year term p) (cell_at school student year term q)) →
      net (f ∷ past) sel ≡ (net past sel + moved (is_cell (cell_at school student year term p)) (payments_in f.key f.what))
      - moved (is_cell (cell_at school student year term p)) (takings_in past (net_at past) f.key f.what)
  net_here sel p alike =
      let n = net_moved past f sel legal in
      let a = moved_alike school student year term sel (is_cell (cell_at school student year term p)) alike (payments_in f.key f.what) moves.pays in
      let b = moved_alike school student year term sel (is_cell (cell_at school student year term p)) alike (takings_in past (net_at past) f.key f.what) moves.takes in
      omega arith

  pub nets_of_own : (e : Account) → IsEntry past f.key f.what school student year term e →
      six (λ p. net (f ∷ past) (in_year student year p)) ≡ minus (plus (six (λ p. net past (in_year student year p))) e.paid) e.taken
  nets_of_own e entry =
      rw (entry.paid, entry.taken)
      (six-ext (λ p. net (f ∷ past) (in_year student year p))
      (λ p. (net past (in_year student year p) + moved (is_cell (cell_at school student year term p)) (payments_in f.key f.what))
      - moved (is_cell (cell_at school student year term p)) (takings_in past (net_at past) f.key f.what))
      (λ p. net_here (in_year student year p) p (in_own_year school student year term p)))

  pub main_of_own : (e : Account) → IsEntry past f.key f.what school student year term e →
      net (f ∷ past) (in_main_terms past student year 3) ≡ main_moved (is_extra (the_term past school year term)) (pell_main past student year) e
  main_of_own e entry = go (is_extra (the_term past school year term)) refl
    where
      go : (b : Bool) → is_extra (the_term past school year term) ≡ b →
          net (f ∷ past) (in_main_terms past student year 3) ≡ main_moved b (pell_main past student year) e
      go true extra = net_away (in_main_terms past student year 3) (λ q.
          ap (λ (b : Bool). in_year student year 3 (cell_at school student year term q) && not b) extra ∙ none (in_year student year 3 (cell_at school student year term q)))
        where
          none : (b : Bool) → (b && false) ≡ false
          none true = refl
          none false = refl
      go false main =
          rw (entry.paid, entry.taken)
          (net_here (in_main_terms past student year 3) 3 (λ q.
          ap (λ (b : Bool). in_year student year 3 (cell_at school student year term q) && not b) main
          ∙ whole (in_year student year 3 (cell_at school student year term q)) ∙ in_own_year school student year term 3 q))
        where
          whole : (b : Bool) → (b && true) ≡ b
          whole true = refl
          whole false = refl
