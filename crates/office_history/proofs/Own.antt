-- What a filing moves: in its own term, in others, and at many cells.
use Rattle.std.proofs.Common.{◌≡◌, ℕ, zero, suc, ◌+◌, ◌<◌, ◌≤◌, refl, sym, ap, subst, ◌∙◌, arith, cond, Bool, true, false, ◌&&◌, List, [], ◌∷◌, length, Option, Some, None, is_some, eqb-true, eq-eqb}
use Rattle.std.specs.Prelude.{◌==◌, sum, if◌then◌else◌}
use Rattle.std.proofs.lemmas.Bool.{and_parts}
use Rattle.aid_types.specs.Programs.{rank, six}
use Rattle.aid_types.specs.declared.number.Key.{Key}
use Rattle.aid_types.specs.declared.number.Program.{Program}
use Rattle.aid_types.specs.declared.number.Program.TheVariants.{Unsub, Sub, Plus, Pell, Fseog, Teach}
use Rattle.aid_filings.specs.declared.filing.Amount.{Amount}
use Rattle.aid_filings.specs.declared.filing.Filing.{Filing}
use Rattle.aid_filings.specs.declared.filing.WithdrawFacts.{WithdrawFacts}
use Rattle.aid_filings.specs.declared.filing.What.{What}
use Rattle.aid_filings.specs.declared.filing.What.TheVariants.{Book, School, Calendar, Prior, Apply, Enroll, Originate, Pay, Withdraw, Repay, Adjust, Cost, Sent, Amend}
use Rattle.law_r2t4.specs.Worksheet.{worksheet_of}
use Rattle.office_history.specs.Past.{the_withdrawal}
use Rattle.office_history.specs.Net.{Cell, Move, cell_of, in_term, is_cell, moved, moves_at, net_at, owings_in, payments_after, payments_in, posts_in, repayments_in, returns_in, sendings_in, sheet, takings_in, cell_at}
use Rattle.office_history.specs.Accounts.{IsEntry, nothing}
use Rattle.office_history.specs.Own.{IsEntryAt, IsOwnEntry, is_place, own_place}
use Rattle.office_history.specs.declared.account.Account.{Account}
use Rattle.office_history.specs.declared.place.Place.{Place}
use Rattle.office_history.proofs.Sixes.{six-ext}

abbrev pub at : Place → ℕ → Cell
at p q = cell_at p.school p.student p.year p.term q

-- a cell is a program's in one term, and so is that of each move
pub record IsIn (p : Place) (c : Cell) : Type 0 where
  pub program : ℕ
  pub few : program < 6
  pub is : c ≡ at p program

abbrev pub AreIn : Place → List Move → Type 0
AreIn p [] = Unit {0}
AreIn p (m ∷ ms) = IsIn p m.at × AreIn p ms

-- all that a filing moves is in one term
pub record MovesIn (past : List Filing) (key : Key) (what : What) (p : Place) : Type 0 where
  pub paid : AreIn p (payments_in key what)
  pub taken : AreIn p (takings_in past (net_at past) key what)
  pub owed : AreIn p (owings_in past key what)
  pub repaid : AreIn p (repayments_in key what)
  pub returned : AreIn p (returns_in past key what)
  pub sent : AreIn p (sendings_in key what)
  pub after : AreIn p (payments_after past key what)
  pub post : AreIn p (posts_in past key what)

-- a filing that moves nothing
pub record IsStill (past : List Filing) (key : Key) (what : What) : Type 0 where
  pub paid : payments_in key what ≡ []
  pub taken : takings_in past (net_at past) key what ≡ []
  pub entry : (p : Place) → IsEntry past key what p.school p.student p.year p.term nothing

abbrev pub MovesAt : List Filing → Key → What → Option Place → Type 0
MovesAt past key what None = IsStill past key what
MovesAt past key what (Some p) = MovesIn past key what p

few-programs : (program : Program) → rank program < 6
few-programs Unsub = omega arith
few-programs Sub = omega arith
few-programs Plus = omega arith
few-programs Pell = omega arith
few-programs Fseog = omega arith
few-programs Teach = omega arith

module _ (past : List Filing) (key : Key) where
  one : (a : Amount) → AreIn (record { school = key.school; student = a.student; year = a.year; term = a.term }) (record { at = cell_of key a; cents = a.cents } ∷ [])
  one a = (record { program = rank a.program; few = few-programs a.program; is = refl }, tt)

  one_if : (a : Amount) (b : Bool) →
      AreIn (record { school = key.school; student = a.student; year = a.year; term = a.term }) (if b then record { at = cell_of key a; cents = a.cents } ∷ [] else [])
  one_if a true = one a
  one_if a false = tt

  each : (w : WithdrawFacts) (p : ℕ) (ns : List ℕ) → p + length ns ≤ 6 →
      AreIn (record { school = key.school; student = w.student; year = w.year; term = w.term }) (moves_at key w p ns)
  each w p [] h = tt
  each w p (n ∷ ns) h = (record { program = p; few = omega arith; is = refl }, each w (p + 1) ns (omega arith))

  pub moves : (what : What) → MovesAt past key what (own_place key what)
  unfolding worksheet_of
  moves (Book b) = record { paid = refl; taken = refl; entry = λ p. record { paid = refl; taken = refl; owed = refl; repaid = refl; returned = refl; sent = refl; after = refl; after_all = refl; post = refl } }
  moves (School b) = record { paid = refl; taken = refl; entry = λ p. record { paid = refl; taken = refl; owed = refl; repaid = refl; returned = refl; sent = refl; after = refl; after_all = refl; post = refl } }
  moves (Calendar b) = record { paid = refl; taken = refl; entry = λ p. record { paid = refl; taken = refl; owed = refl; repaid = refl; returned = refl; sent = refl; after = refl; after_all = refl; post = refl } }
  moves (Prior b) = record { paid = refl; taken = refl; entry = λ p. record { paid = refl; taken = refl; owed = refl; repaid = refl; returned = refl; sent = refl; after = refl; after_all = refl; post = refl } }
  moves (Apply b) = record { paid = refl; taken = refl; entry = λ p. record { paid = refl; taken = refl; owed = refl; repaid = refl; returned = refl; sent = refl; after = refl; after_all = refl; post = refl } }
  moves (Enroll b) = record { paid = refl; taken = refl; entry = λ p. record { paid = refl; taken = refl; owed = refl; repaid = refl; returned = refl; sent = refl; after = refl; after_all = refl; post = refl } }
  moves (Originate b) = record { paid = refl; taken = refl; entry = λ p. record { paid = refl; taken = refl; owed = refl; repaid = refl; returned = refl; sent = refl; after = refl; after_all = refl; post = refl } }
  moves (Pay a) = record { paid = one a; taken = tt; owed = tt; repaid = tt; returned = tt; sent = tt; after = one_if a (is_some (the_withdrawal past key.school a.student a.year a.term)); post = tt }
  moves (Repay a) = record { paid = tt; taken = one a; owed = tt; repaid = one a; returned = tt; sent = tt; after = tt; post = tt }
  moves (Adjust a) = record { paid = tt; taken = one a; owed = tt; repaid = tt; returned = tt; sent = tt; after = tt; post = tt }
  moves (Cost b) = record { paid = refl; taken = refl; entry = λ p. record { paid = refl; taken = refl; owed = refl; repaid = refl; returned = refl; sent = refl; after = refl; after_all = refl; post = refl } }
  moves (Sent s) = record { paid = tt; taken = tt; owed = tt; repaid = tt; returned = tt; sent = (record { program = rank s.program; few = few-programs s.program; is = refl }, tt); after = tt; post = tt }
  moves (Amend b) = record { paid = refl; taken = refl; entry = λ p. record { paid = refl; taken = refl; owed = refl; repaid = refl; returned = refl; sent = refl; after = refl; after_all = refl; post = refl } }
  moves (Withdraw w) = record {
    paid = tt;
    taken = each w 0 (sheet past key w).returned (omega arith);
    owed = each w 0 (sheet past key w).owed (omega arith);
    repaid = tt;
    returned = each w 0 (sheet past key w).returned (omega arith);
    sent = tt;
    after = tt;
    post = (record { program = 0; few = omega arith; is = refl }, tt);
  }

-- moves at cells of one term, where two tests agree, where none passes and where all do
pub moved-agree : (sel sel' : Cell → Bool) (p : Place) (ms : List Move) → AreIn p ms → ((q : ℕ) → sel (at p q) ≡ sel' (at p q)) → moved sel ms ≡ moved sel' ms
moved-agree sel sel' p [] here same = refl
moved-agree sel sel' p (m ∷ ms) here same =
    let head : sel m.at ≡ sel' m.at = ap sel here.0.is ∙ same here.0.program ∙ sym (ap sel' here.0.is) in
    rw (head, moved-agree sel sel' p ms here.1 same) refl

pub moved-none : (sel : Cell → Bool) (p : Place) (ms : List Move) → AreIn p ms → ((q : ℕ) → sel (at p q) ≡ false) → moved sel ms ≡ 0
moved-none sel p [] here none = refl
moved-none sel p (m ∷ ms) here none =
    let head : sel m.at ≡ false = ap sel here.0.is ∙ none here.0.program in
    rw (head, moved-none sel p ms here.1 none) refl

pub own-cell : (p : Place) (r q : ℕ) → is_cell (at p r) (at p q) ≡ (q == r)
own-cell p r q = rw (eq-eqb p.student p.student refl, eq-eqb p.school p.school refl, eq-eqb p.year p.year refl, eq-eqb p.term p.term refl) refl

in_one : (q cents : ℕ) → q < 6 → sum (six (λ r. if q == r then cents else 0)) ≡ cents
in_one zero cents few = omega arith
in_one (suc zero) cents few = omega arith
in_one (suc (suc zero)) cents few = omega arith
in_one (suc (suc (suc zero))) cents few = omega arith
in_one (suc (suc (suc (suc zero)))) cents few = omega arith
in_one (suc (suc (suc (suc (suc zero))))) cents few = omega arith
in_one (suc (suc (suc (suc (suc (suc q)))))) cents few = absurd (omega arith)

sum-six : (g h : ℕ → ℕ) → sum (six (λ r. g r + h r)) ≡ sum (six g) + sum (six h)
sum-six g h = omega arith

pub moved-all : (sel : Cell → Bool) (p : Place) (ms : List Move) → AreIn p ms → ((q : ℕ) → sel (at p q) ≡ true) →
    sum (six (λ r. moved (is_cell (at p r)) ms)) ≡ moved sel ms
moved-all sel p [] here all = refl
moved-all sel p (m ∷ ms) here all =
    let q = here.0.program in
    let passes : sel m.at ≡ true = ap sel here.0.is ∙ all q in
    let own : (r : ℕ) → is_cell (at p r) m.at ≡ (q == r) = λ r. ap (is_cell (at p r)) here.0.is ∙ own-cell p r q in
    let head : sum (six (λ r. if is_cell (at p r) m.at then m.cents else 0)) ≡ m.cents =
    ap sum (six-ext (λ r. if is_cell (at p r) m.at then m.cents else 0) (λ r. if q == r then m.cents else 0) (λ r. ap (λ (b : Bool). cond b m.cents 0) (own r)))
    ∙ in_one q m.cents here.0.few in
    let rest = moved-all sel p ms here.1 all in
    sum-six (λ r. if is_cell (at p r) m.at then m.cents else 0) (λ r. moved (is_cell (at p r)) ms)
    ∙ rw passes (omega arith)

-- a cell's test is that of its term and its program
cell-in-term : (p o : Place) (r q : ℕ) → is_cell (at p r) (at o q) ≡ (is_place o p && (q == r))
cell-in-term p o r q = turned (o.student == p.student) (o.school == p.school) (o.year == p.year) (o.term == p.term) (q == r)
  where
    turned : (a b c d e : Bool) → (a && (b && (c && (d && e)))) ≡ ((b && (a && (c && d))) && e)
    turned true true true true e = refl
    turned true true true false e = refl
    turned true true false d e = refl
    turned true false c d e = refl
    turned false true c d e = refl
    turned false false c d e = refl

-- in another term nothing moves
pub entry-elsewhere : (past : List Filing) (key : Key) (what : What) (p o : Place) → MovesIn past key what o → is_place o p ≡ false →
    IsEntry past key what p.school p.student p.year p.term nothing
entry-elsewhere past key what p o m away =
    let off : (r q : ℕ) → is_cell (at p r) (at o q) ≡ false = λ r q. cell-in-term p o r q ∙ ap (λ (b : Bool). b && (q == r)) away in
    let none = λ (ms : List Move) (h : AreIn o ms). six-ext (λ r. 0) (λ r. moved (is_cell (at p r)) ms) (λ r. sym (moved-none (is_cell (at p r)) o ms h (off r))) in
    record {
      paid = none (payments_in key what) m.paid;
      taken = none (takings_in past (net_at past) key what) m.taken;
      owed = none (owings_in past key what) m.owed;
      repaid = none (repayments_in key what) m.repaid;
      returned = none (returns_in past key what) m.returned;
      sent = none (sendings_in key what) m.sent;
      after = none (payments_after past key what) m.after;
      after_all = sym (moved-none (in_term p.school p.student p.year p.term) o (payments_after past key what) m.after (λ q. away));
      post = sym (moved-none (in_term p.school p.student p.year p.term) o (posts_in past key what) m.post (λ q. away));
    }

-- places that are told to be the same are the same
pub same-place : (o p : Place) → is_place o p ≡ true → o ≡ p
same-place o p h =
    let a = and_parts (o.school == p.school) _ h in
    let b = and_parts (o.student == p.student) _ a.1 in
    let c = and_parts (o.year == p.year) (o.term == p.term) b.1 in
    let e0 = eqb-true o.school p.school a.0 in
    let e1 = eqb-true o.student p.student b.0 in
    let e2 = eqb-true o.year p.year c.0 in
    let e3 = eqb-true o.term p.term c.1 in
    λ i. record { school = e0 i; student = e1 i; year = e2 i; term = e3 i }

-- what a filing moves at a place that is its own, and that it moves nothing where it has none
pub entry-own : (past : List Filing) (key : Key) (what : What) (o : Place) (e : Account) → own_place key what ≡ Some o → IsOwnEntry past key what e →
    IsEntry past key what o.school o.student o.year o.term e
entry-own past key what o e own h = subst (λ (x : Option Place). IsEntryAt past key what x e) own h

pub entry-there : (past : List Filing) (key : Key) (what : What) (o p : Place) (e : Account) → own_place key what ≡ Some o → is_place o p ≡ true →
    IsOwnEntry past key what e → IsEntry past key what p.school p.student p.year p.term e
entry-there past key what o p e own same h =
    subst (λ (q : Place). IsEntry past key what q.school q.student q.year q.term e) (same-place o p same) (entry-own past key what o e own h)

pub moves-in : (past : List Filing) (key : Key) (what : What) (o : Place) → own_place key what ≡ Some o → MovesIn past key what o
moves-in past key what o own = subst (λ (x : Option Place). MovesAt past key what x) own (moves past key what)

pub still : (past : List Filing) (key : Key) (what : What) → own_place key what ≡ None → IsStill past key what
still past key what own = subst (λ (x : Option Place). MovesAt past key what x) own (moves past key what)
