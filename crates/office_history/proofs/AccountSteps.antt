-- An account with what one filing more moves.
use Rattle.std.proofs.Common.{◌≡◌, ℕ, refl, sym, ◌∙◌, ◌≤◌, arith, Bool, List, ◌∷◌}
use Rattle.aid_types.specs.Programs.{minus, plus, six}
use Rattle.aid_filings.specs.declared.filing.Filing.{Filing}
use Rattle.office_history.specs.Net.{Cell, Move, is_cell, in_term, moved, onto, net_at, paid, taken, owed, repaid, returned, sent, post, paid_after, payments_in, takings_in, owings_in, repayments_in, returns_in, sendings_in, payments_after, posts_in, cell_at}
use Rattle.office_history.specs.Answer.{IsLegal}
use Rattle.office_history.proofs.Cells.{onto_is}
use Rattle.office_history.specs.declared.account.Account.{Account}
use Rattle.office_history.specs.Accounts.{IsAccount, IsEntry, HasSums, joined, nothing}
use Rattle.office_history.proofs.Sixes.{plus-six, six-sums}
use Rattle.office_history.proofs.Bounds.{paid-most, taken-most, owed-most, repaid-most, returned-most, sent-most, after-most, post-most}

pub account-joined : (past : List Filing) (f : Filing) (school student year term : ℕ) (a e : Account) →
    IsAccount past school student year term a → IsEntry past f.key f.what school student year term e → IsAccount (f ∷ past) school student year term (joined a e)
account-joined past f school student year term a e h k =
    let cell = cell_at school student year term in
    let all = in_term school student year term in
    record {
      paid = rw (h.paid, k.paid) (plus-six _ _ _ (λ p. onto_is (is_cell (cell p)) (payments_in f.key f.what) (paid past (is_cell (cell p)))));
      taken = rw (h.taken, k.taken) (plus-six _ _ _ (λ p. onto_is (is_cell (cell p)) (takings_in past (net_at past) f.key f.what) (taken past (is_cell (cell p)))));
      owed = rw (h.owed, k.owed) (plus-six _ _ _ (λ p. onto_is (is_cell (cell p)) (owings_in past f.key f.what) (owed past (is_cell (cell p)))));
      repaid = rw (h.repaid, k.repaid) (plus-six _ _ _ (λ p. onto_is (is_cell (cell p)) (repayments_in f.key f.what) (repaid past (is_cell (cell p)))));
      returned = rw (h.returned, k.returned) (plus-six _ _ _ (λ p. onto_is (is_cell (cell p)) (returns_in past f.key f.what) (returned past (is_cell (cell p)))));
      sent = rw (h.sent, k.sent) (plus-six _ _ _ (λ p. onto_is (is_cell (cell p)) (sendings_in f.key f.what) (sent past (is_cell (cell p)))));
      after = rw (h.after, k.after) (plus-six _ _ _ (λ p. onto_is (is_cell (cell p)) (payments_after past f.key f.what) (paid_after past (is_cell (cell p)))));
      after_all = let o = onto_is all (payments_after past f.key f.what) (paid_after past all) in omega (arith, h.after_all, k.after_all);
      post = let o = onto_is all (posts_in past f.key f.what) (post past all) in omega (arith, h.post, k.post);
    }

-- amounts with none more
plus-none : (ns : List ℕ) (g : ℕ → ℕ) → ns ≡ six g → plus ns (six (λ p. 0)) ≡ ns
plus-none ns g e = rw e (plus-six g (λ p. 0) g (λ p. omega arith))

-- an account with what moves nothing
pub account-kept : (past : List Filing) (f : Filing) (school student year term : ℕ) (a : Account) →
    IsAccount past school student year term a → IsEntry past f.key f.what school student year term nothing → IsAccount (f ∷ past) school student year term a
account-kept past f school student year term a h k =
    let cell = λ (p : ℕ). is_cell (cell_at school student year term p) in
    let j = account-joined past f school student year term a nothing h k in
    record {
      paid = sym (plus-none a.paid (λ p. paid past (cell p)) h.paid) ∙ j.paid;
      taken = sym (plus-none a.taken (λ p. taken past (cell p)) h.taken) ∙ j.taken;
      owed = sym (plus-none a.owed (λ p. owed past (cell p)) h.owed) ∙ j.owed;
      repaid = sym (plus-none a.repaid (λ p. repaid past (cell p)) h.repaid) ∙ j.repaid;
      returned = sym (plus-none a.returned (λ p. returned past (cell p)) h.returned) ∙ j.returned;
      sent = sym (plus-none a.sent (λ p. sent past (cell p)) h.sent) ∙ j.sent;
      after = sym (plus-none a.after (λ p. paid_after past (cell p)) h.after) ∙ j.after;
      after_all = omega (arith, j.after_all);
      post = omega (arith, j.post);
    }

-- its sums are small
pub account-sums : (past : List Filing) (school student year term : ℕ) (a : Account) → IsLegal past → IsAccount past school student year term a → HasSums a
account-sums past school student year term a legal h =
    let cell = λ (p : ℕ). is_cell (cell_at school student year term p) in
    record {
      paid = rw h.paid (six-sums (λ p. paid past (cell p)) 100000000000000 (λ p. paid-most past legal (cell p)) (omega arith));
      taken = rw h.taken (six-sums (λ p. taken past (cell p)) 100000000000000 (λ p. taken-most past legal (cell p)) (omega arith));
      owed = rw h.owed (six-sums (λ p. owed past (cell p)) 200000000000000 (λ p. owed-most past legal (cell p)) (omega arith));
      repaid = rw h.repaid (six-sums (λ p. repaid past (cell p)) 100000000000000 (λ p. repaid-most past legal (cell p)) (omega arith));
      returned = rw h.returned (six-sums (λ p. returned past (cell p)) 100000000000000 (λ p. returned-most past legal (cell p)) (omega arith));
      sent = rw h.sent (six-sums (λ p. sent past (cell p)) 100000000000000 (λ p. sent-most past legal (cell p)) (omega arith));
      after = rw h.after (six-sums (λ p. paid_after past (cell p)) 100000000000000 (λ p. after-most past legal (cell p)) (omega arith));
      after_all = omega (arith, h.after_all, after-most past legal (in_term school student year term));
      post = omega (arith, h.post, post-most past legal (in_term school student year term));
    }

-- and so are those of what the filing moves
pub entry-sums : (past : List Filing) (f : Filing) (school student year term : ℕ) (e : Account) → IsLegal (f ∷ past) →
    IsEntry past f.key f.what school student year term e → HasSums e
entry-sums past f school student year term e legal k =
    let cell = λ (p : ℕ). is_cell (cell_at school student year term p) in
    let all = in_term school student year term in
    record {
      paid = rw k.paid (six-sums (λ p. moved (cell p) (payments_in f.key f.what)) 100000000000000 (λ p. part (cell p) (payments_in f.key f.what) (paid past (cell p)) (paid-most (f ∷ past) legal (cell p))) (omega arith));
      taken = rw k.taken (six-sums (λ p. moved (cell p) (takings_in past (net_at past) f.key f.what)) 100000000000000 (λ p. part (cell p) (takings_in past (net_at past) f.key f.what) (taken past (cell p)) (taken-most (f ∷ past) legal (cell p))) (omega arith));
      owed = rw k.owed (six-sums (λ p. moved (cell p) (owings_in past f.key f.what)) 200000000000000 (λ p. part (cell p) (owings_in past f.key f.what) (owed past (cell p)) (owed-most (f ∷ past) legal (cell p))) (omega arith));
      repaid = rw k.repaid (six-sums (λ p. moved (cell p) (repayments_in f.key f.what)) 100000000000000 (λ p. part (cell p) (repayments_in f.key f.what) (repaid past (cell p)) (repaid-most (f ∷ past) legal (cell p))) (omega arith));
      returned = rw k.returned (six-sums (λ p. moved (cell p) (returns_in past f.key f.what)) 100000000000000 (λ p. part (cell p) (returns_in past f.key f.what) (returned past (cell p)) (returned-most (f ∷ past) legal (cell p))) (omega arith));
      sent = rw k.sent (six-sums (λ p. moved (cell p) (sendings_in f.key f.what)) 100000000000000 (λ p. part (cell p) (sendings_in f.key f.what) (sent past (cell p)) (sent-most (f ∷ past) legal (cell p))) (omega arith));
      after = rw k.after (six-sums (λ p. moved (cell p) (payments_after past f.key f.what)) 100000000000000 (λ p. part (cell p) (payments_after past f.key f.what) (paid_after past (cell p)) (after-most (f ∷ past) legal (cell p))) (omega arith));
      after_all = let o = part all (payments_after past f.key f.what) (paid_after past all) (after-most (f ∷ past) legal all) in omega (arith, k.after_all);
      post = let o = part all (posts_in past f.key f.what) (post past all) (post-most (f ∷ past) legal all) in omega (arith, k.post);
    }
  where
    part : (sel : Cell → Bool) (ms : List Move) (n : ℕ) {most : ℕ} → onto sel ms n ≤ most → moved sel ms ≤ most
    part sel ms n {most} h = let o = onto_is sel ms n in omega arith

-- its nets
pub account-nets : (past : List Filing) (school student year term : ℕ) (a : Account) → IsAccount past school student year term a →
    minus a.paid a.taken ≡ six (λ p. net_at past (cell_at school student year term p))
account-nets past school student year term a h = rw (h.paid, h.taken) refl
