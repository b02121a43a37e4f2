-- Lists by program.
use Rattle.std.proofs.Common.{◌≡◌, ℕ, zero, suc, ◌+◌, ◌-◌, ◌<◌, ◌≤◌, refl, true, List, [], ◌∷◌, length, get_or, set, arith}
use Rattle.std.specs.List.{list_all}
use Rattle.std.proofs.lemmas.Bool.{and_from}
use Rattle.std.proofs.lemmas.Bool.Decides.{nat_tests}
use Rattle.std.specs.Prelude.{slice_index, ◌==◌, if◌then◌else◌}
use Rattle.aid_types.specs.Programs.{minus, plus, rank, six}
use Rattle.aid_types.specs.Ranges.{EachIsCents, is_cents}
use Rattle.aid_types.specs.declared.number.Program.{Program}
use Rattle.aid_types.specs.declared.number.Program.TheVariants.{Unsub, Sub, Plus, Pell, Fseog, Teach}

-- each amount is below a million dollars
pub cents_at : (xs : List ℕ) (k : ℕ) → EachIsCents xs → slice_index xs k ≤ 99999999
cents_at [] k h = omega arith
cents_at (x ∷ xs) zero h = grind arith
cents_at (x ∷ xs) (suc k) h = grind (arith, cents_at xs k)

pub each_cents : (xs : List ℕ) → ((k : ℕ) → slice_index xs k ≤ 99999999) → EachIsCents xs
each_cents [] h = refl
each_cents (x ∷ xs) h = and_from (is_cents x) (list_all is_cents xs) (passes x (h 0)) (each_cents xs (λ k. h (suc k)))
  where
    passes : (n : ℕ) → n ≤ 99999999 → is_cents n ≡ true
    passes n h = grind (arith, nat_tests)

-- the program at each place of the order of returns
pub rank_at : (i : ℕ) (d : Program) → i < 6 → rank (get_or (Unsub ∷ Sub ∷ Plus ∷ Pell ∷ Fseog ∷ Teach ∷ []) i d) ≡ i
rank_at zero d h = refl
rank_at (suc zero) d h = refl
rank_at (suc (suc zero)) d h = refl
rank_at (suc (suc (suc zero))) d h = refl
rank_at (suc (suc (suc (suc zero)))) d h = refl
rank_at (suc (suc (suc (suc (suc zero))))) d h = refl
rank_at (suc (suc (suc (suc (suc (suc i)))))) d h = absurd (omega arith)

-- six items one by one
pub plus_six : (ns ms : List ℕ) → length ns ≡ 6 → length ms ≡ 6 →
    plus ns ms ≡ (slice_index ns 0 + slice_index ms 0) ∷ (slice_index ns 1 + slice_index ms 1) ∷ (slice_index ns 2 + slice_index ms 2)
    ∷ (slice_index ns 3 + slice_index ms 3) ∷ (slice_index ns 4 + slice_index ms 4) ∷ (slice_index ns 5 + slice_index ms 5) ∷ []
plus_six (n ∷ o ∷ p ∷ q ∷ r ∷ s ∷ []) (t ∷ u ∷ v ∷ w ∷ x ∷ y ∷ []) h k = refl
plus_six ns ms h k = absurd (omega arith)

pub minus_six : (ns ts : List ℕ) → length ns ≡ 6 → length ts ≡ 6 →
    minus ns ts ≡ (slice_index ns 0 - slice_index ts 0) ∷ (slice_index ns 1 - slice_index ts 1) ∷ (slice_index ns 2 - slice_index ts 2)
    ∷ (slice_index ns 3 - slice_index ts 3) ∷ (slice_index ns 4 - slice_index ts 4) ∷ (slice_index ns 5 - slice_index ts 5) ∷ []
minus_six (n ∷ o ∷ p ∷ q ∷ r ∷ s ∷ []) (t ∷ u ∷ v ∷ w ∷ x ∷ y ∷ []) h k = refl
minus_six ns ts h k = absurd (omega arith)

-- cents of one program among six
pub six_of_program : (program : Program) (cents : ℕ) → set (0 ∷ 0 ∷ 0 ∷ 0 ∷ 0 ∷ 0 ∷ []) (rank program) cents ≡ six (λ p. if rank program == p then cents else 0)
six_of_program Unsub cents = refl
six_of_program Sub cents = refl
six_of_program Plus cents = refl
six_of_program Pell cents = refl
six_of_program Fseog cents = refl
six_of_program Teach cents = refl
