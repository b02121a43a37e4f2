-- What is shown of desks tells their texts and the status.
use Rattle.std.proofs.Common.{◌≡◌, ◌≢◌, ◌⊎◌, inl, inr, ℕ, ◌<◌, Bool, true, false, List, [], ◌∷◌, ◌++◌, length, get_or, refl, sym, ap, ap₂, arith}
use Rattle.std.specs.Prelude.{◌||◌, if◌then◌else◌}
use Rattle.std.specs.List.{list_any}
use Rattle.std.proofs.lemmas.Bool.{false≢true}
use Rattle.std.proofs.lemmas.List.Folds.{list_any_at}
use Rattle.log_desks.specs.DeskTexts.{stop_at, stop_text}
use Rattle.log_desks.specs.Desks.{DeskView, all_shown, shown_of}
use Rattle.log_desks.specs.declared.stop.DeskEnd.{DeskEnd}
use Rattle.log_desks.specs.declared.stop.DeskEnd.TheVariants.{Stopped}
use Rattle.log_desks.specs.declared.stop.DeskStop.{DeskStop}
use Rattle.log_desks.specs.declared.stop.DeskStop.TheVariants.{DiskFault, NoMemory}
use Rattle.log_desk_runs.specs.DeskTexts.{desks_status, desks_text, had_disk_fault, had_no_memory, stop_line}

-- ---- what is shown of desks
-- their texts are
pub text_shown : {Entry Lines : Type 0} (one other : List (DeskView Entry Lines)) → all_shown one ≡ all_shown other → desks_text one ≡ desks_text other
text_shown [] [] same = refl
text_shown [] (y ∷ other) same = absurd (let bad : ⊥ = cc in bad)
text_shown (x ∷ one) [] same = absurd (let bad : ⊥ = cc in bad)
text_shown (x ∷ one) (y ∷ other) same =
    let first : shown_of x ≡ shown_of y = cc in
    let more : all_shown one ≡ all_shown other = cc in
    ap₂ (λ l r. l ++ r) (ap (λ s. s.3 ++ stop_text (stop_line s.1) (stop_at s.0 s.4 s.5)) first) (text_shown one other more)

any_shown : {Entry Lines : Type 0} (test : DeskEnd → Bool) (one other : List (DeskView Entry Lines)) → all_shown one ≡ all_shown other → list_any (λ (d : DeskView Entry Lines). test d.ended) one ≡ list_any (λ (d : DeskView Entry Lines). test d.ended) other
any_shown test [] [] same = refl
any_shown test [] (y ∷ other) same = absurd (let bad : ⊥ = cc in bad)
any_shown test (x ∷ one) [] same = absurd (let bad : ⊥ = cc in bad)
any_shown test (x ∷ one) (y ∷ other) same =
    let first : shown_of x ≡ shown_of y = cc in
    let more : all_shown one ≡ all_shown other = cc in
    ap₂ (λ (a b : Bool). a || b) (ap (λ s. test s.5) first) (any_shown test one other more)

abbrev status_by : Bool → Bool → ℕ
status_by faulted starved = if faulted then 5 else if starved then 9 else 0

pub status_shown : {Entry Lines : Type 0} (one other : List (DeskView Entry Lines)) → all_shown one ≡ all_shown other → desks_status one ≡ desks_status other
status_shown one other same = ap₂ status_by (any_shown had_disk_fault one other same) (any_shown had_no_memory one other same)

-- ---- the status
status_some : (faulted starved : Bool) → (faulted ≡ true) ⊎ (starved ≡ true) → status_by faulted starved ≢ 0
status_some true starved some zero_is = omega (arith, zero_is)
status_some false true some zero_is = omega (arith, zero_is)
status_some false false (inl is) zero_is = false≢true is
status_some false false (inr is) zero_is = false≢true is

status_few : (faulted starved : Bool) (n : ℕ) → 0 < n → n ≢ 5 → n ≢ 9 → status_by faulted starved ≢ n
status_few true starved n some five nine is = five (sym is)
status_few false true n some five nine is = nine (sym is)
status_few false false n some five nine is = omega (arith, some, is)

pub stopped_status : {Entry Lines : Type 0} (desks : List (DeskView Entry Lines)) (k : ℕ) (d : DeskView Entry Lines) (stop : DeskStop) → k < length desks → (get_or desks k d).ended ≡ Stopped stop → desks_status desks ≢ 0
stopped_status {Entry} {Lines} desks k d stop lt is = status_some (list_any (λ (x : DeskView Entry Lines). had_disk_fault x.ended) desks) (list_any (λ (x : DeskView Entry Lines). had_no_memory x.ended) desks) (some stop is)
  where
    some : (s : DeskStop) → (get_or desks k d).ended ≡ Stopped s → (list_any (λ (x : DeskView Entry Lines). had_disk_fault x.ended) desks ≡ true) ⊎ (list_any (λ (x : DeskView Entry Lines). had_no_memory x.ended) desks ≡ true)
    some (DiskFault undecided) at = inl (list_any_at (λ (x : DeskView Entry Lines). had_disk_fault x.ended) desks k d lt (ap had_disk_fault at))
    some NoMemory at = inr (list_any_at (λ (x : DeskView Entry Lines). had_no_memory x.ended) desks k d lt (ap had_no_memory at))

pub few_statuses : {Entry Lines : Type 0} (desks : List (DeskView Entry Lines)) (n : ℕ) → 0 < n → n ≢ 5 → n ≢ 9 → desks_status desks ≢ n
few_statuses {Entry} {Lines} desks = status_few (list_any (λ (x : DeskView Entry Lines). had_disk_fault x.ended) desks) (list_any (λ (x : DeskView Entry Lines). had_no_memory x.ended) desks)
