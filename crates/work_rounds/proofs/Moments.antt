-- What each image recovers at each moment of a round with a heading, and behind it.
use Rattle.std.proofs.Common.{◌≡◌, inl, inr, ℕ, List, [], ◌∷◌, ◌++◌, map, Result, Ok, refl, sym, ◌∙◌, ap, subst, IsTrue}
use Rattle.io_traits.specs.DiskState.{EachImage, EachMoment, IsHonest}
use Rattle.io_traits.specs.declared.disk.Disk.{Ghosts}
use Rattle.io_traits.proofs.Moments.{started, weaken}
use Rattle.log_machine.specs.Scheme.{Scheme, Semantics}
use Rattle.log_machine.specs.Recovers.{Recovers}
use Rattle.log_machine.specs.Texts.{Texts, after_rows}
use Rattle.log_session.specs.Asks.{rows_of_asks}
use Rattle.log_session.specs.Edges.{Input, Output}
use Rattle.log_session.specs.Fronts.{RecoversPlanned}
use Rattle.log_session.specs.Planned.{Planned, since}
use Rattle.log_session.specs.Planned as planning
use Rattle.log_session.specs.declared.stop.SessionStop.{SessionStop}
use Rattle.log_session.proofs.Behind.{after_rows_of_asks}
use Rattle.log_session.proofs.Moments.{images_of_planned, moments_of_planned}
use Rattle.work_rounds.specs.Fronts.{HeadedStands, RecoversHeaded}
use Rattle.work_rounds.specs.Headed.{Headed, HeadedSession, unopened, unplanned, unheaded, filed, unread, read}

module _ {Operation Error Meaning : Type 0} (said : Result Operation Error → Meaning) (apart : (one other : Result Operation Error) → said one ≡ said other → one ≡ other) where
  -- rows in front of those that are asks are asks, where what a row says tells it
  fronts_of_asks : (operations : List Operation) (rows : List (Result Operation Error)) (rest : List Meaning) → map said (rows_of_asks operations) ≡ map said rows ++ rest
      → (front behind : List Operation) × (operations ≡ front ++ behind) × (rows ≡ rows_of_asks front)
  fronts_of_asks operations [] rest is = ([], operations, refl, refl)
  fronts_of_asks [] (row ∷ rows) rest is = absurd (let bad : ⊥ = cc in bad)
  fronts_of_asks (operation ∷ operations) (row ∷ rows) rest is =
      let first : said (Ok operation) ≡ said row = cc in
      let later : map said (rows_of_asks operations) ≡ map said rows ++ rest = cc in
      let (front, behind, split, same) = fronts_of_asks operations rows rest later in
      (operation ∷ front, behind, ap (λ (l : List Operation). operation ∷ l) split, ap (λ (r : Result Operation Error). r ∷ rows) (sym (apart (Ok operation) row first)) ∙ ap (λ (l : List (Result Operation Error)). Ok operation ∷ l) same)

  -- rows that say what asks say are those asks
  rows_are_asks : (operations : List Operation) (rows : List (Result Operation Error)) → map said rows ≡ map said (rows_of_asks operations) → rows ≡ rows_of_asks operations
  rows_are_asks [] [] is = refl
  rows_are_asks [] (row ∷ rows) is = absurd (let bad : ⊥ = cc in bad)
  rows_are_asks (operation ∷ operations) [] is = absurd (let bad : ⊥ = cc in bad)
  rows_are_asks (operation ∷ operations) (row ∷ rows) is =
      let first : said row ≡ said (Ok operation) = cc in
      let later : map said rows ≡ map said (rows_of_asks operations) = cc in
      ap (λ (r : Result Operation Error). r ∷ rows) (apart row (Ok operation) first) ∙ ap (λ (l : List (Result Operation Error)). Ok operation ∷ l) (rows_are_asks operations rows later)

module _ {D Entry Operation Response Error : Type 0} (disk : Ghosts D) (scheme : Scheme Entry) (semantics : Semantics Entry Operation Response) (only : (d : D) (c : List ℕ) → IsHonest (disk.tells d) → (disk.tells d).image_since (disk.tells d).moment c → (disk.tells d).image c) (texts : Texts Operation Response Error) where
  -- the plans, whatever their heading
  abbrev Beneath : (List Entry → List ℕ → List Operation → List ℕ → Type 0) → List Entry → List Operation → List ℕ → Type 0
  Beneath plans past operations closing = (heading : List ℕ) × plans past heading operations closing

  -- a round with a heading does to the disk what one without does
  beneath : (plans : List Entry → List ℕ → List Operation → List ℕ → Type 0) (output : Output) (ended : Result (Unit {0}) SessionStop) (old new : D) → Headed disk scheme semantics texts plans old new output ended
      → (behind : Output) × (inner : Result (Unit {0}) SessionStop) × Planned disk scheme semantics texts (Beneath plans) old new behind inner × (ended ≡ Ok tt → inner ≡ Ok tt)
  beneath plans output ended old new (unopened error not same) = (output, ended, planning.unopened error not same, λ well. well)
  beneath plans output ended old new (unplanned past is same) = (output, ended, planning.unplanned past is same, λ well. well)
  beneath plans output ended old new (unheaded past heading operations closing is planned cut) =
      (since output.after output, _, planning.unplanned past is refl, λ bad. absurd (let no : ⊥ = cc in no))
  beneath plans output ended old new (filed past at heading operations closing text inner is planned wrote closes) =
      (since text output, ended, planning.filed past at operations closing inner is (heading, planned) closes, λ well. well)

  module _ (apart : (one other : Result Operation Error) → texts.said one ≡ texts.said other → one ≡ other) where
    -- where a file recovers one list at most
    module _ (once : (file : List ℕ) (one other : List Entry) → Recovers scheme file one → Recovers scheme file other → one ≡ other)
        (here : (d : D) → IsHonest (disk.tells d) → (disk.tells d).image (disk.tells d).reads) (plans : List ℕ → List Entry → List ℕ → List Operation → List ℕ → Type 0) (limit : ℕ) (input : Input) (output : Output) where
      -- what a file recovers while asks are filed that were planned
      fronts : (text : List ℕ) → (IsTrue input.honest → text ≡ input.before) → (past : List Entry) (c : List ℕ) → RecoversPlanned scheme semantics texts (Beneath (plans text)) past c → RecoversHeaded scheme semantics plans input past c
      fronts text are past c (inl r) = inl r
      fronts text are past c (inr (operations, closing, (heading, planned), (rows, rest, taken, r))) =
          let (front, behind, split, same) = fronts_of_asks texts.said apart operations rows rest taken in
          inr (
            text,
            heading,
            operations,
            closing,
            are,
            planned,
            (
              front,
              behind,
              split,
              subst (λ (h : List Entry). Recovers scheme c h) (after_rows_of_asks semantics Error past front)
                  (subst (λ (l : List (Result Operation Error)). Recovers scheme c (after_rows semantics past l)) same r),
            ),
          )

      -- a round, whatever it came to
      pub moments_of_headed : (ended : Result (Unit {0}) SessionStop) (past : List Entry) (old new : D) → IsHonest (disk.tells old) → EachImage (disk.tells old) (λ file. Recovers scheme file past)
          → HeadedSession disk scheme semantics texts plans limit old new input output ended → EachMoment (disk.tells old) (disk.tells new) (RecoversHeaded scheme semantics plans input past)
      moments_of_headed ended past old new honest each (unread stop why same silent) =
          subst (λ (d : D). EachMoment (disk.tells old) (disk.tells d) (RecoversHeaded scheme semantics plans input past)) (sym same)
          (started (disk.tells old) (RecoversHeaded scheme semantics plans input past) (λ c since. inl (each c (only old c honest since))))
      moments_of_headed ended past old new honest each (read text _ is are headed) =
          let (behind, inner, planned, well) = beneath (plans text) output ended old new headed in
          weaken (disk.tells old) (disk.tells new) (RecoversPlanned scheme semantics texts (Beneath (plans text)) past) (RecoversHeaded scheme semantics plans input past) (fronts text are past)
          (moments_of_planned disk scheme semantics only texts once here (Beneath (plans text)) behind inner past old new honest each planned)

      -- and what one leaves that ended well
      pub stands_of_headed : (ended : Result (Unit {0}) SessionStop) (past : List Entry) (old new : D) → ended ≡ Ok tt → IsHonest (disk.tells old) → Recovers scheme (disk.tells old).reads past
          → HeadedSession disk scheme semantics texts plans limit old new input output ended → HeadedStands scheme semantics plans input past (disk.tells new)
      stands_of_headed ended past old new well honest reads (unread stop why same silent) = absurd (let bad : ⊥ = cc in bad)
      stands_of_headed ended past old new well honest reads (read text _ is are headed) =
          let (behind, inner, planned, also) = beneath (plans text) output ended old new headed in
          let (operations, closing, rows, (heading, stood), said, images) = images_of_planned disk scheme semantics only texts once here (Beneath (plans text)) behind inner past old new (also well) honest reads planned in (
            text,
            heading,
            operations,
            closing,
            are,
            stood,
            subst (λ (h : List Entry). EachImage (disk.tells new) (λ file. Recovers scheme file h)) (after_rows_of_asks semantics Error past operations)
                (subst (λ (l : List (Result Operation Error)). EachImage (disk.tells new) (λ file. Recovers scheme file (after_rows semantics past l))) (rows_are_asks texts.said apart operations rows said) images),
          )
