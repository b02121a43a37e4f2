-- What seats know, and what the list has by their turns, under each change of the views.
use Rattle.std.proofs.Common.{◌≡◌, ℕ, zero, suc, ◌+◌, ◌-◌, ◌<◌, ◌≤◌, ◌^◌, ◌⊎◌, inl, inr, ⊎_elim, List, [], ◌∷◌, ◌++◌, Option, Some, None, length, set, refl, sym, ap, ap₂, ◌∙◌, append_assoc, subst, arith, length-append}
use Rattle.std.specs.Prelude.{Contains, IsPermutation}
use Rattle.std.specs.List.{sum_by, flat_map}
use Rattle.std.proofs.lemmas.List.{append-nil}
use Rattle.std.proofs.lemmas.List.Sums.{sum_by-cons, sum_by-append}
use Rattle.std.proofs.lemmas.List.Sorted.{IsPermutation-sym, IsPermutation-trans, IsPermutation-append, IsPermutation-append_comm}
use Rattle.std.proofs.lemmas.List.Elements.{Contains-append_left, Contains-append_right, Contains-append_cases}
use Rattle.std.proofs.lemmas.Grind.{flat_map-append}
use mathlib.Core.Logic.{dite}
use mathlib.Core.Option.{some, some-injective}
use native.Mathlib.Decide.{ℕ_discrete}
use lib.ListN.{get_elem?}
use Rattle.atomic_table.proofs.Lists.{at_set, at_snoc, at_longer, set_here, set_else}
use Rattle.log_lock.specs.declared.turned.Snapshot.{Snapshot}
use Rattle.log_lock.specs.declared.view.View.{View}
use Rattle.log_lock.specs.Turning.{RoseBy, TakesRoom}
use Rattle.log_lock.specs.Passes.{IsOlder, numbered}
use Rattle.log_lock.specs.Views.{IsOpen, newcomer, with_less, with_part, with_other, with_longer, longer, longer_by}
use Rattle.log_lock.specs.Rule.{entries, HasNothing, Knows, LeftBy, Accounts, Moves, Rooms}
use Rattle.log_lock.proofs.Lists.{none_some, got, sum_set, older_refl, older_nil, older_trans, older_both, numbered_append, contains_none, by_columns, flat_set_same, flat_set_more, flat_join}

rose_on : (m n old mid new : ℕ) → RoseBy m old mid → RoseBy n mid new → mid ≤ new ⊎ (2 ^ 64 - 1 ≤ new) → RoseBy (m + n) old new
rose_on m n old mid new one other later =
    ⊎_elim
    (λ (a : old + m ≤ mid). ⊎_elim (λ (b : mid + n ≤ new). inl (omega (arith, a, b))) (λ (b : 2 ^ 64 - 1 ≤ new). inr b) other)
    (λ (a : 2 ^ 64 - 1 ≤ mid). ⊎_elim (λ (b : mid ≤ new). inr (omega (arith, a, b))) (λ (b : 2 ^ 64 - 1 ≤ new). inr b) later)
    one

rose_later : (n old new : ℕ) → RoseBy n old new → (old ≤ new) ⊎ (2 ^ 64 - 1 ≤ new)
rose_later n old new rose = ⊎_elim (λ (a : old + n ≤ new). inl (omega (arith, a))) (λ (b : 2 ^ 64 - 1 ≤ new). inr b) rose

rose_same : (m n old new : ℕ) → m ≡ n → RoseBy n old new → RoseBy m old new
rose_same m n old new e rose = subst (λ k. RoseBy k old new) (sym e) rose

module _ {E : Type 0} where
  pub nothing : HasNothing (newcomer {E = E} 0)
  nothing = record { mine = refl; settled = refl; left = refl; faults = refl; wants = refl; turns = refl }

  no_entries : (v : View E) → HasNothing v → entries v ≡ []
  no_entries v none = ap₂ (λ l m. l ++ m) none.mine none.settled

  -- what was known stays so
  pub knows_later : (start now new : Snapshot E) (v : View E) → IsOlder now.list new.list → Knows start now v → Knows start new v
  knows_later start now new v older k = record {
    opening = k.opening;
    seen = older_trans v.seen now.list new.list k.seen older;
    also = older_trans v.also now.list new.list k.also older;
    nothing = k.nothing;
  }

  pub knows_number : (start now : Snapshot E) (v : View E) (n : Option ℕ) (base : Option (Snapshot E)) → Knows start now v → Knows start now (record v { number = n; base = base })
  knows_number start now v n base k = record { opening = k.opening; seen = k.seen; also = k.also; nothing = λ e. let none = k.nothing e in record { mine = none.mine; settled = none.settled; left = none.left; faults = none.faults; wants = none.wants; turns = none.turns } }

  pub knows_served : (start now : Snapshot E) (v : View E) (base : Option (Snapshot E)) (room : ℕ) → Knows start now v → Knows start now (record v { base = base; held = room })
  knows_served start now v base room k =
      record { opening = k.opening; seen = k.seen; also = k.also; nothing = λ e. let none = k.nothing e in record { mine = none.mine; settled = none.settled; left = none.left; faults = none.faults; wants = none.wants; turns = none.turns } }

  -- of two older parts the longer one has both
  longer_case : (n : ℕ) (one other list : List E) → length other - length one ≡ n → IsOlder one list → IsOlder other list
      → IsOlder one (longer_by n one other) × IsOlder other (longer_by n one other) × IsOlder (longer_by n one other) list × ((longer_by n one other ≡ one) ⊎ (longer_by n one other ≡ other))
  longer_case zero one other list e p q = (older_refl one, older_both list other one q p (omega (arith, e)), p, inl refl)
  longer_case (suc n) one other list e p q = (older_both list one other p q (omega (arith, e)), older_refl other, q, inr refl)

  pub longer_is : (one other list : List E) → IsOlder one list → IsOlder other list
      → IsOlder one (longer one other) × IsOlder other (longer one other) × IsOlder (longer one other) list × ((longer one other ≡ one) ⊎ (longer one other ≡ other))
  longer_is one other list p q = longer_case (length other - length one) one other list refl p q

  pub longer_either : (one other : List E) → (longer one other ≡ one) ⊎ (longer one other ≡ other)
  longer_either one other = go (length other - length one)
    where
      go : (n : ℕ) → (longer_by n one other ≡ one) ⊎ (longer_by n one other ≡ other)
      go zero = inl refl
      go (suc n) = inr refl

  pub knows_longer : (start now : Snapshot E) (v : View E) → Knows start now v → Knows start now (with_longer v)
  knows_longer start now v k = record {
    opening = k.opening;
    seen = (longer_is v.seen v.also now.list k.seen k.also).2;
    also = older_nil now.list;
    nothing = λ e. let none = k.nothing e in record { mine = none.mine; settled = none.settled; left = none.left; faults = none.faults; wants = none.wants; turns = none.turns };
  }

  has_share : (start : Snapshot E) (v : View E) → 1 ≤ v.allowance → (v.opening ≡ Some start) ⊎ ((v.opening ≡ None) × (v.allowance ≡ 0)) → v.opening ≡ Some start
  has_share start v share opening = ⊎_elim (λ (is : v.opening ≡ Some start). is) (λ none. absurd (omega (arith, share, none.1))) opening

  pub knows_less : (start now : Snapshot E) (v : View E) (n : ℕ) → n < v.allowance → Knows start now v → Knows start now (with_less n v)
  knows_less start now v n lt k = record {
    opening = inl (has_share start v (omega (arith, lt)) k.opening);
    seen = k.seen;
    also = k.also;
    nothing = λ e. absurd (omega (arith, lt, e));
  }

  pub knows_part : (start now : Snapshot E) (v : View E) (n : ℕ) → n < v.allowance → Knows start now v → Knows start now (with_part n v)
  knows_part start now v n lt k = record {
    opening = inl (has_share start v (omega (arith, lt)) k.opening);
    seen = k.seen;
    also = k.also;
    nothing = λ e. record { mine = refl; settled = refl; left = refl; faults = refl; wants = refl; turns = refl };
  }

  pub knows_spent : (start now : Snapshot E) → Knows start now (newcomer 0)
  knows_spent start now = record {
    opening = inr (refl, refl);
    seen = older_nil now.list;
    also = older_nil now.list;
    nothing = λ e. nothing;
  }

  open_start : (start : Snapshot E) (v : View E) → IsOpen v → (v.opening ≡ Some start) ⊎ ((v.opening ≡ None) × (v.allowance ≡ 0)) → v.opening ≡ Some start
  open_start start v is opening = ⊎_elim (λ (e : v.opening ≡ Some start). e) (λ none. absurd (none_some (sym none.0 ∙ is.1))) opening

  pub knows_other : (start now : Snapshot E) (v w : View E) → IsOpen v → Knows start now v → Knows start now w → Knows start now (with_other v w)
  knows_other start now v w is k r = record {
    opening = inl (open_start start v is k.opening);
    seen = k.seen;
    also = r.seen;
    nothing = λ e. let a = k.nothing (omega (arith, e)) in let b = r.nothing (omega (arith, e)) in record {
      mine = ap₂ (λ l m. l ++ m) a.mine b.mine;
      settled = ap₂ (λ l m. l ++ m) a.settled b.settled;
      left = ap₂ (λ l m. l ++ m) a.left b.left;
      faults = omega (arith, a.faults, b.faults);
      wants = omega (arith, a.wants, b.wants);
      turns = omega (arith, a.turns, b.turns);
    };
  }

  pub knows_end : (start now new : Snapshot E) (v w : View E) → 1 ≤ v.allowance → IsOlder now.list new.list → w.opening ≡ v.opening → w.seen ≡ new.list → w.also ≡ v.also → w.allowance ≡ v.allowance
      → Knows start now v → Knows start new w
  knows_end start now new v w share older opening seen also allowance k = record {
    opening = inl (opening ∙ has_share start v share k.opening);
    seen = subst (λ l. IsOlder l new.list) (sym seen) (older_refl new.list);
    also = subst (λ l. IsOlder l new.list) (sym also) (older_trans v.also now.list new.list k.also older);
    nothing = λ e. absurd (omega (arith, e, allowance, share));
  }

  -- some seat left it, and the seat that changes has at least what it had
  left_set : (views : List (View E)) (id : ℕ) (v w : View E) (entry : ℕ × E) → get_elem? views id ≡ some v → (Contains v.left entry → Contains w.left entry) → LeftBy views entry → LeftBy (set views id w) entry
  left_set views id v w entry at keeps (j, u, at_j, has) =
      dite (ℕ_discrete j id)
      (λ (same : j ≡ id). let is : u ≡ v = some-injective u v (sym at_j ∙ (ap (get_elem? views) same ∙ at)) in
      (id, w, set_here views id w (got views id v at).0, keeps (subst (λ (x : View E). Contains x.left entry) is has)))
      (λ (other : ¬ (j ≡ id)). (j, u, set_else views id j w other ∙ at_j, has))

  -- the seat changes nothing that counts
  pub accounts_set : (start now : Snapshot E) (views : List (View E)) (id : ℕ) (v w : View E) → get_elem? views id ≡ some v
      → w.mine ≡ v.mine → w.settled ≡ v.settled → w.left ≡ v.left → w.faults ≡ v.faults
      → Accounts start now views → Accounts start now (set views id w)
  accounts_set start now views id v w at mine settled left faults a =
      let keeps : (entry : ℕ × E) → LeftBy views entry → LeftBy (set views id w) entry = λ entry. left_set views id v w entry at (λ h. subst (λ l. Contains l entry) (sym left) h) in
      record {
        added = a.added;
        list = a.list;
        once = subst (IsPermutation (numbered (length start.list) a.added)) (sym (flat_set_same (λ (u : View E). entries u) views id v w at (ap₂ (λ l m. l ++ m) mine settled))) a.once;
        settled = λ j u entry at_j has. ⊎_elim
            (λ (t : (j ≡ id) × (w ≡ u)). keeps entry (a.settled id v entry at (subst (λ l. Contains l entry) (sym (ap (λ (x : View E). x.settled) t.1) ∙ settled) has)))
            (λ t. keeps entry (a.settled j u entry t.1 has))
            (at_set views id j w u at_j);
        pending = λ entry is. keeps (length now.list + 1, entry) (a.pending entry is);
        faults = rose_same (sum_by (λ (u : View E). u.faults) (set views id w)) (sum_by (λ (u : View E). u.faults) views) start.faults now.faults (omega (arith, sum_set (λ (u : View E). u.faults) views id v w at, faults)) a.faults;
        still = λ none. a.still (omega (arith, sum_set (λ (u : View E). u.faults) views id v w at, faults, none));
        fixed = a.fixed;
      }

  -- a seat comes that has nothing
  pub accounts_snoc : (start now : Snapshot E) (views : List (View E)) (r : View E) → HasNothing r
      → Accounts start now views → Accounts start now (views ++ r ∷ [])
  accounts_snoc start now views r none a =
      let keeps : (entry : ℕ × E) → LeftBy views entry → LeftBy (views ++ r ∷ []) entry = λ entry by. (by.0, by.1, at_longer views (r ∷ []) by.0 by.1 by.2, by.3) in
      record {
        added = a.added;
        list = a.list;
        once = subst (IsPermutation (numbered (length start.list) a.added)) (sym (flat_map-append (λ (u : View E). entries u) views (r ∷ []) ∙ (ap (λ l. flat_map (λ (u : View E). entries u) views ++ (l ++ [])) (no_entries r none) ∙ append-nil (flat_map (λ (u : View E). entries u) views)))) a.once;
        settled = λ j u entry at_j has. ⊎_elim
            (λ t. keeps entry (a.settled j u entry t has))
            (λ (t : r ≡ u). absurd (contains_none u.settled entry (ap (λ (x : View E). x.settled) (sym t) ∙ none.settled) has))
            (at_snoc views r u j at_j);
        pending = λ entry is. keeps (length now.list + 1, entry) (a.pending entry is);
        faults = rose_same (sum_by (λ (u : View E). u.faults) (views ++ r ∷ [])) (sum_by (λ (u : View E). u.faults) views) start.faults now.faults (omega (arith, sum_by-append (λ (u : View E). u.faults) views (r ∷ []), sum_by-cons (λ (u : View E). u.faults) r [], none.faults)) a.faults;
        still = λ calm. a.still (omega (arith, sum_by-append (λ (u : View E). u.faults) views (r ∷ []), calm));
        fixed = a.fixed;
      }

  -- the seat ends a turn
  pub accounts_end : (start now new : Snapshot E) (views : List (View E)) (id : ℕ) (v w : View E) (mine settled left : List (ℕ × E)) (faults : ℕ)
      → get_elem? views id ≡ some v → Moves now new mine settled left faults
      → w.mine ≡ v.mine ++ mine → w.settled ≡ v.settled ++ settled → w.left ≡ v.left ++ left → w.faults ≡ v.faults + faults
      → Accounts start now views → Accounts start new (set views id w)
  accounts_end start now new views id v w mine settled left faults at m mine_is settled_is left_is faults_is a =
      let of : View E → List (ℕ × E) = λ (u : View E). entries u in
      let keeps : (entry : ℕ × E) → LeftBy views entry → LeftBy (set views id w) entry = λ entry. left_set views id v w entry at (λ h. subst (λ l. Contains l entry) (sym left_is) (Contains-append_left v.left left entry h)) in
      let place : length start.list + length a.added ≡ length now.list = omega (arith, ap length a.list, length-append a.added start.list) in
      let grows : IsPermutation (entries w) ((mine ++ settled) ++ entries v) =
      IsPermutation-trans (entries w) ((v.mine ++ v.settled) ++ (mine ++ settled)) ((mine ++ settled) ++ entries v)
      (subst (λ l. IsPermutation l ((v.mine ++ v.settled) ++ (mine ++ settled))) (sym (ap₂ (λ l k. l ++ k) mine_is settled_is)) (by_columns v.mine v.settled mine settled))
      (IsPermutation-append_comm (v.mine ++ v.settled) (mine ++ settled)) in
      let all : IsPermutation (numbered (length start.list) (m.added ++ a.added)) ((mine ++ settled) ++ flat_map of views) =
      subst (λ l. IsPermutation l ((mine ++ settled) ++ flat_map of views)) (sym (numbered_append (length start.list) m.added a.added ∙ ap (λ n. numbered n m.added ++ numbered (length start.list) a.added) place))
      (IsPermutation-append (numbered (length now.list) m.added) (mine ++ settled) (numbered (length start.list) a.added) (flat_map of views) m.once a.once) in
      record {
        added = m.added ++ a.added;
        list = m.list ∙ (ap (λ l. m.added ++ l) a.list ∙ sym (append_assoc m.added a.added start.list));
        once = IsPermutation-trans (numbered (length start.list) (m.added ++ a.added)) ((mine ++ settled) ++ flat_map of views) (flat_map of (set views id w)) all
            (IsPermutation-sym (flat_map of (set views id w)) ((mine ++ settled) ++ flat_map of views) (flat_set_more of views id v w (mine ++ settled) at grows));
        settled = λ j u entry at_j has. ⊎_elim
            (λ (t : (j ≡ id) × (w ≡ u)). ⊎_elim
            (λ (old : Contains v.settled entry). keeps entry (a.settled id v entry at old))
            (λ (now_so : Contains settled entry). let (was, at_next) = m.earlier entry now_so in
            subst (λ (p : ℕ). LeftBy (set views id w) (p, entry.1)) (sym at_next) (keeps (length now.list + 1, entry.1) (a.pending entry.1 was)))
            (Contains-append_cases v.settled settled entry (subst (λ l. Contains l entry) (sym (ap (λ (x : View E). x.settled) t.1) ∙ settled_is) has)))
            (λ t. keeps entry (a.settled j u entry t.1 has))
            (at_set views id j w u at_j);
        pending = λ entry is. ⊎_elim
            (λ (here : Contains left (length new.list + 1, entry)). (id, w, set_here views id w (got views id v at).0, subst (λ l. Contains l (length new.list + 1, entry)) (sym left_is) (Contains-append_right v.left left (length new.list + 1, entry) here)))
            (λ (old : (now.pending ≡ Some entry) × (new.list ≡ now.list)). subst (λ (l : List E). LeftBy (set views id w) (length l + 1, entry)) (sym old.1) (keeps (length now.list + 1, entry) (a.pending entry old.0)))
            (m.pending entry is);
        faults = rose_same (sum_by (λ (u : View E). u.faults) (set views id w)) (sum_by (λ (u : View E). u.faults) views + faults) start.faults new.faults (omega (arith, sum_set (λ (u : View E). u.faults) views id v w at, faults_is))
            (rose_on (sum_by (λ (u : View E). u.faults) views) faults start.faults now.faults new.faults a.faults m.rose (rose_later faults now.faults new.faults m.rose));
        still = λ calm.
            let all = sum_set (λ (u : View E). u.faults) views id v w at in
            let before : sum_by (λ (u : View E). u.faults) views ≡ 0 = omega (arith, all, faults_is, calm) in
            let none : faults ≡ 0 = omega (arith, all, faults_is, calm) in
            m.still none ∙ a.still before;
        fixed = m.fixed ∙ a.fixed;
      }

  -- the seat takes all that another one has
  pub accounts_join : (start now : Snapshot E) (views : List (View E)) (id other : ℕ) (v w b r : View E) → get_elem? views id ≡ some v → ¬ (other ≡ id) → get_elem? (set views id b) other ≡ some w
      → b.mine ≡ v.mine ++ w.mine → b.settled ≡ v.settled ++ w.settled → b.left ≡ v.left ++ w.left → b.faults ≡ v.faults + w.faults → HasNothing r
      → Accounts start now views → Accounts start now (set (set views id b) other r)
  accounts_join start now views id other v w b r at differs at_other mine settled left faults none a =
      let of : View E → List (ℕ × E) = λ (u : View E). entries u in
      let one : List (View E) = set views id b in
      let at_old : get_elem? views other ≡ some w = sym (set_else views id other b differs) ∙ at_other in
      let here : get_elem? (set one other r) id ≡ some b = set_else one other id r (λ e. differs (sym e)) ∙ set_here views id b (got views id v at).0 in
      let keeps : (entry : ℕ × E) → LeftBy views entry → LeftBy (set one other r) entry = λ entry by.
      let (j, u, at_j, has) = by in
      dite (ℕ_discrete j other)
      (λ (same : j ≡ other). let is : u ≡ w = some-injective u w (sym at_j ∙ (ap (get_elem? views) same ∙ at_old)) in
      (id, b, here, subst (λ l. Contains l entry) (sym left) (Contains-append_right v.left w.left entry (subst (λ (x : View E). Contains x.left entry) is has))))
      (λ (else_ : ¬ (j ≡ other)). dite (ℕ_discrete j id)
      (λ (same : j ≡ id). let is : u ≡ v = some-injective u v (sym at_j ∙ (ap (get_elem? views) same ∙ at)) in
      (id, b, here, subst (λ l. Contains l entry) (sym left) (Contains-append_left v.left w.left entry (subst (λ (x : View E). Contains x.left entry) is has))))
      (λ (third : ¬ (j ≡ id)). (j, u, set_else one other j r else_ ∙ (set_else views id j b third ∙ at_j), has))) in
      let both : IsPermutation (entries b) (entries w ++ entries v) =
      IsPermutation-trans (entries b) (entries v ++ entries w) (entries w ++ entries v)
      (subst (λ l. IsPermutation l (entries v ++ entries w)) (sym (ap₂ (λ l k. l ++ k) mine settled)) (by_columns v.mine v.settled w.mine w.settled))
      (IsPermutation-append_comm (entries v) (entries w)) in
      record {
        added = a.added;
        list = a.list;
        once = IsPermutation-trans (numbered (length start.list) a.added) (flat_map of views) (flat_map of (set one other r)) a.once
            (IsPermutation-sym (flat_map of (set one other r)) (flat_map of views) (flat_join of views id other v w b r at at_old differs both (no_entries r none)));
        settled = λ j u entry at_j has. ⊎_elim
            (λ (t : (j ≡ other) × (r ≡ u)). absurd (contains_none u.settled entry (ap (λ (x : View E). x.settled) (sym t.1) ∙ none.settled) has))
            (λ t. ⊎_elim
            (λ (s : (j ≡ id) × (b ≡ u)). ⊎_elim
            (λ (old : Contains v.settled entry). keeps entry (a.settled id v entry at old))
            (λ (new : Contains w.settled entry). keeps entry (a.settled other w entry at_old new))
            (Contains-append_cases v.settled w.settled entry (subst (λ l. Contains l entry) (sym (ap (λ (x : View E). x.settled) s.1) ∙ settled) has)))
            (λ s. keeps entry (a.settled j u entry s.1 has))
            (at_set views id j b u t.1))
            (at_set one other j r u at_j);
        pending = λ entry is. keeps (length now.list + 1, entry) (a.pending entry is);
        faults = rose_same (sum_by (λ (u : View E). u.faults) (set one other r)) (sum_by (λ (u : View E). u.faults) views) start.faults now.faults
            (omega (arith, sum_set (λ (u : View E). u.faults) views id v b at, sum_set (λ (u : View E). u.faults) one other w r at_other, faults, none.faults)) a.faults;
        still = λ calm. a.still (omega (arith, sum_set (λ (u : View E). u.faults) views id v b at, sum_set (λ (u : View E). u.faults) one other w r at_other, faults, none.faults, calm));
        fixed = a.fixed;
      }

  -- the same of the room that the turns took: the seat changes nothing that counts
  pub rooms_set : (before room : ℕ) (views : List (View E)) (id : ℕ) (v w : View E) → get_elem? views id ≡ some v → w.wants ≡ v.wants → w.turns ≡ v.turns → Rooms before room views → Rooms before room (set views id w)
  rooms_set before room views id v w at wants turns r =
      let all_wants = sum_set (λ (u : View E). u.wants) views id v w at in
      let all_turns = sum_set (λ (u : View E). u.turns) views id v w at in
      record {
        taken = omega (arith, all_wants, all_turns, wants, turns, r.taken);
        wanted = λ some_want. let old = r.wanted (omega (arith, all_wants, wants, some_want)) in omega (arith, all_wants, all_turns, wants, turns, old);
      }

  -- a seat comes that has nothing
  pub rooms_snoc : (before room : ℕ) (views : List (View E)) (r : View E) → HasNothing r → Rooms before room views → Rooms before room (views ++ r ∷ [])
  rooms_snoc before room views r none old =
      let wants : sum_by (λ (u : View E). u.wants) (views ++ r ∷ []) ≡ sum_by (λ (u : View E). u.wants) views =
      omega (arith, sum_by-append (λ (u : View E). u.wants) views (r ∷ []), sum_by-cons (λ (u : View E). u.wants) r [], none.wants) in
      let turns : sum_by (λ (u : View E). u.turns) (views ++ r ∷ []) ≡ sum_by (λ (u : View E). u.turns) views =
      omega (arith, sum_by-append (λ (u : View E). u.turns) views (r ∷ []), sum_by-cons (λ (u : View E). u.turns) r [], none.turns) in
      record {
        taken = omega (arith, wants, turns, old.taken);
        wanted = λ some_want. let known = old.wanted (omega (arith, wants, some_want)) in omega (arith, wants, turns, known);
      }

  -- the seat ends a turn
  pub rooms_end : (before room new wants : ℕ) (views : List (View E)) (id : ℕ) (v w : View E) → get_elem? views id ≡ some v → TakesRoom wants room new → w.wants ≡ v.wants + wants → w.turns ≡ v.turns + 1
      → Rooms before room views → Rooms before new (set views id w)
  rooms_end before room new wants views id v w at takes wants_is turns_is r =
      let all_wants = sum_set (λ (u : View E). u.wants) views id v w at in
      let all_turns = sum_set (λ (u : View E). u.turns) views id v w at in
      record {
        taken = omega (arith, all_wants, all_turns, wants_is, turns_is, r.taken, takes.1);
        wanted = λ some_want. dite (ℕ_discrete (sum_by (λ (u : View E). u.wants) views) 0)
            (λ (first : sum_by (λ (u : View E). u.wants) views ≡ 0). let none = takes.2 (omega (arith, all_wants, wants_is, some_want, first)) in
            omega (arith, all_wants, all_turns, wants_is, turns_is, first, none, r.taken, takes.0))
            (λ (more : ¬ (sum_by (λ (u : View E). u.wants) views ≡ 0)). let old = r.wanted (omega (arith, more)) in
            omega (arith, all_wants, all_turns, wants_is, turns_is, old, takes.0));
      }

  -- the seat takes all that another one has
  pub rooms_join : (before room : ℕ) (views : List (View E)) (id other : ℕ) (v w b r : View E) → get_elem? views id ≡ some v → get_elem? (set views id b) other ≡ some w
      → b.wants ≡ v.wants + w.wants → b.turns ≡ v.turns + w.turns → HasNothing r → Rooms before room views → Rooms before room (set (set views id b) other r)
  rooms_join before room views id other v w b r at at_other wants_is turns_is none old =
      let one : List (View E) = set views id b in
      let wants : sum_by (λ (u : View E). u.wants) (set one other r) ≡ sum_by (λ (u : View E). u.wants) views =
      omega (arith, sum_set (λ (u : View E). u.wants) views id v b at, sum_set (λ (u : View E). u.wants) one other w r at_other, wants_is, none.wants) in
      let turns : sum_by (λ (u : View E). u.turns) (set one other r) ≡ sum_by (λ (u : View E). u.turns) views =
      omega (arith, sum_set (λ (u : View E). u.turns) views id v b at, sum_set (λ (u : View E). u.turns) one other w r at_other, turns_is, none.turns) in
      record {
        taken = omega (arith, wants, turns, old.taken);
        wanted = λ some_want. let known = old.wanted (omega (arith, wants, some_want)) in omega (arith, wants, turns, known);
      }
