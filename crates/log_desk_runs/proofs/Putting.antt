-- The texts of desks, and of rows that were admitted, written one after the other.
use Rattle.std.proofs.Common.{◌≡◌, ℕ, zero, suc, ◌+◌, ◌<◌, ◌≤◌, List, [], ◌∷◌, ◌++◌, length, take, drop, get_or, refl, sym, ap, ◌∙◌, subst, arith, append-nil, append_assoc}
use Rattle.std.proofs.lemmas.List.{take_all}
use Rattle.io_traits.specs.declared.sink.Sink.{Ghosts}
use Rattle.log_desks.specs.Desks.{DeskView}
use Rattle.log_machine.specs.declared.names.RowName.{RowName}
use Rattle.log_desks.specs.DeskTexts.{desk_text}
use Rattle.log_runs.specs.Puts.{HasPut, HasCut}
use Rattle.log_runs.proofs.Puts.{cut_early, cut_then, put_then}
use Rattle.log_desk_runs.specs.DeskTexts.{desks_text, admitted_line, admitted_text, stop_line}

-- all lines of a desk
abbrev pub lines_of_desk : {Entry Lines : Type 0} → DeskView Entry Lines → List ℕ
lines_of_desk desk = desk_text (stop_line desk.prefix) desk

-- ---- the texts of desks, and of rows that were admitted, up to one of them
desks_split_at : {Entry Lines : Type 0} (desks : List (DeskView Entry Lines)) (k : ℕ) (d : DeskView Entry Lines) → k < length desks
    → desks_text desks ≡ desks_text (take k desks) ++ (lines_of_desk (get_or desks k d) ++ desks_text (drop (suc k) desks))
desks_split_at [] k d lt = absurd (omega (arith, lt))
desks_split_at (x ∷ desks) zero d lt = refl
desks_split_at (x ∷ desks) (suc k) d lt = ap (λ l. lines_of_desk x ++ l) (desks_split_at desks k d (omega (arith, lt)))
    ∙ sym (append_assoc (lines_of_desk x) (desks_text (take k desks)) (lines_of_desk (get_or desks k d) ++ desks_text (drop (suc k) desks)))

desks_more_at : {Entry Lines : Type 0} (desks : List (DeskView Entry Lines)) (k : ℕ) (d : DeskView Entry Lines) → k < length desks
    → desks_text (take (suc k) desks) ≡ desks_text (take k desks) ++ lines_of_desk (get_or desks k d)
desks_more_at [] k d lt = absurd (omega (arith, lt))
desks_more_at (x ∷ desks) zero d lt = append-nil (lines_of_desk x)
desks_more_at (x ∷ desks) (suc k) d lt = ap (λ l. lines_of_desk x ++ l) (desks_more_at desks k d (omega (arith, lt)))
    ∙ sym (append_assoc (lines_of_desk x) (desks_text (take k desks)) (lines_of_desk (get_or desks k d)))

next : (k : ℕ) → suc k ≡ k + 1
next k = omega arith

desks_split : {Entry Lines : Type 0} (desks : List (DeskView Entry Lines)) (k : ℕ) (d : DeskView Entry Lines) → k < length desks
    → desks_text desks ≡ desks_text (take k desks) ++ (lines_of_desk (get_or desks k d) ++ desks_text (drop (k + 1) desks))
desks_split desks k d lt = subst (λ (m : ℕ). desks_text desks ≡ desks_text (take k desks) ++ (lines_of_desk (get_or desks k d) ++ desks_text (drop m desks))) (next k) (desks_split_at desks k d lt)

desks_more : {Entry Lines : Type 0} (desks : List (DeskView Entry Lines)) (k : ℕ) (d : DeskView Entry Lines) → k < length desks
    → desks_text (take (k + 1) desks) ≡ desks_text (take k desks) ++ lines_of_desk (get_or desks k d)
desks_more desks k d lt = subst (λ (m : ℕ). desks_text (take m desks) ≡ desks_text (take k desks) ++ lines_of_desk (get_or desks k d)) (next k) (desks_more_at desks k d lt)

admitted_split_at : (position : ℕ) (rows : List RowName) (k : ℕ) (d : RowName) → k < length rows
    → admitted_text position rows ≡ admitted_text position (take k rows) ++ (admitted_line (position + k) (get_or rows k d) ++ admitted_text (position + k + 1) (drop (suc k) rows))
admitted_split_at position [] k d lt = absurd (omega (arith, lt))
admitted_split_at position (x ∷ rows) zero d lt = ap (λ (n : ℕ). admitted_line n x ++ admitted_text (n + 1) rows) (let same : position ≡ position + 0 = omega arith in same)
admitted_split_at position (x ∷ rows) (suc k) d lt =
    let same : (position + 1) + k ≡ position + suc k = omega arith in
    ap (λ l. admitted_line position x ++ l) (admitted_split_at (position + 1) rows k d (omega (arith, lt))
    ∙ ap (λ (n : ℕ). admitted_text (position + 1) (take k rows) ++ (admitted_line n (get_or rows k d) ++ admitted_text (n + 1) (drop (suc k) rows))) same)
    ∙ sym (append_assoc (admitted_line position x) (admitted_text (position + 1) (take k rows)) (admitted_line (position + suc k) (get_or rows k d) ++ admitted_text (position + suc k + 1) (drop (suc k) rows)))

admitted_more_at : (position : ℕ) (rows : List RowName) (k : ℕ) (d : RowName) → k < length rows
    → admitted_text position (take (suc k) rows) ≡ admitted_text position (take k rows) ++ admitted_line (position + k) (get_or rows k d)
admitted_more_at position [] k d lt = absurd (omega (arith, lt))
admitted_more_at position (x ∷ rows) zero d lt = append-nil (admitted_line position x) ∙ ap (λ (n : ℕ). admitted_line n x) (let same : position ≡ position + 0 = omega arith in same)
admitted_more_at position (x ∷ rows) (suc k) d lt =
    let same : (position + 1) + k ≡ position + suc k = omega arith in
    ap (λ l. admitted_line position x ++ l) (admitted_more_at (position + 1) rows k d (omega (arith, lt))
    ∙ ap (λ (n : ℕ). admitted_text (position + 1) (take k rows) ++ admitted_line n (get_or rows k d)) same)
    ∙ sym (append_assoc (admitted_line position x) (admitted_text (position + 1) (take k rows)) (admitted_line (position + suc k) (get_or rows k d)))

admitted_split : (position : ℕ) (rows : List RowName) (k : ℕ) (d : RowName) → k < length rows
    → admitted_text position rows ≡ admitted_text position (take k rows) ++ (admitted_line (position + k) (get_or rows k d) ++ admitted_text (position + k + 1) (drop (k + 1) rows))
admitted_split position rows k d lt = subst (λ (m : ℕ). admitted_text position rows ≡ admitted_text position (take k rows) ++ (admitted_line (position + k) (get_or rows k d) ++ admitted_text (position + k + 1) (drop m rows))) (next k) (admitted_split_at position rows k d lt)

admitted_more : (position : ℕ) (rows : List RowName) (k : ℕ) (d : RowName) → k < length rows
    → admitted_text position (take (k + 1) rows) ≡ admitted_text position (take k rows) ++ admitted_line (position + k) (get_or rows k d)
admitted_more position rows k d lt = subst (λ (m : ℕ). admitted_text position (take m rows) ≡ admitted_text position (take k rows) ++ admitted_line (position + k) (get_or rows k d)) (next k) (admitted_more_at position rows k d lt)

module _ {K Entry Lines : Type 0} (sink : Ghosts K) (desks : List (DeskView Entry Lines)) (k : ℕ) (old mid new : K) where
  pub desks_put : (x : DeskView Entry Lines) → k < length desks → x ≡ get_or desks k x → HasPut sink (desks_text (take k desks)) old mid → HasPut sink (lines_of_desk x) mid new
      → HasPut sink (desks_text (take (k + 1) desks)) old new
  desks_put x lt is p q =
      subst (λ t. HasPut sink t old new) (sym (desks_more desks k x lt ∙ ap (λ y. desks_text (take k desks) ++ lines_of_desk y) (sym is)))
      (put_then sink (desks_text (take k desks)) (lines_of_desk x) old mid new p q)

  pub desks_cut : (x : DeskView Entry Lines) → k < length desks → x ≡ get_or desks k x → HasPut sink (desks_text (take k desks)) old mid → HasCut sink (lines_of_desk x) mid new
      → HasCut sink (desks_text desks) old new
  desks_cut x lt is p q =
      let rest = desks_text (drop (k + 1) desks) in
      subst (λ t. HasCut sink t old new) (sym (desks_split desks k x lt ∙ ap (λ y. desks_text (take k desks) ++ (lines_of_desk y ++ rest)) (sym is)))
      (cut_then sink (desks_text (take k desks)) (lines_of_desk x ++ rest) old mid new p (cut_early sink (lines_of_desk x) rest mid new q))

  pub desks_end : length desks ≤ k → HasPut sink (desks_text (take k desks)) old mid → HasPut sink (desks_text desks) old mid
  desks_end le p = subst (λ ds. HasPut sink (desks_text ds) old mid) (take_all k desks le) p

module _ {K : Type 0} (sink : Ghosts K) (position : ℕ) (rows : List RowName) (k : ℕ) (old mid new : K) where
  pub rows_put : (x : RowName) (at : ℕ) → k < length rows → x ≡ get_or rows k x → at ≡ position + k → HasPut sink (admitted_text position (take k rows)) old mid → HasPut sink (admitted_line at x) mid new
      → HasPut sink (admitted_text position (take (k + 1) rows)) old new
  rows_put x at lt is here p q =
      subst (λ t. HasPut sink t old new) (sym (admitted_more position rows k x lt ∙ (ap (λ y. admitted_text position (take k rows) ++ admitted_line (position + k) y) (sym is) ∙ ap (λ n. admitted_text position (take k rows) ++ admitted_line n x) (sym here))))
      (put_then sink (admitted_text position (take k rows)) (admitted_line at x) old mid new p q)

  pub rows_cut : (x : RowName) (at : ℕ) → k < length rows → x ≡ get_or rows k x → at ≡ position + k → HasPut sink (admitted_text position (take k rows)) old mid → HasCut sink (admitted_line at x) mid new
      → HasCut sink (admitted_text position rows) old new
  rows_cut x at lt is here p q =
      let rest = admitted_text (position + k + 1) (drop (k + 1) rows) in
      subst (λ t. HasCut sink t old new) (sym (admitted_split position rows k x lt ∙ (ap (λ y. admitted_text position (take k rows) ++ (admitted_line (position + k) y ++ rest)) (sym is) ∙ ap (λ n. admitted_text position (take k rows) ++ (admitted_line n x ++ rest)) (sym here))))
      (cut_then sink (admitted_text position (take k rows)) (admitted_line at x ++ rest) old mid new p (cut_early sink (admitted_line at x) rest mid new q))

  pub rows_end : length rows ≤ k → HasPut sink (admitted_text position (take k rows)) old mid → HasPut sink (admitted_text position rows) old mid
  rows_end le p = subst (λ rs. HasPut sink (admitted_text position rs) old mid) (take_all k rows le) p
