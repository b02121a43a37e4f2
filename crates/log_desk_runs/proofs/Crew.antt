-- What the desks filed, from the opening of the lock to its end.
use Rattle.std.proofs.Common.{◌≡◌, ℕ, zero, suc, ◌<◌, List, [], ◌∷◌, Option, length, drop, get_or, slice_index_or, ap, ◌∙◌, subst, arith}
use Rattle.std.specs.List.{All}
use Rattle.atomic_table.specs.Seated.{TableId}
use Rattle.log_machine.specs.Scheme.{Semantics}
use Rattle.log_machine.specs.Texts.{Texts}
use Rattle.log_machine.specs.declared.names.Filed.{Filed}
use Rattle.log_desks.specs.Answered.{Files}
use Rattle.log_desks.specs.Desks.{DeskView, IsReady, Ran, Works, all_shown, shown_of}
use Rattle.log_lock.specs.declared.turned.Snapshot.{Snapshot}
use Rattle.log_desk_runs.specs.RanDesksOn.{FilesOwn, HasFiled}

-- what is shown of lists of desks is shown of each of them
pub shown_at : {Entry Lines : Type 0} (xs ys : List (DeskView Entry Lines)) → all_shown xs ≡ all_shown ys → (k : ℕ) (d : DeskView Entry Lines) → k < length ys → shown_of (get_or xs k d) ≡ shown_of (get_or ys k d)
shown_at xs [] same k d lt = absurd (omega (arith, lt))
shown_at [] (y ∷ ys) same k d lt = absurd (let sizes : 0 ≡ suc (length (all_shown ys)) = ap length same in omega (arith, sizes))
shown_at (x ∷ xs) (y ∷ ys) same zero d lt = ap (λ l. get_or l 0 (shown_of y)) same
shown_at (x ∷ xs) (y ∷ ys) same (suc k) d lt = shown_at xs ys (ap (drop 1) same) k d (omega (arith, lt))

module _ {Entry Operation Response Error Lines : Type 0} (semantics : Semantics Entry Operation Response) (own copied : Operation → Option Entry) (texts : Texts Operation Response Error) (left : Lines → List texts.Meaning) where
  files_own : (lock : TableId) (opening : Snapshot (Filed Entry)) (before opened worked : DeskView Entry Lines) → shown_of opened ≡ shown_of before → IsReady lock opening opened → Works semantics own copied texts left lock opened worked
      → FilesOwn semantics own copied texts left opening before worked
  files_own lock opening before opened worked shown ready works =
      let ends = works.ends opening ready in
      let number : opened.number ≡ before.number = ap (λ s. s.0) shown in
      let prefix : opened.prefix ≡ before.prefix = ap (λ s. s.1) shown in
      let rows : left opened.rows ≡ left before.rows = ap (λ s. left s.2) shown in
      record {
        number = works.number ∙ number;
        prefix = works.prefix ∙ prefix;
        ended = ends.ended;
        known = ends.handle;
        has = ends.has;
        opening_is = ends.opening_is;
        files =
            subst (λ n. Files semantics own copied texts n before.prefix (left before.rows) worked.text worked.answered worked.ended worked.last ends.handle) number
            (subst (λ p. Files semantics own copied texts opened.number p (left before.rows) worked.text worked.answered worked.ended worked.last ends.handle) prefix
            (subst (λ l. Files semantics own copied texts opened.number opened.prefix l worked.text worked.answered worked.ended worked.last ends.handle) rows (works.files ends.handle ends.has)));
      }

  pub has_filed : (lock : TableId) (opening snapshot closed : Snapshot (Filed Entry)) (before opened worked after : List (DeskView Entry Lines)) → opening ≡ snapshot → length opened ≡ length before → length worked ≡ length opened
      → all_shown opened ≡ all_shown before → All (IsReady lock opening) opened
      → ((k : ℕ) (d : DeskView Entry Lines) → k < length opened → Works semantics own copied texts left lock (slice_index_or opened k d) (slice_index_or worked k d))
      → Ran opening closed worked → all_shown after ≡ all_shown worked → HasFiled semantics own copied texts left snapshot closed before after
  has_filed lock opening snapshot closed before opened worked after is one other same ready works ran shown =
      subst (λ o. HasFiled semantics own copied texts left o closed before after) is (record {
        desks = worked;
        count = other ∙ one;
        each = λ k d lt. let inside : k < length opened = omega (arith, lt, one) in
            files_own lock opening (get_or before k d) (get_or opened k d) (get_or worked k d) (shown_at opened before same k d lt) (ready k d inside) (works k d inside);
        ran = ran;
        shown = shown;
      })
