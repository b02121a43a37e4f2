-- Chains: what is kept of a filing that passes a test is the position of the one before it that passes.
use Rattle.std.proofs.Common.{◌≡◌, ℕ, ◌+◌, ◌-◌, ◌<◌, ◌≤◌, refl, sym, ap, subst, ◌∙◌, arith, cond, Bool, true, false, List, [], ◌∷◌, ◌++◌, length, reverse, get_or, append_assoc, length-append, eqb-true}
use Rattle.std.specs.Prelude.{◌==◌}
use Rattle.std.proofs.Math.Seq.{get_or-append_seam}
use Rattle.std.proofs.lemmas.List.{get_or_append_left, length-reverse, reverse-reverse}
use Rattle.std.proofs.lemmas.Bool.{and_parts}
use Rattle.aid_types.specs.declared.number.Key.{Key}
use Rattle.aid_filings.specs.declared.filing.Filing.{Filing}
use Rattle.aid_filings.specs.declared.filing.What.{What}
use Rattle.aid_filings.specs.declared.filing.What.TheVariants.{Book, School, Calendar, Prior, Apply, Enroll, Originate, Pay, Withdraw, Repay, Adjust, Cost, Sent, Amend}
use Rattle.office_history.proofs.Oldest.{reverse-middle}
use Rattle.office_history.specs.FirstEnrollments.{is_first, is_first_in, is_first_of, passing}
use Rattle.office_updates.specs.Links.{before_in, befores_of, is_term_of, last_at, newest_place, newest_term}

-- none of the newer filings passes, each after those before it
abbrev pub NonePass : (List Filing → Filing → Bool) → List Filing → List Filing → Type 0
NonePass p [] older = Unit {0}
NonePass p (f ∷ newer) older = (p (newer ++ older) f ≡ false) × NonePass p newer older

-- the newest filing of a history that passes, with the newer ones, of which none passes, and the older ones
pub record Newest (p : List Filing → Filing → Bool) (past : List Filing) : Type 0 where
  pub filing : Filing
  pub newer : List Filing
  pub older : List Filing
  pub split : past ≡ newer ++ filing ∷ older
  pub place : length older + 1 ≡ last_at p past
  pub passes : p older filing ≡ true
  pub none : NonePass p newer (filing ∷ older)

module _ (p : List Filing → Filing → Bool) where
  pub newest : (past : List Filing) → 0 < last_at p past → Newest p past
  newest [] h = absurd (omega arith)
  newest (f ∷ past) h = go (p past f) refl h (newest past)
    where
      go : (b : Bool) → p past f ≡ b → 0 < cond b (length past + 1) (last_at p past) → (0 < last_at p past → Newest p past) → Newest p (f ∷ past)
      go true e h ih = record {
        filing = f;
        newer = [];
        older = past;
        split = refl;
        place = rw e refl;
        passes = e;
        none = tt;
      }
      go false e h ih =
          let w = ih h in
          record {
            filing = w.filing;
            newer = f ∷ w.newer;
            older = w.older;
            split = ap (λ (l : List Filing). f ∷ l) w.split;
            place = rw e w.place;
            passes = w.passes;
            none = (sym (ap (λ (l : List Filing). p l f) w.split) ∙ e, w.none);
          }

  pub last_within : (past : List Filing) → last_at p past ≤ length past
  last_within [] = omega arith
  last_within (f ∷ past) = go (p past f) (last_within past)
    where
      go : (b : Bool) → last_at p past ≤ length past → cond b (length past + 1) (last_at p past) ≤ length (f ∷ past)
      go true ih = omega arith
      go false ih = omega arith

-- the one before a filing that passes is the newest before it that passes
abbrev pub Tells : (List Filing → Filing → Bool) → Type 0
Tells p = (older : List Filing) (f : Filing) → p older f ≡ true → before_in older f.key.school f.what ≡ last_at p older

pub terms_tell : (school : ℕ) → Tells (λ older. is_term_of school)
terms_tell school older f h = go f.key f.what h
  where
    of_school : (key : Key) (b : Bool) → (key.school == school) ≡ b → cond b true false ≡ true → key.school ≡ school
    of_school key true e h = eqb-true key.school school e
    of_school key false e h = absurd cc

    other : (b : Bool) → cond b false false ≡ true → ⊥
    other true h = cc
    other false h = cc

    go : (key : Key) (w : What) → is_term_of school (record { key = key; what = w }) ≡ true → before_in older key.school w ≡ newest_term older school
    go key (Calendar c) h = ap (newest_term older) (of_school key (key.school == school) refl h)
    go key (Book b) h = absurd (other (key.school == school) h)
    go key (School s) h = absurd (other (key.school == school) h)
    go key (Prior b) h = absurd (other (key.school == school) h)
    go key (Apply b) h = absurd (other (key.school == school) h)
    go key (Enroll b) h = absurd (other (key.school == school) h)
    go key (Originate b) h = absurd (other (key.school == school) h)
    go key (Pay b) h = absurd (other (key.school == school) h)
    go key (Withdraw b) h = absurd (other (key.school == school) h)
    go key (Repay b) h = absurd (other (key.school == school) h)
    go key (Adjust b) h = absurd (other (key.school == school) h)
    go key (Cost b) h = absurd (other (key.school == school) h)
    go key (Sent b) h = absurd (other (key.school == school) h)
    go key (Amend b) h = absurd (other (key.school == school) h)

pub enrollments_tell : (student : ℕ) → Tells (is_first_of student)
enrollments_tell student older f h = go f.key f.what h
  where
    own : (b : Bool) (n m : ℕ) → n ≡ m → b ≡ true → cond b n 0 ≡ m
    own true n m e h = e
    own false n m e h = absurd cc

    go : (key : Key) (w : What) → is_first_in student older key.school w ≡ true → before_in older key.school w ≡ newest_place older student
    go key (Enroll e) h =
        let parts = and_parts (e.student == student) (is_first older key.school e) h in
        own (is_first older key.school e) _ _ (ap (newest_place older) (eqb-true e.student student parts.0)) parts.1
    go key (Book b) h = absurd cc
    go key (School s) h = absurd cc
    go key (Calendar b) h = absurd cc
    go key (Prior b) h = absurd cc
    go key (Apply b) h = absurd cc
    go key (Originate b) h = absurd cc
    go key (Pay b) h = absurd cc
    go key (Withdraw b) h = absurd cc
    go key (Repay b) h = absurd cc
    go key (Adjust b) h = absurd cc
    go key (Cost b) h = absurd cc
    go key (Sent b) h = absurd cc
    go key (Amend b) h = absurd cc

-- where the one before the filing at an index stands
pub befores_length : (past : List Filing) → length (befores_of past) ≡ length past
befores_length [] = refl
befores_length (f ∷ past) =
    let ih = befores_length past in
    omega (arith, length-append (befores_of past) (before_in past f.key.school f.what ∷ []))

befores_at : (newer older : List Filing) (f : Filing) (d : ℕ) → get_or (befores_of (newer ++ f ∷ older)) (length older) d ≡ before_in older f.key.school f.what
befores_at [] older f d =
    let own = before_in older f.key.school f.what in
    subst (λ (n : ℕ). get_or (befores_of older ++ own ∷ []) n d ≡ own) (befores_length older) (get_or-append_seam (befores_of older) own [] d)
befores_at (g ∷ newer) older f d =
    let rest = newer ++ f ∷ older in
    let inside : length older < length (befores_of rest) = omega (arith, befores_length rest, length-append newer (f ∷ older)) in
    get_or_append_left (befores_of rest) (before_in rest g.key.school g.what ∷ []) d (length older) inside ∙ befores_at newer older f d

-- the filing at an index of a list that has the oldest first
read_at : (h newer older : List Filing) (f d : Filing) → reverse h ≡ newer ++ f ∷ older → get_or h (length older) d ≡ f
read_at h newer older f d e =
    let turned : h ≡ reverse older ++ f ∷ reverse newer =
    sym (reverse-reverse h) ∙ ap (λ (l : List Filing). reverse l) e ∙ reverse-middle newer older f in
    ap (λ (l : List Filing). get_or l (length older) d) turned
    ∙ subst (λ (n : ℕ). get_or (reverse older ++ f ∷ reverse newer) n d ≡ f) (length-reverse older) (get_or-append_seam (reverse older) f (reverse newer) d)

-- a walk along a chain comes to a position with these older filings before it
pub record IsAlong (p : List Filing → Filing → Bool) (past older : List Filing) (position : ℕ) : Type 0 where
  pub newer : List Filing
  pub split : past ≡ newer ++ older
  pub here : position ≡ last_at p older

-- one step of a walk: the filing at the position, with where the one before it stands, and the filings that the walk has before
-- it afterwards
pub record IsStep (p : List Filing → Filing → Bool) (h : List Filing) (befores : List ℕ) (older : List Filing) (position : ℕ) : Type 0 where
  pub filing : Filing
  pub skipped : List Filing
  pub rest : List Filing
  pub split : older ≡ skipped ++ filing ∷ rest
  pub none : NonePass p skipped (filing ∷ rest)
  pub passes : p rest filing ≡ true
  pub place : length rest + 1 ≡ position
  pub inside : position - 1 < length h
  pub inside_befores : position - 1 < length befores
  pub read : (d : Filing) → get_or h (position - 1) d ≡ filing
  pub along : (d : ℕ) → IsAlong p (reverse h) rest (get_or befores (position - 1) d)
  pub lower : (d : ℕ) → get_or befores (position - 1) d < position

pub along_start : (p : List Filing → Filing → Bool) (past : List Filing) (n : ℕ) → n ≡ last_at p past → IsAlong p past past n
along_start p past n e = record { newer = []; split = refl; here = e }

pub along_end : (p : List Filing → Filing → Bool) (past older : List Filing) (n : ℕ) → IsAlong p past older n → n ≡ 0 → last_at p older ≡ 0
along_end p past older n a e = sym a.here ∙ e

pub along_step : (p : List Filing → Filing → Bool) (h : List Filing) (befores : List ℕ) (older : List Filing) (n : ℕ) → Tells p →
    befores ≡ befores_of (reverse h) → IsAlong p (reverse h) older n → 0 < n → IsStep p h befores older n
along_step p h befores older n tells linked a pos =
    let here = a.here in
    let w = newest p older (omega arith) in
    let front = a.newer ++ w.newer in
    let whole : reverse h ≡ front ++ w.filing ∷ w.older =
    a.split ∙ ap (λ (l : List Filing). a.newer ++ l) w.split ∙ sym (append_assoc a.newer w.newer (w.filing ∷ w.older)) in
    let place : length w.older + 1 ≡ n = w.place ∙ sym here in
    let index : length w.older ≡ n - 1 = omega arith in
    let size : length h ≡ length front + (length w.older + 1) =
    omega (arith, length-reverse h, ap (λ (l : List Filing). length l) whole, length-append front (w.filing ∷ w.older)) in
    let size_befores : length befores ≡ length h = omega (arith, ap (λ (l : List ℕ). length l) linked, befores_length (reverse h), length-reverse h) in
    let next : (d : ℕ) → get_or befores (n - 1) d ≡ last_at p w.older =
    λ d. ap (λ (l : List ℕ). get_or l (n - 1) d) (linked ∙ ap befores_of whole)
    ∙ ap (λ (i : ℕ). get_or (befores_of (front ++ w.filing ∷ w.older)) i d) (sym index)
    ∙ befores_at front w.older w.filing d
    ∙ tells w.older w.filing w.passes in
    record {
      filing = w.filing;
      skipped = w.newer;
      rest = w.older;
      split = w.split;
      none = w.none;
      passes = w.passes;
      place = place;
      inside = omega arith;
      inside_befores = omega arith;
      read = λ d. ap (λ (i : ℕ). get_or h i d) (sym index) ∙ read_at h front w.older w.filing d whole;
      along = λ d. record { newer = front ++ w.filing ∷ []; split = whole ∙ sym (append_assoc front (w.filing ∷ []) w.older); here = next d };
      lower = λ d. let e = next d in let l = last_within p w.older in omega arith;
    }

-- what looks only at the filings that pass leaves out those that don't
module _ {B : Type 0} (F : List Filing → B) (p : List Filing → Filing → Bool) (out : (f : Filing) (past : List Filing) → p past f ≡ false → F (f ∷ past) ≡ F past) where
  pub skip : (skipped older : List Filing) → NonePass p skipped older → F (skipped ++ older) ≡ F older
  skip [] older h = refl
  skip (f ∷ skipped) older h = out f (skipped ++ older) h.0 ∙ skip skipped older h.1

  pub skip_all : (older : List Filing) → last_at p older ≡ 0 → F older ≡ F []
  skip_all [] h = refl
  skip_all (f ∷ older) h = go (p older f) refl h (skip_all older)
    where
      go : (b : Bool) → p older f ≡ b → cond b (length older + 1) (last_at p older) ≡ 0 → (last_at p older ≡ 0 → F older ≡ F []) → F (f ∷ older) ≡ F []
      go true e h ih = absurd (omega arith)
      go false e h ih = out f older e ∙ ih h

-- the filings that pass, of which the first is that of a step
pub passing_step : (p : List Filing → Filing → Bool) (h : List Filing) (befores : List ℕ) (older : List Filing) (n : ℕ) (s : IsStep p h befores older n) →
    passing p older ≡ s.filing ∷ passing p s.rest
passing_step p h befores older n s =
    ap (passing p) s.split ∙ skip (passing p) p (λ f past fails. rw fails refl) s.skipped (s.filing ∷ s.rest) s.none ∙ rw s.passes refl

pub passing_end : (p : List Filing → Filing → Bool) (older : List Filing) → last_at p older ≡ 0 → passing p older ≡ []
passing_end p older h = skip_all (passing p) p (λ f past fails. rw fails refl) older h
