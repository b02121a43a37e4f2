-- Two lists with one seal are one list, or show a collision.
use Rattle.std.proofs.Common.{◌≡◌, ◌≢◌, ◌∙◌, refl, sym, ap, arith, ℕ, ◌⊎◌, inl, inr, Bool, true, false, List, [], ◌∷◌, ◌++◌, length, take, length-append, codes, bytes_eq}
use Rattle.std.specs.Prelude.{if◌then◌else◌}
use Rattle.std.specs.Int.{to_le_bytes, w32}
use Rattle.std.proofs.lemmas.List.{append_cancel_left, take_at}
use Rattle.std.proofs.lemmas.Slice.Eq.{bytes_eq-Decides}
use Rattle.sha2.specs.Sha256.{sha256}
use Rattle.sha2.proofs.Facts256.{length-sha256}
use Rattle.aid_seals.specs.Seals.{AreOne, IsCollision, IsName, clash, first_message, first_of, framed, message, seal}

-- fronts of one length, of lists that are one, are one
pub same_fronts : (a b x y : List ℕ) → length a ≡ length b → a ++ x ≡ b ++ y → a ≡ b
same_fronts a b x y long same = sym (take_at a x (length b) long) ∙ ap (take (length b)) same ∙ take_at b y (length b) refl

pub same_rests : (a b x y : List ℕ) → a ≡ b → a ++ x ≡ b ++ y → x ≡ y
same_rests a b x y fronts same = append_cancel_left a x y (same ∙ ap (λ (front : List ℕ). front ++ y) (sym fronts))

pub length-seal : (name : List ℕ) (past : List (List ℕ)) → length (seal name past) ≡ 32
length-seal name [] = length-sha256 (first_message name)
length-seal name (entry ∷ past) = length-sha256 (seal name past ++ framed entry)

pub seal-message : (name : List ℕ) (past : List (List ℕ)) → seal name past ≡ sha256 (message name past)
seal-message name [] = refl
seal-message name (entry ∷ past) = refl

length-frame : (entry : List ℕ) → length (to_le_bytes w32 (length entry)) ≡ 4
length-frame entry = refl

-- entries behind their counts
pub same_framed : (one other : List ℕ) → framed one ≡ framed other → one ≡ other
same_framed one other same =
    let fronts = same_fronts (to_le_bytes w32 (length one)) (to_le_bytes w32 (length other)) one other (length-frame one ∙ sym (length-frame other)) same in
    same_rests (to_le_bytes w32 (length one)) (to_le_bytes w32 (length other)) one other fronts same

-- the message of no entry is no message of one
short_long : (name : List ℕ) → IsName name → (other_name : List ℕ) (entry : List ℕ) (past : List (List ℕ)) → first_message name ≢ message other_name (entry ∷ past)
short_long name short other_name entry past same =
    let one = length-append (codes "dalthyrm seal 1 ") name in
    let few : length (codes "dalthyrm seal 1 ") ≡ 16 = refl in
    let other = length-append (seal other_name past) (framed entry) in
    let front = length-seal other_name past in
    let body = length-append (to_le_bytes w32 (length entry)) entry in
    let count = length-frame entry in
    let both : length (first_message name) ≡ length (message other_name (entry ∷ past)) = ap length same in
    omega (arith, one, few, other, front, body, count, both, short)

-- both are empty
both_empty : (name other_name : List ℕ) → seal name [] ≡ seal other_name [] → AreOne name [] other_name [] ⊎ IsCollision (clash name [] other_name [])
both_empty name other_name same = go (bytes_eq (first_message name) (first_message other_name)) refl
  where
    go : (b : Bool) → bytes_eq (first_message name) (first_message other_name) ≡ b → AreOne name [] other_name [] ⊎ IsCollision (clash name [] other_name [])
    go true is = inl (record {
      names = append_cancel_left (codes "dalthyrm seal 1 ") name other_name ((bytes_eq-Decides (first_message name) (first_message other_name)).0 is);
      lists = refl;
    })
    go false is = inr (record {
      differ = λ e. let yes = (bytes_eq-Decides (first_message name) (first_message other_name)).1 e in let bad : ⊥ = cc in bad;
      same = same;
    })

-- messages that are one are of one seal before and of one entry
same_messages : (name : List ℕ) (past : List (List ℕ)) (e : List ℕ) (other_name : List ℕ) (others : List (List ℕ)) (f : List ℕ)
    → message name (e ∷ past) ≡ message other_name (f ∷ others) → (seal name past ≡ seal other_name others) × (e ≡ f)
same_messages name past e other_name others f same =
    let fronts = same_fronts (seal name past) (seal other_name others) (framed e) (framed f) (length-seal name past ∙ sym (length-seal other_name others)) same in
    (fronts, same_framed e f (same_rests (seal name past) (seal other_name others) (framed e) (framed f) fronts same))

-- lists that are one are so with one entry more, and a collision of theirs is one of the longer lists
grown : (name : List ℕ) (past : List (List ℕ)) (e : List ℕ) (other_name : List ℕ) (others : List (List ℕ)) (f : List ℕ) → e ≡ f
    → AreOne name past other_name others ⊎ IsCollision (clash name past other_name others)
    → AreOne name (e ∷ past) other_name (f ∷ others) ⊎ IsCollision (clash name past other_name others)
grown name past e other_name others f one (inl same) = inl (record { names = same.names; lists = ap (λ (first : List ℕ). first ∷ past) one ∙ ap (λ (rest : List (List ℕ)). f ∷ rest) same.lists })
grown name past e other_name others f one (inr collision) = inr collision

-- The lists and their names are one, or the newest messages that differ are a collision.
pub one_or_clash : (name : List ℕ) (past : List (List ℕ)) (other_name : List ℕ) (other : List (List ℕ)) → IsName name → IsName other_name → seal name past ≡ seal other_name other
    → AreOne name past other_name other ⊎ IsCollision (clash name past other_name other)
one_or_clash name [] other_name [] short also same = both_empty name other_name same
one_or_clash name [] other_name (f ∷ others) short also same = inr (record { differ = short_long name short other_name f others; same = same })
one_or_clash name (e ∷ past) other_name [] short also same =
    inr (record { differ = λ is. short_long other_name also name e past (sym is); same = same })
one_or_clash name (e ∷ past) other_name (f ∷ others) short also same = go (bytes_eq (message name (e ∷ past)) (message other_name (f ∷ others))) refl (one_or_clash name past other_name others short also)
  where
    go : (b : Bool) → bytes_eq (message name (e ∷ past)) (message other_name (f ∷ others)) ≡ b
        → (seal name past ≡ seal other_name others → AreOne name past other_name others ⊎ IsCollision (clash name past other_name others))
        → AreOne name (e ∷ past) other_name (f ∷ others) ⊎ IsCollision (if b then clash name past other_name others else (message name (e ∷ past), message other_name (f ∷ others)))
    go true is before =
        let parts = same_messages name past e other_name others f ((bytes_eq-Decides _ _).0 is) in
        grown name past e other_name others f parts.1 (before parts.0)
    go false is before = inr (record {
      differ = λ e. let yes = (bytes_eq-Decides _ _).1 e in let bad : ⊥ = cc in bad;
      same = same;
    })

-- a list begins with the one whose seal its first entries have, or there is a collision
pub begins_or_clash : (name : List ℕ) (noted past : List (List ℕ)) (front : ℕ) → IsName name → seal name (first_of front past) ≡ seal name noted
    → (first_of front past ≡ noted) ⊎ IsCollision (clash name (first_of front past) name noted)
begins_or_clash name noted past front short same = go (one_or_clash name (first_of front past) name noted short short same)
  where
    go : AreOne name (first_of front past) name noted ⊎ IsCollision (clash name (first_of front past) name noted)
        → (first_of front past ≡ noted) ⊎ IsCollision (clash name (first_of front past) name noted)
    go (inl one) = inl one.lists
    go (inr collision) = inr collision
