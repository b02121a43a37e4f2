-- What was made of a list, step by step.
use Rattle.std.proofs.Common.{◌≡◌, ℕ, ◌+◌, ◌<◌, length, List, [], ◌∷◌, ◌++◌, reverse, take, get_or, None, ap, sym, subst, ◌∙◌, append-nil, append_assoc}
use Rattle.std.proofs.lemmas.List.{reverse-append, take_more}
use Rattle.aid_filings.specs.declared.filing.Filing.{Filing}
use Rattle.log_stamps.specs.declared.entry.StampedEntry.{StampedEntry}
use Rattle.office_amends.specs.Amended.{gathered}
use Rattle.office_amends.specs.Stood.{Makes}
use Rattle.office_amends.specs.Texts.{told_behind, told_put}
use Rattle.office_amends.specs.declared.amending.Amended.{Amended}
use Rattle.office_amends.specs.declared.correction.Correction.{Correction}

-- a line and what follows it, told as one
pub told_as_one : (list : List (StampedEntry Filing)) (text line rest : List ℕ) (a : Amended) → Makes list ((text ++ line) ++ rest) a → Makes list (text ++ (line ++ rest)) a
told_as_one list text line rest a made = subst (λ (t : List ℕ). Makes list t a) (append_assoc text line rest) made

-- what is told of more entries
told_put-append : (front : ℕ → Filing → List ℕ) (list newer older : List (StampedEntry Filing))
    → told_put front list (newer ++ older) ≡ told_put front list older ++ told_put front (older ++ list) newer
told_put-append front list [] older = sym (append-nil (told_put front list older))
told_put-append front list (e ∷ newer) older =
    let line : List (StampedEntry Filing) → List ℕ = λ behind. front (length behind + 1) e.entry in
    let rest : List (StampedEntry Filing) → List ℕ = λ behind. told_behind behind e.entry None in
    let all = newer ++ (older ++ list) in
    (λ i. (told_put-append front list newer older i ++ line (append_assoc newer older list i)) ++ rest (append_assoc newer older list i))
    ∙ ap (λ t. t ++ rest all) (append_assoc (told_put front list older) (told_put front (older ++ list) newer) (line all))
    ∙ append_assoc (told_put front list older) (told_put front (older ++ list) newer ++ line all) (rest all)

-- what one correction more brings
gathered-more : (bring : Correction → List (StampedEntry Filing)) (cs : List Correction) (c : Correction) → gathered bring (cs ++ c ∷ []) ≡ bring c ++ gathered bring cs
gathered-more bring [] c = sym (append-nil (bring c))
gathered-more bring (d ∷ cs) c = ap (λ list. list ++ bring d) (gathered-more bring cs c) ∙ append_assoc (bring c) (gathered bring cs) (bring d)

-- a correction more
pub put_more : (front : ℕ → Filing → List ℕ) (bring : Correction → List (StampedEntry Filing)) (list : List (StampedEntry Filing)) (text : List ℕ) (cs : List Correction) (i : ℕ) (c : Correction) (a : Amended)
    → i < length cs → c ≡ get_or cs i c
    → Makes (bring c ++ (gathered bring (take i cs) ++ list)) ((text ++ told_put front list (gathered bring (take i cs))) ++ told_put front (gathered bring (take i cs) ++ list) (bring c)) a
    → Makes (gathered bring (take (i + 1) cs) ++ list) (text ++ told_put front list (gathered bring (take (i + 1) cs))) a
put_more front bring list text cs i c a lt at made =
    let older = gathered bring (take i cs) in
    let more : gathered bring (take (i + 1) cs) ≡ bring c ++ older =
    ap (gathered bring) (take_more cs i c lt ∙ ap (λ (d : Correction). take i cs ++ d ∷ []) (sym at)) ∙ gathered-more bring (take i cs) c in
    let one : (text ++ told_put front list older) ++ told_put front (older ++ list) (bring c) ≡ text ++ told_put front list (bring c ++ older) =
    append_assoc text (told_put front list older) (told_put front (older ++ list) (bring c)) ∙ ap (λ t. text ++ t) (sym (told_put-append front list (bring c) older)) in
    subst (λ (now : List (StampedEntry Filing)). Makes (now ++ list) (text ++ told_put front list now) a) (sym more)
    (subst (λ (l : List (StampedEntry Filing)). Makes l (text ++ told_put front list (bring c ++ older)) a) (sym (append_assoc (bring c) older list))
    (subst (λ (t : List ℕ). Makes (bring c ++ (older ++ list)) t a) one made))

-- an item more is one more at the head of those that are read from the last on
pub item_more : {A : Type 0} (xs : List A) (i : ℕ) (x : A) → i < length xs → x ≡ get_or xs i x → reverse (take (i + 1) xs) ≡ x ∷ reverse (take i xs)
item_more {A = A} xs i x lt at =
    ap (λ (l : List A). reverse l) (take_more xs i x lt) ∙ reverse-append (take i xs) (get_or xs i x ∷ []) ∙ ap (λ (y : A). y ∷ reverse (take i xs)) (sym at)
