-- The seals of the fronts of a desk's list.
use Rattle.std.proofs.Common.{◌≡◌, ℕ, ◌+◌, ◌-◌, ◌<◌, ◌≤◌, Bool, true, Some, List, [], ◌∷◌, ◌++◌, append-nil, ap, arith, codes, decimal, drop, get_or, length, map, reverse, sym, take, take-append-drop, ◌∙◌}
use Rattle.std.specs.Prelude.{nat_le, if◌then◌else◌}
use Rattle.std.proofs.Math.Seq.{drop-append_seam}
use Rattle.std.proofs.lemmas.Bool.{le-leb}
use Rattle.std.specs.List.{concat}
use Rattle.std.proofs.lemmas.List.{drop-map, length-drop, length-map, length-reverse, length-take-le, reverse-append, take_all, take_more}
use Rattle.std.proofs.lemmas.List.Folds.{concat-append}
use Rattle.aid_seals.specs.Seals.{next_seal, sealed_line}
use Rattle.log_machine.specs.Scheme.{Scheme}
use Rattle.log_rules.specs.Ruled.{history_of}
use Rattle.log_rules.specs.declared.rules.Filed.{Filed}
use Rattle.desk_sheets.specs.Sheets.{front_of, list_seal, seal_lines, seal_text, seals_text, text_on, text_upto}
use Rattle.desk_sheets.specs.declared.request.DeskSheet.{DeskSheet}

-- the first line is that of no filing
pub lines-none : {Entry : Type 0} (scheme : Scheme Entry) (seal none out : List ℕ) → seal ≡ list_seal scheme [] → none ≡ [] → out ≡ none ++ sealed_line 0 seal → out ≡ concat (seal_lines scheme [])
lines-none scheme seal none out is nothing e = e ∙ (λ j. nothing j ++ sealed_line 0 (is j)) ∙ sym (append-nil (seal_text scheme []))

module _ {Entry Outcome : Type 0} (scheme : Scheme Entry) where
  -- as many filings as the list has
  pub size : (h : List (Filed Entry Outcome)) → length (history_of h) ≡ length h
  size h = length-map (reverse h) (λ f. f.entry) ∙ length-reverse h

  module _ (h : List (Filed Entry Outcome)) (i : ℕ) (f : Filed Entry Outcome) (lt : i < length h) (at : f ≡ get_or h i f) where
    -- a front one longer, read newest first
    longer : history_of (take (i + 1) h) ≡ f.entry ∷ history_of (take i h)
    longer =
        ap (λ (l : List (Filed Entry Outcome)). history_of l) (take_more h i f lt)
        ∙ ap (λ (l : List (Filed Entry Outcome)). map (λ (g : Filed Entry Outcome). g.entry) l) (reverse-append (take i h) (get_or h i f ∷ []))
        ∙ ap (λ (g : Filed Entry Outcome). g.entry ∷ history_of (take i h)) (sym at)

    -- its seal
    pub seal-more : (before after : List ℕ) → before ≡ list_seal scheme (history_of (take i h)) → after ≡ next_seal before (scheme.spelling f.entry)
        → after ≡ list_seal scheme (history_of (take (i + 1) h))
    seal-more before after is e =
        e ∙ ap (λ (b : List ℕ). next_seal b (scheme.spelling f.entry)) is ∙ sym (ap (λ (past : List Entry). list_seal scheme past) longer)

    -- and the lines up to it
    pub lines-more : (after out more : List ℕ) → after ≡ list_seal scheme (history_of (take (i + 1) h)) → out ≡ concat (seal_lines scheme (history_of (take i h)))
        → more ≡ out ++ sealed_line (i + 1) after → more ≡ concat (seal_lines scheme (history_of (take (i + 1) h)))
    lines-more after out more sealed is e =
        let past = history_of (take i h) in
        let line = seal_text scheme (f.entry ∷ past) in
        let count : i + 1 ≡ length (f.entry ∷ past) = omega (arith, size (take i h), length-take-le i h (omega (arith, lt))) in
        let its_seal : after ≡ list_seal scheme (f.entry ∷ past) = sealed ∙ ap (λ (p : List Entry). list_seal scheme p) longer in
        let its_line : sealed_line (i + 1) after ≡ line = λ j. sealed_line (count j) (its_seal j) in
        e ∙ (λ j. is j ++ its_line j) ∙ ap (λ (last : List ℕ). concat (seal_lines scheme past) ++ last) (sym (append-nil line))
        ∙ sym (concat-append (seal_lines scheme past) (line ∷ [])) ∙ sym (ap (λ (p : List Entry). concat (seal_lines scheme p)) longer)

  module _ (h : List (Filed Entry Outcome)) (i : ℕ) (all : length h ≤ i) where
    whole : history_of (take i h) ≡ history_of h
    whole = ap (λ (l : List (Filed Entry Outcome)). history_of l) (take_all i h all)

    -- the line of the seal of all
    pub line-whole : (seal none out : List ℕ) → seal ≡ list_seal scheme (history_of (take i h)) → none ≡ [] → out ≡ none ++ sealed_line (length h) seal → out ≡ seal_text scheme (history_of h)
    line-whole seal none out is nothing e =
        let its_seal : seal ≡ list_seal scheme (history_of h) = is ∙ ap (λ (p : List Entry). list_seal scheme p) whole in
        let count : length h ≡ length (history_of h) = sym (size h) in
        e ∙ (λ j. nothing j ++ sealed_line (count j) (its_seal j))

    -- all lines, and how many they are
    pub lines-whole : (out more : List ℕ) → out ≡ concat (seal_lines scheme (history_of (take i h))) → more ≡ out ++ codes "rows " ++ decimal (length h + 1) ++ codes "\n"
        → more ≡ seals_text scheme (history_of h)
    lines-whole out more is e =
        let lines : out ≡ concat (seal_lines scheme (history_of h)) = is ∙ ap (λ (p : List Entry). concat (seal_lines scheme p)) whole in
        let count : length h ≡ length (history_of h) = sym (size h) in
        e ∙ (λ j. lines j ++ codes "rows " ++ decimal (count j + 1) ++ codes "\n")

-- the first filings of a list that is read oldest first are the last of it read newest first
reverse-take : {A : Type 0} (n : ℕ) (xs : List A) → n ≤ length xs → reverse (take n xs) ≡ drop (length xs - n) (reverse xs)
reverse-take {A} n xs few =
    let newer = reverse (drop n xs) in
    let older = reverse (take n xs) in
    let split : newer ++ older ≡ reverse xs = sym (reverse-append (take n xs) (drop n xs)) ∙ ap (λ (l : List A). reverse l) (take-append-drop n xs) in
    let many : length newer ≡ length xs - n = omega (arith, length-reverse (drop n xs), length-drop n xs) in
    sym (drop-append_seam newer older) ∙ ap (λ (k : ℕ). drop k (newer ++ older)) many ∙ ap (λ (l : List A). drop (length xs - n) l) split

module _ {Entry Outcome : Type 0} (scheme : Scheme Entry) (h : List (Filed Entry Outcome)) (n : ℕ) (sheet : DeskSheet) where
  front : n ≤ length h → history_of (take n h) ≡ front_of n (history_of h)
  front few =
      ap (λ (l : List (Filed Entry Outcome)). map (λ (f : Filed Entry Outcome). f.entry) l) (reverse-take n h few)
      ∙ sym (drop-map (λ (f : Filed Entry Outcome). f.entry) (length h - n) (reverse h)) ∙ ap (λ (k : ℕ). drop (k - n) (history_of h)) (sym (size scheme h))

  -- the text on the first filings
  pub text-first : n ≤ length h → text_on scheme sheet (history_of (take n h)) ≡ text_upto scheme sheet (Some n) (history_of h)
  text-first few =
      let there : nat_le n (length (history_of h)) ≡ true = le-leb n (length (history_of h)) (omega (arith, few, size scheme h)) in
      ap (λ (past : List Entry). text_on scheme sheet past) (front few)
      ∙ sym (ap (λ (b : Bool). if b then text_on scheme sheet (front_of n (history_of h)) else codes "none\n") there)
