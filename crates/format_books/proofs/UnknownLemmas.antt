-- Keys that a book has, and the least of those that it does not have.
use Rattle.std.proofs.Common.{◌≡◌, ℕ, List, [], ◌∷◌, ◌++◌, map, Option, Bool, true, false, ◌&&◌, ◌||◌, ◌==◌, length, String, Global, string_bytes, refl, ap, sym, ◌∙◌}
use Rattle.std.specs.Prelude.{bytes_eq}
use Rattle.std.specs.List.{fold, list_any}
use Rattle.std.specs.Map.{keys_of}
use Rattle.toml.specs.View.{members_view}
use Rattle.toml.specs.declared.value.Value.{Value}
use Rattle.format_books.specs.Fields.{field_line}
use Rattle.format_books.specs.Reading.{fields_in_form}
use Rattle.format_books.specs.Unknown.{dotted, is_key, is_section, keep_lesser, names_of, unknown_keys}
use Rattle.format_books.specs.declared.table.BookField.{BookField}

pub list_any_map : {X Y : Type 0} (p : X → Bool) (f : Y → X) (ys : List Y) → list_any p (map f ys) ≡ list_any (λ y. p (f y)) ys
list_any_map p f [] = refl
list_any_map p f (y ∷ ys) = ap (λ b. p (f y) || b) (list_any_map p f ys)

-- the fields of the program know the keys of the table
pub is_key_by : (form : Bool) (fields : List BookField) (section key : List ℕ) → map field_line fields ≡ fields_in_form form
    → list_any (λ f. bytes_eq f.section.now section && bytes_eq f.key.now key) fields ≡ is_key form section key
unfolding is_key
is_key_by form fields section key e =
    sym (list_any_map (λ f. bytes_eq f.section section && bytes_eq f.key key) field_line fields)
    ∙ ap (list_any (λ f. bytes_eq f.section section && bytes_eq f.key key)) e

pub is_section_by : (form : Bool) (fields : List BookField) (name : List ℕ) → map field_line fields ≡ fields_in_form form → (length name == 0) ≡ false
    → list_any (λ f. bytes_eq f.section.now name) fields ≡ is_section form name
unfolding is_section
is_section_by form fields name e some =
    rw some (sym (list_any_map (λ f. bytes_eq f.section name) field_line fields) ∙ ap (list_any (λ f. bytes_eq f.section name)) e)

pub no_section : (form : Bool) (name : List ℕ) → (length name == 0) ≡ true → false ≡ is_section form name
unfolding is_section
no_section form name none = rw none refl

-- the names of a map's members
pub names_view : (es : List (String Global × Value)) → names_of (members_view es) ≡ map string_bytes (keys_of es)
names_view [] = refl
names_view (e ∷ es) = ap (λ ns. string_bytes e.0 ∷ ns) (names_view es)

-- one more key of a table, known or not
pub pass_known : (form : Bool) (section key : List ℕ) (keys : List (List ℕ)) (least : Option (List ℕ)) → is_key form section key ≡ true
    → fold keep_lesser least (unknown_keys form section (key ∷ keys)) ≡ fold keep_lesser least (unknown_keys form section keys)
pass_known form section key keys least known = rw known refl

pub keep_unknown : (form : Bool) (section key : List ℕ) (keys : List (List ℕ)) (least : Option (List ℕ)) → is_key form section key ≡ false
    → fold keep_lesser least (unknown_keys form section (key ∷ keys)) ≡ fold keep_lesser (keep_lesser least (dotted section key)) (unknown_keys form section keys)
keep_unknown form section key keys least unknown = rw unknown refl

-- the least of two lists one after the other
pub fold-append : {X A : Type 0} (f : A → X → A) (a : A) (xs ys : List X) → fold f a (xs ++ ys) ≡ fold f (fold f a xs) ys
fold-append f a [] ys = refl
fold-append f a (x ∷ xs) ys = fold-append f (f a x) xs ys
