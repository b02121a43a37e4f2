-- The keys of a text that a book does not have, and the least of them.
use Rattle.std.specs.Prelude.{ℕ, List, [], ◌∷◌, ◌++◌, ◌==◌, length, map, filter, fold, flat_map, Bool, false, not, ◌&&◌, bytes_eq, Option, Some, None, if◌then◌else◌}
use Rattle.std.specs.Cmp.Lexicographic.{slice_cmp}
use Rattle.std.specs.List.{list_any}
use Rattle.std.specs.Ordering.{match_ordering, nat_cmp}
use Rattle.toml.specs.Data.{Data, Members, no_members, member, as_array, as_table}
use Rattle.format_books.specs.Reading.{fields_in_form, is_form_2, listed}

-- a book of this form has a section, or an array of tables, of this name
unfoldable pub is_section : Bool → List ℕ → Bool
is_section form name = if length name == 0 then false else list_any (λ f. bytes_eq f.section name) (fields_in_form form)

-- it has this key in the section, or at the top
unfoldable pub is_key : Bool → List ℕ → List ℕ → Bool
is_key form section key = list_any (λ f. bytes_eq f.section section && bytes_eq f.key key) (fields_in_form form)

-- the names of a table's members, in order
abbrev pub names_of : Members → List (List ℕ)
names_of no_members = []
names_of (member name d ms) = name ∷ names_of ms

abbrev pub table_names : Option Members → List (List ℕ)
table_names None = []
table_names (Some ms) = names_of ms

-- a key behind its section, with a dot between them
abbrev pub dotted : List ℕ → List ℕ → List ℕ
dotted section key = section ++ (46 ∷ key)

-- the dotted names of the keys that a book of this form does not have in the section
abbrev pub unknown_keys : Bool → List ℕ → List (List ℕ) → List (List ℕ)
unknown_keys form section keys = map (dotted section) (filter (λ key. not (is_key form section key)) keys)

abbrev pub unknown_in : Bool → List ℕ → Data → List (List ℕ)
unknown_in form section d = unknown_keys form section (table_names (as_table d))

-- those of a section's table, or of each table of an array
abbrev pub unknown_inside : Bool → List ℕ → Data → List (List ℕ)
unknown_inside form section d = unknown_in form section d ++ flat_map (unknown_in form section) (listed (as_array d))

-- those at a name of the top: an unknown name is named alone, whatever it holds
abbrev pub unknown_at : Bool → List ℕ → Data → List (List ℕ)
unknown_at form name d = if is_section form name then unknown_inside form name d else if is_key form [] name then [] else name ∷ []

-- those of a text's table
abbrev pub unknown_names : Bool → Members → List (List ℕ)
unknown_names form no_members = []
unknown_names form (member name d ms) = unknown_at form name d ++ unknown_names form ms

-- the lesser of two names by their bytes
abbrev pub lesser : List ℕ → List ℕ → List ℕ
lesser a b = match_ordering (slice_cmp nat_cmp b a) b a a

abbrev pub keep_lesser : Option (List ℕ) → List ℕ → Option (List ℕ)
keep_lesser None name = Some name
keep_lesser (Some least) name = Some (lesser least name)

-- the least of some names
abbrev pub least_of : List (List ℕ) → Option (List ℕ)
least_of names = fold keep_lesser None names

-- the least unknown key of a text's table
abbrev pub unknown_key : Members → Option (List ℕ)
unknown_key t = least_of (unknown_names (is_form_2 t) t)
