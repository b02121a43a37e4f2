use Rattle.std.proofs.Common.{◌≡◌, ◌<◌, [], length, pos, sym, refl, ap, ◌∙◌, arith, w64, to_z, bytes_eq}
use Rattle.std.specs.Prelude.{map, Some, Ok, ok_or, option_map}
use Rattle.std.specs.List.{position}
use Rattle.std.proofs.lemmas.List.{length-map}
use Rattle.std.proofs.lemmas.Int.{to_z_pos}
use Rattle.std.proofs.lemmas.List.Quantifiers.{position-Some}
use Rattle.aid_types.specs.declared.text.Malformed.TheVariants.{Spelling}
use Rattle.format_rows.proofs.FieldsLemmas.{place_of-words}
use Rattle.format_rows.proofs.field.word_in.Goals as goal

pub returns-in-Some : goal.returns-in-Some
returns-in-Some c =
    let place = c.in-Some.place in
    let there : position (λ word. bytes_eq word c.args.text.now) (map (λ word. word.now) c.args.words.now) ≡ Some place =
    sym (place_of-words c.args.words.now c.args.text.now refl) ∙ sym c.place_of.ensures ∙ c.in-Some.is in
    let few : place < length (map (λ word. word.now) c.args.words.now) = (position-Some (λ word. bytes_eq word c.args.text.now) (map (λ word. word.now) c.args.words.now) place [] there).0 in
    let number : to_z w64 place ≡ pos place = to_z_pos w64 place (omega (arith, few, length-map c.args.words.now (λ word. word.now), c.requires)) in
    rw (there, number) (let same : Ok (pos place) ≡ Ok (pos place) = refl in same)

pub returns-in-None : goal.returns-in-None
returns-in-None c =
    let none = sym (place_of-words c.args.words.now c.args.text.now refl) ∙ sym c.place_of.ensures ∙ c.in-None.is in
    ap (λ found. ok_or (option_map (λ at. pos at) found) Spelling) (sym none)
