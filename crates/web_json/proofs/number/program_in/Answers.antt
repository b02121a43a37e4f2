use Rattle.std.proofs.Common.{◌≡◌, ◌<◌, [], pos, sym, refl, ap, ◌∙◌, arith, w64, to_z, bytes_eq}
use Rattle.std.specs.Prelude.{Some, None, option_map}
use Rattle.std.specs.List.{position}
use Rattle.std.proofs.lemmas.Int.{to_z_pos}
use Rattle.std.proofs.lemmas.List.Quantifiers.{position-Some}
use Rattle.format_kinds.specs.Kinds.{words_of_programs}
use Rattle.web_json.proofs.NumberLemmas.{place_of-words}
use Rattle.web_json.proofs.number.program_in.Goals as goal

pub returns : goal.returns
returns c =
    let place = c.in_ok-place.place in
    let there : position (λ word. bytes_eq word c.args.text.now) words_of_programs ≡ Some place =
    sym (place_of-words c.program_words.result.now c.args.text.now c.program_words.ensures) ∙ sym c.place_of.ensures ∙ c.in_ok-place.was in
    let few : place < 6 = (position-Some (λ word. bytes_eq word c.args.text.now) words_of_programs place [] there).0 in
    let number : to_z w64 place ≡ pos place = to_z_pos w64 place (omega (arith, few)) in
    rw (there, number) (let same : Some (pos place) ≡ Some (pos place) = refl in same)

pub returns-in_err-place : goal.returns-in_err-place
returns-in_err-place c =
    let none : position (λ word. bytes_eq word c.args.text.now) words_of_programs ≡ None =
    sym (place_of-words c.program_words.result.now c.args.text.now c.program_words.ensures) ∙ sym c.place_of.ensures ∙ c.in_err-place.was in
    c.from_residual.ensures ∙ sym (ap (option_map (λ place. pos place)) none)
