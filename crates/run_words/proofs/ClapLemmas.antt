-- What a command of required words alone makes of words with no hyphen in front: each goes to the positional of its place.
use Rattle.std.proofs.Common.{◌≡◌, ℕ, ◌&&◌, ◌||◌, Bool, true, false, not, List, [], ◌∷◌, Option, Some, None, refl, sym, ap, ap₂, ◌∙◌}
use Rattle.std.specs.Prelude.{if◌then◌else◌, option_and_then, find, fold, is_some}
use Rattle.std.specs.List.{list_all}
use Rattle.std.specs.Option.{option_map_or}
use Rattle.std.specs.Str.{bytes_eq}
use Rattle.clap.specs.Words.{App, Rule, Text, app_of}
use Rattle.clap.specs.Simple.{Shape, app_of_fields, entered}
use Rattle.clap.specs.Lexer.{strip_byte, long_of, long_of_rest, short_of, short_of_rest}
use Rattle.clap.specs.Walk.{Held, Walk, Step, idle, positional, value, trailing, word_met, walked, after_step, to_positional, arg_by_index, long_or_other, short_or_plain}
use Rattle.clap.specs.Walk.{finished, is_multiple, next_position, nothing_held, positional_held, rows_after, settled}
use Rattle.clap.specs.Kinds.{Kinds, or_else}
use Rattle.clap.specs.Faults.{turn_fault, word_fault, flag_word_fault, bundle_fault, built_fault, check_fault, defaults_fault, entered_fault, settle_fault, step_fault, positional_fault, stray_fault, walk_fault}
use Rattle.clap.specs.declared.builder.command.Command.{Command}
use Rattle.clap.specs.declared.builder.command.Command.TheViews.{out-Command}
use Rattle.run_words.specs.Words.{ArePlain, begins_with_hyphen}

-- ---- a bare command
pub name_off : (c d : Command) → out-Command d ≡ record (out-Command c) { no_binary_name = true } → app_of d ≡ record (app_of c) { top = record ((app_of c).top) { no_binary_name = true } }
name_off c d e = ap app_of_fields e

pub help_off : (c d : Command) → out-Command d ≡ record (out-Command c) { disable_help_flag = true } → app_of d ≡ record (app_of c) { top = record ((app_of c).top) { disable_help_flag = true } }
help_off c d e = ap app_of_fields e

pub version_off : (c d : Command) → out-Command d ≡ record (out-Command c) { disable_version_flag = true } → app_of d ≡ record (app_of c) { top = record ((app_of c).top) { disable_version_flag = true } }
version_off c d e = ap app_of_fields e

pub first_of_and : (p q : Bool) → (p && q) ≡ true → p ≡ true
first_of_and true q e = refl
first_of_and false q e = e

-- ---- plain words
pub plain_head : (word : Text) (words : List Text) → ArePlain (word ∷ words) → begins_with_hyphen word ≡ false
plain_head word words e = go (begins_with_hyphen word) e
  where
    go : (b : Bool) → (not b && list_all (λ w. not (begins_with_hyphen w)) words) ≡ true → b ≡ false
    go false e = refl
    go true e = cc

pub plain_tail : (word : Text) (words : List Text) → ArePlain (word ∷ words) → ArePlain words
plain_tail word words e = go (begins_with_hyphen word) e
  where
    go : (b : Bool) → (not b && list_all (λ w. not (begins_with_hyphen w)) words) ≡ true → list_all (λ w. not (begins_with_hyphen w)) words ≡ true
    go false e = e
    go true e = cc

-- what a word with no hyphen in front is not
no_strip : (word : Text) → begins_with_hyphen word ≡ false → strip_byte 45 word ≡ None
no_strip [] plain = refl
no_strip (x ∷ xs) plain = rw plain refl

no_long : (word : Text) → begins_with_hyphen word ≡ false → long_of word ≡ None
no_long word plain = ap (λ o. option_and_then long_of_rest (option_and_then (strip_byte 45) o)) (no_strip word plain)

no_short : (word : Text) → begins_with_hyphen word ≡ false → short_of word ≡ None
no_short word plain = ap (λ o. option_and_then short_of_rest o) (no_strip word plain)

no_dashes : (word : Text) → begins_with_hyphen word ≡ false → bytes_eq word (45 ∷ 45 ∷ []) ≡ false
no_dashes [] plain = refl
no_dashes (x ∷ xs) plain = rw plain refl

-- such a word is a value, where nothing waits and there is no subcommand
plain_met : (rules : List Rule) (position : ℕ) (word : Text) (h : Held) → begins_with_hyphen word ≡ false → word_met rules [] false idle position word h ≡ (h, value)
plain_met rules position word h plain =
    ap (λ b. if b then (h, trailing position) else long_or_other rules idle word (long_of word) h) (no_dashes word plain)
    ∙ (ap (λ o. long_or_other rules idle word o h) (no_long word plain)
    ∙ ap (λ o. short_or_plain rules idle word o h) (no_short word plain))

-- where a walk stands between two such words
abbrev pub at_place : Held → ℕ → Walk
at_place held position = record { held = held; waiting = idle; position = position; is_trailing = false; stopped = None }

-- so it goes to the positional of its place
plain_walked : (rules : List Rule) (held : Held) (position : ℕ) (word : Text) → begins_with_hyphen word ≡ false
    → walked rules [] (at_place held position) word ≡ to_positional rules (arg_by_index rules position) word (at_place held position) held
unfolding walked
plain_walked rules held position word plain =
    ap (λ (met : Held × Step). after_step rules word (at_place held position) met.0 met.1) (plain_met rules position word held plain)

-- and it fails as that positional does
plain_turn : (s : Shape) (held : Held) (position : ℕ) (word : Text) → begins_with_hyphen word ≡ false
    → turn_fault s [] (at_place held position) word ≡ option_map_or (λ a. positional_fault s.rules s.args_override_self a held) (arg_by_index s.rules position) (stray_fault s)
plain_turn s held position word plain =
    let flags : word_fault s [] false idle word held ≡ [] =
    ap (λ b. if b then [] else flag_word_fault s.rules s.args_override_self (long_of word) word held) (no_dashes word plain)
    ∙ (ap (λ o. flag_word_fault s.rules s.args_override_self o word held) (no_long word plain)
    ∙ ap (λ o. option_map_or (λ flags. bundle_fault s.rules s.args_override_self flags held) o []) (no_short word plain)) in
    ap (λ (k : Kinds). or_else k (step_fault s position (word_met s.rules [] false idle position word held).0 (word_met s.rules [] false idle position word held).1)) flags
    ∙ ap (λ (met : Held × Step). step_fault s position met.0 met.1) (plain_met s.rules position word held plain)

-- ---- a walk over plain words, where each argument takes one
abbrev pub is_single : Rule → Bool
is_single a = not (is_multiple a) && not a.trailing_var_arg

-- where it comes to
abbrev pub placed : List Rule → List Text → Held → ℕ → Walk
placed rules [] held position = at_place held position
placed rules (word ∷ words) held position =
    option_map_or (λ a. placed rules words (positional_held rules a word held) (next_position a position)) (arg_by_index rules position) (placed rules words held position)

-- what fails on the way
abbrev pub failing : Shape → List Text → Held → ℕ → Kinds
failing s [] held position = []
failing s (word ∷ words) held position =
    option_map_or (λ a. or_else (positional_fault s.rules s.args_override_self a held) (failing s words (positional_held s.rules a word held) (next_position a position)))
    (arg_by_index s.rules position) (or_else (stray_fault s) (failing s words held position))

abbrev IsSingle : Option Rule → Type 0
IsSingle None = Unit {0}
IsSingle (Some a) = is_single a ≡ true

-- what is found among such arguments is one
single_found : (test : Rule → Bool) (rules : List Rule) → list_all is_single rules ≡ true → IsSingle (find test rules)
single_found test [] single = tt
single_found test (a ∷ rules) single = go (test a) (is_single a) refl single (single_found test rules)
  where
    go : (found one : Bool) → one ≡ is_single a → (one && list_all is_single rules) ≡ true → (list_all is_single rules ≡ true → IsSingle (find test rules)) → IsSingle (if found then Some a else find test rules)
    go true true is all later = sym is
    go true false is all later = absurd (let bad : ⊥ = cc in bad)
    go false true is all later = later all
    go false false is all later = absurd (let bad : ⊥ = cc in bad)

-- nothing waits behind it
idles : (rules : List Rule) (a : Rule) (word : Text) (held : Held) (position : ℕ) → is_single a ≡ true
    → to_positional rules (Some a) word (at_place held position) held ≡ at_place (positional_held rules a word held) (next_position a position)
idles rules a word held position single = go (is_multiple a) a.trailing_var_arg single
  where
    go : (several trails : Bool) → (not several && not trails) ≡ true
        → (record { held = positional_held rules a word held; waiting = if several then positional else idle; position = next_position a position; is_trailing = false || trails; stopped = None })
        ≡ at_place (positional_held rules a word held) (next_position a position)
    go false false e = refl
    go false true e = absurd (let bad : ⊥ = cc in bad)
    go true trails e = absurd (let bad : ⊥ = cc in bad)

walk_step : (rules : List Rule) (word : Text) (words : List Text) (held : Held) (position : ℕ) (o : Option Rule) → IsSingle o
    → ((h : Held) (p : ℕ) → fold (walked rules []) (at_place h p) words ≡ placed rules words h p)
    → fold (walked rules []) (to_positional rules o word (at_place held position) held) words
    ≡ option_map_or (λ a. placed rules words (positional_held rules a word held) (next_position a position)) o (placed rules words held position)
walk_step rules word words held position None single later = later held position
walk_step rules word words held position (Some a) single later =
    ap (λ (w : Walk). fold (walked rules []) w words) (idles rules a word held position single) ∙ later (positional_held rules a word held) (next_position a position)

walk_placed : (rules : List Rule) → list_all is_single rules ≡ true → (words : List Text) → ArePlain words → (held : Held) (position : ℕ)
    → fold (walked rules []) (at_place held position) words ≡ placed rules words held position
walk_placed rules single [] plain held position = refl
walk_placed rules single (word ∷ words) plain held position =
    ap (λ (w : Walk). fold (walked rules []) w words) (plain_walked rules held position word (plain_head word words plain))
    ∙ walk_step rules word words held position (arg_by_index rules position) (single_found _ rules single) (walk_placed rules single words (plain_tail word words plain))

way_step : (s : Shape) (word : Text) (words : List Text) (held : Held) (position : ℕ) (o : Option Rule) → IsSingle o
    → ((h : Held) (p : ℕ) → walk_fault s [] (at_place h p) words ≡ failing s words h p)
    → or_else (option_map_or (λ a. positional_fault s.rules s.args_override_self a held) o (stray_fault s)) (walk_fault s [] (to_positional s.rules o word (at_place held position) held) words)
    ≡ option_map_or (λ a. or_else (positional_fault s.rules s.args_override_self a held) (failing s words (positional_held s.rules a word held) (next_position a position)))
    o (or_else (stray_fault s) (failing s words held position))
way_step s word words held position None single later = ap (λ (k : Kinds). or_else (stray_fault s) k) (later held position)
way_step s word words held position (Some a) single later =
    ap (λ (w : Walk). or_else (positional_fault s.rules s.args_override_self a held) (walk_fault s [] w words)) (idles s.rules a word held position single)
    ∙ ap (λ (k : Kinds). or_else (positional_fault s.rules s.args_override_self a held) k) (later (positional_held s.rules a word held) (next_position a position))

way_failing : (s : Shape) → list_all is_single s.rules ≡ true → (words : List Text) → ArePlain words → (held : Held) (position : ℕ)
    → walk_fault s [] (at_place held position) words ≡ failing s words held position
unfolding walk_fault
way_failing s single [] plain held position = refl
way_failing s single (word ∷ words) plain held position =
    ap₂ (λ (k : Kinds) (w : Walk). or_else k (walk_fault s [] w words))
    (plain_turn s held position word (plain_head word words plain)) (plain_walked s.rules held position word (plain_head word words plain))
    ∙ way_step s word words held position (arg_by_index s.rules position) (single_found _ s.rules single) (way_failing s single words (plain_tail word words plain))

-- ---- a built command without subcommands
abbrev pub alone : Shape → App
alone s = record { top = s; subs = [] }

-- what fails at the end of a walk, where this failed on the way
abbrev pub ends : Shape → Walk → Kinds → Kinds
ends s w way =
    or_else way
    (or_else (entered_fault (alone s) w.stopped) (or_else (settle_fault s.rules s.args_override_self w.held)
    (or_else (defaults_fault (settled s.rules w.held).rows s.rules)
    (check_fault s (finished s.rules w.held) (is_some (entered (alone s) w.stopped))))))

-- the kinds that it gives at plain words
pub fault_at : (s : Shape) → list_all is_single s.rules ≡ true → (words : List Text) → ArePlain words
    → built_fault (alone s) nothing_held words ≡ ends s (placed s.rules words nothing_held 1) (failing s words nothing_held 1)
fault_at s single words plain = ap₂ (ends s) (walk_placed s.rules single words plain nothing_held 1) (way_failing s single words plain nothing_held 1)

-- and the matches
pub rows_at : (s : Shape) → list_all is_single s.rules ≡ true → (words : List Text) → ArePlain words
    → rows_after s.rules [] words ≡ finished s.rules (placed s.rules words nothing_held 1).held
rows_at s single words plain = ap (λ (w : Walk). finished s.rules w.held) (walk_placed s.rules single words plain nothing_held 1)
