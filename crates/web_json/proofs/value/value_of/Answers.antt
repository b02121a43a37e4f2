use Rattle.std.proofs.Common.{rules}
use Rattle.std.proofs.lemmas.Str.{is_utf8-from_IsUtf8}
use Rattle.serde_json.specs.Errors.{IsMemory}
use Rattle.web_json.proofs.ValueLemmas.{no_value}
use Rattle.web_json.proofs.value.value_of.Goals as goal

pub returns-in-Ok-clause-value : goal.returns-in-Ok-clause-value
returns-in-Ok-clause-value c = let both = c.in-Ok.ensures.ok in rw (is_utf8-from_IsUtf8 _ both.0) both.1

pub returns-else-is_memory-clause-none : goal.returns-else-is_memory-clause-none
returns-else-is_memory-clause-none c e =
    let other : IsMemory c.in-Err.error → ⊥ = search rules in
    no_value _ (c.in-Err.ensures.err other)
