-- Rows that are filed under one stamp, and what a connection asks under one.
use Rattle.std.specs.Prelude.{List, map, Option, option_map, Result, Ok, Err}
use Rattle.log_machine.specs.Scheme.{Semantics}
use Rattle.log_machine.specs.Texts.{Texts}
use Rattle.aid_stamps.specs.declared.stamp.Stamp.{Stamp}
use Rattle.log_stamps.specs.Entries.{entries, with_stamp}
use Rattle.log_stamps.specs.declared.entry.StampedOperation.{StampedOperation}
use Rattle.log_stamps.specs.declared.entry.StampedEntry.{StampedEntry}
use Rattle.log_stamps.specs.declared.entry.StampedError.{StampedError}

-- what rows say, with the stamp under which each is filed
abbrev pub stamped_rows : {M : Type 0} → Stamp → List M → List (M × Stamp)
stamped_rows stamp rows = map (λ m. (m, stamp)) rows

-- what a row says, by its ask or why it is none
abbrev pub said_under : {A E M : Type 0} → (Result A E → M) → Result (StampedOperation A) (StampedError E) → M × Stamp
said_under said (Ok operation) = (said (Ok operation.operation), operation.stamp)
said_under said (Err error) = (said (Err error.error), error.stamp)

-- a stamp is no part of a line
abbrev pub stamped_texts : {A V E : Type 0} → Texts A V E → Texts (StampedOperation A) V (StampedError E)
stamped_texts texts = record {
  Meaning = texts.Meaning × Stamp;
  said = said_under texts.said;
  answer_line = texts.answer_line;
  error_line = λ error. texts.error_line error.error;
}

-- an ask with a stamp
abbrev pub ask_under : {A : Type 0} → Stamp → A → StampedOperation A
ask_under stamp operation = record { operation = operation; stamp = stamp }

-- what a list makes of asks that all have one stamp
abbrev pub semantics_under : {E A V : Type 0} → Stamp → Semantics E A V → Semantics (StampedEntry E) A V
semantics_under stamp semantics = record {
  answer = λ past operation. semantics.answer (entries past) operation;
  added = λ past operation. option_map (with_stamp stamp) (semantics.added (entries past) operation);
}

-- the entry that such an ask may add
abbrev pub own_under : {A E : Type 0} → Stamp → (A → Option E) → A → Option (StampedEntry E)
own_under stamp own operation = option_map (with_stamp stamp) (own operation)
