-- A run on a reader and two writers of std, which it wraps in a feed and in sinks.
-- Source: this project's rule.
use Rattle.std.specs.Prelude.{ℕ, List, Option}
use Rattle.std.specs.Borrow.{GName}
use Rattle.clap.specs.Words.{Text}
use Rattle.lb_output.specs.Taken.{Taken}
use Rattle.lb_command.specs.Correct.{IsRun}
use Rattle.lb_command.specs.Streams.{Change, Input, change, input}

-- `Says` holds of an input over a reader that has still `coming` to give, where that is known;
-- before the run the input has given nothing and has never failed
pub record OnReader (Says : Input → Type 0) (coming : Option Text) : Type 0 where
  pub given : ℕ
  pub failures : ℕ
  pub said : Says (input coming 0 given 0 failures)

-- the record of a writer that holds `bytes`, where they are known; `count` bytes came through this
-- sink
abbrev pub held : GName → Option Text → ℕ → Taken
held writer bytes count = record { bytes = bytes; count = count; writer = writer }

-- `Says` holds of a sink over a writer that holds `before` before the run and `after` behind it;
-- before the run the sink has taken nothing and has never failed
pub record OnWriter (Says : Change → Type 0) (before after : Option Text) : Type 0 where
  pub writer : GName
  pub count : ℕ
  pub failures : ℕ
  pub said : Says (change (held writer before 0) (held writer after count) 0 failures)

-- a run on a reader and two writers of std
abbrev pub IsStreamRun : (words : List Text) → (coming : Option Text) → (status : ℕ)
    → (output_before output_after errors_before errors_after : Option Text) → Type 0
IsStreamRun words coming status output_before output_after errors_before errors_after =
    OnReader (λ i. OnWriter (λ output. OnWriter (λ errors. IsRun words i status output errors)
    errors_before errors_after) output_before output_after) coming
