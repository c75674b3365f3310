-- The answer of `bench` to a source and a trace text: the promise of the whole bench.
-- Source: this project's rule.
use Rattle.std.specs.Prelude.{◌≡◌, ℕ, ◌⊎◌, Option, Some, None, Result, Ok, Err, IfOk, IfErr}
use Rattle.std.specs.Prelude.{string_bytes}
use Rattle.std.specs.Option.{option_map}
use Rattle.lb_syntax.specs.Tokens.{Text}
use Rattle.lb_report.specs.Bench.{IsBenchReport, IsRefused}
use Rattle.lb_report.specs.FirstRefusals.{first_refusal}
use Rattle.lb_refusal.specs.Refusals.{number_of}
use Rattle.lb_refusal.specs.declared.error.BenchError.{BenchError}
use Rattle.lb_refusal.specs.declared.options.Options.{Options}
use Rattle.lb_output.specs.declared.text.Report.{Report}

-- the number of the first refusal of the texts, with the node under test and the observer that the
-- options name, or none
abbrev pub first_of : (source traces : Text) → Options → Option ℕ
first_of source traces options =
    first_refusal source traces (string_bytes options.node)
    (option_map string_bytes options.observer)

-- the reported number is 0, for want of memory, or exactly that of the first refusal
abbrev pub IsFirstTold : (source traces : Text) → Options → (told : Option ℕ) → Type 0
IsFirstTold source traces options told =
    (told ≡ Some 0) ⊎ (told ≡ first_of source traces options)

-- the reported number of an answer: none for a report, and the number of an error
abbrev pub told_by : Result Report BenchError → Option ℕ
told_by (Ok report) = None
told_by (Err e) = Some (number_of e)

-- where there is a report, the source spells exactly one accepted program, the trace text exactly
-- one list of traces, and the report lists, in its order, the verdict that the program's equations
-- give for each trace alone. Where there is an error, it names the part that refuses the texts
-- first. Where there is a first refusal the answer is exactly that or E0, and where there is none
-- it is a report or E0
pub record IsBenchAnswer
    (source traces : Text) (options : Options) (answer : Result Report BenchError)
    : Type 0 where
  pub report : IfOk answer (IsBenchReport source traces options)
  pub refused : IfErr answer (IsRefused source traces options)
  pub first : IsFirstTold source traces options (told_by answer)
