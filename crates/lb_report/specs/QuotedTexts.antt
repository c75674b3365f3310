-- A text in memory that may have quotes, as it is judged.
-- This file says what data of the program mean; no definition of the language stands on it.
use Rattle.std.specs.Prelude.{ℕ, ◌≡◌, ◌≤◌, List, length, Ok}
use Rattle.lb_static.specs.Signature.{Elements}
use Rattle.lb_traces.specs.Traces.{Traces}
use Rattle.lb_flat.specs.declared.program.FlatProgram.{FlatProgram}
use Rattle.lb_trace.specs.Errors.{IsRefusal}
use Rattle.lb_trace.specs.Refusals.{outcome}
use Rattle.lb_report.specs.JudgedParts.{AreJudgedTraces}
use Rattle.lb_report.specs.declared.rounds.Halt.{Halt}
use Rattle.lb_report.specs.declared.rounds.Halt.TheVariants as halt
use Rattle.lb_report.specs.declared.rounds.Judged.{Judged}

-- the traces of a text are judged
pub record IsWholeJudged (p : FlatProgram) (elements : Elements) (text : List ℕ) (j : Judged)
    : Type 0 where
  pub traces : Traces
  pub given : length text ≤ 1073741824 → outcome elements text ≡ Ok traces
  pub judged : AreJudgedTraces p elements traces j

-- why the traces of a text are not judged: only a `Refused` is certain
abbrev pub IsWholeRefused : Elements → List ℕ → Halt → Type 0
IsWholeRefused elements text (halt.Load e) = ⊥
IsWholeRefused elements text (halt.Refused e) =
    length text ≤ 1073741824 → IsRefusal (outcome elements text) e
IsWholeRefused elements text (halt.Early e) = Unit {0}
IsWholeRefused elements text (halt.Stopped judged line) = Unit {0}
IsWholeRefused elements text halt.Quoted = Unit {0}
