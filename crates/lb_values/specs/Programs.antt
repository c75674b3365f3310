-- The meaning of a program that is ready to be replayed, with its recorded traces.
-- This file says what data of the program mean; no definition of the language stands on it.
use Rattle.lb_syntax.specs.Tokens.{Text}
use Rattle.lb_static.specs.Instances.{Program as Meant}
use Rattle.lb_check.specs.Acceptance.{IsAccepted}
use Rattle.lb_flat.specs.FlatPrograms.{IsFlatOf}
use Rattle.lb_flat.specs.Programs as flat
use Rattle.lb_report.specs.Bench.{IsOnlyRecording}
use Rattle.lb_values.specs.declared.case.Case.{Case}

-- `case` stands for the program `P`, which is accepted, with the one list of traces that a text
-- spells
pub record IsCase (P : Meant) (text : Text) (case : Case) : Type 0 where
  pub accepted : IsAccepted P
  pub equations : IsFlatOf P (flat.program_of case.program.ordered.program)
  pub recorded : IsOnlyRecording P text case.set
