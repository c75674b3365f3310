-- The programs that a `Program` and an `AcceptedProgram` of the code stand for.
-- This file says what data of the program mean; no definition of the language stands on it.
use Rattle.std.specs.Prelude.{◌≡◌}
use Rattle.lb_static.specs.Instances.{Program as Meant}
use Rattle.lb_static.specs.DataTypes.{signature}
use Rattle.lb_check.specs.Acceptance.{IsAccepted}
use Rattle.lb_flat.specs.FlatPrograms.{IsFlatOf}
use Rattle.lb_flat.specs.Programs as flat
use Rattle.lb_report.specs.declared.answer.AcceptedProgram.{AcceptedProgram}
use Rattle.lb_report.specs.declared.program.Program.{Program}

-- `p` stands for the program `P`, which is accepted
pub record IsProgram (p : Program) (P : Meant) : Type 0 where
  pub accepted : IsAccepted P
  pub inputs : signature P ≡ p.checked.elab.signature
  pub equations : IsFlatOf P (flat.program_of p.ordered.program)

-- `p` is ready to run `P`, which is accepted
pub record IsAcceptedProgram (p : AcceptedProgram) (P : Meant) : Type 0 where
  pub accepted : IsAccepted P
  pub inputs : signature P ≡ p.signature
  pub equations : IsFlatOf P (flat.program_of p.ordered.program)
