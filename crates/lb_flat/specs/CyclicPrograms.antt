-- Programs whose equations have no order are cyclic.
-- This file says what data of the program mean; no definition of the language stands on it.
use Rattle.lb_static.specs.Instances.{Program}
use Rattle.lb_check.specs.Needs.{IsCyclic}
use Rattle.lb_flat.specs.declared.error.OrderError.{OrderError}
use Rattle.lb_flat.specs.declared.error.OrderError.TheVariants.{Memory, Cycle}
use Rattle.lb_flat.specs.Correct.{IsExpansionOf}
use Rattle.lb_flat.specs.Judging.{FlatProgram}

-- memory ran out, or each program whose expansion is `f` is cyclic
abbrev pub AreOfCyclic : FlatProgram → OrderError → Type 0
AreOfCyclic f Memory = Unit {0}
AreOfCyclic f (Cycle c) = (P : Program) → IsExpansionOf P f → IsCyclic P
