-- The promise of a check of a program to the layer above.
-- This file says what data of the program mean; no definition of the language stands on it.
use Rattle.std.specs.Prelude.{◌≡◌, Some, None, Result, Ok, Err}
use Rattle.lb_syntax.specs.Refusals.{E9, E10, E11}
use Rattle.lb_static.specs.Elaborated.{elaborated_program}
use Rattle.lb_static.specs.Instances.{Program}
use Rattle.lb_static.specs.declared.elab.Elaboration.{Elaboration}
use Rattle.lb_static.specs.declared.reachable.Reached.{Reached}
use Rattle.lb_check.specs.declared.checked.Checked.{Checked}
use Rattle.lb_check.specs.declared.refused.Broken.{Broken}
use Rattle.lb_check.specs.declared.refused.Broken.TheVariants.{Types, Clocks, Definitions}
use Rattle.lb_check.specs.declared.refused.Refused.{Refused}
use Rattle.lb_check.specs.Acceptance.{check_refusal}
use Rattle.lb_check.specs.BrokenParts.{is_part_typed, is_part_clocked, is_part_defined}
use Rattle.lb_check.specs.BrokenRules.{IsBroken}
use Rattle.lb_check.specs.ClockRules.{is_clocked}
use Rattle.lb_check.specs.DefinitionRules.{is_defined}
use Rattle.lb_check.specs.TypeRules.{is_typed}

-- what is found is the first of the rules of types, clocks and definitions that the program breaks,
-- with a node of which an instance breaks it, and the statement or the variable of that node which
-- does
abbrev pub IsFirstBroken : Program → Reached → Broken → Type 0
IsFirstBroken P r (Types found) =
    (check_refusal P ≡ Some E9)
    × IsBroken (is_typed P) (is_part_typed P) P r found.node found.part
IsFirstBroken P r (Clocks found) =
    (check_refusal P ≡ Some E10)
    × IsBroken (λ here. is_clocked P here.node) (λ here. is_part_clocked P here.node) P r
    found.node found.part
IsFirstBroken P r (Definitions found) =
    (check_refusal P ≡ Some E11)
    × IsBroken (λ here. is_defined P here.node) (λ here. is_part_defined P here.node) P r
    found.node found.part

-- the answer to an elaborated program is right: it is accepted where it breaks no rule of types,
-- clocks and definitions. Else the answer is the first of these rules that it breaks.
abbrev pub IsCheckAnswer : Elaboration → Result Checked Refused → Type 0
IsCheckAnswer e (Ok c) = check_refusal (elaborated_program e) ≡ None
IsCheckAnswer e (Err refused) =
    IsFirstBroken (elaborated_program e) e.reached refused.broken
