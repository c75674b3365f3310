-- The promise of `elaborate` on a source.
-- This file says what data of the program mean; no definition of the language stands on it.
use Rattle.std.specs.Prelude.{◌≡◌, false, Some, Result, Ok, Err, string_bytes}
use Rattle.lb_syntax.specs.Refusals.{E4, E5, E6, E7, E8, E12}
use Rattle.lb_static.specs.Instances.{Program}
use Rattle.lb_static.specs.CallGraphs.{IsCallCycle, names_on}
use Rattle.lb_static.specs.CountedNames.{keeps_name}
use Rattle.lb_static.specs.Elaborated.{elaborated_program}
use Rattle.lb_static.specs.Instantiation.{static_refusal}
use Rattle.lb_static.specs.declared.elab.Elab.{Elab}
use Rattle.lb_static.specs.declared.error.StaticError.{StaticError}
use Rattle.lb_static.specs.declared.error.StaticError.TheVariants as error

-- An error stands for the first rule of names, static values and instances that is broken, unless
-- memory ran out. The name in an E4 breaks the rule of names, in the way that the error says. An E7
-- holds a cycle of calls.
abbrev pub IsStaticFault : Program → StaticError → Type 0
IsStaticFault P error.Memory = Unit {0}
IsStaticFault P (error.Name x) =
    (static_refusal P ≡ Some E4) × (keeps_name P (string_bytes x.value.name) x.value.rule ≡ false)
IsStaticFault P (error.Recursion x) =
    (static_refusal P ≡ Some E7) × IsCallCycle P (names_on x.value)
IsStaticFault P (error.Root x) = static_refusal P ≡ Some E8
IsStaticFault P (error.Value x) = static_refusal P ≡ Some E5
IsStaticFault P (error.Range x) = static_refusal P ≡ Some E6
IsStaticFault P (error.Instances x) = static_refusal P ≡ Some E12

-- an answer: the program itself, elaborated, or the first rule that it breaks
abbrev pub Elaborates : Program → Result Elab StaticError → Type 0
Elaborates P (Ok e) = elaborated_program e ≡ P
Elaborates P (Err e) = IsStaticFault P e
