-- The errors for an instance that is refused, by the rule that it breaks.
-- This file says what data of the program mean; no definition of the language stands on it.
use Rattle.lb_static.specs.declared.error.StaticError.{StaticError}
use Rattle.lb_static.specs.declared.error.StaticError.TheVariants as error

-- an error of memory, or of a static expression without a value
abbrev pub IsValueFault : StaticError → Type 0
IsValueFault error.Memory = Unit {0}
IsValueFault (error.Value x) = Unit {0}
IsValueFault _ = ⊥

-- an error of memory, or of a value that is out of its range
abbrev pub IsRangeFault : StaticError → Type 0
IsRangeFault error.Memory = Unit {0}
IsRangeFault (error.Range x) = Unit {0}
IsRangeFault _ = ⊥

-- an error of memory, or of an instance that is past a limit
abbrev pub IsLimitFault : StaticError → Type 0
IsLimitFault error.Memory = Unit {0}
IsLimitFault (error.Instances x) = Unit {0}
IsLimitFault _ = ⊥
