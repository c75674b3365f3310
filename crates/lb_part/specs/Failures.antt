-- Failures for which a range of a text is not loaded.
-- Source: this project's rule.
use Rattle.lb_part.specs.declared.load.PartError.{PartError}
use Rattle.lb_part.specs.declared.load.PartError.TheVariants.{Memory, Read, Quote}

-- memory ran out, or a read failed
abbrev pub IsFailure : PartError → Type 0
IsFailure Memory = Unit {0}
IsFailure Read = Unit {0}
IsFailure Quote = ⊥
