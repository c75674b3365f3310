-- Two conditions: a flat program stands for a program, and traces have the kinds of its inputs.
-- Source: this project's rule.
use Rattle.std.specs.Prelude.{◌≡◌}
use Rattle.lb_static.specs.Instances.{Program}
use Rattle.lb_static.specs.Signature.{kinds_of}
use Rattle.lb_flat.specs.FlatPrograms.{IsFlatOf}
use Rattle.lb_flat.specs.Judging.{FlatProgram}
use Rattle.lb_traces.specs.Traces.{Recording}

-- there is a program that `f` stands for
abbrev pub StandsForProgram : FlatProgram → Type 0
StandsForProgram f = ∥ ((P : Program) × IsFlatOf P f) ∥₁

-- the columns of the traces have the kinds of the inputs of `f`
abbrev pub HasKindsOf : FlatProgram → Recording → Type 0
HasKindsOf f r = kinds_of r.signature ≡ f.inputs
