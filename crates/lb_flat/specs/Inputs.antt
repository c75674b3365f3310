-- The inputs of a program that the rows of a recorded trace stand for.
-- Source: this project's rule.
use Rattle.std.specs.Prelude.{ℕ, ℤ, pos, int_le, List, map}
use Rattle.lb_syntax.specs.declared.tree.Kind.{Kind}
use Rattle.lb_syntax.specs.declared.tree.Kind.TheVariants.{Int, Bool}
use Rattle.lb_syntax.specs.Lists.{zip2}
use Rattle.lb_static.specs.Signature.{Elements, kinds_of}
use Rattle.lb_check.specs.Scalars.{Scalar, Integer, Boolean}
use Rattle.lb_check.specs.Solutions.{Inputs}
use Rattle.lb_traces.specs.Traces.{Row, Recording, trace_at}

-- the scalar of a cell; a Boolean is 0 or 1
abbrev pub scalar_in : Kind → ℤ → Scalar
scalar_in Int v = Integer v
scalar_in Bool v = Boolean (int_le (pos 1) v)

-- the scalars of a row
abbrev pub scalars_in : Elements → Row → List Scalar
scalars_in elements row = zip2 scalar_in (kinds_of elements) row

-- the inputs of trace `k` of a recording
abbrev pub inputs_of : Recording → ℕ → Inputs
inputs_of r k = map (scalars_in r.signature) (trace_at r.traces k).1
