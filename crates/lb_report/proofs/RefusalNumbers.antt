-- The numbers of the refusals of the bench.
use Rattle.std.proofs.Common.{◌<◌, arith}
use Rattle.lb_syntax.specs.declared.error.SyntaxError.TheVariants as syntax
use Rattle.lb_static.specs.declared.error.StaticError.TheVariants as static
use Rattle.lb_cause.specs.declared.error.CheckError.TheVariants as check
use Rattle.lb_expand.specs.declared.error.FlatError.TheVariants as flat
use Rattle.lb_flat.specs.declared.error.OrderError.TheVariants as order
use Rattle.lb_trace.specs.declared.error.TraceError.TheVariants as trace
use Rattle.lb_refusal.specs.Refusals.{number_of}
use Rattle.lb_refusal.specs.declared.error.BenchError.{BenchError}
use Rattle.lb_refusal.specs.declared.error.BenchError.TheVariants as part

-- the bench refuses by no number past E18
pub below_19 : (e : BenchError) → number_of e < 19
below_19 part.Memory = omega arith
below_19 (part.Syntax syntax.Memory) = omega arith
below_19 (part.Syntax (syntax.Character line column)) = omega arith
below_19 (part.Syntax (syntax.Syntax line column)) = omega arith
below_19 (part.Syntax (syntax.Size line column)) = omega arith
below_19 (part.Static static.Memory) = omega arith
below_19 (part.Static (static.Name name)) = omega arith
below_19 (part.Static (static.Recursion name)) = omega arith
below_19 (part.Static (static.Root fault)) = omega arith
below_19 (part.Static (static.Value name)) = omega arith
below_19 (part.Static (static.Range name)) = omega arith
below_19 (part.Static (static.Instances fault)) = omega arith
below_19 (part.Check check.Memory) = omega arith
below_19 (part.Check (check.Type name)) = omega arith
below_19 (part.Check (check.Clock name)) = omega arith
below_19 (part.Check (check.Definition name)) = omega arith
below_19 (part.Flat flat.Memory) = omega arith
below_19 (part.Flat (flat.Large fault)) = omega arith
below_19 (part.Order order.Memory) = omega arith
below_19 (part.Order (order.Cycle cycle)) = omega arith
below_19 (part.Trace (trace.Memory e)) = omega arith
below_19 (part.Trace trace.Header) = omega arith
below_19 (part.Trace (trace.Record r n m)) = omega arith
below_19 (part.Trace (trace.Cell r c)) = omega arith
below_19 (part.Trace (trace.Trace r)) = omega arith
below_19 (part.Trace (trace.Limit r)) = omega arith
