use Rattle.std.proofs.Common.{ℕ, ◌≡◌, ◌<◌, get_or}
use Rattle.lb_static.specs.Signature.{kinds_of}
use Rattle.lb_syntax.specs.declared.tree.Kind.TheVariants.{Int, Bool}
use Rattle.lb_trace.proofs.table.are_truths.Given as goal

abbrev pub invariant-loop-i : goal.invariant-loop-i
invariant-loop-i l = (k : ℕ) → k < l.i → get_or (kinds_of l.signature) k Int ≡ Bool
