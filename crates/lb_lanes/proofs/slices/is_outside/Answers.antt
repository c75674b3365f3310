use Rattle.std.proofs.Common.{◌≡◌, ℤ, pos, negsuc, false, not, ap, sym, ◌∙◌, arith, w64}
use Rattle.std.specs.Int.RustNames.{int_lt}
use Rattle.std.proofs.lemmas.Int.{ints, to_z-of_z}
use Rattle.lb_lanes.specs.Operators.{is_int}
use Rattle.lb_lanes.proofs.slices.is_outside.Goals as goal

-- an integer not below the range of `int` is out of the range just where it is above it
not_small : (v : ℤ) → int_lt v (negsuc 2147483647) ≡ false
    → int_lt (pos 2147483647) v ≡ not (is_int v)
unfolding is_int
not_small (pos n) e = grind arith
not_small (negsuc n) e = grind arith

pub returns-then-value-ltminus2147483648 : goal.returns-then-value-ltminus2147483648
unfolding is_int
returns-then-value-ltminus2147483648 c = grind (arith, ints)

pub returns-else-value-ltminus2147483648 : goal.returns-else-value-ltminus2147483648
returns-else-value-ltminus2147483648 c =
    let v = c.args.value in
    let same = to_z-of_z w64 v c.ranges.value in
    ap (int_lt (pos 2147483647)) same
    ∙ not_small v (ap (λ z. int_lt z (negsuc 2147483647)) (sym same)
    ∙ c.if-value-ltminus2147483648.false)
