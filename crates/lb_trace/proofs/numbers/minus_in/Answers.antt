use Rattle.std.proofs.Common.{arith, eqb, take, w8}
use Rattle.std.proofs.lemmas.List.{length-take-le}
use Rattle.std.proofs.lemmas.Simd.{bitmask_splat}
use Rattle.lb_trace.proofs.numbers.minus_in.Goals as goal

pub returns : goal.returns
returns c =
    bitmask_splat w8 eqb (take 32 c.args.text.now) 32 45
    (length-take-le 32 c.args.text.now (omega (arith, c.requires))) (omega arith)
