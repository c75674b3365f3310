use Rattle.std.proofs.Common.{◌==◌, take, arith, lit≤}
use Rattle.std.proofs.lemmas.Simd.{bitmask_splat, length-chunk}
use mir.Syntax.{w8}
use Rattle.lb_places.proofs.blocks.places_of.Goals as goal

-- The bits are those of the lanes that equal the byte.
pub returns : goal.returns
returns c =
    let block = c.args.block.now in
    bitmask_splat w8 (λ a b. a == b) (take 32 block) 32 c.args.byte (length-chunk 0 32 block (omega arith)) (lit≤ tt)
