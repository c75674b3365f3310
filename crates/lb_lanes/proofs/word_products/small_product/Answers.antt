use Rattle.std.proofs.Common.{arith}
use Rattle.lb_lanes.proofs.WordProducts.{product_of_small}
use Rattle.lb_lanes.proofs.word_products.small_product.Goals as goal

pub returns : goal.returns
returns c small =
    product_of_small c.args.x c.args.y c.ranges.x.fits c.ranges.y.fits (omega (arith, small))
    (omega (arith, small))
