use Rattle.std.proofs.Common.{◌≡◌, ℕ, ℤ, ◌∙◌, w32, w64, to_z, of_z, SFits}
use Rattle.std.proofs.lemmas.Int.{to_z-of_z}
use Rattle.lb_lanes.proofs.WordProducts.{product_of_low, product_look}
use Rattle.lb_lanes.proofs.word_products.product.Goals as goal

-- the integer of a word is the same after the casts
widened : (x : ℕ) (v w : ℤ) → SFits w32 v → SFits w64 w → v ≡ to_z w32 x
    → w ≡ to_z w32 (of_z w32 v) → to_z w64 (of_z w64 w) ≡ to_z w32 x
widened x v w f g e is = to_z-of_z w64 w g ∙ is ∙ to_z-of_z w32 v f ∙ e

pub returns-clause-value : goal.returns-clause-value
returns-clause-value c within =
    product_of_low c.cast_unsigned-exact.result c.args.x c.args.y _ _
    (widened c.args.x c.cast_signed.result c.from.result (record { sfits = c.cast_signed.type_inv })
    (record { sfits = c.from.type_inv }) c.cast_signed.ensures c.from.ensures)
    (widened c.args.y c.cast_signed-2.result c.from-2.result
    (record { sfits = c.cast_signed-2.type_inv }) (record { sfits = c.from-2.type_inv })
    c.cast_signed-2.ensures c.from-2.ensures)
    c.cast_unsigned-exact.type_inv c.cast_unsigned-exact.ensures within

pub returns-clause-look : goal.returns-clause-look
returns-clause-look c =
    product_look c.cast_unsigned-exact.result c.args.x c.args.y _ _
    (widened c.args.x c.cast_signed.result c.from.result (record { sfits = c.cast_signed.type_inv })
    (record { sfits = c.from.type_inv }) c.cast_signed.ensures c.from.ensures)
    (widened c.args.y c.cast_signed-2.result c.from-2.result
    (record { sfits = c.cast_signed-2.type_inv }) (record { sfits = c.from-2.type_inv })
    c.cast_signed-2.ensures c.from-2.ensures)
    c.cast_unsigned-exact.type_inv c.cast_unsigned-exact.ensures
