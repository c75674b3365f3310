use Rattle.std.proofs.Common.{ap, ◌∙◌, sym, min}
use Rattle.lb_static.specs.DataTypes.{product}
use Rattle.lb_static.proofs.TypeViews.{product_reverse}
use Rattle.lb_static.proofs.data_type.DataType.element_count.Goals as goal

pub returns : goal.returns
returns c =
    c.size_product.ensures
    ∙ ap (λ ns. min (product ns) 65537) c.deref.ensures.value
    ∙ ap (λ n. min n 65537) (sym (product_reverse c.args.self.now.sizes.items))
