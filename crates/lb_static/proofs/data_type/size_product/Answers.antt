use Rattle.std.proofs.Common.{◌≡◌, ◌*◌, ◌+◌, ap, ◌∙◌, drop, sym, min, arith, get_or}
use Rattle.std.proofs.lemmas.List.{drop_more}
use Rattle.lb_static.specs.DataTypes.{product}
use Rattle.lb_static.proofs.TypeViews.{one_factor}
use Rattle.lb_static.proofs.data_type.size_product.Goals as goal

pub loop-size-preserved : goal.loop-size-preserved
loop-size-preserved c =
    let sizes = c.args.sizes.now in
    let i = c.loop-size.size-index in
    let elements = c.loop-size.elements in
    let next : c.min-elements.result ≡ min (elements * get_or sizes i 0) 65537 = omega arith in
    record {
      value = one_factor 65537 elements c.min-elements.result (get_or sizes i 0)
          (drop (i + 1) sizes) next
          ∙ ap (λ l. min (elements * product l) 65537)
          (sym (drop_more sizes i 0 c.loop-size-test.true))
          ∙ c.loop-size.invariant.value;
      within = omega arith;
    }
