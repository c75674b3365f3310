-- One more size is a factor.
use Rattle.std.proofs.Common.{◌+◌, ◌*◌, ◌∷◌, ap, sym, ◌∙◌, arith, drop, min}
use Rattle.std.proofs.lemmas.List.{drop_more}
use Rattle.lb_static.specs.Specialized.{times_sizes}
use Rattle.lb_static.proofs.specialize.elements_of.Goals as goal

pub loop-size-preserved : goal.loop-size-preserved
loop-size-preserved c =
    let sizes = c.args.sizes.now in
    let i = c.loop-size.size-index in
    let size = c.size-item.result in
    let elements = c.loop-size.elements in
    let rest = drop (i + 1) sizes in
    record {
      same = ap (λ k. times_sizes k rest)
          (c.min-elements.ensures ∙ ap (λ n. min (elements * n) 65537) c.size_of.ensures.value)
          ∙ sym (ap (times_sizes elements)
          (drop_more sizes i size c.loop-size-test.true
          ∙ ap (λ y. y ∷ rest) (sym c.size-item.is))) ∙ c.loop-size.invariant.same;
      within = omega (arith, c.min-elements.ensures);
    }
