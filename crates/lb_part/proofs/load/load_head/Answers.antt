use Rattle.std.proofs.Common.{◌∙◌, List, ℕ, arith, ap, subst, sym, take}
use Rattle.lb_part.specs.Ranges.{HasRange}
use Rattle.lb_part.proofs.LoadedParts.{head-loaded}
use Rattle.lb_part.proofs.load.load_head.Goals as goal

pub returns-in-Some-clause-head : goal.returns-in-Some-clause-head
returns-in-Some-clause-head g c =
    λ all known.
    let is = head-loaded all c.as_slice.result.now c.truncate.new.self.items c.loop.to c.args.size
    c.in-Some.end
    (subst (λ (w : List ℕ). HasRange all 0 w) (sym c.as_slice.ensures.value)
    (c.in_ok-head.ensures.range all known))
    (c.requires.size all known) (c.as_slice.ensures.len ∙ c.in_ok-head.ensures.length)
    c.in-Some.ensures.head
    (c.truncate.ensures.items ∙ ap (take c.in-Some.end) (sym c.as_slice.ensures.value)) in (
      omega (arith, is.0, c.truncate.ensures.len, c.in-Some.ensures.within, c.as_slice.ensures.len),
      is.1,
    )
