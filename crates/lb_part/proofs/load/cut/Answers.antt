use Rattle.std.proofs.Common.{◌∙◌, List, ℕ, arith, subst, sym}
use Rattle.lb_part.specs.Ranges.{HasRange}
use Rattle.lb_part.proofs.LoadedParts.{cut-loaded}
use Rattle.lb_part.proofs.load.cut.Goals as goal

pub returns-in-Some-clause-cut : goal.returns-in-Some-clause-cut
returns-in-Some-clause-cut g c =
    λ all known.
    cut-loaded all c.as_slice.result.now c.args.head c.max-from.result c.min-to.result c.args.place
    c.args.size c.in-Some.cut
    (subst (λ (w : List ℕ). HasRange all c.max-from.result w) (sym c.as_slice.ensures.value)
    (c.in_ok-bytes.ensures.range all known))
    (c.requires.size all known) (c.as_slice.ensures.len ∙ c.in_ok-bytes.ensures.length)
    (omega arith) (omega arith) (omega arith) c.in-Some.ensures
