-- The values of four words.
use Rattle.std.proofs.Common.{◌<◌, ◌∙◌, All, subst, sym, w64}
use Rattle.std.proofs.lemmas.Simd.{below_from_Fits}
use lib.Lanes.{Each1}
use Rattle.lb_trace.proofs.WordLanes.{all-values, digits-small}
use Rattle.lb_trace.proofs.words.values_of.Goals as goal

pub pairs_of-requires-clause-small : goal.pairs_of-requires-clause-small
pairs_of-requires-clause-small c =
    let fits : Each1 (λ w. w < 18446744073709551616) c.args.words =
    below_from_Fits w64 c.args.words c.fits-words.1 in
    subst (All (λ d. d < 10)) (sym c.digits_of.ensures.digits)
    (digits-small c.args.words c.fits-words.0 fits c.requires)

pub returns : goal.returns
returns c =
    let fits : Each1 (λ w. w < 18446744073709551616) c.args.words =
    below_from_Fits w64 c.args.words c.fits-words.1 in
    c.signed.ensures
    ∙ all-values c.args.words c.digits_of.result c.pairs_of.result c.fours_of.result
    c.eights_of-eights.result c.minus_of.result c.fits-words.0 fits c.digits_of.ensures.digits
    c.pairs_of.ensures.pairs c.fours_of.ensures.fours c.eights_of-eights.ensures.eights
    c.eights_of-eights.ensures.long c.minus_of.ensures.long c.minus_of.ensures.minus
