-- The kinds so far are the kinds of the first inputs.
use Rattle.lb_flat.proofs.Words.{◌++◌, ◌∷◌, [], ap₂, ◌∙◌, sym, take_more, get_or_from_slice_get}
use Rattle.lb_flat.proofs.Words.{slice_get_within, kinds_of}
use Rattle.lb_flat.proofs.recorded.kinds_of.Goals as goal

pub loop-i-preserved : goal.loop-i-preserved
loop-i-preserved c =
    let kinds = kinds_of c.args.signature.now in
    let next = get_or_from_slice_get kinds c.loop-i.i c.kind.result c.kind.result c.kind.ensures in
    let within = slice_get_within kinds c.loop-i.i c.kind.result c.kind.ensures in
    c.in_ok-push.ensures.items
    ∙ ap₂ (λ ks k. ks ++ k ∷ []) c.loop-i.invariant (sym next)
    ∙ sym (take_more kinds c.loop-i.i c.kind.result within)
