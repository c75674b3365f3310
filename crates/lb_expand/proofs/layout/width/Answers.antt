-- The sizes that are read give the width of the variable.
use Rattle.lb_expand.proofs.{Words.{ap, times_sizes, ◌∙◌}, numbering.StoredLayouts.capped}
use Rattle.lb_expand.proofs.layout.width.Goals as goal

pub returns : goal.returns
returns c =
    c.elements_of.ensures.value
    ∙ (ap (times_sizes 1) c.part_of-sizes.ensures ∙ capped c.args.statics.now c.args.variable.now)
