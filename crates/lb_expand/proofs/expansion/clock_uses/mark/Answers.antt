use Rattle.lb_expand.proofs.Words.{Bool, List, [], length, sym, subst, HasFlags}
use Rattle.lb_expand.proofs.clock_tables.ServingClocks.{no_flag}
use Rattle.lb_expand.proofs.expansion.clock_uses.mark.Goals as goal

pub loop-name-init : goal.loop-name-init
loop-name-init c =
    let count = length c.args.flags.now in
    subst (λ (fs : List Bool). HasFlags count [] fs) (sym c.requires) (no_flag count)
