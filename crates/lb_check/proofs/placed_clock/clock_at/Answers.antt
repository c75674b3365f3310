use Rattle.{lb_check.proofs.Words.{refl, ◌∙◌}, lb_static.proofs.Lookups.looked_up}
use Rattle.lb_check.proofs.placed_clock.clock_at.Goals as goal

pub returns : goal.returns
returns c =
    c.copied.ensures
    ∙ looked_up c.get.result c.args.clocks.now c.args.clocks.now c.args.place refl
    c.get.ensures.lookup.3
