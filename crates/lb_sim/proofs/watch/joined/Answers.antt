use Rattle.lb_sim.proofs.Watching.{or_within, within_more}
use Rattle.lb_sim.proofs.watch.joined.Goals as goal

pub returns-then-is_marked-clause-plane : goal.returns-then-is_marked-clause-plane
returns-then-is_marked-clause-plane c = record {
  within = c.requires.plane;
  means = λ s r.
      or_within (s.bits c.args.plane.0) (s.bits c.args.here.0)
      (λ on.
      c.requires.marked.within c.args.here.0 (c.is_marked.ensures c.if-is_marked.true) s r on);
}

pub returns-clause-marked : goal.returns-clause-marked
returns-clause-marked c =
    within_more _ _ _ _ _ _ _ c.in_ok-both.ensures.grown c.requires.marked
    c.in_ok-both.ensures.plane c.mark.ensures
