use Rattle.std.proofs.Common.{◌≡◌, ◌-◌}
use Rattle.lb_syntax.specs.Reading.{climb}
use Rattle.lb_syntax.proofs.climb.climb.Given as goal

abbrev pub invariant-loop-turn : goal.invariant-loop-turn
invariant-loop-turn g l =
    climb (g.G.Grower.step_at l.grower l.least) l.turns (g.G.Grower.view l.fn.first) l.tokens
    ≡ climb (g.G.Grower.step_at l.grower l.least) (l.turns - l._turn) (g.G.Grower.view l.left)
    l.rest
