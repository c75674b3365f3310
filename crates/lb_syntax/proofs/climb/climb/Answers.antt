use Rattle.std.proofs.Common.{rules, arith, ℕ}
use Rattle.std.proofs.lemmas.Grind.{common_steps}
use Rattle.lb_syntax.specs.Reading.{climb}
use Rattle.lb_syntax.proofs.Turns.{one_more}
use Rattle.lb_syntax.proofs.climb.climb.Goals as goal

pub loop-turn-preserved : goal.loop-turn-preserved
unfolding climb
loop-turn-preserved g c =
    let turns = λ (n : ℕ). climb (g.G.Grower.step_at c.args.grower.now c.args.least) n
    (g.G.Grower.view c.loop-turn.left) c.loop-turn.rest.now in
    let e = one_more turns c.args.turns c.loop-turn._turn c.loop-turn-test.true
    c.loop-turn.invariant in
    first_of (search rules, grind (arith, common_steps))

pub returns-in-Stop : goal.returns-in-Stop
unfolding climb
returns-in-Stop g c =
    let turns = λ (n : ℕ). climb (g.G.Grower.step_at c.args.grower.now c.args.least) n
    (g.G.Grower.view c.loop-turn.left) c.loop-turn.rest.now in
    let e = one_more turns c.args.turns c.loop-turn._turn c.loop-turn-test.true
    c.loop-turn.invariant in
    first_of (search rules, grind (arith, common_steps))
