-- The verdicts of all batches that were drawn are added. At the end the worker was told that none
-- is left.
use Rattle.std.proofs.Common.{List, ℕ, length, ap, ◌∙◌, ◌++◌, length-append, arith, rules}
use Rattle.lb_board.specs.Seats.{drawn_of}
use Rattle.lb_pool.specs.Runs.{numbers_of}
use Rattle.lb_pool.proofs.Drawing.{judged_further}
use Rattle.lb_pool.proofs.claims.drain.Goals as goal

pub loop-i-smaller : goal.loop-i-smaller
loop-i-smaller g c =
    let one = simp length-append at (ap length c.in-Some.ensures.drawn.0) in
    omega (arith, c.in-Some.ensures.below.1, one, c.draw.ensures.draws)

pub loop-i-preserved : goal.loop-i-preserved
loop-i-preserved g c = (
  c.draw.ensures.seat,
  c.draw.ensures.shares ∙ c.in-Some.ensures.shares ∙ c.loop-i.invariant.1,
  judged_further c.args.work.now.plan.now (drawn_of c.loop-i.seat) (drawn_of c.claim.new.seat)
      (drawn_of c.draw.new.seat) c.in-Some.i c.draw.new.members.items
      (numbers_of c.loop-i.judged.items) (numbers_of c.run_members.new.judged.items)
      c.in-Some.ensures.drawn.0 c.in_ok-draw.ensures.members c.loop-i.invariant.2
      (c.in_ok-again.ensures.numbers
      ∙ ap (λ (l : List ℕ). numbers_of c.loop-i.judged.items ++ l) c.as_slice-run.ensures.value),
  c.in_ok-again.ensures.judged,
)

pub returns : goal.returns
returns g c = search rules
