-- One more lane has its place.
use Rattle.std.proofs.Common.{◌≡◌, get_or, set, ◌∙◌, arith, below_more, length-set}
use Rattle.std.proofs.lemmas.List.{get_or-set_same, get_or-set_other}
use Rattle.lb_sim.proofs.queue.first_places.Goals as goal

pub loop-i-preserved : goal.loop-i-preserved
loop-i-preserved c =
    let places = c.loop-i.places in
    let n = c.loop-i.i in
    let room = c.loop-i.invariant.0 in (
      length-set places n n ∙ room,
      λ j l. below_more (λ k. get_or (set places n n) k 0 ≡ k) n
          (λ k b. get_or-set_other places n k n 0 (λ e. absurd (omega (arith, b, e)))
          ∙ c.loop-i.invariant.1 k b)
          (get_or-set_same places n n 0 (omega (arith, c.loop-i-test.true, room))) j l,
    )

pub returns-clause-places : goal.returns-clause-places
returns-clause-places c i l =
    c.loop-i.invariant.1 i (omega (arith, l, c.loop-i-test.false))
