-- One more lane has its trace.
use Rattle.std.proofs.Common.{◌≡◌, ◌<◌, length, get_or, set, subst, sym, ap, ◌∙◌}
use Rattle.std.proofs.Common.{arith, below_more, length-set}
use Rattle.std.proofs.lemmas.List.{get_or_default, get_or-set_same, get_or-set_other}
use Rattle.lb_sim.proofs.queue.first_traces.Goals as goal

pub loop-i-preserved : goal.loop-i-preserved
loop-i-preserved c =
    let queue = c.args.queue.now in
    let n = c.loop-i.i in
    let members = c.loop-i.traces in
    let at = c.min.result in
    let new = get_or queue.members.now at 0 in
    let room = c.loop-i.invariant.0 in
    let inside : at < length queue.members.now =
    omega (arith, c.min.ensures, queue.some, queue.enough) in
    let here : get_or (set members n new) n 0 ≡ new =
    get_or-set_same members n new 0 (omega (arith, c.loop-i-test.true, room)) in (
      length-set members n new ∙ room,
      λ j l. below_more
          (λ k. get_or (set members n new) k 0 < length queue.set.now.traces) n
          (λ k b. subst (λ v. v < length queue.set.now.traces)
          (sym (get_or-set_other members n k new 0 (λ e. absurd (omega (arith, b, e)))))
          (c.loop-i.invariant.1 k b))
          (subst (λ v. v < length queue.set.now.traces) (sym here)
          (queue.within at 0 inside)) j l,
      λ j l. below_more
          (λ k. k < length queue.members.now
          → get_or (set members n new) k 0 ≡ get_or queue.members.now k 0) n
          (λ k b m.
          get_or-set_other members n k new 0 (λ e. absurd (omega (arith, b, e)))
          ∙ c.loop-i.invariant.2 k b m)
          (λ m. here
          ∙ ap (λ k. get_or queue.members.now k 0) (omega (arith, c.min.ensures, m))) j l,
    )

pub returns-clause-within : goal.returns-clause-within
returns-clause-within c k d l =
    subst (λ v. v < length c.args.queue.now.set.now.traces)
    (get_or_default c.loop-i.traces k 0 d l)
    (c.loop-i.invariant.1 k (omega (arith, l, c.loop-i.invariant.0, c.loop-i-test.false)))

pub returns-clause-first : goal.returns-clause-first
returns-clause-first c i l =
    c.loop-i.invariant.2 i (omega (arith, l, c.args.queue.now.few, c.loop-i-test.false))
    (omega (arith, l, c.args.queue.now.enough))
