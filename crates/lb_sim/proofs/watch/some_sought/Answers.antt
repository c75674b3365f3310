use Rattle.std.proofs.Common.{◌≡◌, ◌<◌, ◌≤◌, ◌||◌, true, Some, length, sym, ap, ◌∙◌, arith, rules}
use Rattle.std.proofs.lemmas.List.{get_or_default}
use Rattle.lb_flat.specs.Programs.{numbers_of}
use Rattle.lb_flat.specs.Run.{cell}
use Rattle.lb_sim.specs.Showing.{row_at}
use Rattle.lb_sim.specs.Watching.{is_sought}
use Rattle.lb_sim.proofs.MarkedElements.{marked_cut, marked_end, some_marked}
use Rattle.lb_sim.proofs.Watching.{watching_next, watching_last}
use Rattle.lb_sim.proofs.watch.some_sought.Goals as goal

pub loop-i-preserved : goal.loop-i-preserved
loop-i-preserved c =
    let l = c.loop-i in
    let wanted = c.in_ok-wanted.wanted.items in
    let lt : c.loop-i.i < length c.args.places.now = omega (arith, c.loop-i-test.true) in
    let there : c.loop-i.i < length c.in_ok-wanted.wanted.items =
    omega (arith, c.in_ok-wanted.ensures.as_long, c.loop-i-test.true) in
    let is_on : c.index.result.now ≡ true = search rules in
    let made = c.in_ok-next.ensures in
    record {
      watching = watching_next (is_sought c.args.sought) _ _ _ _ _ _ _ l.invariant.watching _ _ _
          (marked_cut wanted l.i c.index.result.now there (sym c.index.ensures ∙ is_on))
          lt (get_or_default _ _ _ _ lt) _ _ _ _
          c.in_ok-here.ensures.grown c.in_ok-here.ensures.plane made.grown made.plane;
      marked = made.marked;
      few = omega (arith, l.invariant.few, c.in_ok-here.ensures.few, made.few);
    }

pub returns-clause-plane : goal.returns-clause-plane
returns-clause-plane c =
    let l = c.loop-i in
    let wanted = c.in_ok-wanted.wanted.items in
    let le : length c.in_ok-wanted.wanted.items ≤ l.i =
    omega (arith, c.in_ok-wanted.ensures.as_long, c.loop-i-test.false) in
    let all = watching_last (is_sought c.args.sought) _ _ _ _ _ _ _ l.invariant.watching
    (marked_end wanted l.i le) in
    record {
      within = all.within;
      means = λ s r.
          all.means s r
          ∙ ap (λ b. s.bits c.args.above.0 || b)
          (some_marked (λ i. is_sought c.args.sought (Some (cell (row_at s c.args.places.now) i)))
          (numbers_of c.args.elements.now) wanted c.in_ok-wanted.ensures.marked);
    }
