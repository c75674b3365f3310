-- The instant that was computed is the next one of the run.
use Rattle.std.proofs.Common.{rules, arith, ◌+◌, ◌∙◌, List, sym, subst}
use Rattle.std.proofs.lemmas.List.{with_items_is, places}
use Rattle.std.specs.Vec.{with_items}
use Rattle.lb_flat.specs.Inputs.{inputs_of}
use Rattle.lb_flat.specs.declared.equation.Equation.{Equation}
use Rattle.lb_history.specs.Replays.{IsReplayed}
use Rattle.lb_history.proofs.Replays.{replay_next}
use Rattle.lb_history.proofs.replay.Replay.advance.Goals as goal

pub invariant_of-self : goal.invariant_of-self
invariant_of-self c =
    let r = c.args.self.now in
    let p = r.program.now in
    let X = inputs_of r.set.now r.trace in
    let row = c.compute.new.row in
    let equations = c.commit.new.equations in
    let row_held = with_items_is r.row row (search (rules, places)) in
    let equations_held = with_items_is r.equations equations (search (rules, places)) in
    let next : IsReplayed p X (r.next + 1) equations row =
    replay_next p X r.in_order r.next r.equations.items _ _ _ r.row.items _ row _ _ r.replayed
    c.as_slice-clocks.ensures.value c.as_slice-2.ensures.value c.as_mut_slice-2.ensures.value
    c.as_mut_slice.ensures.value (c.as_slice-3.ensures.value ∙ row_held) c.compute.ensures.row
    c.compute.ensures.elements c.commit.ensures.within c.commit.ensures.memories in
    record {
      in_range = r.in_range;
      in_order = r.in_order;
      columns = r.columns;
      recorded = r.recorded;
      all_instants = r.all_instants;
      within = omega (arith, c.requires, r.all_instants);
      replayed =
          subst (λ qs. IsReplayed p X (r.next + 1) qs (with_items r.row row).items)
          (sym equations_held)
          (subst (IsReplayed p X (r.next + 1) equations) (sym row_held) next);
    }
