-- The planes that the code takes to be false equal the plane that is false everywhere, and those
-- that it takes to be true equal the plane that is true everywhere.
use Rattle.std.proofs.Common.{◌≡◌, All, ap, ◌∙◌, subst, rules}
use Rattle.std.specs.Prelude.{not, slice_index, true, false}
use Rattle.lb_lanes.specs.Planes.{on}
use Rattle.lb_lanes.proofs.OnPlanes.{on-zero}
use Rattle.lb_machine.specs.declared.instruction.PlaneId.{PlaneId}
use Rattle.lb_sim.proofs.choice.is_usable.Goals as goal

pub returns : goal.returns
returns c e words i l there =
    let planes = c.args.planes.now in
    let first : c.are_as.result ≡ true = search rules in
    record {
      clear =
          subst (λ ps. All (λ (q : PlaneId). on (slice_index planes q.0) i ≡ false) ps)
          c.as_slice.ensures.value
          (λ k d lt. c.are_as.ensures first i l there k d lt ∙ on-zero i);
      set =
          subst (λ ps. All (λ (q : PlaneId). on (slice_index planes q.0) i ≡ true) ps)
          c.as_slice-2.ensures.value
          (λ k d lt. c.are_as-2.ensures e i l there k d lt ∙ c.not.ensures i l
          ∙ ap not (on-zero i));
    }
