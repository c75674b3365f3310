use Rattle.std.proofs.Common.{◌∙◌, sym}
use Rattle.lb_machine.specs.Correct.{IsGrown}
use Rattle.lb_sim.specs.Showing.{scalar_at, value_at}
use Rattle.lb_sim.proofs.Returned.{if_ok_both}
use Rattle.lb_sim.proofs.Shown.{chosen_within}
use Rattle.lb_sim.proofs.picks.choose.Goals as goal

pub returns-clause-holding : goal.returns-clause-holding
returns-clause-holding c =
    let left = c.without_faults-left in
    let right = c.without_faults-right in
    if_ok_both c.choose_any.result _ _ _
    (λ h (grown : IsGrown c.args.code.now c.choose_any.new.code) any kinds.
    let made = any (left.ensures.kind ∙ kinds ∙ sym right.ensures.kind) in
    record {
      kind_is = made.kind_is ∙ left.ensures.kind;
      means = λ s r.
          made.means s r
          ∙ chosen_within (s.bits c.args.condition.bad.0) (s.bits c.args.condition.nil.0)
          (value_at s c.args.condition.value) (scalar_at s c.args.a) (scalar_at s c.args.b)
          (scalar_at s left.result) (scalar_at s right.result)
          (λ e. left.ensures.same s (grown.runs s r) e)
          (λ e. right.ensures.same s (grown.runs s r) e);
    })
    c.choose_any.ensures.grown c.choose_any.ensures.holding
