-- The next equation is put among the inputs, among the steps, or nowhere.
use Rattle.lb_flat.proofs.Words.{◌≡◌, ◌+◌, length, ap, sym, ◌∙◌, rules}
use Rattle.lb_flat.proofs.prepare.put_apart.Goals.{in-Input+in_ok-push}
use Rattle.lb_flat.proofs.prepare.put_apart.Goals.{in_default+then-is_step+in_ok-push-3}
use Rattle.lb_flat.proofs.prepare.put_apart.Goals.{then-has_memory+in_ok-push-2, else-has_memory}
use Rattle.lb_flat.proofs.{prepare.put_apart.Goals.in_default+else-is_step, runs.Steps.apart_same}
use Rattle.lb_flat.proofs.runs.Steps.{input_put, step_put, constant_passed_over, one_memory_more}
use Rattle.lb_flat.proofs.runs.Steps.{no_memory_more}
use Rattle.lb_flat.proofs.prepare.put_apart.Goals as goal

pub loop-i-preserved : goal.loop-i-preserved
loop-i-preserved c =
    let clocks = c.args.clocks.now in
    let qs = c.args.equations.now in
    let i = c.loop-i.i in
    let inputs = c.loop-i.inputs.items in
    let steps = c.loop-i.steps.items in
    let memories = c.loop-i.memories.items in
    let h = c.loop-i.invariant in
    let lt = c.loop-i-test.true in
    elim c.match-q.branch [
      | in-Input+in_ok-push w ↦
          apart_same c.args.size clocks qs (i + 1) _ _ _ _ _ _
          (ap (λ v. v.items) w.inputs-is ∙ w.in_ok-push.ensures.items)
          (ap (λ v. v.items) w.steps-is) (ap (λ v. v.items) w.memories-is)
          (input_put clocks qs i _ lt c.args.size inputs steps memories h w.in-Input.input
          w.in-Input.is (c.requires.within i _ lt))
      | in_default+then-is_step+in_ok-push-3 w ↦
          apart_same c.args.size clocks qs (i + 1) _ _ _ _ _ _
          (ap (λ v. v.items) w.inputs-is)
          (ap (λ v. v.items) w.steps-is ∙ w.in_ok-push-3.ensures.items)
          (ap (λ v. v.items) w.memories-is)
          (step_put clocks qs i _ lt c.args.size inputs steps memories h _
          w.in_default.not-Input (sym w.is_step.ensures ∙ w.if-is_step.true)
          (c.requires.within i _ lt)
          (elim w.if-has_memory.branch [
            | then-has_memory+in_ok-push-2 w' ↦
                let count : w'.len.result ≡ length steps = search rules in
                one_memory_more memories _ _ (length steps) w'.len.result
                (sym w.has_memory.ensures ∙ w'.if-has_memory.true) count
                (ap (λ v. v.items) w'.memories-is ∙ w'.in_ok-push-2.ensures.items)
            | else-has_memory w' ↦
                no_memory_more memories _ _ (length steps)
                (sym w.has_memory.ensures ∙ w'.if-has_memory.false)
                (ap (λ v. v.items) w'.memories-is)
          ]))
      | in_default+else-is_step w ↦
          apart_same c.args.size clocks qs (i + 1) _ _ _ _ _ _
          (ap (λ v. v.items) w.inputs-is) (ap (λ v. v.items) w.steps-is)
          (ap (λ v. v.items) w.memories-is)
          (constant_passed_over clocks qs i _ lt c.args.size inputs steps memories h
          w.in_default.not-Input (sym w.is_step.ensures ∙ w.if-is_step.false))
    ]
