use Rattle.std.proofs.Common.{◌≡◌, ◌||◌, true, ap, inl, inr}
use Rattle.std.proofs.lemmas.Result.{IfOk-weaker}
use Rattle.lb_flat.specs.declared.scalar.Scalar as code
use Rattle.lb_flat.specs.Values.{scalar_of}
use Rattle.lb_sim.specs.Homes.{is_nil_scalar, is_bad_scalar}
use Rattle.lb_sim.proofs.allot.first_value.Goals as goal

pub returns-in-Nil-clause-value : goal.returns-in-Nil-clause-value
returns-in-Nil-clause-value c =
    let none = λ (v : code.Scalar). is_nil_scalar (scalar_of v) || is_bad_scalar (scalar_of v) in
    let is : none c.args.v ≡ true = elim c.in-Nil.is [
      | inl nil ↦ ap none nil
      | inr bad ↦ ap none bad
    ] in
    IfOk-weaker c.empty_value.result _ _ (λ x made. made (scalar_of c.args.v) is)
    c.empty_value.ensures.value
