use Rattle.std.proofs.Common.{sym, subst, inl, inr}
use Rattle.std.proofs.lemmas.Result.{IfOk-weaker}
use Rattle.lb_flat.specs.declared.equation.Operation as code
use Rattle.lb_flat.specs.Values.{operation_of, scalar_of}
use Rattle.lb_sim.specs.Steady.{IsSteadyFor}
use Rattle.lb_sim.proofs.SteadyTables.{previous_steady, latest_steady}
use Rattle.lb_sim.proofs.steady.steady_memory.Goals as goal

pub returns-in-Previous : goal.returns-in-Previous
returns-in-Previous c =
    let home = c.args.home in
    let clear = c.args.clear.now.items in
    let more = c.never_nil.new.clear.items in
    let set = c.args.set.now.items in
    IfOk-weaker c.never_nil.result _ _
    (λ held is.
    elim c.in-Previous.is [
      | inl (v, a, e) ↦
          subst
          (λ (o : code.Operation). IsSteadyFor (operation_of o) home held clear more set set)
          (sym e) (previous_steady home held clear more set is (scalar_of v) a.0)
      | inr (v, a, e) ↦
          subst
          (λ (o : code.Operation). IsSteadyFor (operation_of o) home held clear more set set)
          (sym e) (latest_steady home held clear more set is (scalar_of v) a.0)
    ])
    c.never_nil.ensures
