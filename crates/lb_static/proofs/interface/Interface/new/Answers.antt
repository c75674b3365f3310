use Rattle.lb_static.proofs.RootFaults.{seen_some}
use Rattle.std.proofs.Common.{sym}
use Rattle.lb_static.specs.StoredTypes.{view_types}
use Rattle.lb_static.proofs.InterfaceTypes.{inputs_fit}
use Rattle.lb_static.proofs.interface.Interface.new.Goals as goal

pub invariant_of-result : goal.invariant_of-result
invariant_of-result c =
    let found = seen_some (λ v. v.now) c.interface_variables.result c.in-Some.variables _
    c.interface_variables.ensures c.in-Some.is in
    record {
      inputs_fit = inputs_fit c.args.node.now c.args.statics.now
          c.in-Some.variables.now c.in-Some-2.data_types.items (sym found)
          (seen_some view_types _ c.in-Some-2.data_types _
          c.in_ok-data_types.ensures c.in-Some-2.is);
    }
