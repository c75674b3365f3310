-- The errors for an instance that is refused are lawful answers, where the rule is broken.
use Rattle.std.proofs.Common.{◌≡◌, ℤ, false, List, Option, Some, None, Err}
use Rattle.lb_syntax.specs.Tree.{Name}
use Rattle.lb_static.specs.InstanceFaults.{IsRangeFault, IsValueFault}
use Rattle.lb_static.specs.Specialized.{IsEvaluated, node_in_range, part_values}
use Rattle.lb_static.specs.declared.error.StaticError.{StaticError}
use Rattle.lb_static.specs.declared.error.StaticError.TheVariants as error
use Rattle.lb_static.specs.declared.resolved.ResolvedNode.{ResolvedNode}

pub value_refused : (given : Name → Option ℤ) (n : ResolvedNode) (e : StaticError)
    → IsValueFault e → part_values given n.statics.items ≡ None → IsEvaluated given n (Err e)
value_refused given n error.Memory h none = tt
value_refused given n (error.Value x) h none = none
value_refused given n (error.Name x) h none = h
value_refused given n (error.Recursion x) h none = h
value_refused given n (error.Root x) h none = h
value_refused given n (error.Range x) h none = absurd h
value_refused given n (error.Instances x) h none = h

pub range_refused : (given : Name → Option ℤ) (n : ResolvedNode) (e : StaticError)
    (values : List ℤ) → IsRangeFault e → part_values given n.statics.items ≡ Some values
    → node_in_range given n values ≡ false → IsEvaluated given n (Err e)
range_refused given n error.Memory values h found out = tt
range_refused given n (error.Range x) values h found out = (values, found, out)
range_refused given n (error.Name x) values h found out = h
range_refused given n (error.Recursion x) values h found out = h
range_refused given n (error.Root x) values h found out = h
range_refused given n (error.Value x) values h found out = absurd h
range_refused given n (error.Instances x) values h found out = h
