-- There are as many values as static expressions.
use Rattle.std.proofs.Common.{◌≡◌, ◌∙◌, sym, ap, length, None, Some, List, ◌+◌, true, subst}
use Rattle.std.proofs.Common.{rules, arith}
use Rattle.std.proofs.lemmas.Grind.{common_steps}
use Rattle.std.specs.Prelude.{nat_le}
use Rattle.std.specs.List.{list_all}
use Rattle.lb_static.specs.Specialized.{given_by, part_values}
use Rattle.lb_static.specs.declared.resolved.Variable.{Variable}
use Rattle.lb_static.proofs.Evaluations.{as_many_values, sizes_stand}
use Rattle.lb_static.proofs.InstanceFaults.{range_refused, value_refused}
use Rattle.lb_static.proofs.specialize.specialize.Goals as goal

pub are_in_range-requires : goal.are_in_range-requires
are_in_range-requires c =
    let given = given_by c.args.values.now in
    let all : part_values given c.args.node.now.statics.items ≡ Some c.in-Some.statics.items =
    search rules in
    ap length c.deref-3.ensures.value
    ∙ as_many_values given c.args.node.now.statics.items c.in-Some.statics.items all
    ∙ sym (ap length c.deref-2.ensures.value)

pub are_narrow-requires : goal.are_narrow-requires
are_narrow-requires c =
    let given = given_by c.args.values.now in
    let node = c.args.node.now in
    let all : part_values given node.statics.items ≡ Some c.in-Some.statics.items = search rules in
    let as_many = ap length c.deref-then-are_in_range-2.ensures.value
    ∙ as_many_values given node.statics.items c.in-Some.statics.items all in
    let P : List Variable → Type 0 = λ vs. list_all
    (λ v. nat_le (v.first_size.0 + v.sizes) (length c.deref-then-are_in_range-2.result.now)) vs
    ≡ true in
    subst P (sym c.deref-then-are_in_range.ensures.value)
    (sizes_stand node (length c.deref-then-are_in_range-2.result.now) as_many c.requires)

pub returns-in_default : goal.returns-in_default
returns-in_default c =
    let given = given_by c.args.values.now in
    let none : part_values given c.args.node.now.statics.items ≡ None = search rules in
    value_refused given c.args.node.now c.value_fault.result c.value_fault.ensures none

pub returns-else-are_in_range : goal.returns-else-are_in_range
returns-else-are_in_range c =
    let given = given_by c.args.values.now in
    let statics = c.in-Some.statics.items in
    let all : part_values given c.args.node.now.statics.items ≡ Some statics = search rules in
    range_refused given c.args.node.now c.range_fault.result statics c.range_fault.ensures all
    (first_of (search rules, grind (arith, common_steps)))
