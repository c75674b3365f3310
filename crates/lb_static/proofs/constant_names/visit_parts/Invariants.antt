use Rattle.std.proofs.Common.{◌≡◌, drop}
use Rattle.std.specs.Prelude.{flat_map}
use Rattle.lb_static.specs.NamedConstants.{part_constants}
use Rattle.lb_static.specs.WorkLists.{visited_after_all}
use Rattle.lb_static.proofs.constant_names.visit_parts.Given as goal

abbrev pub invariant-loop-part : goal.invariant-loop-part
invariant-loop-part l = record {
  count : l.work_list.count ≡ l.initial.work_list.count;
  order : visited_after_all l.work_list.order
      (flat_map (part_constants l.globals l.hidden) (drop l.part-index l.parts))
      ≡ visited_after_all l.initial.work_list.order
      (flat_map (part_constants l.globals l.hidden) l.parts);
}
