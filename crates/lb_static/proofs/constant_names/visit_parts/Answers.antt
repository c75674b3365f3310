-- The parts that are left are visited next.
use Rattle.std.proofs.Common.{◌≡◌, ap, sym, ◌∙◌, get_or}
use Rattle.lb_static.specs.NamedConstants.{part_constants, places_named}
use Rattle.lb_static.specs.Parts.{static_names}
use Rattle.lb_static.specs.ResolvedTerms.{static_of}
use Rattle.lb_static.specs.WorkLists.{visited_after_all}
use Rattle.lb_static.proofs.ConstantPlaces.{visit_end, visit_item, visit_one_name}
use Rattle.lb_static.proofs.constant_names.visit_parts.Goals as goal
use Rattle.lb_static.proofs.constant_names.visit_parts.Goals.{
  in-Written+in_ok-visit_names-in-Written,
}
use Rattle.lb_static.proofs.constant_names.visit_parts.Goals.{in-Named+in_ok-visit_name-in-Named}

pub loop-part-preserved : goal.loop-part-preserved
loop-part-preserved c =
    let g = c.args.globals.now in
    let hidden = c.args.hidden.now in
    let order = c.loop-part.work_list.order in
    let parts = c.args.parts.now in
    let i = c.loop-part.part-index in
    let part : visited_after_all order (part_constants g hidden c.part-item.result)
    ≡ visited_after_all order (part_constants g hidden (get_or parts i c.part-item.result)) =
    ap (λ p. visited_after_all order (part_constants g hidden p)) c.part-item.is in
    elim c.match-part.branch [
      | in-Written+in_ok-visit_names-in-Written w ↦
          let text = ap (λ t. visited_after_all order
          (places_named g hidden (static_names (static_of t)))) (sym w.in-Written.is) in
          record {
            count = ap (λ v. v.count) w.work_list-is ∙ w.in_ok-visit_names-in-Written.ensures.count
                ∙ c.loop-part.invariant.count;
            order = visit_item (part_constants g hidden) order c.match-part.work_list.order _ parts
                i
                c.part-item.result c.loop-part-test.true
                (ap (λ v. v.order) w.work_list-is ∙ w.in_ok-visit_names-in-Written.ensures.order
                ∙ text
                ∙ part) c.loop-part.invariant.order;
          }
      | in-Named+in_ok-visit_name-in-Named w ↦
          let text = ap (λ t. visited_after_all order
          (places_named g hidden (static_names (static_of t)))) (sym w.in-Named.is) in
          record {
            count = ap (λ v. v.count) w.work_list-is ∙ w.in_ok-visit_name-in-Named.ensures.count
                ∙ c.loop-part.invariant.count;
            order = visit_item (part_constants g hidden) order c.match-part.work_list.order _ parts
                i
                c.part-item.result c.loop-part-test.true
                (ap (λ v. v.order) w.work_list-is ∙ w.in_ok-visit_name-in-Named.ensures.order
                ∙ visit_one_name order g hidden w.in-Named.name.now ∙ text ∙ part)
                c.loop-part.invariant.order;
          }
    ]

pub returns-clause-order : goal.returns-clause-order
returns-clause-order c =
    visit_end (part_constants c.args.globals.now c.args.hidden.now) c.loop-part.work_list.order _
    c.args.parts.now c.loop-part.part-index c.loop-part-test.false c.loop-part.invariant.order
