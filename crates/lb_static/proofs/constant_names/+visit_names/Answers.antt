-- The names of both operands come one after the other.
use Rattle.std.proofs.Common.{ap, sym, ◌∙◌}
use Rattle.lb_syntax.specs.View.{view_static}
use Rattle.lb_static.specs.NamedConstants.{places_named}
use Rattle.lb_static.specs.Parts.{static_names}
use Rattle.lb_static.specs.WorkLists.{visited_after_all}
use Rattle.lb_static.proofs.ConstantPlaces.{ok_more, visit_both_names, visit_no_names}
use Rattle.lb_static.proofs.constant_names.+visit_names.Goals as goal

pub returns-in-Whole-clause-order : goal.returns-in-Whole-clause-order
returns-in-Whole-clause-order t c =
    let order = c.args.work_list.now.order in
    let g = c.args.globals.now in
    let hidden = c.args.hidden.now in
    visit_no_names order g hidden
    ∙ ap (λ e. visited_after_all order (places_named g hidden (static_names (view_static e))))
    (sym c.in-Whole.is)

pub returns-in_ok-visit_names-in-Combined-clause-order :
    goal.returns-in_ok-visit_names-in-Combined-clause-order
returns-in_ok-visit_names-in-Combined-clause-order t c =
    let order = c.args.work_list.now.order in
    let g = c.args.globals.now in
    let hidden = c.args.hidden.now in
    let left = c.in_ok-visit_names-in-Combined.ensures.order
    ∙ ap (λ e. visited_after_all order (places_named g hidden (static_names (view_static e))))
    c.deref.ensures in
    ok_more c.visit_names-in-Combined.result _ _ c.visit_names-in-Combined.ensures.order (λ right.
    visit_both_names order c.visit_names.new.work_list.order
    c.visit_names-in-Combined.new.work_list.order
    g hidden
    (static_names (view_static c.in-Combined.left.value))
    (static_names (view_static c.in-Combined.right.value)) left
    (right ∙ ap (λ e. visited_after_all c.visit_names.new.work_list.order
    (places_named g hidden (static_names (view_static e)))) c.deref-in-Combined.ensures)
    ∙ ap (λ e. visited_after_all order (places_named g hidden (static_names (view_static e))))
    (sym c.in-Combined.is))
