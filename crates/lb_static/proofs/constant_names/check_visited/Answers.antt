-- One more constant.
use Rattle.std.proofs.Common.{◌≡◌, ◌+◌, ◌<◌, ◌≤◌, suc, Some, length, refl, ap, sym, subst, ◌∙◌}
use Rattle.std.proofs.Common.{arith}
use Rattle.std.specs.Prelude.{option_map, slice_get}
use Rattle.std.proofs.lemmas.List.{length-map}
use Rattle.std.proofs.lemmas.Option.{slice_get-map, slice_get_read}
use Rattle.lb_syntax.specs.SourceView.{view_constant, view_source}
use Rattle.lb_static.proofs.CheckedConstants.{AreJudged, all_judged, fault_judged, more_judged}
use Rattle.lb_static.proofs.WorkLists.{past_end}
use Rattle.lb_static.proofs.constant_names.check_visited.Goals as goal

pub loop-place-preserved : goal.loop-place-preserved
loop-place-preserved c =
    let items = c.args.source.now.constants.items in
    let s = view_source c.args.source.now in
    let g = c.args.globals.now in
    let before = c.args.work_list.now.order in
    let order = c.loop-place.work_list.order in
    let done = c.loop-place.done in
    let place = c.in-Some.place in
    let k = view_constant c.index.result.now in
    let count : g.constants ≡ length s.constants =
    c.requires.constants ∙ sym (length-map items view_constant) in
    let below : place < length items = subst (λ n. place < n)
    (c.loop-place.invariant.count ∙ c.requires.constants) c.in-Some.ensures.within in
    let at : slice_get s.constants place ≡ Some k =
    slice_get-map view_constant items place
    ∙ ap (option_map view_constant)
    (slice_get_read items (length items) place c.index.result.now refl below c.index.ensures) in
    let more = more_judged s g c.requires.names count c.requires.once before order done place k
    c.loop-place.invariant.judged (sym c.in-Some.ensures.value) at
    c.in_default-first_unknown.ensures in
    let after = c.in_ok-visit_names.ensures.order in
    let next : suc done ≡ done + 1 = omega arith in
    record {
      count = c.in_ok-visit_names.ensures.count ∙ c.loop-place.invariant.count;
      judged = subst (AreJudged s g before c.visit_names.new.work_list.order) next
          (subst (λ o. AreJudged s g before o (suc done)) (sym after) more);
    }

pub returns-in-Some-first_unknown-clause-err : goal.returns-in-Some-first_unknown-clause-err
returns-in-Some-first_unknown-clause-err c xs n =
    let items = c.args.source.now.constants.items in
    let s = view_source c.args.source.now in
    let g = c.args.globals.now in
    let place = c.in-Some.place in
    let k = view_constant c.index.result.now in
    let count : g.constants ≡ length s.constants =
    c.requires.constants ∙ sym (length-map items view_constant) in
    let below : place < length items = subst (λ m. place < m)
    (c.loop-place.invariant.count ∙ c.requires.constants) c.in-Some.ensures.within in
    let at : slice_get s.constants place ≡ Some k =
    slice_get-map view_constant items place
    ∙ ap (option_map view_constant)
    (slice_get_read items (length items) place c.index.result.now refl below c.index.ensures) in
    let few : length c.loop-place.work_list.order ≤ length s.constants =
    omega (arith, c.in-Some.ensures.few, c.loop-place.invariant.count, count) in
    fault_judged s g c.requires.names count c.requires.once c.unknown_name.result
    c.args.work_list.now.order c.loop-place.work_list.order c.loop-place.done place k xs
    c.in-Some-first_unknown.name.now c.loop-place.invariant.judged (sym c.in-Some.ensures.value) at
    few
    c.in-Some-first_unknown.ensures n c.unknown_name.ensures

pub returns-clause-ok : goal.returns-clause-ok
returns-clause-ok c xs n =
    let items = c.args.source.now.constants.items in
    let s = view_source c.args.source.now in
    let g = c.args.globals.now in
    let count : g.constants ≡ length s.constants =
    c.requires.constants ∙ sym (length-map items view_constant) in
    let past = past_end c.loop-place.work_list.order c.loop-place.done
    (sym c.in_default.ensures.value) in
    all_judged s g c.requires.names count c.requires.once c.args.work_list.now.order
    c.loop-place.work_list.order c.loop-place.done xs c.loop-place.invariant.judged past n
