-- An instance is entered, then the instances that it calls, one after another.
use Rattle.std.proofs.Common.{◌≡◌, ◌≤◌, ◌+◌, ◌-◌, ◌++◌, [], true, length, take, get_or, Some, None}
use Rattle.std.proofs.Common.{Vec, ℕ, List, refl, ap, sym, subst, ◌∙◌, arith, ◌∷◌}
use Rattle.std.specs.Prelude.{slice_get, IfSome, option_map}
use Rattle.std.specs.List.{list_all}
use Rattle.std.specs.declared.alloc.Global.{Global}
use Rattle.std.proofs.lemmas.List.{length-append, length-map, append-nil, append_assoc}
use Rattle.std.proofs.lemmas.List.Elements.{All-get_or}
use Rattle.std.proofs.lemmas.List.Sums.{AllPass-from_list_all}
use Rattle.std.proofs.lemmas.Option.{get_or_from_slice_get, slice_get-get_or, slice_get-map}
use Rattle.std.proofs.lemmas.Option.{slice_get_read}
use Rattle.std.proofs.lemmas.Result.{err_from_is_err_and, IfOk-at_ok}
use Rattle.lb_static.specs.Instances.{Program, Path, Child, children, instances_from, node_sites}
use Rattle.lb_static.specs.InstanceTable.{instance_of}
use Rattle.lb_static.specs.ReachedNodes.{is_linked, source_names}
use Rattle.lb_static.specs.ResolvedNodes.{node_of, statics_of, counts_of, IsResolved}
use Rattle.lb_static.specs.ResolvedTerms.{site_of, is_site_within, Counts}
use Rattle.lb_static.specs.LinkedSpecializations.{AreLinked}
use Rattle.lb_static.specs.Instantiation.{level, instantiation_refusal}
use Rattle.lb_static.specs.Instantiated.{AreJudged, AreEntered, IsInstantiable, IsRefusal}
use Rattle.lb_static.specs.Instantiated.{IsSoundNode, values_at, times_of, IsKnown}
use Rattle.lb_static.specs.InstanceRows.{begun_row, HasRows}
use Rattle.lb_static.specs.declared.resolved.CallSite.{CallSite}
use Rattle.lb_static.specs.declared.resolved.ResolvedNode.{ResolvedNode}
use Rattle.lb_static.specs.declared.table.SpecializationId.{SpecializationId}
use Rattle.lb_static.proofs.InstanceSteps.{elsewhere, memory_alone, ok_when, some_known_later}
use Rattle.lb_static.proofs.InstanceCalls.{entered_none, entered_more, refused_here, refused_below}
use Rattle.lb_static.proofs.InstanceCalls.{all_entered, of_calls, below, of_indexes, index_step}
use Rattle.lb_static.proofs.InstanceCalls.{call_step, calls_all}
use Rattle.lb_static.proofs.InstanceCallers.{callers_begun, callers_specialized}
use Rattle.lb_static.proofs.InstanceRows.{rows_none, rows_grown, rows_more, rows_specialized}
use Rattle.lb_static.proofs.InstanceRows.{known_stands, path_below, used_none, used_more}
use Rattle.lb_static.proofs.InstanceRows.{used_specialized}
use Rattle.lb_static.proofs.CallSites.{call_read}
use Rattle.lb_static.proofs.EntryCounts.{counted_items, few_done, few_more, fuel_below, fuel_here}
use Rattle.lb_static.proofs.EntryCounts.{more_rows, one_deeper, past_sites, still_above}
use Rattle.lb_static.proofs.LinkedSpecializations.{called_known, called_later, none_called}
use Rattle.lb_static.proofs.LinkedSpecializations.{called_next, all_called}
use Rattle.lb_static.proofs.SiteCounts.{entered_once}
use Rattle.lb_static.proofs.instantiate.+enter.Goals as goal
use Rattle.lb_static.proofs.instantiate.+enter.Goals.{in-Some+in_ok-push, in_default}
use Rattle.lb_static.proofs.ReachedPlaces.{all_item as element_all}

-- a place holder for a call behind the last one
abbrev no_call : CallSite
no_call = record {
  callee =
      record { 0 = 0 };
  offset = 0;
  first_argument = record { 0 = 0 };
  arguments = 0;
  count = None;
}

abbrev counted : ℕ → Counts
counted k = record { variables = 0; statics = k; calls = 0 }

pub returns-in_err-begun-clause-err : goal.returns-in_err-begun-clause-err
returns-in_err-begun-clause-err t c =
    let p = err_from_is_err_and c.from_residual.result c.from_residual.ensures.1 in
    rw (p.1, p.2) (λ P q n w at low judged.
    refused_here P q n c.args.values.now c.args.entry.level
    (length c.args.entered.now.instances.items) c.in_err-begun.field-0.0 c.requires.low
    (c.in_err-begun.ensures.judged P q n w at low judged))

pub loop-call-init : goal.loop-call-init
loop-call-init t c =
    let row = c.len-row.ensures in
    let more = ap length c.in_ok-begun.ensures.row
    ∙ length-append c.args.entered.now.instances.items _ in
    let same = ap length c.in_ok-begun.ensures.same in
    let count : c.len-row.result + 1 ≡ length c.begin.new.entered.instances.items = omega arith in
    record {
      room = omega (arith, c.in_ok-begun.ensures.few);
      few = omega arith;
      above = omega arith;
      grown = λ i s at. subst (λ l. slice_get l i ≡ Some s) (sym c.in_ok-begun.ensures.same) at;
      judged = λ P p n w at low judged. (
        subst (AreJudged P c.args.reached.now) (sym c.in_ok-begun.ensures.same) judged,
        subst (AreEntered P (c.len-row.result + 1) []) count
            (entered_none P (c.len-row.result + 1)),
      );
      linked_calls = λ P p n w at low judged linked_calls. (
        subst (AreLinked c.args.reached.now) (sym c.in_ok-begun.ensures.same) linked_calls,
        none_called c.args.reached.now c.in_ok-begun.begun.statics.items
            c.begin.new.entered.specializations n.calls.items c.new-callees.result.items
            c.new-callees.ensures.items,
      );
      used =
          used_none c.args.entered.now.specializations c.begin.new.entered.specializations
          (c.args.entered.now.instances.items ++ begun_row c.args.entry.origin ∷ [])
          c.begin.new.entered.instances.items c.in_ok-begun.ensures.same c.in_ok-begun.ensures.row;
      callers =
          callers_begun c.args.entered.now.instances.items c.begin.new.entered.instances.items
          c.args.entry.origin c.in_ok-begun.ensures.row;
      stand = λ P p n w at low judged path.
          rows_none c.args.reached.now c.begin.new.entered.specializations
          (c.args.entered.now.instances.items ++ begun_row c.args.entry.origin ∷ [])
          c.begin.new.entered.instances.items c.in_ok-begun.ensures.row;
    }

pub callee_of-callee-requires-clause-within : goal.callee_of-callee-requires-clause-within
callee_of-callee-requires-clause-within t c =
    let r = c.args.reached.now in
    let nodes = r.nodes.items in
    let id = c.args.entry.node.0 in
    let n = c.index.result.now in
    let items = c.deref-site-items.result.now in
    let sound : IsSoundNode r n = subst (IsSoundNode r) (sym c.index.ensures)
    (All-get_or (IsSoundNode r) nodes id n c.requires.within c.requires.sound) in
    let at : slice_get nodes id ≡ Some n =
    slice_get_read nodes (length nodes) id n refl c.requires.within c.index.ensures in
    let sized = ap length c.deref.ensures.value ∙ c.in_ok-begun.ensures.sized n at in
    let passes = subst (λ (l : List CallSite). list_all
    (is_site_within (length r.ids.items) (counts_of n)) l ≡ true)
    (sym c.deref-site-items.ensures.value) sound.calls in
    let here = All-get_or (λ s. is_site_within (length r.ids.items) (counts_of n) s ≡ true) items
    c.loop-call.call no_call c.loop-call-test.true
    (AllPass-from_list_all (is_site_within (length r.ids.items) (counts_of n)) items passes) in
    subst (λ (k : ℕ). is_site_within (length r.ids.items) (counted k)
    (get_or items c.loop-call.call no_call) ≡ true) (sym sized) here

pub loop-index-init : goal.loop-index-init
loop-index-init t c =
    let inv = c.loop-call.invariant in
    record {
      room = inv.room;
      few = inv.few;
      above = inv.above;
      grown = inv.grown;
      judged = λ P p n m w at am low judged.
          let before = inv.judged P p n w at low judged in (
            before.0,
            subst (λ l. AreEntered P (c.len-row.result + 1) l
                (length c.loop-call.entered.instances.items))
                (sym (append-nil (of_calls P p n c.args.values.now c.args.entry.level
                c.loop-call.call))) before.1,
          );
      since = λ i s at. at;
      known = tt;
      none = λ e. refl;
      linked_calls = λ P p n m w at am low judged linked_calls.
          (inv.linked_calls P p n w at low judged linked_calls).0;
      used = inv.used;
      callers = inv.callers;
      stand = λ P p n m w at am low judged path.
          let rows = c.args.entered.now.instances.items ++ begun_row c.args.entry.origin ∷ [] in
          subst (HasRows c.args.reached.now c.loop-call.entered.specializations rows
          c.loop-call.entered.instances.items)
          (sym (append-nil (of_calls P p n c.args.values.now c.args.entry.level c.loop-call.call)))
          (inv.stand P p n w at low judged path);
    }

pub loop-index-preserved : goal.loop-index-preserved
loop-index-preserved t c =
    let inv = c.loop-index.invariant in
    let told = c.in_ok-id.ensures in
    let values = c.args.values.now in
    let level_here = c.args.entry.level in
    let call = c.loop-call.call in
    let index = c.loop-index.index in
    let arguments = c.callee_of-callee.result.values.now in
    record {
      room = told.room;
      few = few_more (length c.args.entered.now.specializations)
          (length c.loop-index.entered.specializations)
          (length c.enter.new.entered.specializations) (c.len-row.result + 1)
          (length c.loop-index.entered.instances.items) (length c.enter.new.entered.instances.items)
          told.few inv.few;
      above = still_above c.len-row.result (length c.loop-index.entered.instances.items)
          (length c.enter.new.entered.instances.items) told.more inv.above;
      grown = λ i s at. told.grown i s (inv.grown i s at);
      judged = λ P p n m w at am low judged.
          let before = inv.judged P p n m w at am low judged in
          let deeper = one_deeper (level P p) level_here low in
          let after = told.ok P (Child p call index) m w am deeper before.0 in
          let fuel = fuel_below level_here in
          let here = subst (λ f. AreEntered P (length c.loop-index.entered.instances.items)
          (instances_from P f (instance_of (Child p call index) (node_of m) arguments))
          (length c.enter.new.entered.instances.items)) fuel after.1 in
          let calls = of_calls P p n values level_here call in
          let indexes = of_indexes P p n values level_here call m arguments index in (
            after.0,
            subst (λ l. AreEntered P (c.len-row.result + 1) l
                (length c.enter.new.entered.instances.items))
                (append_assoc calls indexes
                (instances_from P (65 - level_here)
                (instance_of (Child p call index) (node_of m) arguments))
                ∙ ap (λ l. calls ++ l) (sym
                (index_step P p n values level_here call m arguments index)))
                (entered_more P (c.len-row.result + 1) (calls ++ indexes)
                (instances_from P (65 - level_here)
                (instance_of (Child p call index) (node_of m) arguments))
                (length c.loop-index.entered.instances.items)
                (length c.enter.new.entered.instances.items) before.1 here),
          );
      since = λ i s at. told.grown i s (inv.since i s at);
      known = told.known;
      none = λ e. absurd cc;
      linked_calls = λ P p n m w at am low judged linked_calls.
          let deeper = one_deeper (level P p) level_here low in
          told.linked_calls P (Child p call index) m w am deeper
          (inv.judged P p n m w at am low judged).0
          (inv.linked_calls P p n m w at am low judged linked_calls);
      used =
          used_more c.args.entered.now.specializations c.loop-index.entered.specializations
          c.enter.new.entered.specializations
          (c.args.entered.now.instances.items ++ begun_row c.args.entry.origin ∷ [])
          c.loop-index.entered.instances.items c.enter.new.entered.instances.items
          inv.used told.used;
      callers = λ here all. told.callers inv.above (inv.callers here all);
      stand = λ P p n m w at am low judged path.
          let r = c.args.reached.now in
          let old = c.args.entered.now.instances.items in
          let from = c.args.entry.origin in
          let so_far = c.loop-index.entered.specializations in
          let now = c.enter.new.entered.specializations in
          let rows = old ++ begun_row from ∷ [] in
          let calls = of_calls P p n values level_here call in
          let indexes = of_indexes P p n values level_here call m arguments index in
          let child = instance_of (Child p call index) (node_of m) arguments in
          let before = inv.judged P p n m w at am low judged in
          let stood = inv.stand P p n m w at am low judged path in
          let deeper = one_deeper (level P p) level_here low in
          let fuel = fuel_below level_here in
          let place = counted_items c.args.entered.now.instances c.len-row.result c.len-row.ensures
          in
          let under = path_below r so_far old c.loop-index.entered.instances.items from p
          c.len-row.result (calls ++ indexes) (record { 0 = call }) index place path stood in
          let after = told.stand P (Child p call index) m w am deeper before.0 under in
          let here = subst (λ f. HasRows r now c.loop-index.entered.instances.items
          c.enter.new.entered.instances.items (instances_from P f child)) fuel after in
          subst (HasRows r now rows c.enter.new.entered.instances.items)
          (append_assoc calls indexes (instances_from P (65 - level_here) child)
          ∙ ap (λ l. calls ++ l) (sym (index_step P p n values level_here call m arguments index)))
          (rows_more r now rows c.loop-index.entered.instances.items
          c.enter.new.entered.instances.items (calls ++ indexes)
          (instances_from P (65 - level_here) child)
          (rows_grown r so_far now rows c.loop-index.entered.instances.items (calls ++ indexes)
          told.grown stood) here);
    }

pub returns-in_err-id-clause-err : goal.returns-in_err-id-clause-err
returns-in_err-id-clause-err t c =
    let e = err_from_is_err_and c.from_residual-in_err-id.result
    c.from_residual-in_err-id.ensures.1 in
    let r = c.args.reached.now in
    let nodes = r.nodes.items in
    let values = c.args.values.now in
    let level_here = c.args.entry.level in
    let call = c.loop-call.call in
    let index = c.loop-index.index in
    let items = c.deref-site-items.result.now in
    let callee = c.callee_of-callee.result in
    rw (e.1, e.2) (λ P p n w at low judged.
    let m = get_or nodes callee.node.0 n in
    let am = slice_get-get_or nodes callee.node.0 n c.callee_of-callee.ensures.within in
    let begun = c.in_ok-begun.ensures.judged P p n w at low judged in
    let is = element_all (IsResolved (source_names P)) nodes c.args.entry.node.0 n
    w.reached.resolved at in
    let same = c.deref-site-items.ensures.value
    ∙ ap (λ (k : ResolvedNode). k.calls.items)
    (c.index.ensures ∙ get_or_from_slice_get nodes c.args.entry.node.0 n c.index.result.now
    at) in
    let arguments = c.callee_of-callee.ensures.values
    ∙ ap (λ l. values_at l (get_or items call no_call).first_argument
    (get_or items call no_call).arguments) c.deref.ensures.value in
    let times = c.callee_of-callee.ensures.count
    ∙ ap (λ l. times_of l (get_or items call no_call).count) c.deref.ensures.value in
    let read = call_read P r c.args.constants.now w p n values c.in_ok-begun.begun.statics.items
    begun.0.evaluated_as items call no_call callee.node m callee.values.now callee.count
    is same c.loop-call-test.true c.callee_of-callee.ensures.node am arguments times in
    let before = c.loop-index.invariant.judged P p n m w at am low judged in
    let deeper = one_deeper (level P p) level_here low in
    let fuel = fuel_below level_here in
    let entered = length c.loop-index.entered.instances.items in
    let refused = subst (λ f. IsRefusal
    (instantiation_refusal P entered (instances_from P f
    (instance_of (Child p call index) (node_of m) callee.values.now))) c.in_err-id.field-0.0)
    fuel
    (c.in_err-id.ensures.err P (Child p call index) m w am deeper before.0) in
    let row = ap (λ k. k + 1)
    (counted_items c.args.entered.now.instances c.len-row.result c.len-row.ensures) in
    refused_below P p n values level_here (length c.args.entered.now.instances.items)
    (c.len-row.result + 1) call
    (site_of (source_names P) (statics_of n) (get_or items call no_call)) m callee.values.now
    callee.count index entered c.in_err-id.field-0.0 c.requires.low row begun.1 read.0 read.1
    c.loop-index-test.true read.2 before.1 refused)

pub loop-call-preserved : goal.loop-call-preserved
loop-call-preserved t c =
    let inv = c.loop-index.invariant in
    let r = c.args.reached.now in
    let nodes = r.nodes.items in
    let values = c.args.values.now in
    let level_here = c.args.entry.level in
    let call = c.loop-call.call in
    let items = c.deref-site-items.result.now in
    let callee = c.callee_of-callee.result in
    let first = c.args.entered.now.specializations in
    -- the instances of the calls so far: of the calls before, and of this call
    let whole = λ (P : Program) (p : Path) (n m : ResolvedNode)
    (w : IsInstantiable P r c.args.constants.now)
    (at : slice_get nodes c.args.entry.node.0 ≡ Some n)
    (am : slice_get nodes callee.node.0 ≡ Some m) (low : level P p ≡ level_here)
    (judged : AreJudged P r first).
    let begun = c.in_ok-begun.ensures.judged P p n w at low judged in
    let is = element_all (IsResolved (source_names P)) nodes c.args.entry.node.0 n
    w.reached.resolved at in
    let same = c.deref-site-items.ensures.value
    ∙ ap (λ (k : ResolvedNode). k.calls.items)
    (c.index.ensures ∙ get_or_from_slice_get nodes c.args.entry.node.0 n c.index.result.now
    at) in
    let arguments = c.callee_of-callee.ensures.values
    ∙ ap (λ l. values_at l (get_or items call no_call).first_argument
    (get_or items call no_call).arguments) c.deref.ensures.value in
    let times = c.callee_of-callee.ensures.count
    ∙ ap (λ l. times_of l (get_or items call no_call).count) c.deref.ensures.value in
    let read = call_read P r c.args.constants.now w p n values c.in_ok-begun.begun.statics.items
    begun.0.evaluated_as items call no_call callee.node m callee.values.now callee.count
    is same c.loop-call-test.true c.callee_of-callee.ensures.node am arguments times in
    let ended : c.loop-index.index ≡ callee.count = omega arith in
    let s = site_of (source_names P) (statics_of n) (get_or items call no_call) in
    let calls = of_calls P p n values level_here call in
    call_step P p n values level_here call s read.0 read.1
    ∙ ap (λ l. calls ++ below P p n values level_here l) read.2
    ∙ ap (λ k. calls ++ of_indexes P p n values level_here call m callee.values.now k)
    (sym ended) in
    record {
      room = inv.room;
      few = inv.few;
      above = inv.above;
      grown = inv.grown;
      judged = λ P p n w at low judged.
          let m = get_or nodes callee.node.0 n in
          let am = slice_get-get_or nodes callee.node.0 n c.callee_of-callee.ensures.within in
          let before = inv.judged P p n m w at am low judged in (
            before.0,
            subst (λ l. AreEntered P (c.len-row.result + 1) l
                (length c.loop-index.entered.instances.items))
                (sym (whole P p n m w at am low judged))
                before.1,
          );
      linked_calls = λ P p n w at low judged linked_calls.
          let m = get_or nodes callee.node.0 n in
          let am = slice_get-get_or nodes callee.node.0 n c.callee_of-callee.ensures.within in
          let statics = c.in_ok-begun.begun.statics.items in
          let first = c.loop-call.entered.specializations in
          let now = c.loop-index.entered.specializations in
          let site = get_or items call no_call in
          let begun = c.in_ok-begun.ensures.judged P p n w at low judged in
          let is = element_all (IsResolved (source_names P)) nodes c.args.entry.node.0 n
          w.reached.resolved at in
          let same = c.deref-site-items.ensures.value
          ∙ ap (λ (k : ResolvedNode). k.calls.items)
          (c.index.ensures ∙ get_or_from_slice_get nodes c.args.entry.node.0 n
          c.index.result.now at) in
          let there : slice_get n.calls.items call
          ≡ Some site = subst (λ l. slice_get l call ≡ Some site) same
          (slice_get-get_or items call no_call c.loop-call-test.true) in
          let arguments = c.callee_of-callee.ensures.values
          ∙ ap (λ l. values_at l site.first_argument site.arguments) c.deref.ensures.value in
          let times = c.callee_of-callee.ensures.count
          ∙ ap (λ l. times_of l site.count) c.deref.ensures.value in
          let before = c.loop-call.invariant.linked_calls P p n w at low judged linked_calls in
          let later = called_later r statics first now (take call n.calls.items)
          c.loop-call.callees.items inv.since before.1 in (
            inv.linked_calls P p n m w at am low judged linked_calls,
            elim c.match-called.branch [
              | in-Some+in_ok-push b ↦
                  let id = b.in-Some.id in
                  let known : IsKnown now callee.node callee.values.now id = subst
                  (λ o. IfSome o (IsKnown now callee.node callee.values.now)) b.in-Some.is
                  inv.known in
                  called_next r statics now n.calls.items c.loop-call.callees.items
                  c.match-called.callees.items call site id there later
                  (called_known r now statics site callee.node callee.values.now id
                  c.callee_of-callee.ensures.node arguments known)
                  (ap (λ (v : Vec SpecializationId Global). v.items) b.callees-is
                  ∙ b.in_ok-push.ensures.items)
              | in_default b ↦
                  let once = entered_once P r c.args.constants.now w p n values statics begun.0 call
                  site is there in
                  let none : c.loop-index.index ≡ 0 = inv.none b.in_default.is in
                  absurd (omega (arith, once, none, times, c.loop-index-test.false))
            ],
          );
      used = inv.used;
      callers = inv.callers;
      stand = λ P p n w at low judged path.
          let m = get_or nodes callee.node.0 n in
          let am = slice_get-get_or nodes callee.node.0 n c.callee_of-callee.ensures.within in
          let rows = c.args.entered.now.instances.items ++ begun_row c.args.entry.origin ∷ [] in
          subst (HasRows r c.loop-index.entered.specializations rows
          c.loop-index.entered.instances.items) (sym (whole P p n m w at am low judged))
          (inv.stand P p n m w at am low judged path);
    }

pub add_specialization-requires-clause-known : goal.add_specialization-requires-clause-known
add_specialization-requires-clause-known t c =
    let node = c.args.entry.node in
    let so_far = c.loop-call.entered.specializations in
    let known = c.in_ok-begun.begun.known in
    some_known_later c.args.entered.now.specializations so_far node c.args.values.now known
    c.loop-call.invariant.grown c.in_ok-begun.ensures.known

pub returns-clause-grown : goal.returns-clause-grown
returns-clause-grown t c =
    ok_when c.add_specialization.result _
    (λ x e. λ i s at. IfOk-at_ok _ e c.add_specialization.ensures.grown i s
    (c.loop-call.invariant.grown i s at))

pub returns-clause-ok : goal.returns-clause-ok
returns-clause-ok t c =
    let r = c.args.reached.now in
    let nodes = r.nodes.items in
    let values = c.args.values.now in
    let level_here = c.args.entry.level in
    let before = length c.args.entered.now.instances.items in
    let statics = c.in_ok-begun.begun.statics.items in
    ok_when c.add_specialization.result _ (λ x e. λ P p n w at low judged.
    let is = element_all (IsResolved (source_names P)) nodes c.args.entry.node.0 n
    w.reached.resolved at in
    let so_far = c.loop-call.invariant.judged P p n w at low judged in
    let begun = c.in_ok-begun.ensures.judged P p n w at low judged in
    let same = c.deref-site-items.ensures.value
    ∙ ap (λ (k : ResolvedNode). k.calls.items)
    (c.index.ensures ∙ get_or_from_slice_get nodes c.args.entry.node.0 n c.index.result.now
    at) in
    let sites = ap length is.calls in
    let as_many = length-map n.calls.items (site_of (source_names P) (statics_of n)) in
    let items = ap length same in
    let past = past_sites (length (node_sites (node_of n))) (length n.calls.items)
    (length c.deref-site-items.result.now) c.loop-call.call (sym as_many ∙ sites) items
    c.loop-call-test.false in
    let row = ap (λ k. k + 1)
    (counted_items c.args.entered.now.instances c.len-row.result c.len-row.ensures) in
    let entered = all_entered P p n values level_here before (c.len-row.result + 1) c.loop-call.call
    (length c.loop-call.entered.instances.items) c.requires.low row begun.1 past so_far.1 in
    let here = λ (q : Path) (k : ResolvedNode) (found : slice_get nodes c.args.entry.node.0
    ≡ Some k).
    elsewhere P p q k values statics (c.in_ok-begun.ensures.judged P p k w found low judged).0 in (
      IfOk-at_ok _ e (c.add_specialization.ensures.judged P r c.requires.within so_far.0 here),
      subst (AreEntered P before
          (instances_from P (66 - level_here) (instance_of p (node_of n) values)))
          (sym (IfOk-at_ok _ e c.add_specialization.ensures.rows)) entered,
    ))

pub returns-clause-err : goal.returns-clause-err
returns-clause-err t c =
    memory_alone c.add_specialization.result
    (λ e. (P : Program) (p : Path) (n : ResolvedNode)
    → IsInstantiable P c.args.reached.now c.args.constants.now
    → slice_get c.args.reached.now.nodes.items c.args.entry.node.0 ≡ Some n
    → level P p ≡ c.args.entry.level
    → AreJudged P c.args.reached.now c.args.entered.now.specializations
    → IsRefusal (instantiation_refusal P (length c.args.entered.now.instances.items)
    (instances_from P (66 - c.args.entry.level) (instance_of p (node_of n) c.args.values.now))) e)
    (λ P p n w at low judged. tt) c.add_specialization.ensures.err

pub returns-clause-linked_calls : goal.returns-clause-linked_calls
returns-clause-linked_calls t c =
    let r = c.args.reached.now in
    let nodes = r.nodes.items in
    let statics = c.in_ok-begun.begun.statics.items in
    ok_when c.add_specialization.result _ (λ x e. λ P p n w at low judged linked_calls.
    let so_far = c.loop-call.invariant.linked_calls P p n w at low judged linked_calls in
    let same = c.deref-site-items.ensures.value
    ∙ ap (λ (k : ResolvedNode). k.calls.items)
    (c.index.ensures ∙ get_or_from_slice_get nodes c.args.entry.node.0 n c.index.result.now
    at) in
    let items = ap length same in
    let past = subst (λ k. k ≤ c.loop-call.call) items c.loop-call-test.false in
    IfOk-at_ok _ e (c.add_specialization.ensures.linked_calls r n at so_far.0
    (all_called r statics c.loop-call.entered.specializations n.calls.items
    c.loop-call.callees.items c.loop-call.call past so_far.1)))

pub returns-clause-used : goal.returns-clause-used
returns-clause-used t c =
    let place = counted_items c.args.entered.now.instances c.len-row.result c.len-row.ensures in
    ok_when c.add_specialization.result _ (λ x e.
    used_specialized c.args.entered.now.specializations c.loop-call.entered.specializations
    c.add_specialization.new.entered.specializations
    c.args.entered.now.instances.items c.loop-call.entered.instances.items
    c.add_specialization.new.entered.instances.items c.args.entry.origin c.len-row.result x
    place c.loop-call.invariant.used (IfOk-at_ok _ e c.add_specialization.ensures.placed)
    (IfOk-at_ok _ e c.add_specialization.ensures.one_more))

pub returns-clause-callers : goal.returns-clause-callers
returns-clause-callers t c =
    let place = counted_items c.args.entered.now.instances c.len-row.result c.len-row.ensures in
    ok_when c.add_specialization.result _ (λ x e. λ here all.
    callers_specialized c.args.entered.now.specializations c.loop-call.entered.specializations
    c.args.entered.now.instances.items c.loop-call.entered.instances.items
    c.add_specialization.new.entered.instances.items c.args.entry.origin c.len-row.result x
    place c.loop-call.invariant.used (IfOk-at_ok _ e c.add_specialization.ensures.placed)
    (c.loop-call.invariant.callers here all))

pub returns-clause-stand : goal.returns-clause-stand
returns-clause-stand t c =
    let r = c.args.reached.now in
    let nodes = r.nodes.items in
    let node = c.args.entry.node in
    let from = c.args.entry.origin in
    let values = c.args.values.now in
    let level_here = c.args.entry.level in
    let old = c.args.entered.now.instances.items in
    let rows = old ++ begun_row from ∷ [] in
    let so_far = c.loop-call.entered.specializations in
    let now = c.add_specialization.new.entered.specializations in
    let middle = c.loop-call.entered.instances.items in
    let place = counted_items c.args.entered.now.instances c.len-row.result c.len-row.ensures in
    ok_when c.add_specialization.result _ (λ x e. λ P p n w at low judged path.
    let is = element_all (IsResolved (source_names P)) nodes node.0 n w.reached.resolved at in
    let same = c.deref-site-items.ensures.value
    ∙ ap (λ (k : ResolvedNode). k.calls.items)
    (c.index.ensures ∙ get_or_from_slice_get nodes node.0 n c.index.result.now at) in
    let sites = ap length is.calls in
    let as_many = length-map n.calls.items (site_of (source_names P) (statics_of n)) in
    let items = ap length same in
    let past = past_sites (length (node_sites (node_of n))) (length n.calls.items)
    (length c.deref-site-items.result.now) c.loop-call.call (sym as_many ∙ sites) items
    c.loop-call-test.false in
    let here = instance_of p (node_of n) values in
    let calls = of_calls P p n values level_here c.loop-call.call in
    let grown = rows_grown r so_far now rows middle calls
    (IfOk-at_ok _ e c.add_specialization.ensures.grown)
    (c.loop-call.invariant.stand P p n w at low judged path) in
    let under = subst (HasRows r now rows middle)
    (calls_all P p n values level_here c.loop-call.call past) grown in
    let known = IfOk-at_ok _ e c.add_specialization.ensures.known in
    let tree = slice_get-map node_of nodes node.0 ∙ ap (option_map node_of) at in
    let stands = known_stands r now node n values x from p tree known in
    let all = rows_specialized r now old middle c.add_specialization.new.entered.instances.items
    from p
    c.len-row.result x here (below P p n values level_here (children P here))
    place path stands under (IfOk-at_ok _ e c.add_specialization.ensures.placed) in
    let fuel = fuel_here level_here c.requires.low in
    subst (λ f. HasRows r now old c.add_specialization.new.entered.instances.items
    (instances_from P f here))
    (sym fuel) all)

pub callee_of-callee-requires-clause-linked : goal.callee_of-callee-requires-clause-linked
callee_of-callee-requires-clause-linked t c =
    let r = c.args.reached.now in
    let n = c.index.result.now in
    let items = c.deref-site-items.result.now in
    let sound : IsSoundNode r n = subst (IsSoundNode r) (sym c.index.ensures)
    (All-get_or (IsSoundNode r) r.nodes.items c.args.entry.node.0 n c.requires.within
    c.requires.sound) in
    let passes = subst (λ (l : List CallSite). list_all (is_linked r) l ≡ true)
    (sym c.deref-site-items.ensures.value) sound.linked in
    All-get_or (λ s. is_linked r s ≡ true) items c.loop-call.call no_call c.loop-call-test.true
    (AllPass-from_list_all (is_linked r) items passes)

pub returns-clause-more : goal.returns-clause-more
returns-clause-more t c =
    let place = counted_items c.args.entered.now.instances c.len-row.result c.len-row.ensures in
    ok_when c.add_specialization.result _ (λ x e.
    more_rows (length c.args.entered.now.instances.items) c.len-row.result
    (length c.loop-call.entered.instances.items)
    (length c.add_specialization.new.entered.instances.items) place c.loop-call.invariant.above
    (IfOk-at_ok _ e c.add_specialization.ensures.rows))

pub returns-clause-room : goal.returns-clause-room
returns-clause-room t c =
    ok_when c.add_specialization.result _ (λ x e.
    subst (λ k. k ≤ 4096) (sym (IfOk-at_ok _ e c.add_specialization.ensures.rows))
    c.loop-call.invariant.room)

pub returns-clause-few : goal.returns-clause-few
returns-clause-few t c =
    let place = counted_items c.args.entered.now.instances c.len-row.result c.len-row.ensures in
    ok_when c.add_specialization.result _ (λ x e.
    few_done (length c.args.entered.now.specializations)
    (length c.loop-call.entered.specializations)
    (length c.add_specialization.new.entered.specializations)
    (length c.args.entered.now.instances.items) c.len-row.result
    (length c.loop-call.entered.instances.items)
    (length c.add_specialization.new.entered.instances.items) place c.loop-call.invariant.few
    (IfOk-at_ok _ e c.add_specialization.ensures.more)
    (IfOk-at_ok _ e c.add_specialization.ensures.rows))
