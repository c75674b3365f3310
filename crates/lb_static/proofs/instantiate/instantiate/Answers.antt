-- The instances below the node under test are entered first, then those below the observer.
use Rattle.std.proofs.Common.{◌≡◌, ◌<◌, ◌≤◌, List, [], length, Some, None, refl, ap, sym, subst}
use Rattle.std.proofs.Common.{◌∙◌, arith, ◌++◌}
use Rattle.std.proofs.lemmas.Result.{err_from_is_err_and}
use Rattle.std.proofs.lemmas.Option.{slice_get_past, slice_get-map}
use Rattle.std.specs.Prelude.{slice_get, option_map}
use Rattle.lb_syntax.specs.Lists.{◌>>=◌}
use Rattle.lb_syntax.proofs.ListPlaces.{item_at as there_is}
use Rattle.lb_static.specs.Instances.{Program, Root, Observer, instances_from}
use Rattle.lb_static.specs.InstanceTable.{instance_of, CallersStandBefore}
use Rattle.lb_static.specs.ReachedNodes.{tree_at}
use Rattle.lb_static.specs.ResolvedNodes.{node_of}
use Rattle.lb_static.specs.LinkedSpecializations.{AreLinked}
use Rattle.lb_static.specs.Instantiation.{instantiation_refusal}
use Rattle.lb_static.specs.Instantiated.{IsInstantiable, IsRefusal, AreEntered, AreJudged, IsKnown}
use Rattle.lb_static.specs.declared.resolved.ResolvedNode.{ResolvedNode}
use Rattle.lb_static.specs.declared.table.Specialization.{Specialization}
use Rattle.lb_static.specs.declared.table.Table.{Table}
use Rattle.lb_static.proofs.LinkedSpecializations.{none_linked, are_specialized}
use Rattle.lb_static.proofs.InstanceSteps.{known_later}
use Rattle.lb_static.proofs.WholeInstantiation.{all_sound, instantiable, none_judged, root_is}
use Rattle.lb_static.proofs.WholeInstantiation.{observer_is}
use Rattle.lb_static.proofs.WholeInstantiation.{no_observer, refused_first, refused_second}
use Rattle.lb_static.proofs.WholeInstantiation.{instantiated_alone, instantiated_both, has_starts}
use Rattle.lb_static.proofs.WholeInstantiation.{observer_stands, none_stands, alone_are, both_are}
use Rattle.lb_static.proofs.instantiate.instantiate.Goals as goal
use Rattle.lb_static.proofs.instantiate.instantiate.Goals.{in-Some+in_ok-id-in-Some, in_default-2}
use Rattle.lb_static.proofs.instantiate.instantiate.Goals.{in_default, In_ok-root}
use Rattle.lb_static.specs.InstanceRows.{HasUsed, HasRows}
use Rattle.lb_static.proofs.InstanceCallers.{callers_none}
use Rattle.lb_static.proofs.InstanceRows.{rows_grown, rows_more, used_more, are_instances}

pub returns-in_err-root-clause-answer : goal.returns-in_err-root-clause-answer
returns-in_err-root-clause-answer c =
    let p = err_from_is_err_and c.from_residual.result c.from_residual.ensures.1 in
    rw (p.1, p.2) (λ P names reached values.
    let r = c.args.reached.now in
    let found = there_is r.nodes.items r.root.0 reached.root_within in
    let n = found.0 in
    let e = c.in_err-root.field-0.0 in
    let zero = ap length c.new-2.ensures.items in
    let refused = c.in_err-root.ensures.err P Root n
    (instantiable P r c.args.constants.now names reached values) found.1 refl
    (none_judged P r c.new.result c.new.ensures) in
    refused_first P (instance_of Root (node_of n) []) (root_is P r reached n found.1) e
    (subst (λ k. IsRefusal (instantiation_refusal P k
    (instances_from P 65 (instance_of Root (node_of n) []))) e) zero refused))

-- the instances below the node under test are entered
root_entered : (c : In_ok-root) (P : Program)
    (w : IsInstantiable P c.args.reached.now c.args.constants.now) (n : ResolvedNode)
    → slice_get c.args.reached.now.nodes.items c.args.reached.now.root.0 ≡ Some n
    → AreJudged P c.args.reached.now c.enter.new.entered.specializations
    × AreEntered P 0 (instances_from P 65 (instance_of Root (node_of n) []))
    (length c.enter.new.entered.instances.items)
root_entered c P w n at =
    let r = c.args.reached.now in
    let zero = ap length c.new-2.ensures.items in
    let entered = c.in_ok-root.ensures.ok P Root n w at refl
    (none_judged P r c.new.result c.new.ensures) in (
      entered.0,
      subst (λ k. AreEntered P k (instances_from P 65 (instance_of Root (node_of n) []))
          (length c.enter.new.entered.instances.items)) zero entered.1,
    )

pub returns-in_err-id-in-Some-clause-answer : goal.returns-in_err-id-in-Some-clause-answer
returns-in_err-id-in-Some-clause-answer c =
    let p = err_from_is_err_and c.from_residual-in_err-id-in-Some.result
    c.from_residual-in_err-id-in-Some.ensures.1 in
    rw (p.1, p.2) (λ P names reached values.
    let r = c.args.reached.now in
    let w = instantiable P r c.args.constants.now names reached values in
    let found = there_is r.nodes.items r.root.0 reached.root_within in
    let n = found.0 in
    let e = c.in_err-id-in-Some.field-0.0 in
    let before = root_entered ((goal.at.returns-in_err-id-in-Some-clause-answer c).In_ok-root) P w n
    found.1 in
    let within : c.in-Some.node.0 < length r.nodes.items =
    omega (arith, c.len.ensures, c.if-node-len.true) in
    let seen = there_is r.nodes.items c.in-Some.node.0 within in
    let m = seen.0 in
    let refused = c.in_err-id-in-Some.ensures.err P Observer m w seen.1 refl before.0 in
    refused_second P (instance_of Root (node_of n) []) (root_is P r reached n found.1)
    (instance_of Observer (node_of m) [])
    (observer_is P r reached c.in-Some.node m c.in-Some.is seen.1)
    (length c.enter.new.entered.instances.items) e before.1 refused)

pub returns-clause-answer : goal.returns-clause-answer
returns-clause-answer c = λ P names reached values.
    let r = c.args.reached.now in
    let w = instantiable P r c.args.constants.now names reached values in
    let found = there_is r.nodes.items r.root.0 reached.root_within in
    let n = found.0 in
    let before = root_entered ((goal.at.returns-clause-answer c).In_ok-root) P w n found.1 in
    let root = instance_of Root (node_of n) [] in
    let at_root = root_is P r reached n found.1 in
    let alone = λ (h : (r.observer >>= tree_at r) ≡ None). instantiated_alone P root at_root
    (length c.enter.new.entered.instances.items) before.1 (no_observer P r reached h) in
    let known : IsKnown c.enter.new.entered.specializations r.root [] c.in_ok-root.root =
    c.in_ok-root.ensures.known in
    let after = c.match-reached.entered in
    let specializations = c.in_ok-specializations.specializations in
    let listed : specializations.items ≡ after.specializations = c.in_ok-specializations.ensures in
    let table : Table = record {
      specializations = specializations;
      instances = after.instances;
      root = c.in_ok-root.root;
      observer = c.match-reached.observer;
    } in
    let first = c.enter.new.entered.specializations in
    let starts = λ (l : List Specialization) (e : specializations.items ≡ l)
    (judged : AreJudged P r l) (k : IsKnown l r.root [] table.root).
    has_starts P r reached table n found.1 (subst (AreJudged P r) (sym e) judged)
    (subst (λ m. IsKnown m r.root [] table.root) (sym e) k) in
    elim c.match-reached.branch [
      | in-Some+in_ok-id-in-Some b ↦
          let within : b.in-Some.node.0 < length r.nodes.items =
          omega (arith, b.len.ensures, b.if-node-len.true) in
          let seen = there_is r.nodes.items b.in-Some.node.0 within in
          let m = seen.0 in
          let entered = b.in_ok-id-in-Some.ensures.ok P Observer m w seen.1 refl before.0 in (
            instantiated_both P root at_root (instance_of Observer (node_of m) [])
                (observer_is P r reached b.in-Some.node m b.in-Some.is seen.1)
                (length c.enter.new.entered.instances.items)
                (length b.enter-in-Some.new.entered.instances.items) before.1
                entered.1,
            starts b.enter-in-Some.new.entered.specializations
                (listed ∙ ap (λ e. e.specializations) b.entered-is) entered.0
                (known_later first b.enter-in-Some.new.entered.specializations r.root [] table.root
                b.in_ok-id-in-Some.ensures.grown known)
                (observer_stands P r reached table b.in-Some.node m b.in_ok-id-in-Some.id
                b.in-Some.is seen.1 b.observer-is
                (subst (λ l. IsKnown l b.in-Some.node [] b.in_ok-id-in-Some.id)
                (sym (listed ∙ ap (λ e. e.specializations) b.entered-is))
                b.in_ok-id-in-Some.ensures.known)),
          )
      | in_default-2 b ↦
          let past : length r.nodes.items ≤ b.in-Some.node.0 =
          omega (arith, b.len.ensures, b.if-node-len.false) in
          let h = ap (λ o. o >>= tree_at r) b.in-Some.is
          ∙ slice_get-map node_of r.nodes.items b.in-Some.node.0
          ∙ ap (option_map node_of) (slice_get_past r.nodes.items b.in-Some.node.0 past) in (
            alone h,
            starts first (listed ∙ ap (λ e. e.specializations) b.entered-is) before.0 known
                (none_stands P r reached table h b.observer-is),
          )
      | in_default b ↦ let h = ap (λ o. o >>= tree_at r) b.in_default.is in (
        alone h,
        starts first (listed ∙ ap (λ e. e.specializations) b.entered-is) before.0 known
            (none_stands P r reached table h b.observer-is),
      )
    ]

pub returns-clause-specialized : goal.returns-clause-specialized
returns-clause-specialized c = λ P names reached values.
    let r = c.args.reached.now in
    let w = instantiable P r c.args.constants.now names reached values in
    let found = there_is r.nodes.items r.root.0 reached.root_within in
    let n = found.0 in
    let first = c.enter.new.entered.specializations in
    let judged : AreJudged P r first =
    (root_entered ((goal.at.returns-clause-specialized c).In_ok-root) P w n found.1).0 in
    let linked_calls : AreLinked r first =
    c.in_ok-root.ensures.linked_calls P Root n w found.1 refl
    (none_judged P r c.new.result c.new.ensures) (none_linked r c.new.result c.new.ensures) in
    let after = c.match-reached.entered in
    let specializations = c.in_ok-specializations.specializations in
    let listed : specializations.items ≡ after.specializations = c.in_ok-specializations.ensures in
    let table : Table = record {
      specializations = specializations;
      instances = after.instances;
      root = c.in_ok-root.root;
      observer = c.match-reached.observer;
    } in
    let all = λ (l : List Specialization) (e : specializations.items ≡ l) (j : AreJudged P r l)
    (s : AreLinked r l).
    are_specialized P r c.args.constants.now w table (subst (AreJudged P r) (sym e) j)
    (subst (AreLinked r) (sym e) s) in
    elim c.match-reached.branch [
      | in-Some+in_ok-id-in-Some b ↦
          let within : b.in-Some.node.0 < length r.nodes.items =
          omega (arith, b.len.ensures, b.if-node-len.true) in
          let seen = there_is r.nodes.items b.in-Some.node.0 within in
          let told = b.in_ok-id-in-Some.ensures in
          all b.enter-in-Some.new.entered.specializations
          (listed ∙ ap (λ e. e.specializations) b.entered-is)
          (told.ok P Observer seen.0 w seen.1 refl judged).0
          (told.linked_calls P Observer seen.0 w seen.1 refl judged linked_calls)
      | in_default-2 b ↦ all first (listed ∙ ap (λ e. e.specializations) b.entered-is) judged
          linked_calls
      | in_default b ↦ all first (listed ∙ ap (λ e. e.specializations) b.entered-is) judged
          linked_calls
    ]

-- ## Rows

-- the rows of the instances below the node under test
root_rows : (c : In_ok-root) (P : Program)
    (w : IsInstantiable P c.args.reached.now c.args.constants.now) (n : ResolvedNode)
    → slice_get c.args.reached.now.nodes.items c.args.reached.now.root.0 ≡ Some n
    → HasRows c.args.reached.now c.enter.new.entered.specializations []
    c.enter.new.entered.instances.items (instances_from P 65 (instance_of Root (node_of n) []))
root_rows c P w n at =
    let r = c.args.reached.now in
    let s = c.enter.new.entered.specializations in
    let rows = c.enter.new.entered.instances.items in
    let stand = c.in_ok-root.ensures.stand P Root n w at refl
    (none_judged P r c.new.result c.new.ensures) refl in
    subst (λ l. HasRows r s l rows (instances_from P 65 (instance_of Root (node_of n) [])))
    c.new-2.ensures.items stand

root_used : (c : In_ok-root)
    → HasUsed [] c.enter.new.entered.specializations [] c.enter.new.entered.instances.items
root_used c =
    let s = c.enter.new.entered.specializations in
    let rows = c.enter.new.entered.instances.items in
    subst (λ l. HasUsed [] s l rows) c.new-2.ensures.items
    (subst (λ l. HasUsed l s c.new-2.result.items rows) c.new.ensures c.in_ok-root.ensures.used)

root_callers : (c : In_ok-root) → CallersStandBefore c.enter.new.entered.instances.items
root_callers c =
    c.in_ok-root.ensures.callers tt
    (subst CallersStandBefore (sym c.new-2.ensures.items) callers_none)

pub returns-clause-rows : goal.returns-clause-rows
returns-clause-rows c = λ P names reached values.
    let r = c.args.reached.now in
    let w = instantiable P r c.args.constants.now names reached values in
    let found = there_is r.nodes.items r.root.0 reached.root_within in
    let n = found.0 in
    let here = (goal.at.returns-clause-rows c).In_ok-root in
    let before = root_entered here P w n found.1 in
    let stand = root_rows here P w n found.1 in
    let used = root_used here in
    let callers = root_callers here in
    let root = instance_of Root (node_of n) [] in
    let of_root = instances_from P 65 root in
    let at_root = root_is P r reached n found.1 in
    let after = c.match-reached.entered in
    let specializations = c.in_ok-specializations.specializations in
    let listed : specializations.items ≡ after.specializations = c.in_ok-specializations.ensures in
    let table : Table = record {
      specializations = specializations;
      instances = after.instances;
      root = c.in_ok-root.root;
      observer = c.match-reached.observer;
    } in
    let first = c.enter.new.entered.specializations in
    let rows = c.enter.new.entered.instances.items in
    let alone = λ (h : (r.observer >>= tree_at r) ≡ None) (e : specializations.items ≡ first)
    (f : after.instances.items ≡ rows).
    are_instances P r table first rows of_root e f
    (alone_are P root at_root (no_observer P r reached h)) stand used c.in_ok-root.ensures.room
    callers in
    elim c.match-reached.branch [
      | in-Some+in_ok-id-in-Some b ↦
          let within : b.in-Some.node.0 < length r.nodes.items =
          omega (arith, b.len.ensures, b.if-node-len.true) in
          let seen = there_is r.nodes.items b.in-Some.node.0 within in
          let m = seen.0 in
          let observer = instance_of Observer (node_of m) [] in
          let below = instances_from P 65 observer in
          let last = b.enter-in-Some.new.entered.specializations in
          let all = b.enter-in-Some.new.entered.instances.items in
          let later = b.in_ok-id-in-Some.ensures.stand P Observer m w seen.1 refl before.0 refl in
          are_instances P r table last all (of_root ++ below)
          (listed ∙ ap (λ e. e.specializations) b.entered-is)
          (ap (λ e. e.instances.items) b.entered-is)
          (both_are P root at_root observer
          (observer_is P r reached b.in-Some.node m b.in-Some.is seen.1))
          (rows_more r last [] rows all of_root below
          (rows_grown r first last [] rows of_root b.in_ok-id-in-Some.ensures.grown stand) later)
          (used_more [] first last [] rows all used b.in_ok-id-in-Some.ensures.used)
          b.in_ok-id-in-Some.ensures.room
          (b.in_ok-id-in-Some.ensures.callers tt callers)
      | in_default-2 b ↦
          let past : length r.nodes.items ≤ b.in-Some.node.0 =
          omega (arith, b.len.ensures, b.if-node-len.false) in
          let h = ap (λ o. o >>= tree_at r) b.in-Some.is
          ∙ slice_get-map node_of r.nodes.items b.in-Some.node.0
          ∙ ap (option_map node_of) (slice_get_past r.nodes.items b.in-Some.node.0 past) in
          alone h (listed ∙ ap (λ e. e.specializations) b.entered-is)
          (ap (λ e. e.instances.items) b.entered-is)
      | in_default b ↦
          alone (ap (λ o. o >>= tree_at r) b.in_default.is)
          (listed ∙ ap (λ e. e.specializations) b.entered-is)
          (ap (λ e. e.instances.items) b.entered-is)
    ]

pub enter-requires-clause-sound : goal.enter-requires-clause-sound
enter-requires-clause-sound c = all_sound c.requires.0 c.args.reached.now c.requires.1

pub enter-requires-in-Some-clause-sound : goal.enter-requires-in-Some-clause-sound
enter-requires-in-Some-clause-sound c = all_sound c.requires.0 c.args.reached.now c.requires.1
