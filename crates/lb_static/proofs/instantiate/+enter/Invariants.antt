use Rattle.std.proofs.Common.{◌≡◌, ◌+◌, ◌-◌, ◌<◌, ◌≤◌, ◌++◌, length, take, Some, None, ◌∷◌, []}
use Rattle.std.specs.Prelude.{slice_get, IfSome}
use Rattle.lb_static.specs.Instances.{Program, Path}
use Rattle.lb_static.specs.LinkedSpecializations.{AreCalled, AreLinked}
use Rattle.lb_static.specs.Instantiation.{level}
use Rattle.lb_static.specs.Instantiated.{IsInstantiable, AreJudged, AreEntered, HasGrown, IsKnown}
use Rattle.lb_static.specs.InstanceTable.{path_from, paths_after, CallerStandsBefore}
use Rattle.lb_static.specs.InstanceTable.{CallersStandBefore}
use Rattle.lb_static.specs.InstanceRows.{begun_row, HasUsed, HasRows}
use Rattle.lb_static.specs.declared.resolved.ResolvedNode.{ResolvedNode}
use Rattle.lb_static.proofs.InstanceCalls.{of_calls, of_indexes}
use Rattle.lb_static.proofs.instantiate.+enter.Given as goal

abbrev pub decreases-enter : goal.decreases-enter
decreases-enter l = 66 - l.entry.level

abbrev pub invariant-loop-call : goal.invariant-loop-call
invariant-loop-call l =
    let first = l.fn.entered.specializations in
    record {
      room : length l.entered.instances.items ≤ 4096;
      few : length l.entered.specializations + (l.row + 1) ≤ length first
          + length l.entered.instances.items;
      above : l.row < length l.entered.instances.items;
      grown : HasGrown first l.entered.specializations;
      judged : (P : Program) (p : Path) (n : ResolvedNode) → IsInstantiable P l.reached l.constants
          → slice_get l.reached.nodes.items l.entry.node.0 ≡ Some n → level P p ≡ l.entry.level
          → AreJudged P l.reached first
          → AreJudged P l.reached l.entered.specializations
          × AreEntered P (l.row + 1) (of_calls P p n l.values l.entry.level l.call)
          (length l.entered.instances.items);
      linked_calls : (P : Program) (p : Path) (n : ResolvedNode)
          → IsInstantiable P l.reached l.constants
          → slice_get l.reached.nodes.items l.entry.node.0 ≡ Some n → level P p ≡ l.entry.level
          → AreJudged P l.reached first
          → AreLinked l.reached first
          → AreLinked l.reached l.entered.specializations
          × AreCalled l.reached l.entered.specializations l.begun.statics.items
          (take l.call n.calls.items) l.callees.items;
      used : HasUsed first l.entered.specializations
          (l.fn.entered.instances.items ++ begun_row l.entry.origin ∷ []) l.entered.instances.items;
      callers : CallerStandsBefore (length l.fn.entered.instances.items) l.entry.origin
          → CallersStandBefore l.fn.entered.instances.items
          → CallersStandBefore l.entered.instances.items;
      stand : (P : Program) (p : Path) (n : ResolvedNode) → IsInstantiable P l.reached l.constants
          → slice_get l.reached.nodes.items l.entry.node.0 ≡ Some n → level P p ≡ l.entry.level
          → AreJudged P l.reached first
          → path_from (paths_after [] l.fn.entered.instances.items) l.entry.origin ≡ p
          → HasRows l.reached l.entered.specializations
          (l.fn.entered.instances.items ++ begun_row l.entry.origin ∷ []) l.entered.instances.items
          (of_calls P p n l.values l.entry.level l.call);
    }

abbrev pub invariant-loop-index : goal.invariant-loop-index
invariant-loop-index l =
    let first = l.fn.entered.specializations in
    record {
      room : length l.entered.instances.items ≤ 4096;
      few : length l.entered.specializations + (l.row + 1) ≤ length first
          + length l.entered.instances.items;
      above : l.row < length l.entered.instances.items;
      grown : HasGrown first l.entered.specializations;
      judged : (P : Program) (p : Path) (n m : ResolvedNode)
          → IsInstantiable P l.reached l.constants
          → slice_get l.reached.nodes.items l.entry.node.0 ≡ Some n
          → slice_get l.reached.nodes.items l.callee.node.0 ≡ Some m
          → level P p ≡ l.entry.level → AreJudged P l.reached first
          → AreJudged P l.reached l.entered.specializations
          × AreEntered P (l.row + 1)
          (of_calls P p n l.values l.entry.level l.call
          ++ of_indexes P p n l.values l.entry.level l.call m l.callee.values.now l.index)
          (length l.entered.instances.items);
      since : HasGrown l.initial.entered.specializations l.entered.specializations;
      known : IfSome l.called (IsKnown l.entered.specializations l.callee.node l.callee.values.now);
      none : l.called ≡ None → l.index ≡ 0;
      linked_calls : (P : Program) (p : Path) (n m : ResolvedNode)
          → IsInstantiable P l.reached l.constants
          → slice_get l.reached.nodes.items l.entry.node.0 ≡ Some n
          → slice_get l.reached.nodes.items l.callee.node.0 ≡ Some m
          → level P p ≡ l.entry.level → AreJudged P l.reached first → AreLinked l.reached first
          → AreLinked l.reached l.entered.specializations;
      used : HasUsed first l.entered.specializations
          (l.fn.entered.instances.items ++ begun_row l.entry.origin ∷ []) l.entered.instances.items;
      callers : CallerStandsBefore (length l.fn.entered.instances.items) l.entry.origin
          → CallersStandBefore l.fn.entered.instances.items
          → CallersStandBefore l.entered.instances.items;
      stand : (P : Program) (p : Path) (n m : ResolvedNode) → IsInstantiable P l.reached l.constants
          → slice_get l.reached.nodes.items l.entry.node.0 ≡ Some n
          → slice_get l.reached.nodes.items l.callee.node.0 ≡ Some m
          → level P p ≡ l.entry.level → AreJudged P l.reached first
          → path_from (paths_after [] l.fn.entered.instances.items) l.entry.origin ≡ p
          → HasRows l.reached l.entered.specializations
          (l.fn.entered.instances.items ++ begun_row l.entry.origin ∷ []) l.entered.instances.items
          (of_calls P p n l.values l.entry.level l.call
          ++ of_indexes P p n l.values l.entry.level l.call m l.callee.values.now l.index);
    }
