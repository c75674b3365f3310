use Rattle.std.proofs.Common.{ap, arith, length, length-drop, subst}
use Rattle.std.proofs.lemmas.List.{take_rest}
use Rattle.lb_trace.specs.Groups.{IsGroup}
use Rattle.lb_trace.proofs.FoundGroups.{covers-all, covers-more}
use Rattle.lb_trace.proofs.groups.groups_of.Goals as goal

pub loop-done-preserved : goal.loop-done-preserved
loop-done-preserved c =
    let columns = c.args.columns.now in
    let done = c.loop-done.done in
    let rest = take_rest columns done in
    let group = c.in-Some.group in
    record {
      covers =
          rw (c.in_ok-push.ensures.items, c.width-done.ensures)
          (covers-more c.loop-done.groups.items columns done group c.loop-done.invariant.covers
          (subst (IsGroup group) rest c.in-Some.ensures.group));
      within =
          omega (
            arith,
            c.width-done.ensures,
            c.in-Some.ensures.left,
            ap length rest,
            length-drop done columns,
          );
    }

pub returns : goal.returns
returns c =
    covers-all c.loop-done.groups.items c.args.columns.now c.loop-done.done
    c.loop-done.invariant.covers
