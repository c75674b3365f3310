use Rattle.lb_flat.proofs.Words.{subst, sym, ◌+◌, Bool}
use Rattle.lb_flat.proofs.ordering.Ordering.{IsPassing, one_settled, none_settled}
use Rattle.lb_flat.proofs.scheduling.schedule.schedule_some.Goals.{then-branch, else-branch}
use Rattle.lb_flat.proofs.scheduling.schedule.schedule_some.Goals as goal

pub loop-e-preserved : goal.loop-e-preserved
loop-e-preserved c =
    let first = c.args.done.now in
    let after = c.schedule.new.done in
    let is_passing = λ (some : Bool).
    IsPassing c.args.clocks.now c.args.table.now first after some (c.loop-e.e + 1) in
    record {
      state = c.in_ok-schedule.ensures.state;
      passing = elim c.if-branch.branch [
        | then-branch w ↦
            subst is_passing (sym w.some-is)
            (one_settled _ _ _ _ _ _ c.loop-e.invariant.passing _
            (c.in_ok-schedule.ensures.scheduled (cc)))
        | else-branch w ↦
            subst is_passing (sym w.some-is)
            (none_settled _ _ _ _ _ _ c.loop-e.invariant.passing _
            (c.in_ok-schedule.ensures.unchanged (cc)) (c.in_ok-schedule.ensures.stuck (cc)))
      ];
    }
