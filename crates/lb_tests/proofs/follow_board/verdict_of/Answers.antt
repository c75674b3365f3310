-- The verdict of a trace may be posted.
use Rattle.std.proofs.lemmas.Result.{IfOk-weaker}
use Rattle.lb_flat.specs.Correct.{IsVerdictOf}
use Rattle.lb_flat.specs.Programs.{program_of}
use Rattle.lb_board.specs.FollowSeats.{right_of}
use Rattle.lb_pool.proofs.RightTraces.{right_to_post}
use Rattle.lb_tests.proofs.follow_board.verdict_of.Goals as goal

pub returns : goal.returns
returns c =
    let ordered = c.args.ordered.now in
    let set = c.args.set.now in
    let k = c.args.k in
    IfOk-weaker c.eval_trace.result (IsVerdictOf (program_of ordered.program) set k) _
    (λ v is.
    right_to_post ordered.program set (right_of c.args.board.now) k v ordered.stands
    c.requires.kinds c.requires.right c.requires.trace is)
    c.eval_trace.ensures
