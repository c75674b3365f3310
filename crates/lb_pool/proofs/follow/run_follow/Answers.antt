-- The right verdicts are those of an ordered program, and the workers run that program.
use Rattle.std.proofs.Common.{◌≡◌, ℕ, List, Result, subst, sym}
use Rattle.lb_check.specs.declared.verdict.Verdict.{Verdict}
use Rattle.lb_flat.specs.Programs.{program_of}
use Rattle.lb_flat.specs.RightVerdicts.{right_verdicts}
use Rattle.lb_traces.specs.Traces.{Recording, trace_names}
use Rattle.lb_flat.specs.declared.program.FlatProgram.{FlatProgram}
use Rattle.lb_board.specs.FollowSeats.{right_of}
use Rattle.lb_output.specs.Follows.{IsFollowed}
use Rattle.lb_output.specs.Reports.{report_of}
use Rattle.lb_output.specs.Taken.{Taken}
use Rattle.lb_output.specs.declared.follow_error.FollowError.{FollowError}
use Rattle.lb_pool.specs.FollowWorkers.{IsBoardFor}
use Rattle.lb_pool.specs.RightReports.{right_report}
use Rattle.lb_pool.proofs.RightPosts.{right_verdicts_of}
use Rattle.lb_pool.proofs.follow.run_follow.Goals as goal

-- the verdicts of the board are the right ones
followed_right : (p : FlatProgram) (r : Recording) (right : List Verdict)
    (before after : Taken) (m n : ℕ) (run : Result (Unit {0}) FollowError)
    → right ≡ right_verdicts (program_of p) r
    → IsFollowed (report_of (trace_names r.traces) right) before after m n run
    → IsFollowed (right_report p r) before after m n run
followed_right p r right before after m n run is followed =
    let names = trace_names r.traces in
    subst (λ (vs : List Verdict). IsFollowed (report_of names vs) before after m n run) is
    followed

pub follow_on-requires-clause-board : goal.follow_on-requires-clause-board
follow_on-requires-clause-board g c κs within =
    let board = c.in-Ok-new.board in
    let Is : FlatProgram → Type 0 =
    λ p. IsBoardFor p c.args.set.now c.args.plan.now board in
    subst Is (sym c.in-Ok.ensures) (record {
      batches_are = c.in-Ok-new.ensures.batches;
      right = c.in-Ok-new.ensures.right;
      stands = c.args.ordered.now.stands;
      kinds = c.requires.kinds;
    })

pub returns-in_default-clause-right : goal.returns-in_default-clause-right
returns-in_default-clause-right g c =
    right_verdicts_of c.args.ordered.now c.args.set.now c.signature.ensures.lawful

pub returns-in_default-new-clause-right : goal.returns-in_default-new-clause-right
returns-in_default-new-clause-right g c =
    right_verdicts_of c.args.ordered.now c.args.set.now c.signature.ensures.lawful

pub returns-clause-right : goal.returns-clause-right
returns-clause-right g c =
    right_verdicts_of c.args.ordered.now c.args.set.now c.signature.ensures.lawful

pub returns-clause-followed : goal.returns-clause-followed
returns-clause-followed g c =
    followed_right c.args.ordered.now.program c.args.set.now (right_of c.in-Ok-new.board)
    (g.S.Sink.taken c.args.sink.now) (g.S.Sink.taken c.follow_on.new.sink)
    (g.S.Sink.failures c.args.sink.now) (g.S.Sink.failures c.follow_on.new.sink)
    c.follow_on.result c.in-Ok-new.ensures.right c.follow_on.ensures
