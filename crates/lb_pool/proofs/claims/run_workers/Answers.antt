-- All batches were drawn, so each trace has been judged.
use Rattle.std.proofs.Common.{ℕ, List, length, sym, ap, ◌∙◌, subst}
use Rattle.std.specs.List.{Contains}
use Rattle.lb_board.specs.Draws.{AreAllBelow}
use Rattle.lb_board.specs.Seats.{drawn_of}
use Rattle.lb_pool.specs.Runs.{numbers_of}
use Rattle.lb_pool.proofs.Covering.{covered}
use Rattle.lb_pool.proofs.claims.run_workers.Goals as goal

pub verdicts_of-requires-clause-each : goal.verdicts_of-requires-clause-each
verdicts_of-requires-clause-each g c k below =
    let plan = c.args.plan.now in
    let drawn = drawn_of c.in_ok-done.done.seat in
    let limit = c.in_ok-board.ensures.limit ∙ c.batches.ensures.count in
    let all : AreAllBelow (length plan) drawn =
    subst (λ (n : ℕ). AreAllBelow n drawn) limit (c.close-told.ensures.drawn c.if-prove.false) in
    let numbers = ap numbers_of c.as_slice.ensures.value ∙ c.in_ok-done.ensures.numbers in
    subst (λ (l : List ℕ). Contains l k) (sym numbers)
    (covered (length c.args.set.now.traces) plan drawn
    c.batches.ensures.lawful c.requires.plan all k below)
