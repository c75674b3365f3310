-- Another round is begun behind what was judged.
use Rattle.std.proofs.Common.{[], subst}
use Rattle.lb_static.specs.Signature.{Elements}
use Rattle.lb_trace.specs.RoundReaders.{IsRound}
use Rattle.lb_report.proofs.PartReads.{begun_state, part_none, round_held}
use Rattle.lb_report.proofs.rounds.Rounds.next_round.Goals as goal

pub returns-clause-state : goal.returns-clause-state
returns-clause-state g c =
    let cleared = subst (λ (elements : Elements). IsRound elements [] c.clear.new.self)
    c.in_ok-next.ensures.round c.clear.ensures in
    begun_state c.args.self.now.signature.now [] _ c.in_ok-next.ensures.roll cleared
    (rw c.in_ok-next.ensures.spare c.requires.spare)

pub returns-clause-ok : goal.returns-clause-ok
returns-clause-ok g c = λ table rows is.
    let cleared = subst (λ (elements : Elements). IsRound elements [] c.clear.new.self)
    c.in_ok-next.ensures.round c.clear.ensures in
    part_none c.args.self.now.runner.program.now.program.now c.args.self.now.signature.now table
    rows _ (c.in_ok-next.ensures.ok table rows is)
    (round_held c.args.self.now.signature.now [] _ cleared)
