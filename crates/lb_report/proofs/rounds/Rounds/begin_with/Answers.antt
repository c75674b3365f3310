-- A round is begun behind what was judged.
use Rattle.std.proofs.Common.{[]}
use Rattle.lb_report.proofs.PartReads.{begun_state, part_none, round_held}
use Rattle.lb_report.proofs.rounds.Rounds.begin_with.Goals as goal

pub returns-clause-state : goal.returns-clause-state
returns-clause-state c =
    begun_state c.args.self.now.signature.now [] _ c.requires c.in_ok-new_round.ensures tt

pub returns-clause-part : goal.returns-clause-part
returns-clause-part c = λ table rows is.
    part_none c.args.self.now.runner.program.now.program.now c.args.self.now.signature.now table
    rows _ is (round_held c.args.self.now.signature.now [] _ c.in_ok-new_round.ensures)
