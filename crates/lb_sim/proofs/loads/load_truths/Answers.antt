use Rattle.std.proofs.Common.{◌≡◌, ◌+◌, arith, subst}
use Rattle.lb_static.specs.Signature.{kinds_of}
use Rattle.lb_sim.specs.InputRows.{HaveInstant, truth_columns}
use Rattle.lb_sim.proofs.Loading.{truths_there}
use Rattle.lb_sim.proofs.loads.load_truths.Goals as goal

pub gather-requires-clause-there : goal.gather-requires-clause-there
gather-requires-clause-there c d l =
    let at = c.args.at.now in
    let same : at.t ≡ at.t + d = omega (arith, l) in
    subst (λ s. HaveInstant at.set.now at.members.now at.begins.now s at.live.0) same at.there

pub returns-clause-put : goal.returns-clause-put
returns-clause-put c =
    let at = c.args.at.now in
    truths_there at.set.now at.members.now at.begins.now at.t at.live.0 0
    (truth_columns 0 (kinds_of at.set.now.signature)) at.t (at.t + 1) at.live.0
    c.gather.new.rows c.args.planes.now c.turn.new.planes c.turn.ensures.planes c.requires.room
    c.gather.ensures.put (omega arith) (omega arith) (λ i l e. e) c.turn.ensures.put
