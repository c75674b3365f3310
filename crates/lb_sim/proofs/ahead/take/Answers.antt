use Rattle.std.proofs.Common.{arith, ◌≡◌, ◌∙◌, ◌+◌, ◌*◌, [], get_or}
use Rattle.std.proofs.lemmas.List.{get_or_default}
use Rattle.lb_sim.proofs.AheadLoads.{taken_more}
use Rattle.lb_sim.proofs.ahead.take.Goals as goal

pub loop-k-preserved : goal.loop-k-preserved
loop-k-preserved c =
    let copied : c.copy_from.new.self ≡ get_or c.args.room.now (65 * c.loop-k.k + c.args.d) [] =
    c.copy_from.ensures ∙ c.index-room-k.is
    ∙ get_or_default c.args.room.now (65 * c.loop-k.k + c.args.d) c.index-room-k.result []
    (omega (arith, c.requires.room, c.requires.instant, c.loop-k-test.true)) in
    taken_more c.args.room.now c.args.d c.args.places.now c.args.words.now c.loop-k.words c.loop-k.k
    c.copy_from.new.self c.loop-k.invariant c.loop-k-test.true
    (c.requires.within c.loop-k.k 0 c.loop-k-test.true) copied

pub returns-clause-put : goal.returns-clause-put
returns-clause-put c i value is k l =
    c.loop-k.invariant.put i value is k (omega (arith, l, c.loop-k-test.false))
