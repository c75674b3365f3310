use Rattle.lb_expand.proofs.Words.{ElementId, ap, arith, clock_of, emitted_of, length-map, min}
use Rattle.lb_expand.proofs.Words.{subst, ◌+◌, ◌-◌, ◌<◌, ◌^◌, ◌∙◌}
use Rattle.lb_expand.proofs.emission.EmittedRooms.{choose_room, chosen_is, none_chosen}
use Rattle.lb_expand.proofs.emission.EmittedStacks.{number_at, numbers_many}
use Rattle.lb_expand.proofs.expansion.term_emission.TermEmission.choose.Goals as goal

pub pairs-requires-clause-room : goal.pairs-requires-clause-room
pairs-requires-clause-room c =
    let old = c.args.self.now in
    let size = length-map old.found.items (λ (a : ElementId). a.0) in
    let room = choose_room _ _ _ _ _ _ c.if-from-second.true c.requires.second (omega
    (arith, size, c.requires.third)) c.requires.room in
    subst (λ n. old.next + min (c.args.third - c.args.second) (n - c.args.third) < 2 ^ 32) size room

pub returns-in_ok-pairs-clause-emitted : goal.returns-in_ok-pairs-clause-emitted
returns-in_ok-pairs-clause-emitted c =
    let old = c.args.self.now in
    chosen_is (clock_of old.clocks.items c.args.clock) c.args.from c.args.second c.args.third _
    (emitted_of old) (emitted_of c.pairs.new.self) (emitted_of c.remove.new.self)
    c.if-from-second.true
    c.requires.second (omega (arith, numbers_many, c.requires.third))
    (ap (λ (a : ElementId). a.0) c.index-condition.ensures
    ∙ number_at old.found.items c.args.from c.index-condition.result.now
    (omega (arith, numbers_many, c.requires.third, c.requires.second, c.if-from-second.true)))
    c.in_ok-pairs.ensures.emitted c.remove.ensures.emitted

pub returns-else-from-second-clause-emitted : goal.returns-else-from-second-clause-emitted
returns-else-from-second-clause-emitted c =
    none_chosen _ _ _ _ _ _ (omega (arith, c.requires.from, c.if-from-second.false))
    c.cut.ensures.emitted
