use Rattle.lb_expand.proofs.emission.{EmittedRooms.same_clock, EmittedWalks.constant_done}
use Rattle.lb_expand.proofs.expansion.term_emission.TermEmission.constant.Goals as goal

pub push_found-requires-clause-can : goal.push_found-requires-clause-can
push_found-requires-clause-can g c = record { room = c.requires.room; operands = tt }

pub returns-clause-emitted : goal.returns-clause-emitted
returns-clause-emitted g c =
    constant_done _ _ _ c.next_term.ensures c.in_ok-push_found.ensures.emitted
    (same_clock _ c.requires.clocks c.clock-clock.ensures.clock)
