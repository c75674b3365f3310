use Rattle.lb_expand.proofs.Words
use Words.{Clock, Emitted, FirstThen, FlatClock, Global, List, OnOk, Previous, Vec, ap, arith}
use Words.{clock_of, emitted_of, false, first_value, gives, inl, inr, length, memory, min, on_two}
use Words.{pairs, place_of, refl, subst, sym, with_two, ℕ, ◌++◌, ◌+◌, ◌-◌, ◌<◌, ◌^◌, ◌∙◌, ◌≡◌}
use Rattle.lb_expand.proofs.emission.EmittedRooms.{arrow_room, binary_room, fby_form, fby_rooms}
use Rattle.lb_expand.proofs.emission.EmittedRooms.{join_form, pairs_after, same_clock, three_parts}
use Rattle.lb_expand.proofs.emission.{EmittedRooms.two_form, EmittedStacks.numbers_many}
use Rattle.lb_expand.proofs.expansion.term_emission.TermEmission.with_two.Goals as goal

pub pairs-requires-clause-room : goal.pairs-requires-clause-room
pairs-requires-clause-room g c =
    binary_room c.args.self.now c.args.from c.args.middle c.requires.from c.requires.middle
    (g.F.Frame.context c.args.frame.now) (place_of c.args.at) c.in-Binary.is c.requires.room

pub pairs-requires-in-Arrow-clause-room : goal.pairs-requires-in-Arrow-clause-room
pairs-requires-in-Arrow-clause-room g c =
    arrow_room c.args.self.now c.args.from c.args.middle c.requires.from c.requires.middle
    (g.F.Frame.context c.args.frame.now) (place_of c.args.at) c.in-Arrow.is c.requires.room

pub memory-requires-clause-room : goal.memory-requires-clause-room
memory-requires-clause-room g c =
    let clock = same_clock c.clock-clock.result c.requires.clocks c.clock-clock.ensures.clock in
    (fby_rooms c.args.self.now c.args.from c.args.middle _ _ c.requires.from c.requires.middle
    (fby_form (g.F.Frame.context c.args.frame.now) (place_of c.args.at) c.in-Fby.is clock _ _)
    c.requires.room).0

pub pairs-requires-in-Fby-clause-room : goal.pairs-requires-in-Fby-clause-room
pairs-requires-in-Fby-clause-room g c =
    let from = c.args.from in
    let middle = c.args.middle in
    let clock = same_clock c.clock-clock.result c.requires.clocks c.clock-clock.ensures.clock in
    let rooms = fby_rooms c.args.self.now from middle _ _ c.requires.from c.requires.middle
    (fby_form (g.F.Frame.context c.args.frame.now) (place_of c.args.at) c.in-Fby.is clock _ _)
    c.requires.room in
    let gone = subst (λ (z : Emitted).
    z.state.next + min (middle - from) (length z.found - middle) < 2 ^ 32)
    (sym c.in_ok-memory-in-Fby.ensures.emitted) rooms.1 in
    rw numbers_many at gone

pub returns-in_ok-memory-in-Fby-clause-emitted : goal.returns-in_ok-memory-in-Fby-clause-emitted
returns-in_ok-memory-in-Fby-clause-emitted g c =
    let ctx = g.F.Frame.context c.args.frame.now in
    let old = c.args.self.now in
    let from = c.args.from in
    let middle = c.args.middle in
    let at = place_of c.args.at in
    let t = c.args.term.now in
    let x = emitted_of old in
    let mid = c.memory.new.self in
    let key : Vec Clock Global → FlatClock = λ cs. clock_of cs.items c.clock-clock.result in
    let k = key old.clocks in
    let clock : k ≡ ctx.clock at.term =
    same_clock c.clock-clock.result c.requires.clocks c.clock-clock.ensures.clock in
    let f = FirstThen false in
    let h = memory k (Previous first_value) in
    let kept = ap key c.in_ok-memory-in-Fby.ensures.clocks in
    let r = c.pairs-in-Fby in
    subst (λ s. OnOk r.result (emitted_of r.new.self ≡ s))
    (ap (λ (k : FlatClock). on_two from middle (pairs k f) (emitted_of mid)) kept
    ∙ pairs_after k f h from middle x (emitted_of mid) c.requires.from
    (omega (arith, numbers_many)) c.in_ok-memory-in-Fby.ensures.emitted
    ∙ two_form from middle (with_two ctx at t) (λ xs y. pairs k f xs (h y)) x
    (fby_form ctx at c.in-Fby.is clock))
    r.ensures.emitted

pub returns-in_default : goal.returns-in_default
returns-in_default g c =
    let ctx = g.F.Frame.context c.args.frame.now in
    let old = c.args.self.now in
    let from = c.args.from in
    let middle = c.args.middle in
    let at = place_of c.args.at in
    let t = c.args.term.now in
    let x = emitted_of old in
    let form = c.requires.form in
    let none = c.in_default in
    record {
      emitted = elim form.2 [
        | inl (op, is) ↦ absurd (none.not-Binary op form.0 form.1 is)
        | inr (inl is) ↦ absurd (none.not-Arrow form.0 form.1 is)
        | inr (inr (inl is)) ↦ absurd (none.not-Fby form.0 form.1 is)
        | inr (inr (inr is)) ↦
            sym (ap (λ (is : List ℕ). gives x.state is) (three_parts from middle x.found
            c.requires.from))
            ∙ two_form from middle (with_two ctx at t) (λ xs y. gives y.state (xs ++ y.found)) x
            (join_form ctx at is)
      ];
      clocks = refl;
    }
