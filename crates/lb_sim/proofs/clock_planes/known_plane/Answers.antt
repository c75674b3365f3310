use Rattle.std.proofs.Common.{◌<◌, length, sym, subst, arith, rules}
use Rattle.std.proofs.lemmas.List.{get_or_default}
use Rattle.lb_flat.specs.Within.{AreClocks}
use Rattle.lb_flat.specs.declared.equation.Clock.{Clock}
use Rattle.lb_sim.proofs.ClockPlanes.{descending_first, descending_next, highest_unknown}
use Rattle.lb_sim.proofs.ClockPlanes.{highest_within}
use Rattle.lb_sim.proofs.Growth.{place_grown}
use Rattle.lb_sim.proofs.clock_planes.known_plane.Goals as goal

pub loop-id-init : goal.loop-id-init
loop-id-init c =
    let made = c.in_ok-waiting.field-0 in
    descending_first c.args.code.now c.args.places.now c.args.program.now.clocks.items
    c.args.clock c.args.known.now made.waiting.items made.plane c.requires.known
    c.in_ok-waiting.ensures

pub index-tick-requires : goal.index-tick-requires
index-tick-requires c =
    let lt : c.in-Some.id.0 < length c.args.program.now.clocks.items =
    highest_within _ _ _ _ _ _ _ _ _ c.loop-id.invariant c.in-Some.id c.pop.new.self.items
    c.in-Some.ensures.items in
    search rules

pub bounds-places-tick : goal.bounds-places-tick
bounds-places-tick c =
    let id = c.in-Some.id in
    let t = c.index-tick.result.now in
    let lt = highest_within _ _ _ _ _ _ _ _ _ c.loop-id.invariant id c.pop.new.self.items
    c.in-Some.ensures.items in
    let there = (c.requires.in_range.clocks id.0 t lt).element in
    let here : c.index-tick.result.now.element.0 < c.args.program.now.size =
    subst (λ (r : Clock). r.element.0 < c.args.program.now.size) (sym c.index-tick.ensures) there in
    omega (arith, here, c.requires.elements)

pub sign_plane-requires-clause-place : goal.sign_plane-requires-clause-place
sign_plane-requires-clause-place c =
    let id = c.in-Some.id in
    let t = c.index-tick.result.now in
    let lt = highest_within _ _ _ _ _ _ _ _ _ c.loop-id.invariant id c.pop.new.self.items
    c.in-Some.ensures.items in
    let there = (c.requires.in_range.clocks id.0 t lt).element in
    let here : c.index-tick.result.now.element.0 < c.args.program.now.size =
    subst (λ (r : Clock). r.element.0 < c.args.program.now.size) (sym c.index-tick.ensures) there in
    place_grown _ _ _ c.loop-id.invariant.grown
    (c.requires.places _ _ (omega (arith, here, c.requires.elements)))

pub sign_plane-requires-clause-room : goal.sign_plane-requires-clause-room
sign_plane-requires-clause-room c =
    let h = c.loop-id.invariant in
    let one = highest_unknown _ _ _ _ _ _ _ _ _ h c.in-Some.id c.pop.new.self.items
    c.in-Some.ensures.items c.requires.as_many in
    omega (arith, c.requires.room, h.few, one)

pub bounds-known-id : goal.bounds-known-id
bounds-known-id c =
    let lt = highest_within _ _ _ _ _ _ _ _ _ c.loop-id.invariant c.in-Some.id
    c.pop.new.self.items c.in-Some.ensures.items in
    omega (arith, lt, c.requires.as_many, c.loop-id.invariant.as_many)

pub loop-id-preserved : goal.loop-id-preserved
loop-id-preserved c =
    let made = c.in_ok-next.ensures in
    let table = subst (λ n. AreClocks n c.args.program.now.clocks.items) (sym c.requires.elements)
    c.requires.in_range.clocks in
    let id = c.in-Some.id in
    let t = c.index-tick.result.now in
    let lt = highest_within _ _ _ _ _ _ _ _ _ c.loop-id.invariant id c.pop.new.self.items
    c.in-Some.ensures.items in
    let there : c.index-tick.result.now.element.0 < length c.args.places.now =
    subst (λ (r : Clock). r.element.0 < length c.args.places.now) (sym c.index-tick.ensures)
    (table id.0 t lt).element in
    descending_next _ _ _ _ _ _ _ _ _ c.loop-id.invariant id c.pop.new.self.items
    c.in-Some.ensures.items c.requires.whole table c.requires.as_many t _
    c.sign_plane.new.code c.in_ok-next.next c.index-tick.ensures
    (get_or_default _ _ _ _ there) made.grown made.few made.plane
