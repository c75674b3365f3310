use Rattle.lb_expand.proofs.Words.{ArrayIterator, ElementId, above, ap, arith, clock_of, emitted_of}
use Rattle.lb_expand.proofs.Words.{length, length-map, min, subst, symbol, ◌+◌, ◌-◌, ◌<◌, ◌^◌, ◌∙◌}
use Rattle.lb_expand.proofs.{Words.{◌≡◌, ◌≤◌}, emission.EmittedRooms.{map_room, red_room}}
use Rattle.lb_expand.proofs.expansion.term_emission.TermEmission.symbol.Goals as goal

pub pairs-requires-clause-room : goal.pairs-requires-clause-room
pairs-requires-clause-room c =
    let old = c.args.self.now in
    let k = clock_of old.clocks.items c.args.clock in
    let n = c.args.count in
    let from = c.args.from in
    let x = emitted_of old in
    let size = length-map old.found.items (λ (a : ElementId). a.0) in
    let within : from ≤ length x.found = omega (arith, size, c.requires.from) in
    let gap : c.len.result - from ≡ length x.found - from = omega (arith, size, c.len.ensures) in
    let is = c.min.ensures ∙ ap (min n) gap in
    let middle : from + c.min.result ≡ from + min n (length x.found - from) =
    ap (λ m. from + m) is in
    let lt = subst (λ (it : ArrayIterator). (symbol k c.args.operator n it (above from
    x)).state.next < 2 ^ 32) c.in-Map.is c.requires.room in
    let room = map_room _ _ _ _ _ _ _ within middle lt in
    subst (λ m. old.next + min (from + c.min.result - from) (m - (from + c.min.result)) < 2 ^ 32)
    size room

pub red-requires-clause-room : goal.red-requires-clause-room
red-requires-clause-room c =
    let old = c.args.self.now in
    let k = clock_of old.clocks.items c.args.clock in
    let from = c.args.from in
    let x = emitted_of old in
    let size = length-map old.found.items (λ (a : ElementId). a.0) in
    let room = red_room _ _ _ _ _ _ (ap (λ it. symbol k c.args.operator c.args.count it (above from
    x)) c.in-Red.is) c.requires.room in
    subst (λ m. old.next + (m - (from + 1)) < 2 ^ 32) size room
