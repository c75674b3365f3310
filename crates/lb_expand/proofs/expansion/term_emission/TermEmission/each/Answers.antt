use Rattle.lb_expand.proofs.Words.{Clock, ElementId, FlatClock, Global, Vec, ap, arith, clock_of}
use Rattle.lb_expand.proofs.Words.{drop, drop_all, emitted_of, length, map, numbers_of}
use Rattle.lb_expand.proofs.Words.{operation_of, subst, sym, unary_of, without, ◌<◌, ◌∙◌, ◌≡◌, ◌≤◌}
use Rattle.lb_expand.proofs.emission.EmittedStacks.{adding_ends, below_at, each_step, numbers_many}
use Rattle.lb_expand.proofs.emission.EmittedStacks.{still_long}
use Rattle.lb_expand.proofs.expansion.term_emission.TermEmission.each.Goals as goal

pub index-a-requires : goal.index-a-requires
index-a-requires c =
    let now = c.loop-i.self in
    let long = still_long now.found.items c.args.self.now.found.items
    c.loop-i.invariant.adding.below in
    omega (arith, long, now.found.ok.0)

pub push_found-requires-clause-can : goal.push_found-requires-clause-can
push_found-requires-clause-can c =
    let l = c.loop-i in
    let now = l.self in
    let long = still_long now.found.items c.args.self.now.found.items l.invariant.adding.below in
    let lt : l.i < length now.found.items = omega (arith, long) in
    record {
      room = omega (arith, l.invariant.next, c.requires.room);
      operands = c.on-operation.ensures.below now.next
          (subst (λ (x : ElementId). x.0 < now.next) (sym c.index-a.ensures)
          (now.found_within l.i c.index-a.result.now lt));
    }

pub remove-requires-clause-to : goal.remove-requires-clause-to
remove-requires-clause-to c =
    let long = still_long c.loop-i.self.found.items c.args.self.now.found.items
    c.loop-i.invariant.adding.below in
    omega (arith, long, c.len-top.ensures)

pub loop-i-preserved : goal.loop-i-preserved
loop-i-preserved c =
    let l = c.loop-i in
    let old = c.args.self.now in
    let key : Vec Clock Global → FlatClock = λ cs. clock_of cs.items c.args.clock in
    let f = unary_of c.args.operator in
    let all = numbers_of old.found.items in
    let lt : l.i < length all =
    omega (arith, numbers_many, c.loop-i-test.true, l.auto.i-end, c.len-top.ensures) in
    let at = ap (λ (a : ElementId). a.0) c.index-a.ensures ∙ below_at _ _ _ c.index-a.result.now lt
    l.invariant.adding.below in
    grind (
      arith,
      each_step (key old.clocks) (key l.self.clocks) f (emitted_of old) (emitted_of
          l.self) (emitted_of c.push_found.new.self) l.i _ (operation_of c.on-operation.result)
          (map f
          (drop c.args.from all)) lt l.invariant.adding c.in_ok-push_found.ensures.emitted (ap key
          l.invariant.clocks) c.on-operation.ensures.operation at,
    )

pub returns-clause-emitted : goal.returns-clause-emitted
returns-clause-emitted c =
    let l = c.loop-i in
    let all = numbers_of c.args.self.now.found.items in
    let top : c.len-top.result ≡ length all = omega (arith, numbers_many, c.len-top.ensures) in
    let le : length all ≤ l.i =
    omega (arith, numbers_many, c.loop-i-test.false, l.auto.i-end, c.len-top.ensures) in
    let within : c.args.from ≤ length all = omega (arith, numbers_many, c.requires.from) in
    adding_ends _ _ _ _ _ _ _ l.invariant.adding (ap (map _) (drop_all _ _ le)) within
    (c.remove.ensures.emitted
    ∙ ap (λ n. without c.args.from n (emitted_of l.self)) top)
