use Rattle.lb_expand.proofs.Words.{Clock, ElementId, FlatClock, Global, Vec, ap, arith, clock_of}
use Rattle.lb_expand.proofs.Words.{drop, emitted_of, get_or-drop, length, length-drop, length-map}
use Rattle.lb_expand.proofs.Words.{min, min-le_left, min-le_right, numbers_of, operation_of}
use Rattle.lb_expand.proofs.Words.{pair_of, slice_range, subst, sym, without, zip2, ℕ, ◌+◌, ◌-◌}
use Rattle.lb_expand.proofs.{Words.{◌<◌, ◌∙◌, ◌≡◌, ◌≤◌}, emission.EmittedStacks.adding_ends}
use Rattle.lb_expand.proofs.emission.EmittedStacks.{below_at, length_of_part, pairs_step, part_at}
use Rattle.lb_expand.proofs.emission.EmittedStacks.{still_long, zip_done}
use Rattle.lb_expand.specs.{Operators.IsPairBelow, declared.expansion.operators.Pair.Pair}
use Rattle.lb_expand.specs.declared.expansion.operators.Pair.TheVariants as pair
use Rattle.lb_expand.proofs.expansion.term_emission.TermEmission.pairs.Goals as goal

pair_later : (n m : ℕ) (p : Pair) → IsPairBelow n p → n ≤ m → IsPairBelow m p
pair_later n m (pair.Data op) h le = tt
pair_later n m pair.FirstThen h le = tt
pair_later n m (pair.Choose c) h le = omega (arith, h, le)

pub index-a-requires : goal.index-a-requires
index-a-requires c =
    let now = c.loop-i.self in
    let long = still_long now.found.items c.args.self.now.found.items
    c.loop-i.invariant.adding.below in
    let left = min-le_left (c.args.middle - c.args.from) (c.len-top.result - c.args.middle) in
    omega (arith, long, left, now.found.ok.0)

pub index-b-requires : goal.index-b-requires
index-b-requires c =
    let now = c.loop-i.self in
    let long = still_long now.found.items c.args.self.now.found.items
    c.loop-i.invariant.adding.below in
    let right = min-le_right (c.args.middle - c.args.from) (c.len-top.result - c.args.middle) in
    omega (arith, long, right, now.found.ok.0)

pub push_found-requires-clause-can : goal.push_found-requires-clause-can
push_found-requires-clause-can c =
    let l = c.loop-i in
    let old = c.args.self.now in
    let now = l.self in
    let long = still_long now.found.items old.found.items l.invariant.adding.below in
    let left = min-le_left (c.args.middle - c.args.from) (c.len-top.result - c.args.middle) in
    let right = min-le_right (c.args.middle - c.args.from) (c.len-top.result - c.args.middle) in
    let first : c.args.from + l.i < length now.found.items = omega (arith, long, left) in
    let second : c.args.middle + l.i < length now.found.items = omega (arith, long, right) in
    let later : old.next ≤ now.next = omega (arith, l.invariant.next) in
    let below : ElementId → Type 0 = λ x. x.0 < now.next in
    record {
      room = omega (arith, l.invariant.next, c.requires.room);
      operands =
          c.on-operation.ensures.below now.next
          (pair_later old.next now.next c.args.operator c.requires.operator later)
          (subst below (sym c.index-a.ensures) (now.found_within _ c.index-a.result.now first))
          (subst below (sym c.index-b.ensures) (now.found_within _ c.index-b.result.now second));
    }

pub remove-requires-clause-to : goal.remove-requires-clause-to
remove-requires-clause-to c =
    let long = still_long c.loop-i.self.found.items c.args.self.now.found.items
    c.loop-i.invariant.adding.below in
    omega (arith, long, c.len-top.ensures)

pub loop-i-preserved : goal.loop-i-preserved
loop-i-preserved c =
    let l = c.loop-i in
    let old = c.args.self.now in
    let from = c.args.from in
    let middle = c.args.middle in
    let key : Vec Clock Global → FlatClock = λ cs. clock_of cs.items c.args.clock in
    let f = pair_of c.args.operator in
    let all = numbers_of old.found.items in
    let xs = slice_range all from middle in
    let ys = drop middle all in
    let size = length-map old.found.items (λ (a : ElementId). a.0) in
    let left = min-le_left (middle - from) (c.len-top.result - middle) in
    let right = min-le_right (middle - from) (c.len-top.result - middle) in
    let test = c.loop-i-test.true in
    let lt : l.i < middle - from = omega (arith, test, l.auto.i-end, c.min-count.ensures, left) in
    let more : l.i < length all - middle =
    omega (arith, test, l.auto.i-end, c.min-count.ensures, right, size, c.len-top.ensures) in
    let first : from + l.i < length all = omega (arith, lt, size, c.requires.middle) in
    let second : middle + l.i < length all = omega (arith, more) in
    let part = length_of_part all from middle (omega (arith, size, c.requires.middle)) in
    let rest = length-drop middle all in
    let at = ap (λ (a : ElementId). a.0) c.index-a.ensures
    ∙ below_at l.self.found.items all (from + l.i) c.index-a.result.now first
    l.invariant.adding.below in
    let bt = ap (λ (a : ElementId). a.0) c.index-b.ensures
    ∙ below_at l.self.found.items all (middle + l.i) c.index-b.result.now second
    l.invariant.adding.below in
    record {
      adding = pairs_step (key old.clocks) (key l.self.clocks) f (emitted_of old)
          (emitted_of l.self) (emitted_of c.push_found.new.self) xs ys l.i _ _
          (operation_of c.on-operation.result) (zip2 f xs ys) (omega (arith, part, lt))
          (omega (arith, rest, more)) l.invariant.adding c.in_ok-push_found.ensures.emitted
          (ap key l.invariant.clocks) c.on-operation.ensures.operation
          (at ∙ sym (part_at all from middle l.i lt)) (bt ∙ sym (get_or-drop middle all l.i 0));
      next = omega (arith, c.in_ok-push_found.ensures.next, l.invariant.next);
      clocks = c.in_ok-push_found.ensures.clocks ∙ l.invariant.clocks;
    }

pub returns-clause-emitted : goal.returns-clause-emitted
returns-clause-emitted c =
    let l = c.loop-i in
    let old = c.args.self.now in
    let from = c.args.from in
    let middle = c.args.middle in
    let f = pair_of c.args.operator in
    let all = numbers_of old.found.items in
    let xs = slice_range all from middle in
    let ys = drop middle all in
    let size = length-map old.found.items (λ (a : ElementId). a.0) in
    let top : c.len-top.result ≡ length all = omega (arith, size, c.len-top.ensures) in
    let part = length_of_part all from middle (omega (arith, size, c.requires.middle)) in
    let rest = length-drop middle all in
    let done : min (length xs) (length ys) ≤ l.i =
    grind (arith, part, rest, top, c.loop-i-test.false, l.auto.i-end, c.min-count.ensures) in
    let within : from ≤ length all = omega (arith, size, c.requires.from, c.requires.middle) in
    adding_ends (clock_of old.clocks.items c.args.clock) (emitted_of old) (emitted_of l.self)
    (emitted_of c.remove.new.self) from (zip2 f (drop l.i xs) (drop l.i ys)) (zip2 f xs ys)
    l.invariant.adding (zip_done f xs ys l.i done) within
    (c.remove.ensures.emitted ∙ ap (λ n. without from n (emitted_of l.self)) top)
