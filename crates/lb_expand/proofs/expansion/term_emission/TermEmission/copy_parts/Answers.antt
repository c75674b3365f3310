use Rattle.lb_expand.proofs.Words.{◌≡◌, ◌<◌, ◌≤◌, ◌+◌, ◌-◌, ◌*◌, ℕ, List, length, drop, min, arith}
use Rattle.lb_expand.proofs.Words.{Vec, Global, refl, sym, ap, ap₂, ◌∙◌, range_with_len}
use Rattle.lb_expand.proofs.Words.{length-range_with_len, ElementId, copied, input_targets}
use Rattle.lb_expand.proofs.Words.{part_copies, with_copies, numbers_of, state_of}
use Rattle.lb_expand.proofs.emission.EmittedCalls.{part_step, part_ends}
use Rattle.lb_expand.proofs.emission.EmittedStacks.{numbers_many}
use Rattle.lb_expand.proofs.expansion.term_emission.TermEmission.copy_parts.Goals as goal

pub loop-x-init : goal.loop-x-init
loop-x-init g c =
    let ctx = g.F.Frame.context c.args.frame.now in
    let old = c.args.self.now in
    let call = c.args.call in
    let first = c.args.first in
    let xs = range_with_len first (c.args.inputs - first) in
    let none : first - first ≡ 0 = omega arith in
    let is = drop c.args.from (numbers_of old.found.items) in
    record {
      rest =
          ap (λ n. with_copies (state_of old)
          (part_copies ctx call (ctx.repeats call) c.args.index (drop n xs) is)) none;
      at = c.requires.from;
      found = refl;
      next = refl;
      clocks = refl;
    }

pub loop-x-preserved : goal.loop-x-preserved
loop-x-preserved g c =
    let ctx = g.F.Frame.context c.args.frame.now in
    let l = c.loop-x in
    let old = c.args.self.now in
    let call = c.args.call in
    let first = c.args.first in
    let m = ctx.repeats call in
    let i = c.args.index in
    let numbers : Vec ElementId Global → List ℕ = λ xs. numbers_of xs.items in
    let all = numbers old.found in
    let n = length (ctx.child call i l.x) in
    let count : c.child-count.result.count ≡ n =
    sym (length-range_with_len c.child-count.result.first c.child-count.result.count)
    ∙ ap (λ (is : List ℕ). length is) c.child-count.ensures.places in
    let y = l.x - first in
    let len = c.args.inputs - first in
    let lt : y < len = omega (arith, c.loop-x-test.true, l.auto.x) in
    let place : first + y ≡ l.x = omega (arith, l.auto.x) in
    let within : l.at ≤ length all = omega (arith, numbers_many, l.invariant.at) in
    let left : c.len-top.result - l.at ≡ length all - l.at =
    omega (arith, numbers_many, c.len-top.ensures) in
    let start : l.at + c.min-skipped.result ≡ l.at + min (n * i) (length all - l.at) =
    ap (λ k. l.at + k)
    (c.min-skipped.ensures ∙ ap₂ min (ap (λ n. n * i) count) left) in
    let to : l.at + c.min-taken.result ≡ l.at + min (n * m) (length all - l.at) =
    ap (λ k. l.at + k)
    (c.min-taken.ensures ∙ ap₂ min (ap₂ (λ n m. n * m) count c.repeats-repeats.ensures) left) in
    let xs = range_with_len first len in
    let whole = with_copies (state_of old) (part_copies ctx call m i xs (drop c.args.from all)) in
    let et = c.in_ok-copy_child.ensures.state ∙ ap (λ xs. with_copies (state_of l.self) (copied
    (input_targets ctx call i l.x) (drop (l.at + c.min-skipped.result) (numbers xs))))
    l.invariant.found in
    let more : l.x + 1 - first ≡ y + 1 = omega (arith, l.auto.x) in
    grind (
      arith,
      part_step ctx call (state_of l.self) (state_of c.copy_child.new.self) whole m i
          first len y l.x l.at (l.at + c.min-skipped.result) (l.at + c.min-taken.result) all lt
          place
          within l.invariant.rest et start to,
    )

pub returns-clause-state : goal.returns-clause-state
returns-clause-state g c =
    let ctx = g.F.Frame.context c.args.frame.now in
    let l = c.loop-x in
    let old = c.args.self.now in
    let call = c.args.call in
    let first = c.args.first in
    let all = numbers_of old.found.items in
    let len = c.args.inputs - first in
    let whole = with_copies (state_of old) (part_copies ctx call (ctx.repeats call) c.args.index
    (range_with_len first len) (drop c.args.from all)) in
    part_ends ctx call (state_of l.self) whole (ctx.repeats call) c.args.index first len
    (l.x - first) l.at all
    (omega (arith, c.loop-x-test.false, l.auto.x)) l.invariant.rest
