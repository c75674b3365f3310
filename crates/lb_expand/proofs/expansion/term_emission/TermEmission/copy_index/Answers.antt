use Rattle.lb_expand.proofs.Words.{ArrayIterator, ElementId, Global, List, OnOk, Vec, ap, ap₂}
use Rattle.lb_expand.proofs.Words.{arith, drop, index_copies, length, length-range_with_len, min}
use Rattle.lb_expand.proofs.Words.{numbers_of, part_copies, range_with_len, refl, state_of, subst}
use Rattle.lb_expand.proofs.Words.{sym, with_copies, ℕ, ◌+◌, ◌-◌, ◌∙◌, ◌≡◌, ◌≤◌}
use Rattle.lb_expand.proofs.emission.{EmittedCalls.red_copied, EmittedStacks.numbers_many}
use Rattle.lb_expand.proofs.expansion.term_emission.TermEmission.copy_index.Goals as goal

pub returns-in_ok-copy_accumulator-in-Red-clause-state :
    goal.returns-in_ok-copy_accumulator-in-Red-clause-state
returns-in_ok-copy_accumulator-in-Red-clause-state g c =
    let ctx = g.F.Frame.context c.args.frame.now in
    let old = c.args.self.now in
    let mid = c.copy_accumulator.new.self in
    let first = c.in_ok-copy_accumulator-in-Red.ensures in
    let call = c.args.call in
    let i = c.args.index in
    let callee = c.args.callee in
    let m = ctx.repeats call in
    let numbers : Vec ElementId Global → List ℕ = λ xs. numbers_of xs.items in
    let all = numbers old.found in
    let same = ap (λ (xs : Vec ElementId Global). length xs.items) first.found in
    let within : c.args.from ≤ length all = omega (arith, numbers_many, c.requires.from) in
    let count : c.child-count.result.count ≡ length (ctx.child call i 0) =
    sym (length-range_with_len c.child-count.result.first c.child-count.result.count)
    ∙ ap (λ (is : List ℕ). length is) c.child-count.ensures.places in
    let left : c.len.result - c.args.from ≡ length all - c.args.from =
    omega (arith, numbers_many, same, c.len.ensures) in
    let to = c.args.from + c.min-taken.result in
    let place : to ≡ c.args.from + min (length (ctx.child call i 0)) (length all - c.args.from) =
    ap (λ n. c.args.from + n) (c.min-taken.ensures ∙ ap₂ min count left) in
    let r = c.copy_parts-in-Red in
    let xs = range_with_len 1 (callee.inputs - 1) in
    let later = ap (λ js. with_copies (state_of mid)
    (part_copies ctx call m i xs (drop to (numbers js))))
    first.found in
    let whole = red_copied ctx call (state_of old) (state_of mid)
    (with_copies (state_of mid) (part_copies ctx call m i xs (drop to all))) m i c.args.from to
    callee all within first.state refl place in
    subst (λ s. OnOk r.result (state_of r.new.self ≡ s))
    (later ∙ whole ∙ ap (λ (it : ArrayIterator). with_copies (state_of old)
    (index_copies ctx call m it callee (drop c.args.from all) i)) (sym c.in-Red.is))
    r.ensures.state
