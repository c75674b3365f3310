use Rattle.std.proofs.Common.{◌-◌, ◌*◌, ◌≤◌, arith, drop, length, refl, take}
use Rattle.std.proofs.lemmas.List.{take_rest}
use Rattle.lb_trace.proofs.FrontRows.{front-truths}
use Rattle.lb_trace.proofs.TruthBits.{bits-fit}
use Rattle.lb_trace.proofs.held_rows.with_truths.Goals as goal

pub overflow_add-front : goal.overflow_add-front
overflow_add-front c =
    let most : c.args.front.truths ≤ 64 = c.requires.front.parts.most in
    record { fits = omega (arith, most, c.requires.few) }

pub overflow_add-result-3 : goal.overflow_add-result-3
overflow_add-result-3 c =
    let group = c.in_ok-group.ensures in
    let fit = bits-fit _ _ _ _
    c.requires.front.parts.small group.small (omega (arith, c.if-front-count-gt64.false)) in
    record { fits = omega (arith, fit.0, fit.2) }

pub returns-clause-front : goal.returns-clause-front
returns-clause-front c =
    let columns = c.args.columns.now in
    let front = c.args.front in
    let count = c.args.count in
    let rest = front.rest.now in
    let group = c.in_ok-group.group in
    let next = front-truths columns (drop front.i columns) c.args.text.now rest
    (take (length rest - 2 * count) (drop (2 * count) rest)) c.args.numbers.now front.i front.at
    front.truths front.bits count group _ c.requires.room c.requires.front refl c.requires.booleans
    c.requires.within (omega (arith, c.if-front-count-gt64.false)) c.in_ok-group.ensures refl
    (take_rest rest (2 * count)) in
    next.0
