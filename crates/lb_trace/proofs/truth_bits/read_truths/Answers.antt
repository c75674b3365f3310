use Rattle.std.proofs.Common.{◌≡◌, ◌∙◌, ◌+◌, ◌-◌, ◌*◌, ◌^◌, ◌%◌, ap, arith, drop, subst, sym}
use Rattle.std.proofs.lemmas.List.{drop-drop, take_rest}
use Rattle.lb_trace.specs.TruthBits.{HasBits}
use Rattle.lb_trace.proofs.TruthBits.{bits-fit, bits-joined}
use Rattle.lb_trace.proofs.TruthRows.{Spelled, spells}
use Rattle.lb_trace.proofs.truth_bits.read_truths.Goals as goal

pub overflow_add-bits : goal.overflow_add-bits
overflow_add-bits c =
    let group = c.in-Some.ensures in
    let fit = bits-fit _ _ _ _ c.loop-done.invariant.read.small group.small
    (omega (arith, c.min-more.ensures, c.requires.few, c.loop-done.invariant.most)) in
    omega (arith, fit.0, fit.2)

pub loop-done-preserved : goal.loop-done-preserved
loop-done-preserved c =
    let done = c.loop-done.done in
    let more = c.min-more.result in
    let text = c.args.text.now in
    record {
      most = omega (arith, c.min-more.ensures, c.loop-done.invariant.most);
      read =
          bits-joined _ _ _ _ _
          (omega (arith, c.min-more.ensures, c.loop-done-test.true, c.requires.few))
          c.loop-done.invariant.read
          (subst (λ t. HasBits t more c.in-Some.group) c.loop-done.invariant.after
          c.in-Some.ensures);
      after =
          take_rest c.loop-done.rest.now (2 * more)
          ∙ ap (drop (2 * more)) c.loop-done.invariant.after
          ∙ drop-drop (2 * more) (2 * done) text
          ∙ ap (λ n. drop n text) (omega arith);
    }

found : (c : goal.After-from-one) → Spelled c.args.text.now c.args.count
    (c.loop-done.bits + c.from-one.result * 2 ^ (c.args.count - 1) % 2 ^ 64)
found c =
    spells c.args.text.now c.loop-done.rest.now c.args.count c.loop-done.done c.loop-done.bits
    c.from-one.result c.requires.some c.requires.few c.loop-done.invariant.most
    (omega (arith, c.loop-done-test.false)) c.loop-done.invariant.read
    c.loop-done.invariant.after c.in-len2-up.len_at_least (sym c.if-not-is_bit.ensures)
    (sym c.if-not-ends_line.ensures) c.from-one.ensures

pub overflow_add-result : goal.overflow_add-result
overflow_add-result c = omega (arith, (found c).fits)

pub returns : goal.returns
returns c =
    let done : c.loop-done.done ≡ c.args.count - 1 =
    omega (arith, c.loop-done-test.false, c.loop-done.invariant.most) in (
      (found c).row,
      (found c).small,
      take_rest c.loop-done.rest.now 2
          ∙ ap (drop 2) (c.loop-done.invariant.after
          ∙ ap (λ n. drop (2 * n) c.args.text.now) done)
          ∙ (found c).line,
    )
