use Rattle.std.proofs.Common.{◌≡◌, ◌+◌, ◌-◌, ◌*◌, ◌%◌, ◌^◌, ◌<◌, ◌≤◌, ◌++◌, ◌∷◌, ◌∙◌, [], ap, arith}
use Rattle.std.proofs.Common.{drop}
use Rattle.std.proofs.Common.{get_or, length, refl}
use Rattle.std.proofs.Common.{length-drop, pos, rules, slice_set, subst, sym, take, w32}
use Rattle.std.proofs.lemmas.Int.{to_z-of_z}
use Rattle.std.proofs.lemmas.List.{take_more_set, take_rest}
use Rattle.std.proofs.Math.ListN.{length-set}
use mir.Val.{of_z, to_z}
use Rattle.lb_trace.specs.HeldLines.{AreParts, front_row}
use Rattle.lb_trace.specs.Numbers.{IsWhole}
use Rattle.lb_trace.proofs.FrontRows.{last-boolean, line-held, parts-boolean, parts-integer}
use Rattle.lb_trace.proofs.FrontRows.{rest-short}
use Rattle.lb_trace.proofs.held_rows.last_parts.Goals as goal

pub overflow_sub-result : goal.overflow_sub-result
overflow_sub-result c =
    rest-short _ _ _ c.requires.front.after c.in_ok-last.ensures.1.1

pub loop-k-preserved-in-Int : goal.loop-k-preserved-in-Int
loop-k-preserved-in-Int c =
    let columns = c.args.columns.now in
    let front = c.args.front in
    let l = c.loop-k in
    let values = c.in_ok-last.last.values in
    let v = to_z w32 (of_z w32 (get_or values l.k (pos 0))) in
    let new = slice_set l.numbers l.at v in
    let size : length values ≡ 4 = search rules in
    let within : front.i + l.k < length columns = omega (arith, c.loop-k-test.true) in
    let few = c.in_ok-last.ensures.0 in
    let there : l.k < 4 =
    omega (
      arith,
      c.loop-k-test.true,
      few,
      ap length (take_rest columns front.i),
      length-drop front.i columns,
    ) in
    let written =
    take_more_set l.numbers l.at v (omega (arith, l.invariant.parts.few, within, l.invariant.long))
    ∙ ap (λ x. take l.at l.numbers ++ x ∷ [])
    (to_z-of_z w32 (get_or values l.k (pos 0)) (search rules)) in
    let next : front.i + l.k + 1 ≡ front.i + (l.k + 1) = omega arith in
    let both = parts-integer columns l.numbers new
    (front_row columns c.args.numbers.now front.i front.at front.truths front.bits) values
    (front.i + l.k) l.at l.truths l.bits l.k _ l.invariant.long l.invariant.parts within c.in-Int.is
    written (omega (arith, there, size)) l.invariant.row in
    record {
      parts = subst (λ n. AreParts columns new n (l.at + 1) l.truths l.bits) next both.0;
      row = ap (λ n. front_row columns new n (l.at + 1) l.truths l.bits) (sym next) ∙ both.1;
      long = length-set l.numbers l.at v ∙ l.invariant.long;
    }

pub loop-k-preserved : goal.loop-k-preserved
loop-k-preserved c =
    let columns = c.args.columns.now in
    let front = c.args.front in
    let l = c.loop-k in
    let values = c.in_ok-last.last.values in
    let size : length values ≡ 4 = search rules in
    let within : front.i + l.k < length columns = omega (arith, c.loop-k-test.true) in
    let some = take_rest columns front.i in
    let few = c.in_ok-last.ensures.0 in
    let there : l.k < 4 =
    omega (arith, c.loop-k-test.true, few, ap length some, length-drop front.i columns) in
    let next : front.i + l.k + 1 ≡ front.i + (l.k + 1) = omega arith in
    let word = l.bits + c.from.result * 2 ^ l.truths % 2 ^ 64 in
    let value = last-boolean columns (take (length columns - front.i) (drop front.i columns))
    front.rest.now values c.in_ok-last.last.rest.now front.i l.k _ some within
    c.in_ok-last.ensures.1 c.in-Bool.is in
    let both = parts-boolean columns l.numbers
    (front_row columns c.args.numbers.now front.i front.at front.truths front.bits) values
    (front.i + l.k) l.at l.truths l.bits l.k c.from.result word _ _ l.invariant.long
    l.invariant.parts within c.in-Bool.is (omega (arith, c.if-truths-ge64.false)) c.from.ensures value
    (omega (arith, there, size)) refl l.invariant.row in
    record {
      parts = subst (λ n. AreParts columns l.numbers n l.at (l.truths + 1) word) next both.0;
      row = ap (λ n. front_row columns l.numbers n l.at (l.truths + 1) word) (sym next) ∙ both.1;
      long = l.invariant.long;
    }

pub returns : goal.returns
returns c =
    let columns = c.args.columns.now in
    let front = c.args.front in
    let l = c.loop-k in
    let values = c.in_ok-last.last.values in
    let rest = take_rest columns front.i in
    let some = take (length columns - front.i) (drop front.i columns) in
    let all : front.i + l.k ≡ length columns =
    omega (arith, c.loop-k-test.false, l.invariant.parts.within) in
    let count : l.k ≡ length some =
    omega (arith, all, ap length rest, length-drop front.i columns) in
    let room : l.at ≤ length l.numbers =
    omega (arith, l.invariant.parts.few, l.invariant.parts.within, l.invariant.long) in (
      room,
      line-held _ _ _ _ _ _ _ _ _ _ _ l.invariant.long
          (subst (λ n. AreParts columns l.numbers n l.at l.truths l.bits) all l.invariant.parts)
          c.requires.front.cells c.requires.front.after
          (subst (λ ks. IsWhole ks front.rest.now (take (length some) values)
          c.in_ok-last.last.rest.now)
          rest c.in_ok-last.ensures.1)
          (ap (λ n. front_row columns l.numbers n l.at l.truths l.bits) (sym all) ∙ l.invariant.row
          ∙ ap (λ n.
          front_row columns c.args.numbers.now front.i front.at front.truths front.bits ++ take n
          values)
          count),
    )
