use Rattle.lb_expand.proofs.Words.{Bool, Context, Every, Every-first, Every-second, HasRow}
use Rattle.lb_expand.proofs.Words.{IsCounted, State, ap, arith, bodies, body_in, drop, emit_rows}
use Rattle.lb_expand.proofs.Words.{length, refl, slice_get_read, state_of, subst, sym, ℕ, ◌+◌, ◌<◌}
use Rattle.lb_expand.proofs.{Words.{◌^◌, ◌∙◌}, emission.EmittedStatements.{counted_more, row_room}}
use Rattle.lb_expand.proofs.emission.{EmittedStatements.{row_step, rows_end}, TermSteps.rows_grow}
use Rattle.lb_expand.proofs.expansion.term_emission.TermEmission.rows.Goals as goal

pub row-requires-clause-elements : goal.row-requires-clause-elements
row-requires-clause-elements g c =
    let l = c.loop-number in
    let r = c.args.reached.now in
    let t = c.args.table.now in
    let is = t.instances.items in
    let cs = g.F.TableFrame.contexts c.args.frame.now in
    let i = c.index.result.now in
    let whole = emit_rows (state_of c.args.self.now) (bodies r t cs 0 is) in
    let lt : l.number < length is =
    omega (arith, c.loop-number-test.true, l.auto.number-end, c.len-number-end.ensures) in
    subst (λ (cs : ℕ → Context).
    (emit_rows (state_of l.self) (body_in r t cs l.number i)).next < 2 ^ 32)
    (sym l.invariant.contexts)
    (row_room r t cs (state_of l.self) whole is l.number i i lt c.index.ensures
    l.invariant.rest c.requires.elements)

pub row-requires-clause-places : goal.row-requires-clause-places
row-requires-clause-places g c =
    let l = c.loop-number in
    let r = c.args.reached.now in
    let t = c.args.table.now in
    let is = t.instances.items in
    let cs = g.F.TableFrame.contexts c.args.frame.now in
    let i = c.index.result.now in
    let lt : l.number < length is =
    omega (arith, c.loop-number-test.true, l.auto.number-end, c.len-number-end.ensures) in
    subst (λ (cs : ℕ → Context). Every IsCounted (body_in r t cs l.number i))
    (sym l.invariant.contexts)
    (Every-first IsCounted (body_in r t cs l.number i) (bodies r t cs (l.number + 1)
    (drop (l.number + 1) is)) (counted_more r t cs is l.number i i lt c.index.ensures
    l.invariant.counted))

pub row-requires-clause-there : goal.row-requires-clause-there
row-requires-clause-there g c =
    let l = c.loop-number in
    let t = c.args.table.now in
    let is = t.instances.items in
    let i = c.index.result.now in
    let lt : l.number < length is =
    omega (arith, c.loop-number-test.true, l.auto.number-end, c.len-number-end.ensures) in
    subst (λ (is_row : ℕ → Bool). HasRow c.args.reached.now t is_row l.number i) (sym
    l.invariant.rows) (c.requires.there l.number i (slice_get_read is (length is) l.number i refl lt
    c.index.ensures))

pub loop-number-preserved : goal.loop-number-preserved
loop-number-preserved g c =
    let l = c.loop-number in
    let r = c.args.reached.now in
    let t = c.args.table.now in
    let is = t.instances.items in
    let cs = g.F.TableFrame.contexts c.args.frame.now in
    let i = c.index.result.now in
    let s = state_of l.self in
    let whole = emit_rows (state_of c.args.self.now) (bodies r t cs 0 is) in
    let lt : l.number < length is =
    omega (arith, c.loop-number-test.true, l.auto.number-end, c.len-number-end.ensures) in
    let step = c.in_ok-row.ensures in
    let gives = step.state ∙ ap (λ (cs : ℕ → Context). emit_rows s (body_in r t cs l.number i))
    l.invariant.contexts in
    let next = ap (λ (s : State). s.next) gives in
    let grows = rows_grow s (body_in r t cs l.number i) in
    record {
      rest = row_step r t cs s (state_of c.row.new.self) whole is l.number i i lt
          c.index.ensures gives l.invariant.rest;
      counted = Every-second IsCounted (body_in r t cs l.number i) (bodies r t cs (l.number + 1)
          (drop (l.number + 1) is)) (counted_more r t cs is l.number i i lt c.index.ensures
          l.invariant.counted);
      next = omega (arith, next, grows, l.invariant.next);
      found = step.found ∙ l.invariant.found;
      clocks = step.clocks ∙ l.invariant.clocks;
      rows = c.row.ensures.rows ∙ l.invariant.rows;
      contexts = c.row.ensures.contexts ∙ l.invariant.contexts;
      table = c.row.ensures.table ∙ l.invariant.table;
      variables = c.row.ensures.variables ∙ l.invariant.variables;
    }

pub returns-clause-state : goal.returns-clause-state
returns-clause-state g c =
    let l = c.loop-number in
    rows_end _ _ _ _ _ _ _ (omega (
      arith,
      c.loop-number-test.false,
      l.auto.number-end,
      c.len-number-end.ensures,
    )) l.invariant.rest
