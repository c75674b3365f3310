use Rattle.lb_expand.proofs.Words.{◌<◌, ℕ, length, arith, refl, sym, ap, subst, ◌∙◌, slice_get_read}
use Rattle.lb_expand.proofs.Words.{gives, HasRow, Context, clocks_in, row_clocks, numbers_of}
use Rattle.lb_expand.proofs.Words.{state_of, emitted_of, onto, Bool}
use Rattle.lb_expand.proofs.clock_tables.ServingClocks.{clocks_step, clocks_end}
use Rattle.lb_expand.proofs.expansion.term_emission.TermEmission.put_clocks.Goals as goal

pub put_row_clocks-requires-clause-there : goal.put_row_clocks-requires-clause-there
put_row_clocks-requires-clause-there g c =
    let l = c.loop-number in
    let t = c.args.table.now in
    let is = t.instances.items in
    let i = c.index.result.now in
    let lt : l.number < length is =
    omega (arith, c.loop-number-test.true, l.auto.number-end, c.len-number-end.ensures) in
    subst (λ (is_row : ℕ → Bool). HasRow c.args.reached.now t is_row l.number i) (sym
    l.invariant.rows) (c.requires.there l.number i (slice_get_read is (length is) l.number i refl lt
    c.index.ensures))

pub loop-number-preserved : goal.loop-number-preserved
loop-number-preserved g c =
    let l = c.loop-number in
    let r = c.args.reached.now in
    let t = c.args.table.now in
    let is = t.instances.items in
    let cs = g.F.TableFrame.contexts c.args.frame.now in
    let old = c.args.self.now in
    let i = c.index.result.now in
    let below = numbers_of l.self.found.items in
    let whole = onto (numbers_of old.found.items)
    (gives (state_of old) (row_clocks r t cs 0 is)) in
    let lt : l.number < length is =
    omega (arith, c.loop-number-test.true, l.auto.number-end, c.len-number-end.ensures) in
    let put = c.in_ok-put_row_clocks.ensures.emitted ∙ ap (λ (cs : ℕ → Context). onto below (gives
    (state_of l.self) (clocks_in cs r t l.number i))) l.invariant.contexts in
    grind (
      arith,
      clocks_step r t cs (emitted_of l.self) (emitted_of c.put_row_clocks.new.self)
          whole is l.number i i lt c.index.ensures put l.invariant.rest,
    )

pub returns-clause-emitted : goal.returns-clause-emitted
returns-clause-emitted g c =
    let l = c.loop-number in
    clocks_end _ _ _ _ _ _ _ _ (omega (
      arith,
      c.loop-number-test.false,
      l.auto.number-end,
      c.len-number-end.ensures,
    )) l.invariant.rest
