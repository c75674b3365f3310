use Rattle.lb_expand.proofs.Words.{ℕ, ◌++◌, Vec, Global, arith, sym, ap, ap₂, refl, ◌∙◌}
use Rattle.lb_expand.proofs.Words.{State, bodies, Context, emit_rows, kinds_from}
use Rattle.lb_expand.proofs.Words.{numbers_of, flat_equations, state_of, Clock}
use Rattle.lb_expand.proofs.emission.EmittedProgram.{clocks_later, rows_later, kinds_counted}
use Rattle.lb_expand.proofs.emission.EmittedProgram.{whole_made}
use Rattle.lb_expand.proofs.emission.EmittedStacks.{equations_later, elements_later}
use Rattle.lb_expand.proofs.expansion.whole_emission.emit_program.Goals as goal

pub equations_behind-requires : goal.equations_behind-requires
equations_behind-requires g c =
    let grows = rows_later _ c.in_ok-rows.ensures.state c.new-emission.ensures.state in
    let clocks = ap (λ (cs : Vec Clock Global). cs.items)
    (c.in_ok-rows.ensures.clocks ∙ c.new-emission.ensures.clocks) in
    record {
      within = rw (clocks ∙ sym c.deref.ensures.value)
          (equations_later _ _ _ _
          c.in_ok-beginning.ensures.copies_within grows);
    }

pub into_program-requires : goal.into_program-requires
into_program-requires g c =
    let e = c.rows.new.self in
    let kinds = c.args.kinds.items in
    let rows = c.in_ok-rows.ensures.state in
    let start = c.new-emission.ensures.state in
    let grows = rows_later _ rows start in
    let clocks = ap (λ (cs : Vec Clock Global). cs.items)
    (c.in_ok-rows.ensures.clocks ∙ c.new-emission.ensures.clocks) in
    record {
      clocks = rw clocks (clocks_later _ _ _ c.requires.clocks grows);
      equations = c.in_ok-equations.ensures.within;
      kinds = kinds_counted _ rows start _ c.requires.kinds refl
          (c.in_ok-temporary_kinds.ensures e.clocks.items
          ∙ ap (λ qs. kinds ++ kinds_from kinds (flat_equations e.clocks.items qs))
          c.deref-2.ensures.value);
      variables = grows;
      clock_elements = elements_later _ _ _ c.in_ok-beginning.ensures.clocks_within grows;
      property = omega (arith, grows, c.in_ok-beginning.ensures.property_within);
    }

pub returns-clause-program : goal.returns-clause-program
returns-clause-program g c =
    let r = c.args.reached.now in
    let t = c.args.table.now in
    let cs = g.F.TableFrame.contexts c.args.frame.now in
    let e = c.rows.new.self in
    let b = c.in_ok-beginning.beginning in
    let kinds = c.args.kinds.items in
    let all = c.in_ok-rows.ensures.state
    ∙ ap₂ (λ (s : State) (cs : ℕ → Context). emit_rows s (bodies r t cs 0 t.instances.items))
    c.new-emission.ensures.state c.in_ok-beginning.ensures.contexts in
    let clocks = ap (λ (cs : Vec Clock Global). cs.items)
    (c.in_ok-rows.ensures.clocks ∙ c.new-emission.ensures.clocks) in
    let begun = ap (λ cs. flat_equations cs b.copies.items)
    (clocks ∙ sym c.deref.ensures.value) ∙ c.in_ok-beginning.ensures.copies in
    let known = c.in_ok-temporary_kinds.ensures e.clocks.items
    ∙ ap (λ qs. kinds ++ kinds_from kinds (flat_equations e.clocks.items qs))
    c.deref-2.ensures.value in
    c.into_program.ensures.program
    ∙ whole_made r t cs c.args.inputs.items kinds c.args.variables (state_of e)
    (flat_equations e.clocks.items b.copies.items)
    (flat_equations e.clocks.items c.in_ok-equations.equations.items)
    c.temporary_kinds.new.kinds.items (numbers_of b.clock_elements.items) b.property.0
    c.in_ok-equations.ensures.equations begun all known c.in_ok-beginning.ensures.clock_elements
    c.in_ok-beginning.ensures.property
