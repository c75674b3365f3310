use Rattle.lb_check.proofs.Words.{map, false, true, sym, ◌∙◌, length-map, context_in, row_in}
use Rattle.lb_check.proofs.typing.SignatureRows.{met_apart, met_end, met_next}
use Rattle.lb_check.proofs.type_rules.have_types.Goals as goal

pub returns-then-variables-len : goal.returns-then-variables-len
returns-then-variables-len c =
    let types = map (context_in c.args.env.now).variable c.args.variables.now in
    let many = length-map c.args.variables.now (context_in c.args.env.now).variable in
    let own = c.len.ensures in
    met_apart (row_in c.args.given.now) types
    (λ e. c.if-variables-len.true (sym many ∙ e ∙ sym own))

pub returns-then-not-is_wanted : goal.returns-then-not-is_wanted
returns-then-not-is_wanted c =
    sym (met_next (context_in c.args.env.now).variable (row_in c.args.given.now)
    c.args.variables.now c.loop-i.i (c.if-variables-len.false ∙ c.len.ensures)
    c.loop-i.invariant false _ _ c.loop-i-test.true
    (sym c.if-not-is_wanted.true ∙ c.is_wanted.ensures) c.in_ok-declared.ensures)

pub loop-i-preserved : goal.loop-i-preserved
loop-i-preserved c =
    met_next (context_in c.args.env.now).variable (row_in c.args.given.now)
    c.args.variables.now c.loop-i.i (c.if-variables-len.false ∙ c.len.ensures)
    c.loop-i.invariant true _ _ c.loop-i-test.true
    (sym c.if-not-is_wanted.false ∙ c.is_wanted.ensures) c.in_ok-declared.ensures

pub returns : goal.returns
returns c =
    met_end (context_in c.args.env.now).variable (row_in c.args.given.now)
    c.args.variables.now c.loop-i.i (c.if-variables-len.false ∙ c.len.ensures)
    c.loop-i.invariant c.loop-i-test.false
