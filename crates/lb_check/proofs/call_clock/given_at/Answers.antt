use Rattle.lb_check.proofs.Words.{ap, sym, refl, ◌∙◌, ◌>>=◌, Operand}
use Rattle.lb_static.proofs.Lookups.{held, past}
use Rattle.lb_check.proofs.call_clock.given_at.Goals as goal

pub returns : goal.returns
returns c =
    sym (ap (λ o. o >>= λ (x : Operand). x.variable)
    (held c.args.operands.now c.args.operands.now c.args.place c.in_ok-get.field-0.now refl
    c.in_ok-get.ensures.lookup.3.0 c.in_ok-get.ensures.lookup.1))

pub returns-in_err-get : goal.returns-in_err-get
returns-in_err-get c =
    c.from_residual.ensures
    ∙ sym (ap (λ o. o >>= λ (x : Operand). x.variable)
    (past c.args.operands.now c.args.operands.now c.args.place refl c.in_err-get.ensures.lookup.3))
