use Rattle.lb_check.proofs.Words.{ap, sym, refl, ◌∙◌, ◌>>=◌, natural}
use Rattle.lb_static.proofs.Lookups.{held, past}
use Rattle.lb_check.proofs.type_env.count_at.Goals as goal

pub returns : goal.returns
returns c =
    c.natural.ensures ∙ sym (ap (λ o. o >>= natural)
    (held c.args.statics.now c.args.statics.now c.args.i.0 c.in_ok-get.field-0.now refl
    c.in_ok-get.ensures.lookup.3.0 c.in_ok-get.ensures.lookup.1))

pub returns-in_err-get : goal.returns-in_err-get
returns-in_err-get c =
    c.from_residual.ensures
    ∙ sym (ap (λ o. o >>= natural)
    (past c.args.statics.now c.args.statics.now c.args.i.0 refl c.in_err-get.ensures.lookup.3))
