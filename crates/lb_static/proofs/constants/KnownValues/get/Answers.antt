-- The value at the place of the name.
use Rattle.std.proofs.Common.{ap, refl, sym, ◌∙◌}
use Rattle.std.specs.Prelude.{slice_get}
use Rattle.lb_syntax.specs.Lists.{◌>>=◌}
use Rattle.lb_static.proofs.Lookups.{held, past}
use Rattle.lb_static.proofs.constants.KnownValues.get.Goals as goal

pub returns : goal.returns
returns c =
    let values = c.args.self.now.values.now in
    sym (ap (λ o. o >>= λ v. v)
    (held values values c.in_ok-place.place c.in_ok-get.field-0.now refl
    c.in_ok-get.ensures.lookup.3.0 c.in_ok-get.ensures.lookup.1))
    ∙ ap (λ o. o >>= λ i. slice_get values i >>= λ v. v) c.in_ok-place.ensures.value

pub returns-in_err-get : goal.returns-in_err-get
returns-in_err-get c =
    let values = c.args.self.now.values.now in
    c.from_residual-in_err-get.ensures
    ∙ sym (ap (λ o. o >>= λ v. v)
    (past values values c.in_ok-place.place refl c.in_err-get.ensures.lookup.3))
    ∙ ap (λ o. o >>= λ i. slice_get values i >>= λ v. v) c.in_ok-place.ensures.value
