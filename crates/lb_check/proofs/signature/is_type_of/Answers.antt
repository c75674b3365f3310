use Rattle.lb_check.proofs.{Words.{◌∙◌, false, sym, true}, typing.SignatureRows.type_is}
use Rattle.lb_check.proofs.signature.is_type_of.Goals as goal

pub returns-then-eq : goal.returns-then-eq
returns-then-eq c =
    c.are_sizes.ensures
    ∙ type_is c.args.own c.args.kind c.args.values.now c.args.sizes.now true
    (sym c.eq.ensures ∙ c.if-eq.true)

pub returns-else-eq : goal.returns-else-eq
returns-else-eq c =
    c.if-eq.false
    ∙ type_is c.args.own c.args.kind c.args.values.now c.args.sizes.now false
    (sym c.eq.ensures ∙ c.if-eq.false)
