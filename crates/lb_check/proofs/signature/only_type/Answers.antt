use Rattle.lb_check.proofs.Words.{◌≡◌, IfOk, subst, sym, ◌∙◌, option_map, view_type, row_in}
use Rattle.lb_check.proofs.typing.SignatureRows.{one_given, several_given}
use Rattle.lb_check.proofs.signature.only_type.Goals as goal

pub returns-then-len-eq1 : goal.returns-then-len-eq1
returns-then-len-eq1 c =
    subst (λ t. IfOk c.get.result (λ o. option_map view_type o ≡ t))
    (one_given (row_in c.args.row.now) (sym c.len.ensures ∙ c.if-len-eq1.true)) c.get.ensures

pub returns-else-len-eq1 : goal.returns-else-len-eq1
returns-else-len-eq1 c =
    several_given (row_in c.args.row.now) (λ e. c.if-len-eq1.false (c.len.ensures ∙ e))
