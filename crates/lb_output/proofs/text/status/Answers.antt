use Rattle.std.proofs.Common.{rules, tests, ap, sym, if◌then◌else◌, ◌∙◌, ◌≡◌}
use Rattle.std.specs.List.{list_any}
use Rattle.std.proofs.lemmas.Iterator.{YieldsList-from_slice}
use Rattle.std.proofs.lemmas.Iterator.Search.{any_from_yields_List}
use Rattle.lb_output.specs.Reports as spec
use Rattle.lb_output.proofs.text.status.Goals as goal
use Rattle.lb_output.proofs.text.status.Goals.{After-any}

-- the answer of the search is that of `list_any`
found : (c : After-any) → c.any.result ≡ list_any spec.is_failure c.args.verdicts.now
found c =
    any_from_yields_List spec.is_failure _ _ c.any.result c.any.ensures.ran
    (YieldsList-from_slice c.args.verdicts.now cc) (λ x b q k. search (rules, tests))

pub returns-then-any : goal.returns-then-any
returns-then-any c = ap (λ b. if b then 1 else 0) (sym c.if-any.true ∙ found c.before)

pub returns-else-any : goal.returns-else-any
returns-else-any c = ap (λ b. if b then 1 else 0) (sym c.if-any.false ∙ found c.before)
