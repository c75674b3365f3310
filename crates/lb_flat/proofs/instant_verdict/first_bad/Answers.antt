use Rattle.lb_flat.proofs.{Words.{sym, ◌∙◌}, runs.Steps.{finds_bad, looks_on, finds_none}}
use Rattle.lb_flat.proofs.instant_verdict.first_bad.Goals as goal

pub returns-then-is_bad : goal.returns-then-is_bad
returns-then-is_bad c =
    finds_bad _ _ _ c.requires c.loop-i.invariant _ c.loop-i-test.true
    (sym c.is_bad.ensures ∙ c.if-is_bad.true)

pub loop-i-preserved : goal.loop-i-preserved
loop-i-preserved c =
    looks_on _ _ _ c.requires c.loop-i.invariant _ c.loop-i-test.true
    (sym c.is_bad.ensures ∙ c.if-is_bad.false)

pub returns : goal.returns
returns c = finds_none _ _ _ c.requires c.loop-i.invariant c.loop-i-test.false c.loop-i.auto.i-end
