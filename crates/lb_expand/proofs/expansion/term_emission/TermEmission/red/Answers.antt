use Rattle.lb_expand.proofs.Words.{ElementId, Global, List, Vec, ap, arith, length, numbers_of, ℕ}
use Rattle.lb_expand.proofs.{Words.{◌<◌, ◌∙◌}, emission.EmittedCuts.{red_is, red_none}}
use Rattle.lb_expand.proofs.emission.EmittedStacks.{number_at, numbers_many}
use Rattle.lb_expand.proofs.expansion.term_emission.TermEmission.red.Goals as goal

pub returns-in_ok-replace-clause-emitted : goal.returns-in_ok-replace-clause-emitted
returns-in_ok-replace-clause-emitted c =
    let numbers : Vec ElementId Global → List ℕ = λ xs. numbers_of xs.items in
    let lt : c.args.from < length (numbers c.args.self.now.found) =
    omega (arith, numbers_many, c.if-from-len.true, c.len.ensures) in
    red_is _ _ _ _ _ _ _ _ lt (ap (λ (a : ElementId). a.0) c.index-init.ensures ∙ number_at _ _ _
    lt) c.in_ok-last.ensures.chained c.in_ok-replace.ensures.emitted (ap numbers
    c.in_ok-last.ensures.found)

pub returns-else-from-len-clause-emitted : goal.returns-else-from-len-clause-emitted
returns-else-from-len-clause-emitted c =
    red_none _ _ _ _ (omega (arith, numbers_many, c.if-from-len.false, c.len.ensures))
