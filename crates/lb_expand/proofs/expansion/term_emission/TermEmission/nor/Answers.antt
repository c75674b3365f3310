use Rattle.lb_expand.proofs.Words.{Clock, ElementId, FlatClock, Global, List, OnOk, Vec, [], ap}
use Rattle.lb_expand.proofs.Words.{ap₂, chained, clock_of, drop, emitted_of, gives, numbers_of}
use Rattle.lb_expand.proofs.Words.{onto, state_of, subst, take, ℕ, ◌∙◌, ◌∷◌, ◌≡◌}
use Rattle.lb_expand.proofs.emission.EmittedChains.{nor_is}
use Rattle.lb_expand.proofs.expansion.term_emission.TermEmission.nor.Goals as goal

pub returns-clause-emitted : goal.returns-clause-emitted
returns-clause-emitted c =
    let from = c.args.from in
    let no = c.in_ok-no.ensures in
    let any = c.in_ok-any.ensures in
    let none = c.in_ok-none.ensures in
    let key : Vec Clock Global → FlatClock = λ cs. clock_of cs.items c.args.clock in
    let all : Vec ElementId Global → List ℕ = λ xs. drop from (numbers_of xs.items) in
    let word = nor_is _ _ _ _ _ _ _ _ _ _ _ no.state no.element any.chained (ap key no.clocks)
    (ap all no.found) none.state (ap key any.clocks) in
    subst (λ r. OnOk c.replace.result (emitted_of c.replace.new.self ≡ r))
    (ap₂ (λ (xs : Vec ElementId Global) (n : ℕ). onto (take from (numbers_of xs.items))
    (gives (state_of c.push-2.new.self) (n ∷ []))) (none.found ∙ any.found ∙ no.found) none.element
    ∙ ap (onto (take from (numbers_of c.args.self.now.found.items))) word)
    c.replace.ensures.emitted
