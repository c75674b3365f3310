use Rattle.lb_expand.proofs.Words.{Clock, ElementId, FlatClock, Global, List, OnOk, Vec, [], ap}
use Rattle.lb_expand.proofs.Words.{ap₂, clock_of, drop, emitted_of, gives, numbers_of, onto}
use Rattle.lb_expand.proofs.Words.{state_of, subst, take, twice, ℕ, ◌∙◌, ◌∷◌, ◌≡◌}
use Rattle.lb_expand.proofs.emission.EmittedChains.{at_most_one_is}
use Rattle.lb_expand.proofs.expansion.term_emission.TermEmission.at_most_one.Goals as goal

pub returns-clause-emitted : goal.returns-clause-emitted
returns-clause-emitted c =
    let from = c.args.from in
    let no = c.in_ok-no.ensures in
    let two = c.in_ok-two.ensures in
    let one = c.in_ok-one.ensures in
    let key : Vec Clock Global → FlatClock = λ cs. clock_of cs.items c.args.clock in
    let all : Vec ElementId Global → List ℕ = λ xs. drop from (numbers_of xs.items) in
    let word = at_most_one_is _ _ _ _ _ _ _ _ _ _ _ no.state no.element two.twice (ap key no.clocks)
    (ap all no.found) one.state (ap key two.clocks) in
    subst (λ r. OnOk c.replace.result (emitted_of c.replace.new.self ≡ r))
    (ap₂ (λ (xs : Vec ElementId Global) (n : ℕ). onto (take from (numbers_of xs.items))
    (gives (state_of c.push-2.new.self) (n ∷ []))) (one.found ∙ two.found ∙ no.found) one.element
    ∙ ap (onto (take from (numbers_of c.args.self.now.found.items))) word)
    c.replace.ensures.emitted
