use Rattle.lb_expand.proofs.Words.{Context, ElementId, Emitted, Global, List, Vec, ap, ap₂, arith}
use Rattle.lb_expand.proofs.Words.{copied, drop, gives, length, length-append, numbers_of, onto}
use Rattle.lb_expand.proofs.Words.{parameter_targets, places_from, state_of, take, with_copies, ℕ}
use Rattle.lb_expand.proofs.{Words.{◌+◌, ◌-◌, ◌∙◌, ◌≡◌}, emission.EmittedCalls.observed_done}
use Rattle.lb_expand.proofs.emission.{EmittedCalls.observed_gone, EmittedStacks.numbers_many}
use Rattle.lb_expand.proofs.expansion.term_emission.TermEmission.observe.Goals as goal

pub copy_parameters-requires-clause-from : goal.copy_parameters-requires-clause-from
copy_parameters-requires-clause-from g c =
    let below = numbers_of c.args.self.now.found.items in
    let more = ap (λ (x : Emitted). length x.found) c.in_ok-put_parameters.ensures.emitted in
    let ps = places_from (g.F.Frame.context c.enter.new.self) 0
    (c.args.root.inputs + c.args.root.outputs - 0) in
    let both = length-append below ps in
    omega (arith, numbers_many, more, both, c.len-from.ensures)

pub returns-clause-state : goal.returns-clause-state
returns-clause-state g c =
    let old = c.args.self.now in
    let root = c.args.root in
    let o = c.args.observer in
    let below = numbers_of old.found.items in
    let mid = c.put_parameters.new.self in
    let from = c.len-from.result in
    let count : from ≡ length below = omega (arith, numbers_many, c.len-from.ensures) in
    let all : root.inputs + root.outputs - 0 ≡ root.inputs + root.outputs = omega arith in
    let put = c.in_ok-put_parameters.ensures.emitted
    ∙ ap₂ (λ (x : Context) (n : ℕ). onto below (gives (state_of old) (places_from x 0 n)))
    c.enter.ensures.context all in
    let at = c.enter-2.ensures.context
    ∙ ap (λ (f : ℕ → Context). f o.row) c.enter.ensures.contexts in
    let copies = c.in_ok-copy_parameters.ensures.state
    ∙ ap (λ (x : Context). with_copies (state_of mid)
    (copied (parameter_targets x o.inputs) (drop from (numbers_of mid.found.items)))) at in
    let gone = ap (λ (z : Emitted). z.state) c.cut.ensures.emitted in
    observed_done _ _ _ _ _ _ _ _ count put copies gone

pub returns-clause-found : goal.returns-clause-found
returns-clause-found g c =
    let below = numbers_of c.args.self.now.found.items in
    let from = c.len-from.result in
    let count : from ≡ length below = omega (arith, numbers_many, c.len-from.ensures) in
    let numbers : Vec ElementId Global → List ℕ = λ xs. numbers_of xs.items in
    let gone = ap (λ (z : Emitted). z.found) c.cut.ensures.emitted
    ∙ ap (λ xs. take from (numbers xs)) c.in_ok-copy_parameters.ensures.found in
    observed_gone _ _ _ _ _ _ count c.in_ok-put_parameters.ensures.emitted gone
