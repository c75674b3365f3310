use Rattle.lb_expand.proofs.Words.{ElementId, Global, List, Vec, ap, arith, emitted_of, get_or}
use Rattle.lb_expand.proofs.Words.{length, numbers_of, ℕ, ◌<◌, ◌∙◌, ◌≤◌}
use Rattle.lb_expand.proofs.emission.{EmittedChains.{keep_ends, keep_more}, EmittedStacks.number_at}
use Rattle.lb_expand.{proofs.emission.EmittedStacks.numbers_many, specs.TermEmissions.kept}
use Rattle.lb_expand.proofs.expansion.term_emission.TermEmission.keep.Goals as goal

pub loop-i-preserved : goal.loop-i-preserved
loop-i-preserved c =
    let l = c.loop-i in
    let old = c.args.self.now in
    let numbers : Vec ElementId Global → List ℕ = λ xs. numbers_of xs.items in
    let all = numbers old.found in
    let same = ap (λ (xs : Vec ElementId Global). length xs.items) l.invariant.found in
    let lt : l.i < length all =
    omega (arith, numbers_many, c.loop-i-test.true, l.auto.i-end, c.len-i-end.ensures) in
    let at = ap (λ (a : ElementId). a.0) c.index-a.ensures
    ∙ number_at l.self.found.items l.i c.index-a.result.now
    (omega (arith, lt, numbers_many, same))
    ∙ ap (λ xs. get_or (numbers xs) l.i 0) l.invariant.found in
    grind (
      arith,
      keep_more (emitted_of l.self) (emitted_of c.keep_one.new.self) (kept c.args.from
          (emitted_of old)) all l.i _ lt c.in_ok-keep_one.ensures.emitted at l.invariant.rest,
    )

pub returns-clause-emitted : goal.returns-clause-emitted
returns-clause-emitted c =
    let l = c.loop-i in
    let all = numbers_of c.args.self.now.found.items in
    let le : length all ≤ l.i =
    omega (arith, numbers_many, c.loop-i-test.false, l.auto.i-end, c.len-i-end.ensures) in
    keep_ends _ _ _ _ le l.invariant.rest
