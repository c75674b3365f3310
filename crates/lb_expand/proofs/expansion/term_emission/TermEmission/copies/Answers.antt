use Rattle.lb_expand.proofs.Words.{◌≡◌, ◌≤◌, length, arith, append-nil, numbers_of}
use Rattle.lb_expand.proofs.emission.EmittedCuts.{copies_more, copies_end}
use Rattle.lb_expand.proofs.emission.EmittedStacks.{numbers_many}
use Rattle.lb_expand.proofs.expansion.term_emission.TermEmission.copies.Goals as goal

pub loop-i-init : goal.loop-i-init
loop-i-init c = grind (arith, append-nil (numbers_of c.args.self.now.found.items))

pub loop-i-preserved : goal.loop-i-preserved
loop-i-preserved c =
    let all = numbers_of c.args.self.now.found.items in
    let within : c.args.from ≤ length all = omega (arith, numbers_many, c.requires.from) in
    let top : c.len-top.result ≡ length all = omega (arith, numbers_many, c.len-top.ensures) in
    grind (
      arith,
      copies_more _ _ _ _ _ _ within top c.loop-i.invariant.emitted
          c.in_ok-repeat.ensures.emitted,
    )

pub returns-clause-emitted : goal.returns-clause-emitted
returns-clause-emitted c =
    let l = c.loop-i in
    let all = numbers_of c.args.self.now.found.items in
    let within : c.args.from ≤ length all = omega (arith, numbers_many, c.requires.from) in
    let top : c.len-top.result ≡ length all = omega (arith, numbers_many, c.len-top.ensures) in
    let done : l.i ≡ c.args.count = omega (arith, c.loop-i-test.false, l.auto.i-end) in
    copies_end _ _ _ _ _ _ _ within top done l.invariant.emitted c.remove.ensures.emitted
