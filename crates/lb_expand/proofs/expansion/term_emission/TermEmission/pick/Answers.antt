use Rattle.lb_expand.proofs.Words.{ap, arith, gives, length, numbers_of, state_of, take, ◌+◌, ◌-◌}
use Rattle.lb_expand.proofs.{Words.{◌∙◌, ◌≡◌, ◌≤◌}, emission.EmittedCuts.pick_is}
use Rattle.lb_expand.proofs.emission.EmittedStacks.{numbers_many}
use Rattle.lb_expand.proofs.expansion.term_emission.TermEmission.pick.Goals as goal

pub returns-clause-emitted : goal.returns-clause-emitted
returns-clause-emitted c =
    let from = c.args.from in
    let old = c.args.self.now in
    let mid = c.remove.new.self in
    let over = c.len.result - from in
    let within : from ≤ length (numbers_of old.found.items) =
    omega (arith, numbers_many, c.requires.from) in
    let above : over ≡ length (numbers_of old.found.items) - from =
    omega (arith, numbers_many, c.len.ensures) in
    let cut = c.cut.ensures.emitted
    ∙ ap (λ n. gives (state_of mid) (take (from + n) (numbers_of mid.found.items))) c.min.ensures in
    pick_is _ _ _ _ _ _ _ _ within above c.min-skipped.ensures c.remove.ensures.emitted cut
