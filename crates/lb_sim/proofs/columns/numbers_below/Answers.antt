use Rattle.std.proofs.Common.{◌≡◌, ◌+◌, ◌++◌, ◌∷◌, ℕ, List, [], ap, ap₂, sym, ◌∙◌, arith}
use Rattle.std.specs.List.{range_with_len}
use Rattle.lb_flat.proofs.lists.Lists.{range_last}
use Rattle.lb_sim.proofs.columns.numbers_below.Goals as goal

pub loop-n-preserved : goal.loop-n-preserved
loop-n-preserved c =
    let n = c.loop-n.n in
    let e : n ≡ 0 + n = omega arith in
    c.in_ok-push.ensures.items
    ∙ ap₂ (λ (l : List ℕ) (m : ℕ). l ++ m ∷ []) c.loop-n.invariant e
    ∙ sym (range_last 0 n)

pub returns : goal.returns
returns c =
    let all : c.loop-n.n ≡ c.args.count =
    omega (arith, c.loop-n.auto.n-end, c.loop-n-test.false) in
    c.loop-n.invariant ∙ ap (range_with_len 0) all
