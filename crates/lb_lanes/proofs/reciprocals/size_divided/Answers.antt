use Rattle.std.proofs.Common.{◌*◌, ◌/◌, ◌^◌, ap, ap₂, ◌∙◌, ℕ}
use Rattle.lb_lanes.proofs.ByReciprocals.{quotient_by}
use Rattle.lb_lanes.proofs.reciprocals.size_divided.Goals as goal

pub returns : goal.returns
returns c =
    let times : ℕ → ℕ → ℕ = λ m n. m * n in
    ap (λ k. k / 2 ^ c.args.shift) (ap₂ times c.from.ensures c.from-2.ensures)
    ∙ quotient_by c.args.d c.args.factor c.args.shift c.args.n c.requires.reciprocal
    c.requires.bound
