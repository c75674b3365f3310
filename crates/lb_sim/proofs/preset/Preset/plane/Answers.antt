use Rattle.std.proofs.Common.{◌≡◌, cond, length, ap, sym, ◌∙◌, arith}
use Rattle.lb_sim.proofs.FirstPlaces.{placed_on}
use Rattle.lb_sim.proofs.preset.Preset.plane.Goals as goal
use Rattle.lb_sim.proofs.preset.Preset.plane.Goals.{then-value, else-value}

pub returns-clause-value : goal.returns-clause-value
returns-clause-value c = λ i lt.
    let is : c.if-value.push ≡ cond c.args.value 18446744073709551615 0 =
    elim c.if-value.branch [
      | then-value w ↦
          w.push-is ∙ ap (λ b. cond b 18446744073709551615 0) (sym w.if-value.true)
      | else-value w ↦
          w.push-is ∙ ap (λ b. cond b 18446744073709551615 0) (sym w.if-value.false)
    ] in
    let count : c.len-id.result ≡ length c.args.self.now.planes.items =
    omega (arith, c.len-id.ensures) in
    placed_on _ _ c.if-value.push c.len-id.result i c.args.value c.in_ok-push.ensures.items
    (sym count) lt is
