use Rattle.std.proofs.Common.{◌+◌, ◌-◌, ◌*◌, refl, ◌∙◌, arith}
use Rattle.lb_lanes.proofs.OnPlanes.{on-shr, on-ones}
use Rattle.lb_lanes.proofs.width.Width.plane.Goals as goal

pub returns : goal.returns
returns c i h =
    let s = 64 - 16 * c.args.self.chunks in
    on-shr 18446744073709551615 s i
    ∙ on-ones 18446744073709551615 (s + i) refl (omega (arith, h, c.args.self.few))
