use Rattle.std.proofs.Common.{◌≡◌, false, ap, sym, ◌∙◌, rules}
use Rattle.lb_lanes.specs.Planes.{on}
use Rattle.lb_lanes.proofs.OnPlanes.{on-zero}
use Rattle.lb_sim.proofs.allot.bad_place.Goals as goal

pub returns-then-watched-clause-value : goal.returns-then-watched-clause-value
returns-then-watched-clause-value c = λ i lt.
    let sound : c.is_bad-bad.result ≡ false = search rules in
    ap (λ n. on n i) c.args.preset.now.nowhere ∙ on-zero i ∙ sym sound ∙ c.is_bad-bad.ensures
