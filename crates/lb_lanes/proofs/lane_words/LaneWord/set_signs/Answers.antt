use Rattle.std.proofs.Common.{◌≡◌, ℕ, ◌<◌, cond, ap, ap₂, ◌∙◌, refl, w32, to_z, get_or, replicate}
use Rattle.std.proofs.Common.{arith}
use Rattle.std.proofs.Common.{pos, negsuc}
use Rattle.std.specs.Int.RustNames.{int_lt}
use Rattle.std.proofs.lemmas.Simd.{get_or-replicate}
use Rattle.lb_lanes.specs.Kernels.{lane_of, lanes_in}
use Rattle.lb_lanes.specs.Planes.{on}
use Rattle.lb_lanes.proofs.Halves.{sign_by}
use Rattle.lb_lanes.proofs.Views.{lane-view, view_lane}
use Rattle.lb_lanes.proofs.WordArithmetic.{zero_word_at}
use Rattle.lb_lanes.proofs.lane_words.LaneWord.set_signs.Goals as goal

minus_one_at : (i : ℕ) → i < 64 → to_z w32 (get_or (replicate 64 4294967295) i 0) ≡ negsuc 0
minus_one_at i h = ap (to_z w32) (get_or-replicate 64 i 4294967295 0 h)

pub returns : goal.returns
returns c i h =
    let passed = on c.chosen.result i in
    let here : i < lanes_in c.all.result = omega (arith, h, c.all.ensures) in
    lane-view w32 refl c.chosen.new.out i ∙ c.chosen.ensures.lanes i here
    ∙ ap₂ (λ u v. cond passed u v) (minus_one_at i h) (zero_word_at i h)
    ∙ ap (λ b. cond b (negsuc 0) (pos 0))
    (c.chosen.ensures.plane i here
    ∙ ap₂ int_lt (view_lane w32 refl c.of.inside.lanes c.args.of.now i c.of.view_is)
    (zero_word_at i h))
    ∙ sign_by (lane_of c.args.of.now i)
