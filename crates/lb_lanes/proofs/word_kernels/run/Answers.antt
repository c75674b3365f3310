use Rattle.std.proofs.Common.{ℕ, ◌<◌, arith, not, ◌&&◌, cond, pos, refl, ap, ◌∙◌}
use Rattle.lb_lanes.specs.Kernels.{bits_lane}
use Rattle.lb_lanes.specs.Operators.{is_int}
use Rattle.lb_lanes.specs.Planes.{on}
use Rattle.lb_lanes.proofs.LaneCases.{masked_kept, masked_faulty}
use Rattle.lb_lanes.proofs.OnPlanes.{on-and, on-flip, flip}
use Rattle.lb_lanes.proofs.word_kernels.run.Goals as goal

pub returns : goal.returns
returns g c =
    let active = c.args.active in
    let beyond = c.run_wrapped-beyond.result in
    let v = λ (i : ℕ). g.K.Wrapping.exact (bits_lane c.args.a.now i) (bits_lane c.args.b.now i) in
    record {
      values = λ i h.
          let w : i < 64 = omega (arith, h, c.args.width.few) in
          c.keep.ensures i h
          ∙ ap (λ t. cond t (bits_lane c.run_wrapped-beyond.new.out i) (pos 0))
          (on-and active (flip beyond) i
          ∙ ap (λ t. on active i && t) (on-flip beyond i c.run_wrapped-beyond.type_inv w
          ∙ ap not (c.run_wrapped-beyond.ensures.beyond i h)))
          ∙ masked_kept (on active i) (is_int (v i)) (v i)
          (bits_lane c.run_wrapped-beyond.new.out i) refl (c.run_wrapped-beyond.ensures.values i h);
      fault_bits = λ i h.
          on-and active beyond i
          ∙ ap (λ t. on active i && t) (c.run_wrapped-beyond.ensures.beyond i h)
          ∙ masked_faulty (on active i) (is_int (v i)) (v i) refl;
    }
