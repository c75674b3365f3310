use Rattle.std.proofs.Common.{◌≡◌, cond, refl, ap₂, ◌∙◌, sym, arith, not-suc-le-zero, w32, to_z}
use Rattle.lb_lanes.specs.Kernels.{bits_lane}
use Rattle.lb_lanes.specs.Planes.{on}
use Rattle.lb_lanes.proofs.Joined.{word_joined}
use Rattle.lb_lanes.proofs.word_divisions.divide_some.Goals as goal

pub loop-i-init : goal.loop-i-init
loop-i-init g c = record { done = λ i h. absurd (not-suc-le-zero h); rest = λ i le. refl }

pub divided_or-requires : goal.divided_or-requires
divided_or-requires g c e =
    c.requires c.loop-i.i (omega arith) (sym c.get-chosen.ensures ∙ e)

pub loop-i-preserved : goal.loop-i-preserved
loop-i-preserved g c =
    let i = c.loop-i.i in
    let v = g.K.Division.divided (bits_lane c.args.a.now i) (bits_lane c.args.b.now i) in
    word_joined
    (λ i n. to_z w32 n ≡ cond (on c.args.divides i)
    (g.K.Division.divided (bits_lane c.args.a.now i) (bits_lane c.args.b.now i))
    (bits_lane c.args.out.now i))
    c.args.out.now c.loop-i.out i c.divided_or.result (omega arith) c.loop-i.invariant
    (c.divided_or.ensures
    ∙ ap₂ (λ t n. cond t v (to_z w32 n)) c.get-chosen.ensures
    (c.loop-i.invariant.rest i (omega arith)))

pub returns : goal.returns
returns g c i h = c.loop-i.invariant.done i (omega arith)
