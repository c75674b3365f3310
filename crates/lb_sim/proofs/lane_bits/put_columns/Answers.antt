use Rattle.std.proofs.Common.{◌≡◌, ◌≢◌, ◌+◌, ap, ◌∙◌, arith, refl, below_more, get_or, set}
use Rattle.std.proofs.lemmas.List.{get_or-set_same, get_or-set_other}
use Rattle.lb_lanes.specs.Planes.{on}
use Rattle.lb_sim.proofs.lane_bits.put_columns.Goals as goal

pub loop-c-init : goal.loop-c-init
loop-c-init c = record { put = λ k i h. absurd (omega (arith, h)); below = λ k h. refl }

pub loop-c-preserved : goal.loop-c-preserved
loop-c-preserved c =
    let n = c.loop-c.c in
    let at = c.args.first + n in
    let planes = c.loop-c.planes in
    let made = c.column-plane.result in
    let rows = c.args.rows.now in
    record {
      put = λ k i h l. below_more
          (λ j. on (get_or (set planes at made) (c.args.first + j) 0) i
          ≡ on (get_or rows (c.args.from + i) 0) j) n
          (λ j m. let ne : c.args.first + j ≢ at = omega (arith, m) in
          ap (λ p. on p i) (get_or-set_other planes at (c.args.first + j) made 0 ne)
          ∙ c.loop-c.invariant.put j i m l)
          (ap (λ p. on p i) (get_or-set_same planes at made 0
          (omega (arith, c.requires.room, c.loop-c-test.true)))
          ∙ c.column-plane.ensures i l)
          k h;
      below = λ k h. let ne : k ≢ at = omega (arith, h) in
          get_or-set_other planes at k made 0 ne ∙ c.loop-c.invariant.below k h;
    }

pub returns-clause-put : goal.returns-clause-put
returns-clause-put c k i h l = c.loop-c.invariant.put k i (omega (arith, h, c.loop-c-test.false)) l
