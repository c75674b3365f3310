use Rattle.std.proofs.Common.{◌≡◌, ◌≢◌, ℕ, ◌+◌, ◌*◌, ◌<◌, ◌≤◌, ◌⊎◌, inl, inr, [], get_or}
use Rattle.std.proofs.Common.{◌∙◌, subst, arith}
use Rattle.lb_static.specs.Signature.{kinds_of}
use Rattle.lb_lanes.specs.Kernels.{lane_of}
use Rattle.lb_sim.specs.InputRows.{number_columns, member_cell}
use Rattle.lb_sim.proofs.AheadLoads.{instants_none, instant_more}
use Rattle.lb_sim.proofs.ahead.put_member.Goals as goal

another : (d i e j : ℕ) → (e ≢ d) ⊎ ((j < i) ⊎ (i + 1 ≤ j)) → (e ≢ d) ⊎ (j ≢ i)
another d i e j (inl ne) = inl ne
another d i e j (inr (inl before)) = inr (λ s. absurd (omega (arith, before, s)))
another d i e j (inr (inr behind)) = inr (λ s. absurd (omega (arith, behind, s)))

pub loop-d-init : goal.loop-d-init
loop-d-init c =
    let at = c.args.at.now.at in
    instants_none at.set.now at.members.now at.begins.now at.t at.live.0
    (number_columns 0 (kinds_of at.set.now.signature)) c.args.places.now c.args.i (c.args.i + 1)
    c.args.room.now

pub loop-d-preserved : goal.loop-d-preserved
loop-d-preserved c =
    let at = c.args.at.now.at in
    let columns = number_columns 0 (kinds_of at.set.now.signature) in
    let d = c.loop-d.d in
    instant_more at.set.now at.members.now at.begins.now at.t at.live.0 columns c.args.places.now d
    c.args.i (c.args.i + 1) c.args.room.now c.loop-d.room c.put_row.new.room c.loop-d.invariant
    (omega (arith, c.loop-d-test.true, c.requires.few)) (omega (arith, c.requires.member, at.few))
    c.put_row.ensures.room
    (λ j k ge lt e lk.
    let same : c.args.i ≡ j = omega (arith, ge, lt) in
    let w = get_or c.args.places.now k 0 in
    subst
    (λ n. lane_of (get_or c.put_row.new.room (65 * k + d) []) n
    ≡ member_cell at.set.now at.members.now at.begins.now (at.t + d) n (get_or columns w 0))
    same
    (c.put_row.ensures.put k lk ∙ c.row_of.ensures.numbers w (c.requires.within k 0 lk)))
    (λ k e j le lj o. c.put_row.ensures.others k e j le lj (another d c.args.i e j o))
