use Rattle.std.proofs.Common.{◌+◌, ◌∙◌, get_or, arith}
use Rattle.lb_static.specs.Signature.{kinds_of}
use Rattle.lb_sim.specs.InputRows.{number_columns, member_cell}
use Rattle.lb_sim.proofs.AheadLoads.{instants_none, instant_more}
use Rattle.lb_sim.proofs.IntegerLoads.{four_are}
use Rattle.lb_sim.proofs.ahead.put_four_members.Goals as goal

pub loop-d-init : goal.loop-d-init
loop-d-init c =
    let at = c.args.at.now.at in
    instants_none at.set.now at.members.now at.begins.now at.t at.live.0
    (number_columns 0 (kinds_of at.set.now.signature)) c.args.places.now c.args.first
    (c.args.first + 4) c.args.room.now

pub loop-d-preserved : goal.loop-d-preserved
loop-d-preserved c =
    let at = c.args.at.now.at in
    let columns = number_columns 0 (kinds_of at.set.now.signature) in
    let d = c.loop-d.d in
    instant_more at.set.now at.members.now at.begins.now at.t at.live.0 columns c.args.places.now d
    c.args.first (c.args.first + 4) c.args.room.now c.loop-d.room c.put_four_ahead.new.room
    c.loop-d.invariant (omega (arith, c.loop-d-test.true, c.requires.few))
    (omega (arith, c.requires.members, at.few)) c.put_four_ahead.ensures.room
    (λ i k ge lt e lk.
    let w = get_or c.args.places.now k 0 in
    let inside = c.requires.within k 0 lk in
    c.put_four_ahead.ensures.put k i lk ge lt
    ∙ four_are c.args.first i _ _ _ _
    (λ m. member_cell at.set.now at.members.now at.begins.now (at.t + d) m (get_or columns w 0))
    (c.row_of.ensures.numbers w inside) (c.row_of-in-loop-d.ensures.numbers w inside)
    (c.row_of-in-loop-d-2.ensures.numbers w inside) (c.row_of-in-loop-d-3.ensures.numbers w inside)
    ge lt)
    c.put_four_ahead.ensures.others
