use Rattle.std.proofs.Common.{◌+◌, ◌*◌, ◌/◌, ◌≡◌, length, sym, arith, subst}
use Rattle.lb_static.specs.Signature.{kinds_of}
use Rattle.lb_sim.specs.InputRows.{number_columns}
use Rattle.lb_sim.specs.Loads.{AreLoadedAhead}
use Rattle.lb_sim.proofs.AheadLoads.{filled_none, filled_then, all_filled}
use Rattle.lb_sim.proofs.ahead.fill.Goals as goal

pub loop-f-init : goal.loop-f-init
loop-f-init c =
    let at = c.args.at.now.at in
    filled_none at.set.now at.members.now at.begins.now at.t at.live.0
    (number_columns 0 (kinds_of at.set.now.signature)) c.args.places.now c.args.count 0
    c.args.room.now

pub loop-f-preserved : goal.loop-f-preserved
loop-f-preserved c =
    let at = c.args.at.now.at in
    let columns = number_columns 0 (kinds_of at.set.now.signature) in
    let end : 4 * c.loop-f.f + 4 ≡ 4 * (c.loop-f.f + 1) = omega arith in
    subst
    (λ n. AreLoadedAhead at.set.now at.members.now at.begins.now at.t c.args.count at.live.0 columns
    c.args.places.now 0 n c.args.room.now c.put_four_members.new.room) end
    (filled_then at.set.now at.members.now at.begins.now at.t at.live.0 columns c.args.places.now
    c.args.count 0 (4 * c.loop-f.f) (4 * c.loop-f.f + 4) _ _ _ (omega arith) (omega arith)
    (omega (arith, at.few, c.loop-f-test.true)) c.requires.few c.loop-f.invariant
    c.put_four_members.ensures)

pub returns-clause-ahead : goal.returns-clause-ahead
returns-clause-ahead c =
    let at = c.args.at.now.at in
    let columns = number_columns 0 (kinds_of at.set.now.signature) in
    let count = length at.members.now in
    let fours : c.loop-f.f ≡ length at.members.now / 4 =
    omega (arith, c.loop-f-test.false, c.loop-f.auto.f-end) in
    all_filled at.set.now at.members.now at.begins.now at.t at.live.0 columns c.args.places.now
    c.args.count count c.args.room.now c.put_each.new.room
    (filled_then at.set.now at.members.now at.begins.now at.t at.live.0 columns c.args.places.now
    c.args.count 0 (4 * c.loop-f.f) count c.args.room.now c.loop-f.room c.put_each.new.room
    (omega arith) (omega (arith, fours)) at.few c.requires.few c.loop-f.invariant
    (subst
    (λ n. AreLoadedAhead at.set.now at.members.now at.begins.now at.t c.args.count at.live.0 columns
    c.args.places.now (4 * n) count c.loop-f.room c.put_each.new.room)
    (sym fours) c.put_each.ensures))
    (λ i l e. (at.there i l e).member)
