use Rattle.std.proofs.Common.{◌+◌, ◌*◌, ◌/◌, ◌≡◌, length, sym, arith, subst}
use Rattle.lb_static.specs.Signature.{kinds_of}
use Rattle.lb_sim.specs.InputRows.{truth_columns}
use Rattle.lb_sim.specs.Loads.{AreTruthsLoaded}
use Rattle.lb_sim.proofs.Loading.{truths_none, truths_then, all_gathered}
use Rattle.lb_sim.proofs.loads.gather.Goals as goal

pub loop-f-init : goal.loop-f-init
loop-f-init c =
    let at = c.args.at.now in
    truths_none at.set.now at.members.now at.begins.now at.t at.live.0
    (truth_columns 0 (kinds_of at.set.now.signature)) c.args.count 0 c.args.rows.now

pub loop-f-preserved : goal.loop-f-preserved
loop-f-preserved c =
    let at = c.args.at.now in
    let columns = truth_columns 0 (kinds_of at.set.now.signature) in
    let end : 4 * c.loop-f.f + 4 ≡ 4 * (c.loop-f.f + 1) = omega arith in
    subst
    (λ n. AreTruthsLoaded at.set.now at.members.now at.begins.now at.t c.args.count at.live.0
    columns 0 n c.args.rows.now c.put_four_members.new.rows) end
    (truths_then at.set.now at.members.now at.begins.now at.t at.live.0 columns c.args.count 0
    (4 * c.loop-f.f) (4 * c.loop-f.f + 4) _ _ _ (omega arith) (omega arith)
    (omega (arith, at.few, c.loop-f-test.true)) c.loop-f.invariant c.put_four_members.ensures)

pub returns-clause-put : goal.returns-clause-put
returns-clause-put c =
    let at = c.args.at.now in
    let columns = truth_columns 0 (kinds_of at.set.now.signature) in
    let count = length at.members.now in
    let fours : c.loop-f.f ≡ length at.members.now / 4 =
    omega (arith, c.loop-f-test.false, c.loop-f.auto.f-end) in
    all_gathered at.set.now at.members.now at.begins.now at.t at.live.0 columns c.args.count
    c.args.rows.now c.put_each.new.rows count
    (truths_then at.set.now at.members.now at.begins.now at.t at.live.0 columns c.args.count 0
    (4 * c.loop-f.f) count c.args.rows.now c.loop-f.rows c.put_each.new.rows (omega arith)
    (omega (arith, fours)) at.few c.loop-f.invariant
    (subst
    (λ n. AreTruthsLoaded at.set.now at.members.now at.begins.now at.t c.args.count at.live.0
    columns (4 * n) count c.loop-f.rows c.put_each.new.rows)
    (sym fours) c.put_each.ensures))
    c.requires.room (λ i l e. (at.there i l e).member)
