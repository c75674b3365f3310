use Rattle.std.proofs.Common.{◌+◌, ◌*◌, ◌/◌, ◌≡◌, length, sym, arith, subst}
use Rattle.lb_static.specs.Signature.{kinds_of}
use Rattle.lb_traces.specs.Packed.{number_columns}
use Rattle.lb_sim.specs.Loads.{AreLoaded}
use Rattle.lb_sim.proofs.IntegerLoads.{loaded_none, loaded_then}
use Rattle.lb_sim.proofs.integer_loads.load_numbers.Goals as goal

pub loop-f-init : goal.loop-f-init
loop-f-init c =
    let at = c.args.at.now in
    loaded_none at.set.now at.members.now at.begins.now at.t at.live.0
    (number_columns 0 (kinds_of at.set.now.signature)) c.args.places.now 0 c.args.words.now

pub loop-f-preserved : goal.loop-f-preserved
loop-f-preserved c =
    let at = c.args.at.now in
    let columns = number_columns 0 (kinds_of at.set.now.signature) in
    let end : 4 * c.loop-f.f + 4 ≡ 4 * (c.loop-f.f + 1) = omega arith in
    subst
    (λ n. AreLoaded at.set.now at.members.now at.begins.now at.t at.live.0 columns c.args.places.now
    0 n c.args.words.now c.put_four_members.new.words) end
    (loaded_then at.set.now at.members.now at.begins.now at.t at.live.0 columns c.args.places.now 0
    (4 * c.loop-f.f) (4 * c.loop-f.f + 4) _ _ _ (omega arith) (omega arith)
    (omega (arith, at.few, c.loop-f-test.true)) c.loop-f.invariant c.put_four_members.ensures)

pub returns-clause-put : goal.returns-clause-put
returns-clause-put c i k h e l =
    let at = c.args.at.now in
    let columns = number_columns 0 (kinds_of at.set.now.signature) in
    let inside = (at.there i h e).member in
    let count = length at.members.now in
    let fours : c.loop-f.f ≡ length at.members.now / 4 =
    omega (arith, c.loop-f-test.false, c.loop-f.auto.f-end) in
    let all =
    loaded_then at.set.now at.members.now at.begins.now at.t at.live.0 columns c.args.places.now 0
    (4 * c.loop-f.f) count c.args.words.now c.loop-f.words c.put_each.new.words (omega arith)
    (omega (arith, fours)) at.few c.loop-f.invariant
    (subst
    (λ n. AreLoaded at.set.now at.members.now at.begins.now at.t at.live.0 columns c.args.places.now
    (4 * n) count c.loop-f.words c.put_each.new.words)
    (sym fours) c.put_each.ensures) in
    all.put i k (omega arith) inside e l
