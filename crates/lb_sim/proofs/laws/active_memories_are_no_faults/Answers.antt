use Rattle.std.proofs.Common.{◌≡◌, ◌<◌, ℕ, true, refl, sym, ◌∙◌}
use Rattle.lb_syntax.proofs.TruthValues.{and_second}
use Rattle.lb_check.specs.declared.verdict.Verdict.{Verdict}
use Rattle.lb_check.specs.declared.verdict.Verdict.TheVariants.{Passed, Fault, Undefined, Assertion}
use Rattle.lb_check.specs.declared.verdict.Verdict.TheVariants.{False}
use Rattle.lb_lanes.specs.Planes.{on}
use Rattle.lb_sim.specs.BatchRuns.{flat_of, lane_in, verdict_at}
use Rattle.lb_sim.specs.LaneStates.{is_passed}
use Rattle.lb_sim.specs.declared.batch_run.BatchRun.{BatchRun}
use Rattle.lb_sim.proofs.LanePrograms.{program_ready}
use Rattle.lb_sim.proofs.SoundMemories.{memories_sound}
use Rattle.lb_sim.proofs.laws.active_memories_are_no_faults.Goals as goal

passed : (v : Verdict) → is_passed v ≡ true → v ≡ Passed
passed Passed e = refl
passed (Fault t) e = absurd (cc e)
passed (Undefined t) e = absurd (cc e)
passed (Assertion t) e = absurd (cc e)
passed (False t) e = absurd (cc e)

-- an active lane has passed so far
active_passed :
    (r : BatchRun) (i : ℕ) → i < 64 → on r.active.0 i ≡ true → verdict_at r i ≡ Passed
active_passed r i below active =
    passed (verdict_at r i)
    (and_second (on r.live.0 i) (is_passed (verdict_at r i)) (sym (r.going i below) ∙ active))

pub returns : goal.returns
returns c P r flat i below X trace stands active =
    let p = r.program.now in
    memories_sound P (flat_of r) flat (program_ready p) p.kept.items (lane_in r i) X trace
    (stands.state active) (sym stands.verdict_is ∙ active_passed r i below active)
