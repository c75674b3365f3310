-- One more right verdict is kept.
use Rattle.std.proofs.Common.{ℕ, ◌<◌, get_or, sym, subst, ◌∙◌, arith, inl, inr}
use Rattle.std.proofs.lemmas.Bool.{cases_eq, cases_lt, true≢false}
use Rattle.lb_flat.specs.Correct.{IsVerdictOf}
use Rattle.lb_flat.specs.Programs.{program_of}
use Rattle.lb_sim.specs.Correct.{HasVerdict}
use Rattle.lb_sim.proofs.Queueing.{kept_more}
use Rattle.lb_sim.proofs.queue.keep_settled.Goals as goal

pub keep-requires : goal.keep-requires
keep-requires g c =
    let queue = c.args.queue.now in
    let f = program_of c.args.run.now.program.now.program.now in
    let lane = c.loop-lane.lane in
    let place = get_or c.args.places.now lane 0 in
    let right : IsVerdictOf f queue.set.now (get_or queue.members.now place 0) c.verdict.result =
    subst (IsVerdictOf f queue.set.now (get_or queue.members.now place 0)) (sym c.verdict.ensures)
    (c.requires.right lane c.loop-lane-test.true
    (c.loop-lane.invariant.there (omega (arith, c.loop-lane-test.true, queue.few)))) in
    g.met.V.Verdicts.takes_still c.args.verdicts.now c.loop-lane.verdicts place c.verdict.result
    c.loop-lane.invariant.becomes
    (c.requires.takes place c.verdict.result (c.requires.there lane c.loop-lane-test.true) right)

pub loop-lane-preserved : goal.loop-lane-preserved
loop-lane-preserved g c =
    let queue = c.args.queue.now in
    let f = program_of c.args.run.now.program.now.program.now in
    let r = queue.set.now in
    let members = queue.members.now in
    let places = c.args.places.now in
    let now = c.loop-lane in
    let next = c.next_lane-lane-in-loop-lane in
    let lane = now.lane in
    let few : lane < 64 = omega (arith, c.loop-lane-test.true, queue.few) in
    let has' = g.V.Verdicts.has c.keep.new.self in
    let right : IsVerdictOf f r (get_or members (get_or places lane 0) 0) c.verdict.result =
    subst (IsVerdictOf f r (get_or members (get_or places lane 0) 0)) (sym c.verdict.ensures)
    (c.requires.right lane c.loop-lane-test.true (now.invariant.there few)) in
    let more : (k : ℕ) → HasVerdict f r members (g.V.Verdicts.has now.verdicts) k →
    HasVerdict f r members has' k =
    kept_more f r members (g.V.Verdicts.has now.verdicts) has' (get_or places lane 0)
    c.verdict.result right c.keep.ensures.kept c.keep.ensures.others in
    let here : HasVerdict f r members has' (get_or places lane 0) =
    record { verdict = c.verdict.result; held = c.keep.ensures.kept; right = right } in
    record {
      becomes =
          g.met.V.Verdicts.becomes_further c.args.verdicts.now now.verdicts c.keep.new.self
          now.invariant.becomes c.keep.ensures.becomes;
      stays = λ k had. more k (now.invariant.stays k had);
      kept = λ i l m e.
          elim (cases_lt i lane) [
            | inl below ↦ more (get_or places i 0) (now.invariant.kept i below m e)
            | inr above ↦
                elim (cases_eq i lane) [
                  | inl same ↦
                      subst (λ j. HasVerdict f r members has' (get_or places j 0)) (sym same) here
                  | inr ne ↦
                      absurd {A = HasVerdict f r members has' (get_or places i 0)}
                      (true≢false
                      (sym e ∙ next.ensures.none i (omega (arith, above, ne)) l))
                ]
          ];
      within = next.ensures.within.1;
      there = next.ensures.there;
    }
