-- The verdict that may be posted for a trace.
use Rattle.std.proofs.Common.{◌≡◌, ℕ, ◌<◌, List, length, get_or, sym, ◌∙◌, subst}
use Rattle.std.specs.Prelude.{Some}
use Rattle.lb_check.specs.declared.verdict.Verdict.{Verdict}
use Rattle.lb_check.specs.declared.verdict.Verdict.TheVariants.{Passed}
use Rattle.lb_flat.specs.Programs.{program_of}
use Rattle.lb_flat.specs.RightVerdicts.{right_verdicts}
use Rattle.lb_flat.specs.Standing.{HasKindsOf, StandsForProgram}
use Rattle.lb_traces.specs.Traces.{Recording}
use Rattle.lb_flat.specs.declared.program.FlatProgram.{FlatProgram}
use Rattle.lb_flat.proofs.solutions.StandingRuns.{right_verdict_at}
use Rattle.lb_board.specs.Settlements.{IsRight}
use Rattle.lb_pool.specs.Correct.{IsVerdict}

-- the verdict of a trace is the one that a board has for it
pub right_to_post :
    (p : FlatProgram) (r : Recording) (right : List Verdict) (k : ℕ) (v : Verdict) →
    StandsForProgram (program_of p) → HasKindsOf (program_of p) r →
    right ≡ right_verdicts (program_of p) r →
    k < length r.traces → IsVerdict p r k v → IsRight right k (Some v)
right_to_post p r right k v stands kinds e below is =
    let at : get_or (right_verdicts (program_of p) r) k Passed ≡ v = (
    right_verdict_at (program_of p) r k below ∙ sym (is.is_right stands kinds)
    ) in
    sym (subst (λ (l : List Verdict). get_or l k Passed ≡ v) (sym e) at)
