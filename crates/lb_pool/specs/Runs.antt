-- Verdicts as they come in, in any order, and the list in which each has the place of its trace.
-- Source: this project's rule.
use Rattle.std.specs.Prelude.{◌≡◌, ℕ, ◌<◌, List, [], ◌∷◌, ◌++◌, length, map, get_or, flat_map}
use Rattle.std.specs.Prelude.{slice_set, All}
use Rattle.lb_check.specs.declared.verdict.Verdict.{Verdict}
use Rattle.lb_traces.specs.Traces.{Recording}
use Rattle.lb_flat.specs.declared.program.FlatProgram.{FlatProgram}
use Rattle.lb_pool.specs.Correct.{IsVerdict}
use Rattle.lb_pool.specs.declared.batch.Judged.{Judged}

-- a trace and its verdict
pub record IsJudgedTrace (p : FlatProgram) (r : Recording) (j : Judged) : Type 0 where
  pub is_trace : j.trace < length r.traces
  pub is_verdict : IsVerdict p r j.trace j.verdict

abbrev pub AreJudged : FlatProgram → Recording → List Judged → Type 0
AreJudged p r js = All (IsJudgedTrace p r) js

-- the numbers of the traces
abbrev pub numbers_of : List Judged → List ℕ
numbers_of js = map (λ j. j.trace) js

-- the traces of batch i, with their verdicts
pub record IsBatchOf (p : FlatProgram) (r : Recording) (batches : List (List ℕ)) (i : ℕ)
    (js : List Judged) : Type 0 where
  pub numbers : numbers_of js ≡ get_or batches i []
  pub judged : AreJudged p r js

-- the numbers in the batches that were drawn
abbrev pub numbers_drawn : List (List ℕ) → List ℕ → List ℕ
numbers_drawn batches drawn = flat_map (λ i. get_or batches i []) drawn

-- the batches `drawn` have the numbers of the batches `before`, and behind them `members`
abbrev pub AreDrawnAfter : List (List ℕ) → List ℕ → List ℕ → List ℕ → Type 0
AreDrawnAfter batches before drawn members =
    numbers_drawn batches drawn ≡ numbers_drawn batches before ++ members

-- the list `verdicts` after each verdict of `js` was written to the place of its trace
abbrev pub placed : List Verdict → List Judged → List Verdict
placed verdicts [] = verdicts
placed verdicts (j ∷ js) = placed (slice_set verdicts j.trace j.verdict) js
