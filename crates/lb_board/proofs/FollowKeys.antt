-- The right verdicts of a key.
use Rattle.std.proofs.Common.{◌≡◌, ℕ, ◌+◌, List, length, replicate, sym, ap, ap₂, ◌∙◌}
use Rattle.lb_check.specs.declared.verdict.Verdict.{Verdict}
use Rattle.lb_flat.specs.Programs.{program_of}
use Rattle.lb_flat.specs.RightVerdicts.{right_verdicts}
use Rattle.lb_traces.specs.Traces.{Recording}
use Rattle.lb_flat.specs.declared.flat.Ordered.{Ordered}
use Rattle.lb_flat.proofs.solutions.StandingRuns.{length-right_verdicts}
use Rattle.lb_board.specs.declared.follow_views.FollowKey.{FollowKey}
use Rattle.lb_board.specs.FollowKeys.{right_by}

-- the right verdicts of a key are those of its traces, under its program
pub right_by_parts :
    (key : FollowKey) (o : Ordered) (r : Recording) → key.ordered.value ≡ o →
    key.set.value ≡ r → right_by key ≡ right_verdicts (program_of o.program) r
unfolding right_by
right_by_parts key o r e f =
    ap₂ (λ (x : Ordered) (s : Recording). right_verdicts (program_of x.program) s) e f

-- a key has one right verdict for each trace
pub length-right_by :
    (key : FollowKey) (o : Ordered) (r : Recording) → key.ordered.value ≡ o →
    key.set.value ≡ r → length (right_by key) ≡ length r.traces
length-right_by key o r e f =
    ap (λ (l : List Verdict). length l) (right_by_parts key o r e f)
    ∙ length-right_verdicts (program_of o.program) r

-- a board of n traces has n + 1 words: one for each trace, and the word of claims
pub words_by :
    (key : FollowKey) (o : Ordered) (r : Recording) (n : ℕ) (words : List ℕ) →
    key.ordered.value ≡ o → key.set.value ≡ r → n ≡ length r.traces →
    words ≡ replicate (n + 1) 0 → words ≡ replicate (length (right_by key) + 1) 0
words_by key o r n words e f count are =
    are
    ∙ ap (λ (m : ℕ). replicate (m + 1) 0) (count ∙ sym (length-right_by key o r e f))
