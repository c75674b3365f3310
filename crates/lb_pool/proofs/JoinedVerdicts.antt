-- The verdicts of two sets of traces, one after the other, are those of both sets together.
use Rattle.std.proofs.Common.{◌≡◌, ℕ, ◌+◌, ◌-◌, ◌<◌, ◌≤◌, List, [], ◌++◌, length, get_or, map}
use Rattle.std.proofs.Common.{sym, ap}
use Rattle.std.proofs.Common.{◌∙◌, subst, arith, length-append, ⊎_elim}
use Rattle.std.proofs.lemmas.Bool.{cases_lt}
use Rattle.std.proofs.lemmas.List.{get_or-append-add, get_or_append_left}
use Rattle.lb_static.specs.Signature.{Elements}
use Rattle.lb_check.specs.Solutions.{HasOneHistory, Inputs}
use Rattle.lb_check.specs.Verdicts.{IsOnlyVerdict}
use Rattle.lb_check.specs.declared.verdict.Verdict.{Verdict}
use Rattle.lb_check.specs.declared.verdict.Verdict.TheVariants.{Passed}
use Rattle.lb_flat.specs.Inputs.{inputs_of, scalars_in}
use Rattle.lb_flat.specs.Judging.{flat_verdict}
use Rattle.lb_flat.specs.Programs.{program_of}
use Rattle.lb_traces.specs.Traces.{Recording, Trace, Traces, trace_at}
use Rattle.lb_flat.specs.declared.program.FlatProgram.{FlatProgram}
use Rattle.lb_pool.specs.Correct.{AreVerdicts, IsVerdict}

abbrev recorded : Elements → Traces → Recording
recorded elements traces = record { signature = elements; traces = traces }

-- a verdict depends on its trace alone
moved :
    (p : FlatProgram) (elements : Elements) (a b : Traces) (j k : ℕ) (v : Verdict) →
    trace_at a j ≡ trace_at b k → IsVerdict p (recorded elements a) j v →
    IsVerdict p (recorded elements b) k v
moved p elements a b j k v same is =
    let there : inputs_of (recorded elements a) j ≡ inputs_of (recorded elements b) k =
    ap (λ (t : Trace). map (scalars_in elements) t.1) same in
    record {
      only_verdict = λ P flat inputs.
          subst (λ (X : Inputs). IsOnlyVerdict P X v) there (is.only_verdict P flat inputs);
      has_one_history = λ P flat inputs.
          subst (λ (X : Inputs). HasOneHistory P X) there (is.has_one_history P flat inputs);
      is_right = λ stands kinds.
          is.is_right stands kinds ∙ ap (flat_verdict (program_of p)) there;
    }

-- the verdicts of one set and then of another are those of both together
pub joined_verdicts :
    (p : FlatProgram) (elements : Elements) (a b : Traces) (some more : List Verdict) →
    AreVerdicts p (recorded elements a) some → AreVerdicts p (recorded elements b) more →
    AreVerdicts p (recorded elements (a ++ b)) (some ++ more)
joined_verdicts p elements a b some more first second = record {
  count = length-append some more
      ∙ ap (λ n. n + length more) first.count ∙ ap (λ n. length a + n) second.count
      ∙ sym (length-append a b);
  each = λ k below.
      ⊎_elim
      (λ (h : k < length a).
      subst (IsVerdict p (recorded elements (a ++ b)) k)
      (sym (get_or_append_left some more Passed k (omega (arith, h, first.count))))
      (moved p elements a (a ++ b) k k (get_or some k Passed)
      (sym (get_or_append_left a b ([], []) k h)) (first.each k h)))
      (λ (h : length a ≤ k). later k (k - length a) (omega (arith, h))
      (omega (arith, h, below, length-append a b)))
      (cases_lt k (length a));
}
  where
    later : (k j : ℕ) → k ≡ length a + j → j < length b
        → IsVerdict p (recorded elements (a ++ b)) k (get_or (some ++ more) k Passed)
    later k j is below =
        let at : get_or (some ++ more) k Passed ≡ get_or more j Passed =
        ap (λ n. get_or (some ++ more) n Passed) (is ∙ ap (λ n. n + j) (sym first.count))
        ∙ get_or-append-add some more j Passed in
        let same : trace_at b j ≡ trace_at (a ++ b) k =
        sym (ap (λ n. get_or (a ++ b) n ([], [])) is ∙ get_or-append-add a b j ([], [])) in
        subst (IsVerdict p (recorded elements (a ++ b)) k) (sym at)
        (moved p elements b (a ++ b) j k (get_or more j Passed) same (second.each j below))
