-- A report on recorded traces lists their names and verdicts.
use Rattle.std.proofs.Common.{◌≡◌, ◌≢◌, ◌∙◌, ℕ, ◌<◌, ◌≤◌, suc, List, [], ◌∷◌, ◌++◌, length}
use Rattle.std.proofs.Common.{get_or, refl, sym, ap, ap₂, subst, arith}
use Rattle.std.specs.List.{All, AllPairs}
use Rattle.std.proofs.lemmas.List.{get_or-map, length-map}
use Rattle.std.proofs.lemmas.List.Elements.{All-cons}
use Rattle.lb_check.specs.Verdicts.{Ends}
use Rattle.lb_check.specs.declared.verdict.Verdict.{Verdict}
use Rattle.lb_check.specs.declared.verdict.Verdict.TheVariants.{Passed, Fault, Undefined, Assertion}
use Rattle.lb_check.specs.declared.verdict.Verdict.TheVariants.{False}
use Rattle.lb_check.specs.Streams.{History}
use Rattle.lb_static.specs.Instances.{Program}
use Rattle.lb_flat.specs.Inputs.{inputs_of, scalars_in}
use Rattle.lb_traces.specs.Traces.{IsRecording, IsTrace, IsTraceName, Recording, Trace}
use Rattle.lb_traces.specs.Traces.{trace_at, trace_names}
use Rattle.lb_output.specs.Reports.{IsReport, report_of}
use Rattle.lb_output.specs.declared.text.Report.{Report}
use Rattle.lb_report.specs.Bench.{AreVerdicts}
use Rattle.lb_listing.specs.Listings.{HasInstant, IsLine, Line, Lists, names_of}
use Rattle.lb_listing.specs.Listings.{verdicts_of}

-- the lines of a report: names and verdicts side by side
unfoldable pub lines_of : List (List ℕ) → List Verdict → List Line
lines_of [] verdicts = []
lines_of (name ∷ names) [] = []
lines_of (name ∷ names) (v ∷ verdicts) = (name, v) ∷ lines_of names verdicts

pub names_are : (names : List (List ℕ)) (verdicts : List Verdict)
    → length verdicts ≡ length names → names_of (lines_of names verdicts) ≡ names
unfolding lines_of
names_are [] verdicts e = refl
names_are (name ∷ names) [] e = absurd (omega arith)
names_are (name ∷ names) (v ∷ verdicts) e =
    ap (λ (more : List (List ℕ)). name ∷ more) (names_are names verdicts (omega arith))

pub verdicts_are : (names : List (List ℕ)) (verdicts : List Verdict)
    → length verdicts ≡ length names → verdicts_of (lines_of names verdicts) ≡ verdicts
unfolding lines_of
verdicts_are [] [] e = refl
verdicts_are [] (v ∷ verdicts) e = absurd (omega arith)
verdicts_are (name ∷ names) [] e = absurd (omega arith)
verdicts_are (name ∷ names) (v ∷ verdicts) e =
    ap (λ (more : List Verdict). v ∷ more) (verdicts_are names verdicts (omega arith))

pub lines-joined : (names more : List (List ℕ)) (verdicts others : List Verdict)
    → length verdicts ≡ length names
    → lines_of (names ++ more) (verdicts ++ others)
    ≡ lines_of names verdicts ++ lines_of more others
unfolding lines_of
lines-joined [] more [] others e = refl
lines-joined [] more (v ∷ verdicts) others e = absurd (omega arith)
lines-joined (name ∷ names) more [] others e = absurd (omega arith)
lines-joined (name ∷ names) more (v ∷ verdicts) others e =
    ap (λ (ls : List Line). (name, v) ∷ ls)
    (lines-joined names more verdicts others (omega arith))

-- the instant in the verdict of a trace of at most 1000000 instants is one that a trace may have
ended : (P : Program) (H : History) (count : ℕ) (v : Verdict) → count ≤ 1000000 → Ends P H count v
    → HasInstant v
ended P H count Passed short ends = tt
ended P H count (Fault t) short ends = let within : t < count = ends.0.within in omega arith
ended P H count (Undefined t) short ends = let within : t < count = ends.0.within in omega arith
ended P H count (Assertion t) short ends = let within : t < count = ends.0.within in omega arith
ended P H count (False t) short ends = let within : t < count = ends.0.within in omega arith

lawful_at : (r : Recording) (k : ℕ) → IsRecording r → k < length r.traces
    → IsTrace r.signature (trace_at r.traces k)
lawful_at r k lawful within = lawful.each k ([], []) within

instant_at : (P : Program) (r : Recording) (verdicts : List Verdict) (k : ℕ) → IsRecording r
    → AreVerdicts P r verdicts → k < length r.traces → HasInstant (get_or verdicts k Passed)
instant_at P r verdicts k lawful judged within =
    let trace = lawful_at r k lawful within in
    let has = (judged.each k within).is_only_verdict.has in
    let same = length-map (trace_at r.traces k).1 (scalars_in r.signature) in
    let few : length (trace_at r.traces k).1 ≤ 1000000 = trace.instants in
    ended P has.0 (length (inputs_of r k)) (get_or verdicts k Passed) (omega (arith, same, few))
    has.2

lines_lawful : (names : List (List ℕ)) (verdicts : List Verdict)
    → ((k : ℕ) → k < length names → IsTraceName (get_or names k []))
    → ((k : ℕ) → k < length verdicts → HasInstant (get_or verdicts k Passed))
    → All IsLine (lines_of names verdicts)
unfolding lines_of
lines_lawful [] verdicts named dated = λ k d within. absurd (omega arith)
lines_lawful (name ∷ names) [] named dated = λ k d within. absurd (omega arith)
lines_lawful (name ∷ names) (v ∷ verdicts) named dated =
    All-cons IsLine (name, v) (lines_of names verdicts)
    (record { name = named 0 (omega arith); instant = dated 0 (omega arith) })
    (lines_lawful names verdicts (λ k within. named (suc k) (omega arith))
    (λ k within. dated (suc k) (omega arith)))

pub listed : (P : Program) (r : Recording) (verdicts : List Verdict) (told : Report)
    → IsRecording r → AreVerdicts P r verdicts → IsReport (trace_names r.traces) verdicts told
    → Lists told.text.items (lines_of (trace_names r.traces) verdicts)
listed P r verdicts told lawful judged reported =
    let names = trace_names r.traces in
    let count : length names ≡ length r.traces = length-map r.traces (λ (t : Trace). t.0) in
    let judged_all : length verdicts ≡ length r.traces = judged.count in
    let both : length verdicts ≡ length names = judged_all ∙ sym count in
    let lines = lines_of names verdicts in
    let names_is : names_of lines ≡ names = names_are names verdicts both in
    let verdicts_is : verdicts_of lines ≡ verdicts = verdicts_are names verdicts both in
    let few : length r.traces ≤ 1000000 = lawful.count in
    let all : length (names_of lines) ≡ length lines = length-map lines (λ (l : Line). l.0) in
    let long : length (names_of lines) ≡ length names = ap length names_is in
    record {
      lawful = record {
        each = lines_lawful names verdicts
            (λ k within.
            let here : k < length r.traces = omega (arith, count) in
            subst (λ (name : List ℕ). IsTraceName name)
            (sym (get_or-map (λ (t : Trace). t.0) r.traces k ([], []) [] here))
            (lawful_at r k lawful here).name)
            (λ k within. instant_at P r verdicts k lawful judged (omega (arith, judged_all)));
        distinct = subst (λ (xs : List (List ℕ)). AllPairs (λ a b. a ≢ b) xs) (sym names_is)
            lawful.distinct;
        count = omega (arith, all, long, count, few);
      };
      spelled = reported.text ∙ ap₂ report_of (sym names_is) (sym verdicts_is);
    }
