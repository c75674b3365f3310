-- Reports on parts are merged to the report on all.
use Rattle.std.proofs.Common.{◌≡◌, ◌∙◌, ℕ, ◌+◌, ◌<◌, List, [], ◌∷◌, ◌++◌, length, get_or, map}
use Rattle.std.proofs.Common.{take, drop, refl, sym, ap, ap₂, subst, arith}
use Rattle.std.specs.Prelude.{flat_map}
use Rattle.std.specs.List.{AllZip}
use Rattle.std.proofs.lemmas.List.{ext_get_or, get_or-append-add, get_or-drop, get_or-take}
use Rattle.std.proofs.lemmas.List.{get_or_append_left, length-append, length-drop, length-map}
use Rattle.std.proofs.lemmas.List.{length-take-le, map-append, take-append-drop}
use Rattle.lb_syntax.specs.Tokens.{Text}
use Rattle.lb_syntax.specs.Tree as tree
use Rattle.lb_syntax.specs.Correct.{IsOnlyProgram}
use Rattle.lb_static.specs.Instances.{Program}
use Rattle.lb_static.specs.DataTypes.{signature}
use Rattle.lb_check.specs.Solutions.{HasOneHistory, Inputs}
use Rattle.lb_check.specs.Verdicts.{IsOnlyVerdict}
use Rattle.lb_check.specs.declared.verdict.Verdict.{Verdict}
use Rattle.lb_check.specs.declared.verdict.Verdict.TheVariants.{Passed}
use Rattle.lb_flat.specs.Inputs.{inputs_of, scalars_in}
use Rattle.lb_traces.specs.Traces.{IsRecording, Recording, Trace, Traces, trace_names}
use Rattle.lb_trace.specs.Spelling.{Spells}
use Rattle.lb_output.specs.Reports.{IsReport, report_of}
use Rattle.lb_output.specs.declared.text.Report.{Report}
use Rattle.lb_report.specs.Bench.{AreVerdicts, IsBenchReport, IsReportOn, IsVerdict, program_of}
use Rattle.lb_refusal.specs.declared.options.Options.{Options}
use Rattle.lb_listing.specs.Listings.{Line, Lists, names_of, verdicts_of}
use Rattle.lb_listing.specs.Merged.{IsMerged, joined}
use Rattle.lb_listing.proofs.Listed.{all_lines}
use Rattle.lb_part_laws.specs.PartTexts.{AreParts}
use Rattle.lb_part_laws.specs.Reported.{AreReportsOn, texts_in}
use Rattle.lb_part_laws.proofs.PartTraces.{parts_spell}
use Rattle.lb_part_laws.proofs.ReportLines.{lines-joined, lines_of, listed, names_are, verdicts_are}

-- ## Verdicts

-- the recording of some traces under the signature of a program
abbrev recording_of : Program → Traces → Recording
recording_of P traces = record { signature = signature P; traces = traces }

moved : (P : Program) (r s : Recording) (k l : ℕ) (v w : Verdict) → inputs_of r k ≡ inputs_of s l
    → v ≡ w → IsVerdict P r k v → IsVerdict P s l w
moved P r s k l v w inputs same is = record {
  is_only_verdict = subst (λ (X : Inputs). IsOnlyVerdict P X w) inputs
      (subst (IsOnlyVerdict P (inputs_of r k)) same is.is_only_verdict);
  has_one_history = subst (HasOneHistory P) inputs is.has_one_history;
}

front-verdicts : (P : Program) (traces more : Traces) (verdicts : List Verdict)
    → AreVerdicts P (recording_of P (traces ++ more)) verdicts
    → AreVerdicts P (recording_of P traces) (take (length traces) verdicts)
front-verdicts P traces more verdicts judged =
    let all = length-append traces more in
    let count : length verdicts ≡ length (traces ++ more) = judged.count in
    record {
      count = length-take-le (length traces) verdicts (omega (arith, all, count));
      each = λ k below.
          moved P (recording_of P (traces ++ more)) (recording_of P traces) k k
          (get_or verdicts k Passed) (get_or (take (length traces) verdicts) k Passed)
          (ap (λ (t : Trace). map (scalars_in (signature P)) t.1)
          (get_or_append_left traces more ([], []) k below))
          (sym (get_or-take (length traces) verdicts k Passed below))
          (judged.each k (omega (arith, all, below)));
    }

rest-verdicts : (P : Program) (traces more : Traces) (verdicts : List Verdict)
    → AreVerdicts P (recording_of P (traces ++ more)) verdicts
    → AreVerdicts P (recording_of P more) (drop (length traces) verdicts)
rest-verdicts P traces more verdicts judged =
    let all = length-append traces more in
    let count : length verdicts ≡ length (traces ++ more) = judged.count in
    let left = length-drop (length traces) verdicts in
    record {
      count = omega (arith, all, count, left);
      each = λ k below.
          moved P (recording_of P (traces ++ more)) (recording_of P more) (length traces + k) k
          (get_or verdicts (length traces + k) Passed)
          (get_or (drop (length traces) verdicts) k Passed)
          (ap (λ (t : Trace). map (scalars_in (signature P)) t.1)
          (get_or-append-add traces more k ([], [])))
          (sym (get_or-drop (length traces) verdicts k Passed))
          (judged.each (length traces + k) (omega (arith, all, below)));
    }

same-verdicts : (P : Program) (r : Recording) (verdicts others : List Verdict)
    → AreVerdicts P r verdicts → AreVerdicts P r others → verdicts ≡ others
same-verdicts P r verdicts others one other =
    let many = one.count in
    let same = other.count in
    ext_get_or Passed verdicts others (many ∙ sym same)
    (λ k below.
    let here : k < length r.traces = omega (arith, many, below) in
    (one.each k here).is_only_verdict.only (get_or others k Passed)
    (other.each k here).is_only_verdict.has)

-- ## One report

-- a report on some traces
record IsOn (P : Program) (traces : Traces) (report : Report) : Type 0 where
  verdicts : List Verdict
  judged : AreVerdicts P (recording_of P traces) verdicts
  reported : IsReport (trace_names traces) verdicts report
  lawful : IsRecording (recording_of P traces)

is-on : (source text : Text) (options : Options) (s : tree.Source) (traces : Traces)
    (report : Report) → IsOnlyProgram s source → IsBenchReport source text options report
    → Spells (signature (program_of s options)) text traces
    → IsOn (program_of s options) traces report
is-on source text options s traces report spelled told spells =
    let on : IsReportOn (program_of s options) text report =
    subst (λ (t : tree.Source). IsReportOn (program_of t options) text report)
    (told.spelled.no_other_is_spelled s spelled.text_spells_it) told.holds in
    let same : traces ≡ on.recording.traces = on.recorded.no_other_is_spelled traces spells in
    let recorded : on.recording ≡ recording_of (program_of s options) traces =
    ap₂ (λ e (ts : Traces). record { signature = e; traces = ts }) on.recorded.under_signature
    (sym same) in
    record {
      verdicts = on.verdicts;
      judged = subst (λ (r : Recording). AreVerdicts (program_of s options) r on.verdicts) recorded
          on.judged;
      reported = subst (λ (ts : Traces). IsReport (trace_names ts) on.verdicts report) (sym same)
          on.reported;
      lawful = spells.lawful;
    }

-- ## All reports

-- the lines of one report, and those of the others, are the lines of all traces
with-report : (P : Program) (traces more : Traces) (report : Report) (found others : List Line)
    (verdicts : List Verdict) → IsOn P traces report → Lists report.text.items found
    → AreVerdicts P (recording_of P (traces ++ more)) verdicts
    → others ≡ lines_of (trace_names more) (drop (length traces) verdicts)
    → found ++ others ≡ lines_of (trace_names (traces ++ more)) verdicts
with-report P traces more report found others verdicts on lists judged rest =
    let front = front-verdicts P traces more verdicts judged in
    let same : on.verdicts ≡ take (length traces) verdicts =
    same-verdicts P (recording_of P traces) on.verdicts (take (length traces) verdicts) on.judged
    front in
    let its = listed P (recording_of P traces) on.verdicts report on.lawful on.judged on.reported in
    let first : found ≡ lines_of (trace_names traces) on.verdicts =
    all_lines report.text.items (lines_of (trace_names traces) on.verdicts) found its.lawful
    its.spelled lists in
    let count : length (take (length traces) verdicts) ≡ length (trace_names traces) =
    front.count ∙ sym (length-map traces (λ (t : Trace). t.0)) in
    ap (λ (ls : List Line). ls ++ others)
    (first ∙ ap (lines_of (trace_names traces)) same)
    ∙ ap (λ (ls : List Line). lines_of (trace_names traces) (take (length traces) verdicts) ++ ls)
    rest
    ∙ sym (lines-joined (trace_names traces) (trace_names more) (take (length traces) verdicts)
    (drop (length traces) verdicts) count)
    ∙ ap₂ lines_of (sym (map-append (λ (t : Trace). t.0) traces more))
    (take-append-drop (length traces) verdicts)

-- the lines of the reports on all parts are the names and verdicts of all traces
joined-lines : (source : Text) (options : Options) (s : tree.Source) (texts : List Text)
    (reports : List Report) (lists : List Traces) (found : List (List Line))
    (verdicts : List Verdict) → IsOnlyProgram s source
    → AllZip (Spells (signature (program_of s options))) texts lists
    → AreReportsOn source options texts reports → AllZip Lists (texts_in reports) found
    → AreVerdicts (program_of s options)
    (recording_of (program_of s options) (flat_map (λ those. those) lists)) verdicts
    → joined found ≡ lines_of (trace_names (flat_map (λ those. those) lists)) verdicts
unfolding lines_of
joined-lines source options s [] [] [] [] verdicts spelled a b c judged = refl
joined-lines source options s [] [] [] (l ∷ found) verdicts spelled a b c judged = absurd c
joined-lines source options s [] [] (ts ∷ lists) found verdicts spelled a b c judged = absurd a
joined-lines source options s [] (r ∷ reports) lists found verdicts spelled a b c judged = absurd b
joined-lines source options s (t ∷ texts) [] lists found verdicts spelled a b c judged = absurd b
joined-lines source options s (t ∷ texts) (r ∷ reports) [] found verdicts spelled a b c judged =
    absurd a
joined-lines source options s (t ∷ texts) (r ∷ reports) (ts ∷ lists) [] verdicts spelled a b c
    judged = absurd c
joined-lines source options s (t ∷ texts) (r ∷ reports) (ts ∷ lists) (l ∷ found) verdicts spelled a
    b c judged =
    with-report (program_of s options) ts (flat_map (λ those. those) lists) r l (joined found)
    verdicts (is-on source t options s ts r spelled b.0 a.0) c.0 judged
    (joined-lines source options s texts reports lists found (drop (length ts) verdicts) spelled a.1
    b.1 c.1
    (rest-verdicts (program_of s options) ts (flat_map (λ those. those) lists) verdicts judged))

-- the merged reports on the parts are the report on the whole text
pub merged_is : (source all : Text) (options : Options) (texts : List Text) (reports : List Report)
    (whole : Report) (merged : List ℕ) → AreParts all texts
    → AreReportsOn source options texts reports → IsBenchReport source all options whole
    → IsMerged (texts_in reports) merged → merged ≡ whole.text.items
merged_is source all options texts reports whole merged parts each told is =
    let on = told.holds in
    let spells : Spells (signature (program_of told.tree options)) all on.recording.traces =
    on.recorded.text_spells_it in
    let together = parts_spell (signature (program_of told.tree options)) all texts
    on.recording.traces parts spells in
    let w = is-on source all options told.tree on.recording.traces whole told.spelled told spells in
    let judged = subst (λ (ts : Traces). AreVerdicts (program_of told.tree options)
    (recording_of (program_of told.tree options) ts) w.verdicts) together.all w.judged in
    let lines : joined is.lists ≡ lines_of (trace_names on.recording.traces) w.verdicts =
    joined-lines source options told.tree texts reports together.lists is.lists w.verdicts
    told.spelled together.each each is.each judged
    ∙ ap (λ (ts : Traces). lines_of (trace_names ts) w.verdicts) (sym together.all) in
    let count : length w.verdicts ≡ length (trace_names on.recording.traces) =
    w.judged.count ∙ sym (length-map on.recording.traces (λ (t : Trace). t.0)) in
    is.all.spelled
    ∙ ap (λ (ls : List Line). report_of (names_of ls) (verdicts_of ls)) lines
    ∙ ap₂ report_of (names_are (trace_names on.recording.traces) w.verdicts count)
    (verdicts_are (trace_names on.recording.traces) w.verdicts count)
    ∙ sym w.reported.text
