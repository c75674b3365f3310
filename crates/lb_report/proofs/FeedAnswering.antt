-- The answer of the bench to a source and the bytes of a feed.
use Rattle.std.proofs.Common.{ℕ, ◌≡◌, ◌<◌, ◌≤◌, ◌&&◌, ◌==◌, Bool, true, false, not, List, []}
use Rattle.std.proofs.Common.{◌++◌}
use Rattle.std.proofs.Common.{None, Result, Ok, Err, refl, sym, ap, ◌∙◌, subst, inl, inr}
use Rattle.std.proofs.Common.{⊎_elim}
use Rattle.std.proofs.Common.{arith, length, nat_lt, if◌then◌else◌}
use Rattle.std.proofs.lemmas.Bool.{cases_lt, eqb-true, false≢true, lt-ltb, ltb-true}
use Rattle.std.specs.Prelude.{IfErr, IfOk, OnOk}
use Rattle.lb_syntax.specs.Correct.{IsOnlyProgram}
use Rattle.lb_syntax.specs.Tokens.{Text}
use Rattle.lb_syntax.specs.Tree.{Source}
use Rattle.lb_static.specs.DataTypes.{signature}
use Rattle.lb_static.specs.Instances.{Program}
use Rattle.lb_check.specs.Acceptance.{IsAccepted}
use Rattle.lb_traces.specs.Traces.{Traces, trace_names}
use Rattle.lb_trace.specs.Errors.{IsRefusal, Refuses, error_number}
use Rattle.lb_trace.specs.Refusals.{outcome}
use Rattle.lb_trace.specs.Spelling.{Spells}
use Rattle.lb_trace.specs.declared.error.TraceError.{TraceError}
use Rattle.lb_trace.specs.declared.error.TraceError.TheVariants as trace
use Rattle.lb_trace.proofs.KnownNames.{names_long}
use Rattle.lb_trace.proofs.Outcomes.{complete_text, outcome-long, refused_text, sound_text}
use Rattle.lb_pool.specs.Correct as run
use Rattle.lb_output.specs.Reports.{IsReport}
use Rattle.lb_output.specs.declared.text.Report.{Report}
use Rattle.lb_feed.specs.Windows.{HasRead, IsLoadFault, Left, RunsOver, text_in}
use Rattle.lb_feed.specs.declared.feed.LoadError.{LoadError}
use Rattle.lb_feed.specs.declared.feed.LoadError.TheVariants as load
use Rattle.lb_feed.specs.declared.feed.TheConstants.{INPUT_LIMIT}
use Rattle.lb_feed.specs.declared.window.Window.{Window}
use Rattle.lb_feed.proofs.FeedBytes.{more_than}
use Rattle.lb_feed.proofs.WindowReads.{fault_on, read_on}
use Rattle.lb_report.specs.Bench.{IsBenchReport, IsRefused, OnlyProgram, program_of}
use Rattle.lb_report.specs.FeedAnswers.{IsAnswerOnFeed, IsFeedAnswer, IsFeedFault}
use Rattle.lb_report.specs.FeedJudging.{HasRefusedSource, HasRefusedTraces, IsJudgingFault}
use Rattle.lb_report.specs.FeedJudging.{IsLastFault, IsProgramJudged, fault_by, told_first}
use Rattle.lb_report.specs.FeedJudging.{too_long}
use Rattle.lb_report.specs.AcceptedPrograms.{IsAcceptedProgram}
use Rattle.lb_report.specs.JudgedParts.{HasRefusedText, IsTextJudged, IsTextRefused}
use Rattle.lb_report.specs.declared.answer.AcceptedProgram.{AcceptedProgram}
use Rattle.lb_refusal.specs.declared.error.BenchError.{BenchError}
use Rattle.lb_refusal.specs.declared.error.BenchError.TheVariants as part
use Rattle.lb_report.specs.declared.feeding.FeedFault.{FeedFault}
use Rattle.lb_report.specs.declared.feeding.FeedFault.TheVariants as fault
use Rattle.lb_refusal.specs.declared.options.Options.{Options}
use Rattle.lb_report.specs.declared.rounds.Halt.{Halt}
use Rattle.lb_report.specs.declared.rounds.Halt.TheVariants as halt
use Rattle.lb_report.specs.declared.rounds.Judged.{Judged}
use Rattle.lb_report.proofs.Answering.{answered}
use Rattle.lb_report.proofs.VerdictLists.{are_verdicts}

-- ## A window that is new

pub record IsNew (w : Window) : Type 0 where
  pub nothing : text_in w ≡ []
  pub read : w.read ≡ 0
  pub still : w.is_over ≡ false

-- for a new window, the text read is just the bytes that the feed has given
all_bytes : (w after : Window) (old new : Left) → IsNew w → (read : HasRead w after old new)
    → text_in w ++ read.more ≡ read.more
all_bytes w after old new is read = ap (λ t. t ++ read.more) is.nothing

-- an answer to the bytes read is an answer on the feed, once it has been read to its end
answer_on : (source : Text) (options : Options) (w after : Window) (old new : Left)
    (answer : Result Report BenchError)
    → IsNew w → (read : HasRead w after old new) → after.is_over ≡ true
    → IfOk answer (IsBenchReport source read.more options)
    → IfErr answer (IsRefused source read.more options)
    → IsAnswerOnFeed source options old new answer
answer_on source options w after old new answer is read over report refused = record {
  traces = read.more;
  consumed = read.consumed;
  end = read.over (λ before. cc (before, is.still)) over;
  given = read.given;
  failures = read.failures;
  answer = answered source read.more options answer report refused;
}

-- ## A fault of the feed

pub load_fault : (w : Window) (old new : Left) (e : LoadError) → IsNew w
    → IsLoadFault w old new e → IsFeedFault old new e
load_fault w old new load.Memory is bad = bad
load_fault w old new load.Read is bad =
    ⊎_elim (λ (h : old.failures < new.failures). inl h)
    (λ (h : RunsOver w old new).
    let many : INPUT_LIMIT < length h.more = omega (arith, h.many, is.read) in
    inr (record {
      counted = record { bytes = length h.more; many = many; counted = h.given };
      told = more_than INPUT_LIMIT old.coming new.coming h.more many h.consumed;
    }))
    bad

-- ## Refusals

-- a text that is too long is refused
pub long_refused : (P : Program) (traces : Text) → 1073741824 < length traces
    → Refuses (signature P) traces (trace.Limit None)
long_refused P traces long =
    let is : outcome (signature P) traces ≡ Err 18 = outcome-long (signature P) traces long in
    inr (is, refused_text (signature P) traces 18 is)

-- the error of an outcome is a refusal of the traces
pub outcome_refused : (P : Program) (traces : Text) (e : TraceError)
    → IsRefusal (outcome (signature P) traces) e → Refuses (signature P) traces e
outcome_refused P traces e bad =
    ⊎_elim (λ (h : error_number e ≡ 0). inl h)
    (λ (h : outcome (signature P) traces ≡ Err (error_number e)).
    inr (h, refused_text (signature P) traces (error_number e) h))
    bad

not_less : (m n : ℕ) → nat_lt m n ≡ false → n ≤ m
not_less m n is =
    ⊎_elim (λ (h : m < n). absurd (false≢true (sym is ∙ lt-ltb m n h)))
    (λ (h : n ≤ m). h) (cases_lt m n)

-- a trace text with the refusal `e` of its records: the bench answers `e`, or E18 where the text
-- is too long
trace_told : (source traces : Text) (options : Options) (tree : Source) (e : TraceError)
    (bytes : ℕ)
    → IsOnlyProgram tree source → IsAccepted (program_of tree options)
    → bytes ≡ length traces
    → (length traces ≤ 1073741824
    → IsRefusal (outcome (signature (program_of tree options)) traces) e)
    → IsRefused source traces options (told_first (part.Trace e) bytes)
trace_told source traces options tree e bytes spelled accepted count bad =
    by (nat_lt 1073741824 bytes) (error_number e == 0) refl refl
  where
    told : (f : TraceError) → Refuses (signature (program_of tree options)) traces f
        → IsRefused source traces options (part.Trace f)
    told f refuses = record { tree = tree; spelled = spelled; holds = (accepted, refuses) }

    by : (long none : Bool) → nat_lt 1073741824 bytes ≡ long → (error_number e == 0) ≡ none
        → IsRefused source traces options
        (if nat_lt 1073741824 bytes && not (error_number e == 0) then too_long else part.Trace e)
    by true false over some =
        rw (over, some) (told (trace.Limit None)
        (long_refused (program_of tree options) traces
        (omega (arith, ltb-true 1073741824 bytes over, count))))
    by true true over zero =
        rw (over, zero) (told e (inl (eqb-true (error_number e) 0 zero)))
    by false none short is =
        let fits : length traces ≤ 1073741824 =
        omega (arith, not_less 1073741824 bytes short, count) in
        rw short (told e (outcome_refused (program_of tree options) traces e (bad fits)))

-- the refusal of a source, whatever the traces are, is an answer on the feed
source_told : (source : Text) (options : Options) (w mid after : Window) (x y z : Left)
    (e : BenchError)
    → IsNew w → HasRefusedSource source options w mid x y e → HasRead mid after y z
    → after.is_over ≡ true → IsAnswerOnFeed source options x z (Err e)
source_told source options w mid after x y z e is bad rest over =
    let read : HasRead w after x z = read_on w mid after x y z bad.read rest in
    answer_on source options w after x z (Err e) is read over tt (bad.refused read.more)

-- the refusal of a text, however it goes on, is an answer on the feed
text_told : (source : Text) (options : Options) (w mid after : Window) (x y z : Left)
    (e : TraceError) (bytes : ℕ)
    → IsNew w → HasRefusedTraces source options w mid x y e → HasRead mid after y z
    → after.is_over ≡ true → bytes ≡ after.read
    → IsAnswerOnFeed source options x z (Err (told_first (part.Trace e) bytes))
unfolding read_on
text_told source options w mid after x y z e bytes is bad rest over count =
    let first = bad.holds.1 in
    let read : HasRead w after x z = read_on w mid after x y z first.read rest in
    let whole : (text_in w ++ first.read.more) ++ rest.more ≡ first.read.more ++ rest.more =
    ap (λ t. (t ++ first.read.more) ++ rest.more) is.nothing in
    let long : bytes ≡ length (first.read.more ++ rest.more) =
    omega (arith, count, read.counted, is.read) in
    answer_on source options w after x z (Err (told_first (part.Trace e) bytes)) is read over tt
    (trace_told source (first.read.more ++ rest.more) options bad.tree e bytes bad.spelled
    bad.holds.0 long
    (subst (λ t. length t ≤ 1073741824
    → IsRefusal (outcome (signature (program_of bad.tree options)) t) e) whole
    (first.refused rest.more (λ done. (rest.still done).0))))

-- as in trace_told, where `e` is the refusal of each text that the feed may give
any_told : (source : Text) (options : Options) (w mid after : Window) (x y z : Left)
    (e : TraceError) (bytes : ℕ)
    → IsNew w → HasRefusedSource source options w mid x y (part.Trace e)
    → HasRead mid after y z → after.is_over ≡ true → bytes ≡ after.read
    → IsAnswerOnFeed source options x z (Err (told_first (part.Trace e) bytes))
any_told source options w mid after x y z e bytes is bad rest over count =
    let read : HasRead w after x z = read_on w mid after x y z bad.read rest in
    let long : bytes ≡ length read.more = omega (arith, count, read.counted, is.read) in
    let known = bad.refused read.more in
    answer_on source options w after x z (Err (told_first (part.Trace e) bytes)) is read over tt
    (trace_told source read.more options known.tree e bytes known.spelled known.holds.0 long
    (λ short.
    ⊎_elim (λ (h : error_number e ≡ 0). inl h)
    (λ (h : (outcome (signature (program_of known.tree options)) read.more
    ≡ Err (error_number e))
    × ((traces : Traces)
    → ¬ (Spells (signature (program_of known.tree options)) read.more traces))).
    inr h.0)
    known.holds.1))

-- the refusal by a part is an answer on the feed, once it has been read to its end
pub feed_refused : (source : Text) (options : Options) (w mid after : Window) (x y z : Left)
    (e : BenchError) (bytes : ℕ)
    → IsNew w → IsJudgingFault source options w mid x y (fault.Refused e)
    → HasRead mid after y z → after.is_over ≡ true → bytes ≡ after.read
    → IsFeedAnswer source options x z (Err (fault.Refused (told_first e bytes)))
feed_refused source options w mid after x y z part.Memory bytes is bad rest over count =
    source_told source options w mid after x y z part.Memory is bad rest over
feed_refused source options w mid after x y z (part.Syntax e) bytes is bad rest over count =
    source_told source options w mid after x y z (part.Syntax e) is bad rest over
feed_refused source options w mid after x y z (part.Static e) bytes is bad rest over count =
    source_told source options w mid after x y z (part.Static e) is bad rest over
feed_refused source options w mid after x y z (part.Check e) bytes is bad rest over count =
    source_told source options w mid after x y z (part.Check e) is bad rest over
feed_refused source options w mid after x y z (part.Flat e) bytes is bad rest over count =
    source_told source options w mid after x y z (part.Flat e) is bad rest over
feed_refused source options w mid after x y z (part.Order e) bytes is bad rest over count =
    source_told source options w mid after x y z (part.Order e) is bad rest over
feed_refused source options w mid after x y z (part.Trace e) bytes is bad rest over count =
    ⊎_elim
    (λ (h : HasRefusedSource source options w mid x y (part.Trace e)).
    any_told source options w mid after x y z e bytes is h rest over count)
    (λ (h : HasRefusedTraces source options w mid x y e).
    text_told source options w mid after x y z e bytes is h rest over count)
    bad

-- where judging stopped with a refusal, the feed has not failed so far
pub judging_read : (source : Text) (options : Options) (w mid : Window) (x y : Left)
    (e : BenchError)
    → IsJudgingFault source options w mid x y (fault.Refused e) → HasRead w mid x y
judging_read source options w mid x y part.Memory bad = bad.read
judging_read source options w mid x y (part.Syntax e) bad = bad.read
judging_read source options w mid x y (part.Static e) bad = bad.read
judging_read source options w mid x y (part.Check e) bad = bad.read
judging_read source options w mid x y (part.Flat e) bad = bad.read
judging_read source options w mid x y (part.Order e) bad = bad.read
judging_read source options w mid x y (part.Trace e) bad =
    ⊎_elim (λ (h : HasRefusedSource source options w mid x y (part.Trace e)). h.read)
    (λ (h : HasRefusedTraces source options w mid x y e). h.holds.1.read)
    bad

pub feed_failed : (source : Text) (options : Options) (w mid : Window) (x y z : Left)
    (e : BenchError) (f : LoadError)
    → IsNew w → IsJudgingFault source options w mid x y (fault.Refused e)
    → IsLoadFault mid y z f → IsFeedFault x z f
feed_failed source options w mid x y z e f is bad fails =
    load_fault w x z f is
    (fault_on w mid x y z f (judging_read source options w mid x y e bad) fails)

-- ## Reports

module _ (source : Text) (options : Options) (w after : Window) (x y : Left) (j : Judged)
    (is : IsNew w)
    (found : OnlyProgram source options (λ P. IsProgramJudged P w after x y j)) where
  -- a report on all traces is an answer on the feed
  pub feed_reported : (report : Report) (bytes : ℕ) → bytes ≡ after.read → bytes ≤ 1073741824
      → IsReport (trace_names j.roll.names.traces) j.verdicts.items report
      → IsFeedAnswer source options x y (Ok report)
  feed_reported report bytes count short listed =
      let judged = found.holds in
      let P : Program = program_of found.tree options in
      let more : List ℕ = judged.read.more in
      let fits : length (text_in w ++ more) ≤ 1073741824 =
      omega (
        arith,
        ap (length {A = ℕ}) (all_bytes w after x y is judged.read),
        short,
        count,
        judged.read.counted,
        is.read,
      ) in
      let given : outcome (signature P) more ≡ Ok judged.traces =
      ap (outcome (signature P)) (sym (all_bytes w after x y is judged.read))
      ∙ judged.given fits in
      answer_on source options w after x y (Ok report) is judged.read judged.over
      (record {
        tree = found.tree;
        spelled = found.spelled;
        holds = record {
          accepted = judged.accepted;
          recording = record { signature = signature P; traces = judged.traces };
          recorded = record {
            under_signature = refl;
            text_spells_it = sound_text (signature P) more judged.traces given;
            no_other_is_spelled = λ other spelled.
                cc (complete_text (signature P) more other spelled, given);
          };
          verdicts = j.verdicts.items;
          judged = judged.verdicts;
          reported = subst (λ names. IsReport names j.verdicts.items report) judged.names listed;
        };
      })
      tt

  -- a fault is an answer on the feed where the text is too long or memory ran out
  pub feed_unreported : (bytes : ℕ) (f : FeedFault) → bytes ≡ after.read → IsLastFault bytes f
      → IsFeedAnswer source options x y (Err f)
  feed_unreported bytes f count bad =
      let judged = found.holds in
      let P : Program = program_of found.tree options in
      let Is : FeedFault → Type 0 = λ g. IsFeedAnswer source options x y (Err g) in
      elim bad [
        | inl long ↦
            subst Is (sym long.1)
            (answer_on source options w after x y (Err too_long) is judged.read judged.over tt
            (record {
              tree = found.tree;
              spelled = found.spelled;
              holds = (
                judged.accepted,
                long_refused P judged.read.more
                    (omega (arith, long.0, count, judged.read.counted, is.read)),
              );
            }))
        | inr memory ↦
            subst Is (sym memory)
            (answer_on source options w after x y (Err part.Memory) is judged.read judged.over tt
            tt)
      ]

  -- a result that is a report or such a fault is an answer on the feed
  pub feed_answered : (bytes : ℕ) (r : Result Report FeedFault) → bytes ≡ after.read
      → OnOk r (bytes ≤ 1073741824)
      → IfOk r (IsReport (trace_names j.roll.names.traces) j.verdicts.items)
      → IfErr r (IsLastFault bytes)
      → IsFeedAnswer source options x y r
  feed_answered bytes (Ok report) count short listed bad =
      feed_reported report bytes count short listed
  feed_answered bytes (Err f) count short listed bad = feed_unreported bytes f count bad

-- ## A program

-- a program that has judged a feed gives a verdict for each trace
pub judged_long : (P : Program) (w after : Window) (x y : Left) (j : Judged)
    → IsProgramJudged P w after x y j
    → length j.verdicts.items ≡ length j.roll.names.traces
judged_long P w after x y j is =
    is.verdicts.count ∙ sym (names_long is.traces) ∙ ap length (sym is.names)
    ∙ names_long j.roll.names.traces

-- traces judged by the equations of a program are judged by the program
pub program_judged : (P : Program) (p : AcceptedProgram) (w after : Window) (x y : Left)
    (j : Judged)
    → IsAcceptedProgram p P → IsTextJudged p.ordered.program p.signature w after x y j
    → IsProgramJudged P w after x y j
program_judged P p w after x y j is text =
    let elements : p.signature ≡ signature P = sym is.inputs in
    let bytes : List ℕ = text_in w ++ text.read.more in
    record {
      accepted = is.accepted;
      read = text.read;
      over = text.over;
      traces = text.traces;
      given = subst (λ es. length bytes ≤ 1073741824 → outcome es bytes ≡ Ok text.traces) elements
          text.given;
      names = text.judged.names.names;
      verdicts =
          are_verdicts P p.ordered.program record { signature = signature P; traces = text.traces }
          j.verdicts.items is.equations refl
          (subst (λ es. run.AreVerdicts p.ordered.program
          record { signature = es; traces = text.traces } j.verdicts.items) elements
          text.judged.verdicts);
    }

-- judging that halts (a feed that failed, a refused record): the error that the bench answers
pub judging_fault : (source : Text) (options : Options) (p : AcceptedProgram) (w after : Window)
    (x y : Left) (h : Halt)
    → OnlyProgram source options (IsAcceptedProgram p) → IsTextRefused p.signature w after x y h
    → IsJudgingFault source options w after x y (fault_by h)
judging_fault source options p w after x y (halt.Load e) found bad = bad
judging_fault source options p w after x y (halt.Refused e) found bad = inr record {
  tree = found.tree;
  spelled = found.spelled;
  holds = (
    found.holds.accepted,
    subst (λ es. HasRefusedText es w after x y e) (sym found.holds.inputs) bad,
  );
}
judging_fault source options p w after x y (halt.Early e) found bad =
    record { read = bad; refused = λ traces. tt }
judging_fault source options p w after x y (halt.Stopped judged line) found bad =
    record { read = bad; refused = λ traces. tt }
judging_fault source options p w after x y halt.Quoted found bad =
    record { read = bad; refused = λ traces. tt }

-- the refusal of a source is a fault of judging
pub source_fault : (source : Text) (options : Options) (w : Window) (at : Left) (e : BenchError)
    → HasRead w w at at → ((traces : Text) → IsRefused source traces options e)
    → IsJudgingFault source options w w at at (fault.Refused e)
source_fault source options w at part.Memory read bad = record { read = read; refused = bad }
source_fault source options w at (part.Syntax e) read bad = record { read = read; refused = bad }
source_fault source options w at (part.Static e) read bad = record { read = read; refused = bad }
source_fault source options w at (part.Check e) read bad = record { read = read; refused = bad }
source_fault source options w at (part.Flat e) read bad = record { read = read; refused = bad }
source_fault source options w at (part.Order e) read bad = record { read = read; refused = bad }
source_fault source options w at (part.Trace e) read bad =
    inl record { read = read; refused = bad }
