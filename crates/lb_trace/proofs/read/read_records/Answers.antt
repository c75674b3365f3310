-- The traces that are read are those that the text spells.
use Rattle.std.proofs.Common.{◌≡◌, sym, ap, ◌∙◌, Ok, [], ◌∷◌, subst}
use Rattle.std.proofs.lemmas.Result.{err_from_is_err_and}
use Rattle.csv.specs.Records.{fields_of}
use Rattle.lb_traces.specs.Traces.{Recording}
use Rattle.lb_trace.specs.declared.error.TraceError.TheVariants as fault
use Rattle.lb_trace.specs.Mirrors.{RowsFollow}
use Rattle.lb_trace.specs.Refusals.{outcome}
use Rattle.lb_trace.specs.Spelling.{after_first}
use Rattle.lb_trace.proofs.Outcomes.{sound_text}
use Rattle.lb_trace.proofs.Readings.{added, is_reading, is_refusal, lawful_rows, no_header}
use Rattle.lb_trace.proofs.Readings.{other_header}
use Rattle.lb_trace.proofs.Readings.{progress-end, progress-more, progress-start, refused}
use Rattle.lb_trace.proofs.Readings.{refused_record, rows_follow}
use Rattle.lb_trace.proofs.read.read_records.Goals as goal

pub returns-then-not-branch : goal.returns-then-not-branch
returns-then-not-branch c =
    let none = rw c.if-not-branch.true at
    (c.in_ok-next.ensures.goes c.args.text.now [] c.requires.reaches) in
    is_refusal _ _ _ (refused _ _ _
    (no_header c.args.signature.now c.args.text.now c.requires.short none))

pub returns-in_default-header : goal.returns-in_default-header
returns-in_default-header c =
    let at = rw c.if-not-branch.false at
    (c.in_ok-next.ensures.goes c.args.text.now [] c.requires.reaches) in
    let other = rw c.in_default-header.is at c.in-Ok.ensures in
    is_refusal _ _ _ (refused _ _ _ (other_header _ _ _ _ at c.requires.short other))

pub loop-number-init : goal.loop-number-init
loop-number-init c =
    let at = rw c.if-not-branch.false at
    (c.in_ok-next.ensures.goes c.args.text.now [] c.requires.reaches) in
    record {
      progress = progress-start _ _ _ _ _ at
          (ap (λ (r : Recording). r.traces) c.in-Ok-new.ensures.rows);
      follows = ap (λ (r : Recording). r.signature) c.in-Ok-new.ensures.rows;
      known = c.in-Ok-new.ensures.names;
    }

pub returns-then-not-branch-2 : goal.returns-then-not-branch-2
returns-then-not-branch-2 c =
    let all = rw c.if-not-branch-2.true at
    (c.in_ok-next-2.ensures.goes c.args.text.now
    (fields_of c.next.new.entry ∷ c.loop-number.invariant.progress.rows)
    c.loop-number.invariant.progress.reaches) in
    let headed = rw c.in-Some.is at c.in-Ok.ensures in
    let read : outcome c.args.signature.now c.args.text.now
    ≡ Ok c.loop-number.recorder.rows.traces =
    progress-end c.args.signature.now c.args.text.now (fields_of c.next.new.entry)
    c.loop-number.recorder.rows.traces c.loop-number.reader c.loop-number.number
    c.loop-number.invariant.progress c.requires.short headed.0 all in
    is_reading c.args.signature.now c.args.text.now c.into_set.result
    (ap (λ (r : Recording). r.signature) c.into_set.ensures ∙ c.loop-number.invariant.follows)
    (sound_text c.args.signature.now c.args.text.now c.into_set.result.traces
    (read ∙ ap (λ (r : Recording). Ok r.traces) (sym c.into_set.ensures)))

pub add-requires-clause-lawful : goal.add-requires-clause-lawful
add-requires-clause-lawful c =
    lawful_rows c.loop-number.recorder.rows c.args.signature.now c.loop-number.invariant.follows
    c.loop-number.invariant.progress.lawful

pub add-requires-clause-kinds : goal.add-requires-clause-kinds
add-requires-clause-kinds c =
    let headed = rw c.in-Some.is at c.in-Ok.ensures in
    subst (RowsFollow c.deref.result.now) (sym c.loop-number.invariant.follows)
    (rows_follow c.args.signature.now (after_first (fields_of c.next.new.entry)) c.deref.result.now
    (c.deref.ensures.value ∙ headed.1))

pub returns-in_err-add : goal.returns-in_err-add
returns-in_err-add c =
    let further = rw c.if-not-branch-2.false at
    (c.in_ok-next-2.ensures.goes c.args.text.now
    (fields_of c.next.new.entry ∷ c.loop-number.invariant.progress.rows)
    c.loop-number.invariant.progress.reaches) in
    let headed = rw c.in-Some.is at c.in-Ok.ensures in
    let bad = refused_record c.loop-number.recorder.rows c.args.signature.now c.args.text.now
    (fields_of c.next.new.entry) c.loop-number.reader c.next-in-loop-number.new.reader
    c.loop-number.number
    (fields_of c.next-in-loop-number.new.entry) c.deref.result.now c.width-columns.result
    c.in_err-add.field-0.0
    c.loop-number.invariant.progress c.requires.short headed.0 further
    c.loop-number.invariant.follows
    (c.deref.ensures.value ∙ headed.1) c.width-columns.ensures c.in_err-add.ensures.err in
    let p = err_from_is_err_and c.from_residual-in_err-add.result
    c.from_residual-in_err-add.ensures.1 in
    rw (p.1, p.2) (is_refusal c.args.signature.now c.args.text.now c.in_err-add.field-0.0 bad)

pub loop-number-preserved : goal.loop-number-preserved
loop-number-preserved c =
    let further = rw c.if-not-branch-2.false at
    (c.in_ok-next-2.ensures.goes c.args.text.now
    (fields_of c.next.new.entry ∷ c.loop-number.invariant.progress.rows)
    c.loop-number.invariant.progress.reaches) in
    let headed = rw c.in-Some.is at c.in-Ok.ensures in
    record {
      progress = progress-more c.args.signature.now c.args.text.now (fields_of c.next.new.entry)
          c.loop-number.recorder.rows.traces c.add.new.self.rows.traces
          c.loop-number.reader c.next-in-loop-number.new.reader c.loop-number.number
          (fields_of c.next-in-loop-number.new.entry) c.loop-number.invariant.progress further
          (added c.loop-number.recorder.rows c.args.signature.now
          (after_first (fields_of c.next.new.entry)) c.deref.result.now c.width-columns.result
          (fields_of c.next-in-loop-number.new.entry) (Ok c.add.new.self.rows.traces)
          c.loop-number.invariant.follows (c.deref.ensures.value ∙ headed.1)
          c.width-columns.ensures c.in_ok-add.ensures.ok);
      follows = c.in_ok-add.ensures.signature ∙ c.loop-number.invariant.follows;
      known = c.in_ok-add.ensures.names;
    }
