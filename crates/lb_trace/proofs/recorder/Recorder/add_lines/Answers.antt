-- One record after the other is added.
use Rattle.std.proofs.Common.{◌+◌, refl, sym, ap, ◌∙◌, subst}
use Rattle.std.proofs.lemmas.Result.{err_from_is_err_and}
use Rattle.lb_static.specs.Signature.{Elements, kinds_of}
use Rattle.lb_traces.specs.Traces.{Recording, instants_of}
use Rattle.lb_trace.specs.Mirrors.{RowsFollow}
use Rattle.lb_trace.specs.Tables.{columns_in}
use Rattle.lb_trace.specs.TruthBits.{AreTruthTable}
use Rattle.lb_trace.proofs.HeldParts.{kinds-same}
use Rattle.lb_trace.proofs.LineReadings.{lines-counted, lines-end, lines-more, lines-refused}
use Rattle.lb_trace.proofs.Readings.{rows_follow}
use Rattle.lb_trace.proofs.recorder.Recorder.add_lines.Goals as goal

pub loop-number-init : goal.loop-number-init
loop-number-init c = record {
  read = refl;
  counted = ap (λ n. n + 1)
      (c.from-read.ensures ∙ c.instants.ensures.count
      ∙ ap (λ (r : Recording). instants_of r.traces) c.set.ensures);
  follows = refl;
  known = c.requires.names;
}

pub returns-then-is_empty-clause-ok : goal.returns-then-is_empty-clause-ok
returns-then-is_empty-clause-ok c =
    lines-end _ _ _ _ _ _ _ c.loop-number.invariant.read
    c.skip_line_ends-begun.ensures (sym c.is_empty.ensures ∙ c.if-is_empty.true)

pub add_line-requires-clause-kinds : goal.add_line-requires-clause-kinds
add_line-requires-clause-kinds c =
    subst (RowsFollow c.args.table.now.columns.items) (sym c.loop-number.invariant.follows)
    (rows_follow _ _ _ c.requires.table.columns)

pub add_line-requires-clause-truths : goal.add_line-requires-clause-truths
add_line-requires-clause-truths c are =
    subst
    (λ (elements : Elements).
    AreTruthTable elements c.args.table.now.columns.items c.args.table.now.count)
    (sym c.loop-number.invariant.follows) (c.requires.table.truths are)

pub returns-in_err-rest-clause-err : goal.returns-in_err-rest-clause-err
returns-in_err-rest-clause-err c =
    let bad = lines-refused c.args.self.now.rows.signature (columns_in c.args.table.now)
    c.args.table.now.columns.items c.args.table.now.count c.args.self.now.rows.traces
    c.loop-number.self.rows.traces c.args.text.now c.loop-number.rest.now
    c.skip_line_ends-begun.result.now c.in_err-rest.field-0.0 c.loop-number.invariant.read
    c.skip_line_ends-begun.ensures (sym c.is_empty.ensures ∙ c.if-is_empty.false)
    c.requires.table.columns c.requires.table.count
    (rw (c.loop-number.invariant.follows) at c.in_err-rest.ensures.err) in
    let p = err_from_is_err_and c.from_residual.result c.from_residual.ensures.1 in
    rw (p.1, p.2) bad

pub loop-number-preserved : goal.loop-number-preserved
loop-number-preserved c =
    let good = rw (c.loop-number.invariant.follows) at c.in_ok-rest.ensures.ok in
    record {
      read = lines-more _ _ _ _ _ _ _ _ _ _ _
          c.loop-number.invariant.read c.skip_line_ends-begun.ensures
          (sym c.is_empty.ensures ∙ c.if-is_empty.false) c.in_ok-rest.ensures.after
          c.requires.table.columns c.requires.table.count good;
      counted = ap (λ n. n + 1)
          (c.loop-number.invariant.counted
          ∙ sym (lines-counted _ _ _ _ _ _ _ c.requires.table.columns c.requires.table.count good));
      follows = c.in_ok-rest.ensures.signature ∙ c.loop-number.invariant.follows;
      known = c.in_ok-rest.ensures.names;
    }

pub add_line-requires-clause-same_kinds : goal.add_line-requires-clause-same_kinds
add_line-requires-clause-same_kinds c =
    kinds-same _ _ _ c.requires.table.columns ∙ ap kinds_of (sym c.loop-number.invariant.follows)
