-- One record after the other is added, until one is refused.
use Rattle.std.proofs.Common.{◌+◌, refl, sym, ap, ◌∙◌, subst}
use Rattle.lb_static.specs.Signature.{kinds_of}
use Rattle.lb_traces.specs.Traces.{Recording, instants_of}
use Rattle.lb_trace.specs.Lines.{record_of}
use Rattle.lb_trace.specs.Mirrors.{RowsFollow}
use Rattle.lb_trace.specs.Tables.{columns_in}
use Rattle.lb_trace.proofs.HeldParts.{kinds-same}
use Rattle.lb_trace.proofs.LineReadings.{lines-counted}
use Rattle.lb_trace.proofs.Readings.{rows_follow}
use Rattle.lb_trace.proofs.RoundReadings.{reads-more, reads-none, reads-refused}
use Rattle.lb_trace.proofs.recorder.Recorder.add_until.Goals as goal

pub records-init : goal.records-init
records-init c = record {
  reads = reads-none c.args.self.now.rows.signature (columns_in c.args.table.now)
      c.args.self.now.rows.traces c.args.text.now;
  counted = ap (λ n. n + 1)
      (c.from-read.ensures ∙ c.instants.ensures.count
      ∙ ap (λ (r : Recording). instants_of r.traces) c.set.ensures);
  follows = refl;
  known = c.requires.names;
}

pub add_line-requires-clause-kinds : goal.add_line-requires-clause-kinds
add_line-requires-clause-kinds c =
    subst (RowsFollow c.args.table.now.columns.items) (sym c.records.invariant.follows)
    (rows_follow _ _ _ c.requires.table.columns)

pub records-preserved : goal.records-preserved
records-preserved c =
    let good = rw (c.records.invariant.follows) at c.in-Ok.ensures.ok in
    record {
      reads = reads-more c.args.self.now.rows.signature (columns_in c.args.table.now)
          c.args.table.now.columns.items c.args.table.now.count c.args.self.now.rows.traces
          c.records.self.rows.traces c.add_line.new.self.rows.traces c.args.text.now
          c.records.rest.now c.skip_line_ends-begun.result.now c.in-Ok.after.now
          c.records.invariant.reads c.skip_line_ends-begun.ensures
          (sym c.is_empty.ensures ∙ c.if-is_empty.false) c.in-Ok.ensures.after
          c.requires.table.columns c.requires.table.count good;
      counted = ap (λ n. n + 1)
          (c.records.invariant.counted
          ∙ sym (lines-counted c.args.self.now.rows.signature (columns_in c.args.table.now)
          c.args.table.now.columns.items c.args.table.now.count c.records.self.rows.traces
          c.add_line.new.self.rows.traces (record_of c.skip_line_ends-begun.result.now)
          c.requires.table.columns c.requires.table.count good));
      follows = c.in-Ok.ensures.signature ∙ c.records.invariant.follows;
      known = c.in-Ok.ensures.names;
    }

pub returns-in-Err-clause-cause : goal.returns-in-Err-clause-cause
returns-in-Err-clause-cause c =
    reads-refused _ _ _ _ _ _ _ _ c.requires.table.columns c.requires.table.count
    (ap (λ (r : Recording). r.traces) c.in-Err.ensures.kept)
    (rw (c.records.invariant.follows) at c.in-Err.ensures.err)

pub add_line-requires-clause-same_kinds : goal.add_line-requires-clause-same_kinds
add_line-requires-clause-same_kinds c =
    kinds-same _ _ _ c.requires.table.columns ∙ ap kinds_of (sym c.records.invariant.follows)
