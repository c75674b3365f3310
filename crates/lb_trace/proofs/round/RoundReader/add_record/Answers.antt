-- A record is added by the table of its header.
use Rattle.std.proofs.Common.{◌≡◌, Result, Ok, ℕ, sym, ◌∙◌, subst}
use Rattle.std.proofs.lemmas.Result.{IfErr-weaker, on_ok_weaker}
use Rattle.csv.specs.Records.{fields_of}
use Rattle.lb_traces.specs.Traces.{Traces}
use Rattle.lb_trace.specs.Errors.{IsRefusal}
use Rattle.lb_trace.specs.Mirrors.{record_by}
use Rattle.lb_trace.specs.Refusals.{with_record}
use Rattle.lb_trace.specs.Tables.{columns_in}
use Rattle.lb_trace.proofs.Readings.{record_by-table, rows_follow}
use Rattle.lb_trace.proofs.round.RoundReader.add_record.Goals as goal

pub add-requires-clause-kinds : goal.add-requires-clause-kinds
add-requires-clause-kinds c =
    rows_follow _ _ _ (c.deref.ensures.value ∙ c.requires.table.columns)

pub returns-clause-ok : goal.returns-clause-ok
returns-clause-ok c =
    let set = c.args.self.now.recorder.rows in
    let r = fields_of c.args.entry.now in
    let same : record_by set.signature c.deref.result.now c.args.table.now.count set.traces r
    ≡ with_record set.signature (columns_in c.args.table.now) set.traces r =
    record_by-table _ _ _ _ _ _ (c.deref.ensures.value ∙ c.requires.table.columns)
    c.requires.table.count in
    on_ok_weaker c.add.result
    (λ (good : record_by set.signature c.deref.result.now c.args.table.now.count set.traces r
    ≡ Ok c.add.new.self.rows.traces). sym same ∙ good)
    c.add.ensures.ok

pub returns-clause-err : goal.returns-clause-err
returns-clause-err c =
    let set = c.args.self.now.recorder.rows in
    let r = fields_of c.args.entry.now in
    let same : record_by set.signature c.deref.result.now c.args.table.now.count set.traces r
    ≡ with_record set.signature (columns_in c.args.table.now) set.traces r =
    record_by-table _ _ _ _ _ _ (c.deref.ensures.value ∙ c.requires.table.columns)
    c.requires.table.count in
    IfErr-weaker c.add.result _
    (λ e. IsRefusal (with_record set.signature (columns_in c.args.table.now) set.traces r) e)
    (λ e bad. subst (λ (o : Result Traces ℕ). IsRefusal o e) same bad)
    c.add.ensures.err
