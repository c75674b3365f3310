-- Sections that were judged by themselves, one after the other.
use Rattle.std.proofs.Common.{ℕ, ◌∙◌, List, [], ◌∷◌, ◌++◌, ap, append_assoc, subst, sym}
use Rattle.lb_static.specs.Signature.{Elements}
use Rattle.lb_traces.specs.Traces.{Traces}
use Rattle.lb_flat.specs.declared.program.FlatProgram.{FlatProgram}
use Rattle.lb_trace.specs.Errors.{IsRefusal}
use Rattle.lb_trace.specs.Lines.{record_of}
use Rattle.lb_trace.specs.Refusals.{with_records}
use Rattle.lb_trace.specs.Rolls.{IsRollOf, RefusesRoll}
use Rattle.lb_trace.specs.Spelling.{Record}
use Rattle.lb_trace.specs.Tables.{columns_in}
use Rattle.lb_trace.specs.declared.error.TraceError.{TraceError}
use Rattle.lb_trace.specs.declared.roll.Roll.{Roll}
use Rattle.lb_trace.specs.declared.table.ColumnTable.{ColumnTable}
use Rattle.lb_trace.proofs.TextReadings.{joined_parts, part_spells, refused_behind, refused_on}
use Rattle.lb_report.specs.JudgedParts.{AreJudgedTraces, IsJudgedPart, IsStopped}
use Rattle.lb_report.specs.declared.rounds.Judged.{Judged}

module _ (p : FlatProgram) (elements : Elements) (table : ColumnTable)
    (rows others : List Record) (first : Judged)
    (one : IsJudgedPart p elements table rows first) where
  -- two parts that were judged by themselves are judged as one, where `both` joins their traces
  pub judged_both : (second both : Judged) → IsJudgedPart p elements table others second
      → ((some more : Traces) → AreJudgedTraces p elements some first
      → AreJudgedTraces p elements more second
      → AreJudgedTraces p elements (some ++ more) both)
      → IsJudgedPart p elements table (rows ++ others) both
  judged_both second both two joined =
      let all = joined one.traces two.traces one.judged two.judged in
      record {
        traces = one.traces ++ two.traces;
        read = joined_parts elements (columns_in table) rows others one.traces two.traces
            one.read two.read all.names.lawful;
        judged = all;
      }

  -- the traces of the second part are refused behind those of the first
  pub refused_both : (second : Judged) (e : TraceError)
      → IsJudgedPart p elements table others second → RefusesRoll first.roll second.roll e
      → IsRefusal (with_records elements (columns_in table) [] (rows ++ others)) e
  refused_both second e two refused =
      refused_behind elements (columns_in table) rows others one.traces e one.read
      (refused elements (columns_in table) one.traces two.traces others one.judged.names
      two.judged.names
      (part_spells elements (columns_in table) others two.traces two.read))

  -- the second part stopped at a record, which then stands behind the traces of both
  pub stopped_both : (roll next : Roll) (line : List ℕ)
      → IsStopped elements table others roll line
      → ((some more : Traces) → IsRollOf elements first.roll some → IsRollOf elements roll more
      → IsRollOf elements next (some ++ more))
      → IsStopped elements table (rows ++ others) next line
  stopped_both roll next line at joined =
      let names = joined one.traces at.traces one.judged.names at.names in
      record {
        done = rows ++ at.done;
        more = at.more;
        is = ap (λ rs. rows ++ rs) at.is ∙ sym (append_assoc rows at.done _);
        traces = one.traces ++ at.traces;
        read = joined_parts elements (columns_in table) rows at.done one.traces at.traces
            one.read at.read names.lawful;
        names = names;
      }

  -- the traces before the record at which the second part stopped are refused behind those of the
  -- first
  pub stopped_early : (roll : Roll) (line : List ℕ) (e : TraceError)
      → IsStopped elements table others roll line → RefusesRoll first.roll roll e
      → IsRefusal (with_records elements (columns_in table) [] (rows ++ others)) e
  stopped_early roll line e at refused =
      let columns = columns_in table in
      let here : IsRefusal (with_records elements columns one.traces at.done) e =
      refused elements columns one.traces at.traces at.done one.judged.names at.names
      (part_spells elements columns at.done at.traces at.read) in
      let on : IsRefusal
      (with_records elements columns one.traces (at.done ++ record_of line ∷ at.more)) e =
      refused_on elements columns one.traces at.done (record_of line ∷ at.more) e here in
      subst (λ rs. IsRefusal (with_records elements columns [] (rows ++ rs)) e) (sym at.is)
      (refused_behind elements columns rows (at.done ++ record_of line ∷ at.more) one.traces e
      one.read on)
