-- Records that are judged round after round.
use Rattle.std.proofs.Common.{◌≡◌, List, [], ◌++◌, Ok, sym, subst}
use Rattle.lb_static.specs.Signature.{Elements}
use Rattle.lb_check.specs.declared.verdict.Verdict.{Verdict}
use Rattle.lb_traces.specs.Traces.{Traces}
use Rattle.lb_flat.specs.declared.program.FlatProgram.{FlatProgram}
use Rattle.lb_trace.specs.declared.table.ColumnTable.{ColumnTable}
use Rattle.lb_trace.specs.Refusals.{with_records}
use Rattle.lb_trace.specs.Rolls.{IsRollOf}
use Rattle.lb_trace.specs.Spelling.{Record}
use Rattle.lb_trace.specs.Tables.{columns_in}
use Rattle.lb_trace.proofs.TextReadings.{joined_parts}
use Rattle.lb_pool.specs.Correct.{AreVerdicts}
use Rattle.lb_pool.proofs.JoinedVerdicts.{joined_verdicts}
use Rattle.lb_report.specs.JudgedParts.{IsJudgedPart}
use Rattle.lb_report.specs.declared.rounds.Judged.{Judged}

-- where a part is judged, and then the traces of a further part, both are judged
pub judged_more :
    (p : FlatProgram) (elements : Elements) (table : ColumnTable) (done part : List Record)
    (before after : Judged) (set : Traces) (found : List Verdict) →
    IsJudgedPart p elements table done before →
    with_records elements (columns_in table) [] part ≡ Ok set →
    ((traces : Traces) → IsRollOf elements before.roll traces
    → IsRollOf elements after.roll (traces ++ set)) →
    AreVerdicts p record { signature = elements; traces = set } found →
    after.verdicts.items ≡ before.verdicts.items ++ found →
    IsJudgedPart p elements table (done ++ part) after
judged_more p elements table done part before after set found first read taken verdicts all =
    let names : IsRollOf elements after.roll (first.traces ++ set) =
    taken first.traces first.judged.names in
    record {
      traces = first.traces ++ set;
      read = joined_parts elements (columns_in table) done part first.traces set first.read read
          names.lawful;
      judged = record {
        names = names;
        verdicts = subst (λ vs. AreVerdicts p record {
          signature = elements;
          traces = first.traces ++ set;
        } vs) (sym all)
            (joined_verdicts p elements first.traces set before.verdicts.items found
            first.judged.verdicts verdicts);
      };
    }
