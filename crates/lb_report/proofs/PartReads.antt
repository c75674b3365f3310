-- Records with none before them, which are read round after round.
use Rattle.std.proofs.Common.{ℕ, ◌≡◌, List, [], ◌∷◌, ◌++◌, Result, Ok, Err, refl, sym, ap, ◌∙◌, subst}
use Rattle.std.proofs.Common.{append_assoc, IfOk, IfSome, IsOkAnd}
use Rattle.std.proofs.lemmas.List.{append-nil}
use Rattle.lb_static.specs.Signature.{Elements}
use Rattle.lb_check.specs.declared.verdict.Verdict.{Verdict}
use Rattle.lb_traces.specs.Traces.{Recording, Traces}
use Rattle.lb_flat.specs.declared.program.FlatProgram.{FlatProgram}
use Rattle.lb_trace.specs.declared.error.TraceError.{TraceError}
use Rattle.lb_trace.specs.declared.roll.Roll.{Roll}
use Rattle.lb_trace.specs.declared.table.ColumnTable.{ColumnTable}
use Rattle.lb_trace.specs.Errors.{IsRefusal}
use Rattle.lb_trace.specs.Lines.{record_of}
use Rattle.lb_trace.specs.Refusals.{then_read, with_record, with_records}
use Rattle.lb_trace.specs.Rolls.{IsRoll, IsRollOf, RefusesRows}
use Rattle.lb_trace.specs.RoundReaders.{IsRound}
use Rattle.lb_trace.specs.Spelling.{Record}
use Rattle.lb_trace.specs.Tables.{IsColumnTable, columns_in}
use Rattle.lb_trace.specs.declared.round.RoundReader.{RoundReader}
use Rattle.lb_trace.proofs.Readings.{with_records-append}
use Rattle.lb_trace.proofs.TextReadings.{joined_parts, part_spells, refused_behind}
use Rattle.lb_trace.proofs.TextReadings.{refused_on, refused_one}
use Rattle.lb_pool.specs.Correct.{AreVerdicts}
use Rattle.lb_report.specs.JudgedParts.{AreJudgedTraces, HasRoll, IsHalt, IsJudgedPart}
use Rattle.lb_report.specs.JudgedParts.{IsPartRead, IsState, IsStopped, RefusesNames}
use Rattle.lb_report.specs.Pieces.{IsOpenRound}
use Rattle.lb_report.specs.declared.rounds.Halt.{Halt}
use Rattle.lb_report.specs.declared.rounds.Halt.TheVariants as halt
use Rattle.lb_report.specs.declared.rounds.Judged.{Judged}
use Rattle.lb_report.specs.declared.rounds.State.{State}
use Rattle.lb_report.proofs.JudgedParts.{judged_more}

-- ## Rounds

-- the rows of a round are those of its traces, under its signature
pub round_held : (elements : Elements) (set : Traces) (round : RoundReader)
    → IsRound elements set round
    → round.recorder.rows ≡ record { signature = elements; traces = set }
round_held elements set round is =
    ap (λ e. record { signature = e; traces = round.recorder.rows.traces }) is.signature
    ∙ ap (λ ts. record { signature = elements; traces = ts }) is.read

-- a round with these traces goes together
pub open_round : (elements : Elements) (set : Traces) (r : RoundReader)
    → IsRound elements set r → IsOpenRound elements r
open_round elements set r is = record { signature = is.signature; known = is.known }

-- a roll, a round and a spare round make a state
pub begun_state : (elements : Elements) (set : Traces) (s : State) → IsRoll s.judged.roll
    → IsRound elements set s.round → IfSome s.spare (λ r. r.recorder.rows.signature ≡ elements)
    → IsState elements s
begun_state elements set s roll round spare = record {
  roll = roll;
  round = open_round elements set s.round round;
  spare = spare;
}

-- where no traces are judged, no records are judged
pub judged_none : (p : FlatProgram) (elements : Elements) (table : ColumnTable) (j : Judged)
    → AreJudgedTraces p elements [] j → IsJudgedPart p elements table [] j
unfolding with_records
judged_none p elements table j is = record { traces = []; read = refl; judged = is }

-- with an empty round, the records that were judged are those that have been read
pub part_none : (p : FlatProgram) (elements : Elements) (table : ColumnTable)
    (rows : List Record) (s : State)
    → IsJudgedPart p elements table rows s.judged
    → s.round.recorder.rows ≡ record { signature = elements; traces = [] }
    → IsPartRead p elements table rows s
unfolding with_records
part_none p elements table rows s judged held = record {
  done = rows;
  part = [];
  is = sym (append-nil rows);
  judged = judged;
  set = [];
  read = refl;
  held = held;
}

-- where more records are added to the round, these have been read too
pub part_more : (p : FlatProgram) (elements : Elements) (table : ColumnTable)
    (rows more : List Record) (s next : State)
    → IsPartRead p elements table rows s → next.judged ≡ s.judged
    → with_records s.round.recorder.rows.signature (columns_in table)
    s.round.recorder.rows.traces more ≡ Ok next.round.recorder.rows.traces
    → next.round.recorder.rows.signature ≡ s.round.recorder.rows.signature
    → IsPartRead p elements table (rows ++ more) next
part_more p elements table rows more s next is same read kept = record {
  done = is.done;
  part = is.part ++ more;
  is = ap (λ rs. rs ++ more) is.is ∙ append_assoc is.done is.part more;
  judged = subst (IsJudgedPart p elements table is.done) (sym same) is.judged;
  set = next.round.recorder.rows.traces;
  read = with_records-append elements (columns_in table) [] is.part more
      ∙ ap (then_read (λ ts. with_records elements (columns_in table) ts more)) is.read
      ∙ ap (λ (r : Recording). with_records r.signature (columns_in table) r.traces more)
      (sym is.held)
      ∙ read;
  held = ap (λ e. record { signature = e; traces = next.round.recorder.rows.traces })
      (kept ∙ ap (λ (r : Recording). r.signature) is.held);
}

-- where one more record is added to the round, it has been read too
pub part_one : (p : FlatProgram) (elements : Elements) (table : ColumnTable)
    (rows : List Record) (r : Record) (s next : State)
    → IsPartRead p elements table rows s → next.judged ≡ s.judged
    → with_record s.round.recorder.rows.signature (columns_in table)
    s.round.recorder.rows.traces r ≡ Ok next.round.recorder.rows.traces
    → next.round.recorder.rows.signature ≡ s.round.recorder.rows.signature
    → IsPartRead p elements table (rows ++ r ∷ []) next
unfolding with_records
part_one p elements table rows r s next is same read kept =
    part_more p elements table rows (r ∷ []) s next is same
    (ap (then_read (λ ts. Ok ts)) read) kept

-- what is known of a result that is there
pub ok_both : {T E : Type 0} (r : Result T E) (P Q : T → Type 0) → IsOkAnd r P → IfOk r Q
    → (x : T) × P x × Q x
ok_both (Ok x) P Q one two = (x, one, two)
ok_both (Err e) P Q one two = absurd one

-- where the traces of the round are judged, all records read are judged
pub part_settled : (p : FlatProgram) (elements : Elements) (table : ColumnTable)
    (rows : List Record) (s : State) (after : Judged) (found : List Verdict) (set : Recording)
    → IsPartRead p elements table rows s → set ≡ s.round.recorder.rows
    → ((traces : Traces) → IsRollOf set.signature s.judged.roll traces
    → IsRollOf set.signature after.roll (traces ++ set.traces))
    → AreVerdicts p set found
    → after.verdicts.items ≡ s.judged.verdicts.items ++ found
    → IsJudgedPart p elements table rows after
part_settled p elements table rows s after found set is same taken verdicts all =
    let whole : set ≡ record { signature = elements; traces = is.set } =
    same ∙ is.held in
    let Taken : Recording → Type 0 =
    λ r. (traces : Traces) → IsRollOf r.signature s.judged.roll traces
    → IsRollOf r.signature after.roll (traces ++ r.traces) in
    subst (λ rs. IsJudgedPart p elements table rs after) (sym is.is)
    (judged_more p elements table is.done is.part s.judged after is.set found is.judged is.read
    (subst Taken whole taken) (subst (λ r. AreVerdicts p r found) whole verdicts) all)

-- `rows`, with no records before them, have been read, and `roll` names their traces
pub record IsBehind (elements : Elements) (table : ColumnTable) (rows : List Record) (roll : Roll)
    : Type 0 where
  pub traces : Traces
  pub read : with_records elements (columns_in table) [] rows ≡ Ok traces
  pub names : IsRollOf elements roll traces

-- a roll of the judged traces and those of the round names the traces of all records read
part_behind : (p : FlatProgram) (elements : Elements) (table : ColumnTable)
    (rows : List Record) (s : State) (roll : Roll) (set : Recording)
    → IsPartRead p elements table rows s → set ≡ s.round.recorder.rows
    → ((traces : Traces) → IsRollOf set.signature s.judged.roll traces
    → IsRollOf set.signature roll (traces ++ set.traces))
    → IsBehind elements table rows roll
part_behind p elements table rows s roll set is same taken =
    let whole : set ≡ record { signature = elements; traces = is.set } = same ∙ is.held in
    let Taken : Recording → Type 0 =
    λ q. (traces : Traces) → IsRollOf q.signature s.judged.roll traces
    → IsRollOf q.signature roll (traces ++ q.traces) in
    let names : IsRollOf elements roll (is.judged.traces ++ is.set) =
    subst Taken whole taken is.judged.traces is.judged.judged.names in
    record {
      traces = is.judged.traces ++ is.set;
      read = subst (λ rs. with_records elements (columns_in table) [] rs
          ≡ Ok (is.judged.traces ++ is.set)) (sym is.is)
          (joined_parts elements (columns_in table) is.done is.part is.judged.traces is.set
          is.judged.read is.read names.lawful);
      names = names;
    }

-- a record that is not added to the round is one at which reading has stopped
pub part_stopped : (p : FlatProgram) (elements : Elements) (table : ColumnTable)
    (rows more : List Record) (s : State) (roll : Roll) (set : Recording) (line : List ℕ)
    (r : Record)
    → IsPartRead p elements table rows s → set ≡ s.round.recorder.rows
    → ((traces : Traces) → IsRollOf set.signature s.judged.roll traces
    → IsRollOf set.signature roll (traces ++ set.traces))
    → record_of line ≡ r
    → IsStopped elements table (rows ++ r ∷ more) roll line
part_stopped p elements table rows more s roll set line r is same taken shown =
    let b : IsBehind elements table rows roll =
    part_behind p elements table rows s roll set is same taken in
    record {
      done = rows;
      more = more;
      is = ap (λ q. rows ++ q ∷ more) (sym shown);
      traces = b.traces;
      read = b.read;
      names = b.names;
    }

-- a record that is refused behind the traces of the roll is a refusal of the records up to it
pub part_refused : (p : FlatProgram) (elements : Elements) (table : ColumnTable)
    (rows : List Record) (r : Record) (s : State) (roll : Roll) (set : Recording)
    (e : TraceError)
    → IsPartRead p elements table rows s → set ≡ s.round.recorder.rows
    → ((traces : Traces) → IsRollOf set.signature s.judged.roll traces
    → IsRollOf set.signature roll (traces ++ set.traces))
    → ((es : Elements) (traces : Traces) → IsRollOf es roll traces → IsColumnTable es table
    → IsRefusal (with_record es (columns_in table) traces r) e)
    → IsColumnTable elements table
    → IsRefusal (with_records elements (columns_in table) [] (rows ++ r ∷ [])) e
part_refused p elements table rows r s roll set e is same taken refused columns =
    let b : IsBehind elements table rows roll =
    part_behind p elements table rows s roll set is same taken in
    refused_behind elements (columns_in table) rows (r ∷ []) b.traces e b.read
    (refused_one elements (columns_in table) b.traces r e
    (refused elements b.traces b.names columns))

-- a record that was not added is refused behind the traces of a roll
pub stopped_refused : (elements : Elements) (table : ColumnTable) (rows : List Record)
    (roll : Roll) (line : List ℕ) (e : TraceError)
    → IsStopped elements table rows roll line → IsColumnTable elements table
    → ((es : Elements) (traces : Traces) → IsRollOf es roll traces → IsColumnTable es table
    → IsRefusal (with_record es (columns_in table) traces (record_of line)) e)
    → IsRefusal (with_records elements (columns_in table) [] rows) e
stopped_refused elements table rows roll line e at columns refused =
    let r : Record = record_of line in
    let one : IsRefusal (with_records elements (columns_in table) at.traces (r ∷ [])) e =
    refused_one elements (columns_in table) at.traces r e
    (refused elements at.traces at.names columns) in
    subst (λ rs. IsRefusal (with_records elements (columns_in table) [] rs) e) (sym at.is)
    (refused_behind elements (columns_in table) at.done (r ∷ at.more) at.traces e at.read
    (refused_on elements (columns_in table) at.traces (r ∷ []) at.more e one))

-- the traces of the round are refused behind those that are judged
refused_early : (p : FlatProgram) (elements : Elements) (table : ColumnTable)
    (rows : List Record) (s : State) (set : Recording) (e : TraceError)
    → IsPartRead p elements table rows s → set ≡ s.round.recorder.rows
    → RefusesRows s.judged.roll set e
    → IsRefusal (with_records elements (columns_in table) [] rows) e
refused_early p elements table rows s set e is same refused =
    let whole : set ≡ record { signature = elements; traces = is.set } =
    same ∙ is.held in
    let here : RefusesRows s.judged.roll record { signature = elements; traces = is.set } e =
    subst (λ r. RefusesRows s.judged.roll r e) whole refused in
    subst (λ rs. IsRefusal (with_records elements (columns_in table) [] rs) e) (sym is.is)
    (refused_behind elements (columns_in table) is.done is.part is.judged.traces e is.judged.read
    (here (columns_in table) is.judged.traces is.part is.judged.judged.names
    (part_spells elements (columns_in table) is.part is.set is.read)))

pub part_early : (p : FlatProgram) (elements : Elements) (table : ColumnTable)
    (rows : List Record) (s : State) (set : Recording) (h : Halt)
    → IsPartRead p elements table rows s → set ≡ s.round.recorder.rows
    → RefusesNames s.judged.roll set h → IsHalt elements table rows h
part_early p elements table rows s set (halt.Load e) is same refused = absurd refused
part_early p elements table rows s set (halt.Refused e) is same refused = absurd refused
part_early p elements table rows s set (halt.Early e) is same refused =
    refused_early p elements table rows s set e is same refused
part_early p elements table rows s set (halt.Stopped judged line) is same refused = absurd refused
part_early p elements table rows s set halt.Quoted is same refused = absurd refused

-- a halt by names keeps none
pub early_roll : (roll : Roll) (set : Recording) (h : Halt) → RefusesNames roll set h → HasRoll h
early_roll roll set (halt.Load e) refused = tt
early_roll roll set (halt.Refused e) refused = tt
early_roll roll set (halt.Early e) refused = tt
early_roll roll set (halt.Stopped judged line) refused = absurd refused
early_roll roll set halt.Quoted refused = tt
