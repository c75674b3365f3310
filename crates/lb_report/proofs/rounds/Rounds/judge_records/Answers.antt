-- One record after the other is read, until there is none or one is refused.
use Rattle.std.proofs.Common.{ℕ, List, ◌++◌, ◌∙◌, refl}
use Rattle.std.proofs.lemmas.Result.{IfErr-weaker, IfOk-weaker, err_from_is_err_and}
use Rattle.csv.specs.Records.{fields_of}
use Rattle.lb_trace.specs.Readers.{Reaches}
use Rattle.lb_trace.specs.Spelling.{Record}
use Rattle.lb_feed.proofs.Passing.{passes_on}
use Rattle.lb_report.specs.JudgedParts.{HasHaltedAt, HasRoll, IsJudgedFrom, IsPartRead}
use Rattle.lb_report.specs.declared.rounds.Halt.TheVariants.{Refused}
use Rattle.lb_report.proofs.PartReads.{part_one}
use Rattle.lb_report.proofs.QuotedTexts.{part_kept}
use Rattle.lb_report.proofs.QuotedReads.{on_end, on_halt, on_more, on_none, on_refused}
use Rattle.lb_report.proofs.rounds.Rounds.judge_records.Goals as goal

pub records-init : goal.records-init
records-init g c = record {
  state = c.requires.state;
  on = λ text given rows reaches is.
      on_none c.args.self.now.runner.program.now.program.now c.args.self.now.signature.now
      c.args.table.now text given rows c.args.reader.now c.args.begun reaches is;
}

pub records-preserved-then-not-goes_on : goal.records-preserved-then-not-goes_on
records-preserved-then-not-goes_on g c =
    let p = c.args.self.now.runner.program.now.program.now in
    let elements = c.args.self.now.signature.now in
    let table = c.args.table.now in
    record {
      state = c.in_ok-state.ensures.state;
      on = λ text given rows reaches is.
          let at = c.records.invariant.on text given rows reaches is in
          let goes = rw c.if-not-branch.false at
          (c.in_ok-next.ensures.goes text (given ++ at.more) at.reaches) in
          on_more p elements table text given rows c.records.reader c.next.new.reader
          c.records.state _ (fields_of c.next.new.entry) at goes
          (c.in_ok-state.ensures.ok (rows ++ at.more) at.part);
    }

pub records-preserved : goal.records-preserved
records-preserved g c =
    let p = c.args.self.now.runner.program.now.program.now in
    let elements = c.args.self.now.signature.now in
    let table = c.args.table.now in
    record {
      state = record {
        roll = c.records.invariant.state.roll;
        round = record {
          known = c.in-Ok.ensures.names;
          signature = c.in-Ok.ensures.signature ∙ c.records.invariant.state.round.signature;
        };
        spare = c.records.invariant.state.spare;
      };
      on = λ text given rows reaches is.
          let at = c.records.invariant.on text given rows reaches is in
          let goes = rw c.if-not-branch.false at
          (c.in_ok-next.ensures.goes text (given ++ at.more) at.reaches) in
          on_more p elements table text given rows c.records.reader c.next.new.reader
          c.records.state _ (fields_of c.next.new.entry) at goes
          (part_one p elements table (rows ++ at.more) (fields_of c.next.new.entry) c.records.state _
          at.part refl c.in-Ok.ensures.ok c.in-Ok.ensures.signature);
    }

pub returns-then-not-branch-clause-ok : goal.returns-then-not-branch-clause-ok
returns-then-not-branch-clause-ok g c =
    let p = c.args.self.now.runner.program.now.program.now in
    let elements = c.args.self.now.signature.now in
    let table = c.args.table.now in
    IfOk-weaker c.last_round.result _
    (λ judged. (text : List ℕ) → (given rows : List Record) → Reaches text given c.args.reader.now
    → IsPartRead p elements table rows c.args.begun
    → IsJudgedFrom p elements table text given rows judged)
    (λ judged settled text given rows reaches is.
    let at = c.records.invariant.on text given rows reaches is in
    let all = rw c.if-not-branch.true at
    (c.in_ok-next.ensures.goes text (given ++ at.more) at.reaches) in
    on_end p elements table text given rows c.records.reader c.records.state judged at all
    (settled table (rows ++ at.more) at.part))
    c.last_round.ensures.ok

pub returns-then-not-branch-clause-err : goal.returns-then-not-branch-clause-err
returns-then-not-branch-clause-err g c =
    let p = c.args.self.now.runner.program.now.program.now in
    let elements = c.args.self.now.signature.now in
    let table = c.args.table.now in
    IfErr-weaker c.last_round.result _
    (λ halt. (text : List ℕ) → (given rows : List Record) → Reaches text given c.args.reader.now
    → IsPartRead p elements table rows c.args.begun
    → HasHaltedAt elements table text given rows halt)
    (λ halt halted text given rows reaches is.
    let at = c.records.invariant.on text given rows reaches is in
    on_halt elements table text given rows at.more c.records.reader halt at.reaches
    (halted table (rows ++ at.more) at.part))
    c.last_round.ensures.err

pub returns-in_err-next-clause-err : goal.returns-in_err-next-clause-err
returns-in_err-next-clause-err g c =
    let elements = c.args.self.now.signature.now in
    let p = err_from_is_err_and c.from_residual.result c.from_residual.ensures.1 in
    rw (p.1, p.2) (λ text given rows reaches is.
    let at = c.records.invariant.on text given rows reaches is in
    on_halt elements c.args.table.now text given rows at.more c.records.reader _ at.reaches
    c.in_err-next.ensures.memory)

pub returns-in_err-next-clause-kept : goal.returns-in_err-next-clause-kept
returns-in_err-next-clause-kept g c =
    passes_on c.from_residual.result (Refused c.in_err-next.field-0.0) HasRoll
    c.from_residual.ensures.1 tt

pub returns-in_err-state-clause-err : goal.returns-in_err-state-clause-err
returns-in_err-state-clause-err g c =
    let elements = c.args.self.now.signature.now in
    let p = err_from_is_err_and c.from_residual-in_err-state.result
    c.from_residual-in_err-state.ensures.1 in
    rw (p.1, p.2) (λ text given rows reaches is.
    let at = c.records.invariant.on text given rows reaches is in
    let goes = rw c.if-not-branch.false at
    (c.in_ok-next.ensures.goes text (given ++ at.more) at.reaches) in
    on_refused elements c.args.table.now text given rows at.more c.next.new.reader
    (fields_of c.next.new.entry) c.in_err-state.field-0.0 goes
    (c.in_err-state.ensures.err (rows ++ at.more) at.part))

pub returns-in-Err-clause-err : goal.returns-in-Err-clause-err
returns-in-Err-clause-err g c = λ text given rows reaches is.
    let p = c.args.self.now.runner.program.now.program.now in
    let elements = c.args.self.now.signature.now in
    let table = c.args.table.now in
    let at = c.records.invariant.on text given rows reaches is in
    let goes = rw c.if-not-branch.false at
    (c.in_ok-next.ensures.goes text (given ++ at.more) at.reaches) in
    on_refused elements table text given rows at.more c.next.new.reader
    (fields_of c.next.new.entry) c.refused_record.result goes
    (c.refused_record.ensures.halt (rows ++ at.more)
    (part_kept p elements table (rows ++ at.more) c.records.state _ at.part refl
    c.in-Err.ensures.kept))

-- no text has that many records
pub returns-clause-err : goal.returns-clause-err
returns-clause-err g c = rw c.from.ensures (λ text given rows reaches is.
    let at = c.records.invariant.on text given rows reaches is in
    on_halt c.args.self.now.signature.now c.args.table.now text given rows at.more c.records.reader
    _ at.reaches refl)
