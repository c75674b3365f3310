use Rattle.std.proofs.Common.{ℕ, List}
use Rattle.lb_trace.specs.Readers.{Reaches}
use Rattle.lb_trace.specs.Spelling.{Record}
use Rattle.lb_report.specs.JudgedParts.{IsPartRead, IsState}
use Rattle.lb_report.proofs.QuotedReads.{ReadOn}
use Rattle.lb_report.proofs.rounds.Rounds.judge_records.Given as goal

-- the reader has given some records, which are read
abbrev pub invariant-records : goal.invariant-records
invariant-records g l = record {
  state : IsState l.self.signature.now l.state;
  on : (text : List ℕ) (given rows : List Record) → Reaches text given l.initial.reader
      → IsPartRead l.self.runner.program.now.program.now l.self.signature.now l.table rows
      l.initial.state
      → ReadOn l.self.runner.program.now.program.now l.self.signature.now l.table text given rows
      l.reader l.state;
}
