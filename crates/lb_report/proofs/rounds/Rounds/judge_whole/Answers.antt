-- The header of a text, and then the records behind it.
use Rattle.std.proofs.Common.{[], ◌∷◌, inr}
use Rattle.csv.specs.Records.{fields_of}
use Rattle.lb_trace.proofs.Readings.{no_header, other_header}
use Rattle.lb_report.proofs.QuotedTexts.{whole_judged, whole_refused}
use Rattle.lb_report.proofs.rounds.Rounds.judge_whole.Goals as goal

pub returns-then-not-branch-clause-err : goal.returns-then-not-branch-clause-err
returns-then-not-branch-clause-err g c = λ short.
    let none = rw c.if-not-branch.true at
    (c.in_ok-next.ensures.goes c.args.text.now [] c.reader_of-reader.ensures) in
    inr (no_header c.args.self.now.signature.now c.args.text.now short none)

pub returns-in_default-clause-err : goal.returns-in_default-clause-err
returns-in_default-clause-err g c = λ short.
    let at = rw c.if-not-branch.false at
    (c.in_ok-next.ensures.goes c.args.text.now [] c.reader_of-reader.ensures) in
    let other = rw c.in_default.is at c.in_ok-table.ensures in
    inr (other_header c.args.self.now.signature.now c.args.text.now (fields_of c.next.new.entry)
    c.next.new.reader at short other)

pub returns-in-Ok-clause-ok : goal.returns-in-Ok-clause-ok
returns-in-Ok-clause-ok g c =
    let p = c.args.self.now.runner.program.now.program.now in
    let elements = c.args.self.now.signature.now in
    let at = rw c.if-not-branch.false at
    (c.in_ok-next.ensures.goes c.args.text.now [] c.reader_of-reader.ensures) in
    let headed = rw c.in-Some.is at c.in_ok-table.ensures in
    whole_judged p elements c.in-Some.table c.args.text.now (fields_of c.next.new.entry)
    c.in-Ok.judged headed.0 headed.1
    (c.in-Ok.ensures.ok c.args.text.now (fields_of c.next.new.entry ∷ []) [] at
    (c.in_ok-state.ensures.part c.in-Some.table))

pub returns-clause-err : goal.returns-clause-err
returns-clause-err g c =
    let elements = c.args.self.now.signature.now in
    let at = rw c.if-not-branch.false at
    (c.in_ok-next.ensures.goes c.args.text.now [] c.reader_of-reader.ensures) in
    let headed = rw c.in-Some.is at c.in_ok-table.ensures in
    whole_refused elements c.in-Some.table c.args.text.now (fields_of c.next.new.entry)
    c.in-Err.halt c.refusal.result headed.0 headed.1
    (c.in-Err.ensures.err c.args.text.now (fields_of c.next.new.entry ∷ []) [] at
    (c.in_ok-state.ensures.part c.in-Some.table))
    c.refusal.ensures.last
