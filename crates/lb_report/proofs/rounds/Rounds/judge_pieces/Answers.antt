-- One round after the other, until nothing is left or a piece has a quote.
use Rattle.std.proofs.Common.{ℕ, ◌∙◌, List, ap, arith, inl, inr, length}
use Rattle.lb_trace.specs.Spelling.{Record}
use Rattle.lb_feed.proofs.Passing.{passes_on}
use Rattle.lb_feed.specs.Windows.{left}
use Rattle.lb_report.specs.JudgedParts.{IsPartRead, IsReading, IsReadOn}
use Rattle.lb_report.specs.declared.rounds.Reading.{Reading}
use Rattle.lb_report.specs.declared.rounds.Reading.TheVariants.{Halted}
use Rattle.lb_report.proofs.PieceReads.{on_behind, pieces_halted, pieces_judged, pieces_more}
use Rattle.lb_report.proofs.PieceReads.{reading_on, rest_done, rest_front}
use Rattle.lb_report.proofs.rounds.Rounds.judge_pieces.Goals as goal

pub returns-in_err-state-clause-err : goal.returns-in_err-state-clause-err
returns-in_err-state-clause-err g c =
    let p = c.args.self.now.runner.program.now.program.now in
    let elements = c.args.self.now.signature.now in
    let table = c.args.table.now in
    let f = c.args.feed.now in
    let h = c.read_on.new.feed in
    let old = left (g.F.Feed.coming f) (g.F.Feed.given f) (g.F.Feed.failures f) in
    let new = left (g.F.Feed.coming h) (g.F.Feed.given h) (g.F.Feed.failures h) in
    let Is : Reading → Type 0 = λ reading. (rows : List Record) → IsPartRead p elements table rows
    c.args.begun
    → IsReading p elements table rows
    c.args.window.now c.read_on.new.window old new reading in
    passes_on c.from_residual.result c.in_err-state.field-0.0 Is c.from_residual.ensures.1
    c.in_err-state.ensures.why

pub returns-in_err-state-clause-on : goal.returns-in_err-state-clause-on
returns-in_err-state-clause-on g c =
    let f = c.args.feed.now in
    let h = c.read_on.new.feed in
    let old = left (g.F.Feed.coming f) (g.F.Feed.given f) (g.F.Feed.failures f) in
    let new = left (g.F.Feed.coming h) (g.F.Feed.given h) (g.F.Feed.failures h) in
    let Is : Reading → Type 0 = IsReadOn c.args.self.now.signature.now c.read_on.new.window old
    new in
    passes_on c.from_residual.result c.in_err-state.field-0.0 Is c.from_residual.ensures.1
    c.in_err-state.ensures.on

pub rounds-init : goal.rounds-init
rounds-init g c =
    let read = c.in_ok-state.ensures in
    record {
      window = read.window;
      state = read.state;
      failures = read.failures;
      known = read.read;
    }

pub rounds-preserved : goal.rounds-preserved
rounds-preserved g c =
    let p = c.args.self.now.runner.program.now.program.now in
    let elements = c.args.self.now.signature.now in
    let table = c.args.table.now in
    let before = c.rounds.invariant in
    let read = c.in_ok-state-2.ensures in
    record {
      window = read.window;
      state = read.state;
      failures = read.failures ∙ before.failures;
      known = λ rows part.
          let at = rest_front p elements table rows _ _ _ _ _ (before.known rows part)
          (c.is_done.ensures.left c.rounds-test.true) in
          pieces_more p elements table rows _ _ _ _ _ _ _ _ at (read.read _ at.part);
    }

pub rounds-smaller : goal.rounds-smaller
rounds-smaller g c =
    elim c.in_ok-state-2.ensures.goes [
      | inl less ↦ less
      | inr done ↦
          absurd (omega (
            arith,
            c.is_done.ensures.left c.rounds-test.true done.0,
            ap (length {A = ℕ}) done.1,
          ))
    ]

pub returns-in_err-state-2-clause-err : goal.returns-in_err-state-2-clause-err
returns-in_err-state-2-clause-err g c =
    let p = c.args.self.now.runner.program.now.program.now in
    let elements = c.args.self.now.signature.now in
    let table = c.args.table.now in
    let f = c.args.feed.now in
    let h = c.turn.new.feed in
    let old = left (g.F.Feed.coming f) (g.F.Feed.given f) (g.F.Feed.failures f) in
    let new = left (g.F.Feed.coming h) (g.F.Feed.given h) (g.F.Feed.failures h) in
    let e = c.in_err-state-2.field-0.0 in
    let Is : Reading → Type 0 = λ reading. (rows : List Record) → IsPartRead p elements table rows
    c.args.begun
    → IsReading p elements table rows
    c.args.window.now c.turn.new.window old new reading in
    passes_on c.from_residual-in_err-state-2.result e Is
    c.from_residual-in_err-state-2.ensures.1
    (λ rows part.
    let at = rest_front p elements table rows _ _ _ _ _ (c.rounds.invariant.known rows part)
    (c.is_done.ensures.left c.rounds-test.true) in
    reading_on p elements table rows _ _ _ _ _ _ _ e at (c.in_err-state-2.ensures.why _ at.part))

pub returns-in_err-state-2-clause-on : goal.returns-in_err-state-2-clause-on
returns-in_err-state-2-clause-on g c =
    let elements = c.args.self.now.signature.now in
    let f = c.args.feed.now in
    let k = c.rounds.feed in
    let h = c.turn.new.feed in
    let old = left (g.F.Feed.coming f) (g.F.Feed.given f) (g.F.Feed.failures f) in
    let mid = left (g.F.Feed.coming k) (g.F.Feed.given k) (g.F.Feed.failures k) in
    let new = left (g.F.Feed.coming h) (g.F.Feed.given h) (g.F.Feed.failures h) in
    let e = c.in_err-state-2.field-0.0 in
    let Is : Reading → Type 0 = IsReadOn elements c.turn.new.window old new in
    passes_on c.from_residual-in_err-state-2.result e Is
    c.from_residual-in_err-state-2.ensures.1
    (on_behind elements c.turn.new.window old mid new e c.rounds.invariant.failures
    c.in_err-state-2.ensures.on)

pub returns-in_err-last_round-clause-err : goal.returns-in_err-last_round-clause-err
returns-in_err-last_round-clause-err g c =
    let p = c.args.self.now.runner.program.now.program.now in
    let elements = c.args.self.now.signature.now in
    let table = c.args.table.now in
    let f = c.args.feed.now in
    let h = c.rounds.feed in
    let old = left (g.F.Feed.coming f) (g.F.Feed.given f) (g.F.Feed.failures f) in
    let new = left (g.F.Feed.coming h) (g.F.Feed.given h) (g.F.Feed.failures h) in
    let e = c.in_err-last_round.field-0.0 in
    let Is : Reading → Type 0 = λ reading. (rows : List Record) → IsPartRead p elements table rows
    c.args.begun
    → IsReading p elements table rows
    c.args.window.now c.rounds.window old new reading in
    passes_on c.from_residual-in_err-last_round.result (Halted e) Is
    c.from_residual-in_err-last_round.ensures.1
    (λ rows part.
    pieces_halted p elements table rows _ _ _ _ _ e
    (λ rs q. c.in_err-last_round.ensures.err table rs q) (c.rounds.invariant.known rows part))

pub returns-clause-ok : goal.returns-clause-ok
returns-clause-ok g c = λ rows part.
    let p = c.args.self.now.runner.program.now.program.now in
    let elements = c.args.self.now.signature.now in
    let table = c.args.table.now in
    pieces_judged p elements table rows _ _ _ _ _ _
    (λ rs q. c.in_ok-last_round.ensures.ok table rs q)
    (rest_done p elements table rows _ _ _ _ _ (c.rounds.invariant.known rows part)
    (c.is_done.ensures.over c.rounds-test.false) (c.is_done.ensures.nothing c.rounds-test.false))
