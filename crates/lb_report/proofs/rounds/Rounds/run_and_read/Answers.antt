-- The round of a state is run, while another is read that takes its place.
use Rattle.std.proofs.Common.{refl}
use Rattle.std.proofs.lemmas.Result.{err_from_is_err_and}
use Rattle.lb_trace.specs.declared.error.TraceError.TheVariants.{Memory}
use Rattle.lb_report.specs.declared.rounds.Halt.TheVariants.{Refused}
use Rattle.lb_report.proofs.PartReads.{early_roll, ok_both, part_early}
use Rattle.lb_report.proofs.PieceReads.{cut_goes_on, halted_here, memory_reading}
use Rattle.lb_report.proofs.PieceReads.{memory_roll, turn_cut, turn_read}
use Rattle.lb_report.proofs.PieceTexts.{pieces_text}
use Rattle.lb_report.proofs.rounds.Rounds.run_and_read.Goals as goal

pub returns-in_err-roll : goal.returns-in_err-roll
returns-in_err-roll g c =
    let p = c.args.self.now.runner.program.now.program.now in
    let elements = c.args.self.now.signature.now in
    let table = c.args.table.now in
    let h = c.in_err-roll.field-0.0 in
    let set = c.set-set.result.now in
    let bad = c.in_err-roll.ensures.err in
    let e = err_from_is_err_and c.from_residual.result c.from_residual.ensures.1 in
    rw (e.1, e.2) (record {
      why = λ rows part.
          halted_here p elements table rows c.args.window.now _ h
          (part_early p elements table rows c.args.state set h part c.set-set.ensures bad);
      on = early_roll c.args.state.judged.roll set h bad;
    })

pub returns-in_err-next : goal.returns-in_err-next
returns-in_err-next g c =
    let p = c.args.self.now.runner.program.now.program.now in
    let elements = c.args.self.now.signature.now in
    let h = Refused (Memory c.in_err-next.field-0.0) in
    let residual = c.from_residual-in_err-next in
    let e = err_from_is_err_and residual.result residual.ensures.1 in
    rw (e.1, e.2) (record {
      why = λ rows part.
          halted_here p elements c.args.table.now rows c.args.window.now _ h refl;
      on = tt;
    })

pub returns-in_default : goal.returns-in_default
returns-in_default g c = record {
  why = λ rows part.
      memory_reading c.args.self.now.runner.program.now.program.now c.args.self.now.signature.now
      c.args.table.now rows _ _ _ _ c.in_ok-next.next c.run_beside-found.new.round
      c.run_beside-found.result.1 c.out_of_memory.result c.run_beside-found.ensures.filling
      c.out_of_memory.ensures;
  on = memory_roll c.run_beside-found.result.1 c.out_of_memory.result c.out_of_memory.ensures;
}

pub returns-in-Ok-read : goal.returns-in-Ok-read
returns-in-Ok-read g c =
    let p = c.args.self.now.runner.program.now.program.now in
    let elements = c.args.self.now.signature.now in
    let table = c.args.table.now in
    let both = ok_both c.run_beside-found.result.0 _ _ c.in-Ok.ensures
    c.run_beside-found.ensures.verdicts in
    let filled = rw c.in-Ok-read.is at c.run_beside-found.ensures.filling in
    record {
      window = filled.window;
      state = record {
        roll = c.in_ok-roll.ensures.roll;
        round = filled.round;
        spare = c.requires.state.round.signature;
      };
      read = λ rows part.
          turn_read p elements table rows _ _ _ _ c.args.state _ c.in_ok-next.next both.0.items
          c.set-set.result.now part c.set-set.ensures c.in_ok-roll.ensures.ok both.2 both.1
          c.in_ok-next.ensures filled.read;
      failures = (pieces_text _ _ _ _ filled.read.more filled.read.pieces).failures;
      goes = filled.goes;
    }

pub returns-in-Err : goal.returns-in-Err
returns-in-Err g c =
    let p = c.args.self.now.runner.program.now.program.now in
    let elements = c.args.self.now.signature.now in
    let table = c.args.table.now in
    let both = ok_both c.run_beside-found.result.0 _ _ c.in-Ok.ensures
    c.run_beside-found.ensures.verdicts in
    let cut = rw c.in-Err.is at c.run_beside-found.ensures.filling in
    record {
      why = λ rows part.
          turn_cut p elements table rows _ _ _ _ c.args.state _ c.in_ok-next.next both.0.items
          c.set-set.result.now c.in-Err.cut c.reading_of.result part c.set-set.ensures
          c.in_ok-roll.ensures.ok both.2 both.1 c.in_ok-next.ensures cut c.reading_of.ensures;
      on = cut_goes_on p elements table _ _ _ _ c.in_ok-next.next _ c.in-Err.cut
          c.reading_of.result cut c.in_ok-roll.ensures.roll c.requires.state.round.signature
          c.reading_of.ensures;
    }
