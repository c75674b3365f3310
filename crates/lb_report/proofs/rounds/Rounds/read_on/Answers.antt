-- A round is read behind the records of a state.
use Rattle.std.proofs.Common.{refl}
use Rattle.lb_report.proofs.PieceReads.{cut_goes_on, cut_reading, part_read}
use Rattle.lb_report.proofs.PieceTexts.{pieces_text}
use Rattle.lb_report.proofs.rounds.Rounds.read_on.Goals as goal

pub returns-in-Ok : goal.returns-in-Ok
returns-in-Ok g c =
    let filled = c.in-Ok.ensures in
    let state = c.requires.state in
    record {
      window = filled.window;
      state = record { roll = state.roll; round = filled.round; spare = state.spare };
      read = λ rows part.
          part_read c.args.self.now.runner.program.now.program.now c.args.self.now.signature.now
          c.args.table.now rows _ _ _ _ c.args.state _ part refl filled.read;
      failures = (pieces_text _ _ _ _ filled.read.more filled.read.pieces).failures;
      goes = filled.goes;
    }

pub returns-in-Err : goal.returns-in-Err
returns-in-Err g c =
    let p = c.args.self.now.runner.program.now.program.now in
    let elements = c.args.self.now.signature.now in
    let table = c.args.table.now in
    record {
      why = λ rows part.
          cut_reading p elements table rows _ _ _ _ c.args.state _ c.in-Err.cut
          c.reading_of.result part refl c.in-Err.ensures.read c.reading_of.ensures;
      on = cut_goes_on p elements table _ _ _ _ c.args.state.round _ c.in-Err.cut
          c.reading_of.result c.in-Err.ensures c.requires.state.roll c.requires.state.spare
          c.reading_of.ensures;
    }
