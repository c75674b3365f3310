-- A piece is read to its end, or up to a record that is not added; or it has a quote.
use Rattle.std.proofs.Common.{◌≡◌, ◌∙◌, false, rules, take}
use Rattle.std.proofs.lemmas.Result.{err_from_is_err_and}
use Rattle.lb_trace.specs.Plain.{has_quote}
use Rattle.lb_feed.specs.Windows.{text_in}
use Rattle.lb_report.proofs.PieceReads.{cut_sound, piece_added, piece_halted, round_none}
use Rattle.lb_report.proofs.PieceTexts.{ended_some, piece_goes}
use Rattle.lb_report.proofs.rounds.Rounds.read_piece.Goals as goal

pub returns-in_err-count : goal.returns-in_err-count
returns-in_err-count g c =
    let p = err_from_is_err_and c.from_residual.result c.from_residual.ensures.1 in
    rw (p.1, p.2) (record { read = c.in_err-count.ensures.err; sound = tt })

pub returns-then-not-is_plain : goal.returns-then-not-is_plain
returns-then-not-is_plain g c = record {
  read = round_none c.args.table.now _ _ _ _ c.args.round.now c.in_ok-count.ensures.taken;
  sound = (c.requires.round, c.in_ok-count.ensures.window);
}

pub returns-in-Err : goal.returns-in-Err
returns-in-Err g c =
    let took = c.in_ok-count.ensures in
    let plain : has_quote (take c.in_ok-count.count c.text.result.now) ≡ false = search rules in
    record {
      read = piece_halted c.args.table.now _ _ _ _ c.args.round.now c.add_lines.new.self
          c.text.result.now c.in_ok-count.count took.taken c.text.ensures took.whole took.ended
          plain c.in-Err.ensures.signature c.in-Err.stopped.rest.now c.cut_at.result
          c.in-Err.ensures.err c.cut_at.ensures;
      sound = cut_sound c.args.self.now.signature.now _ c.add_lines.new.self
          c.in-Err.stopped.rest.now c.cut_at.result c.cut_at.ensures;
    }

pub returns : goal.returns
returns g c =
    let took = c.in_ok-count.ensures in
    let w = c.next_piece.new.window in
    let gone = c.let_go.ensures in
    let added = c.in_default.ensures in
    let plain : has_quote (take c.in_ok-count.count c.text.result.now) ≡ false = search rules in
    record {
      window = gone.window;
      round = record {
        signature = added.signature ∙ c.requires.round.signature;
        known = added.names;
      };
      read = piece_added c.args.table.now _ _ _ _ c.args.round.now c.add_lines.new.self
          c.text.result.now c.in_ok-count.count took.taken c.text.ensures took.whole took.ended
          plain added.signature c.let_go.new.self gone.rest gone.read gone.over gone.ended
          added.ok;
      goes = piece_goes c.args.window.now w c.let_go.new.self _ _ c.in_ok-count.count
          c.requires.window took.window gone.window took.taken gone.rest gone.read gone.over
          took.within took.whole
          (λ still. ended_some (text_in w) c.in_ok-count.count (took.ended still));
    }
