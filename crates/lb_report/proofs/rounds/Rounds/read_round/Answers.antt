-- One piece after the other is read into a round.
use Rattle.std.proofs.lemmas.Result.{err_from_is_err_and}
use Rattle.lb_feed.specs.Windows.{left}
use Rattle.lb_report.proofs.PieceReads.{cut_on, round_front, round_on}
use Rattle.lb_report.proofs.PieceTexts.{goes_on, pieces_text}
use Rattle.lb_report.proofs.rounds.Rounds.read_round.Goals as goal

pub returns-in_err-read_piece : goal.returns-in_err-read_piece
returns-in_err-read_piece g c =
    let p = err_from_is_err_and c.from_residual.result c.from_residual.ensures.1 in
    rw (p.1, p.2) c.in_err-read_piece.ensures

pub pieces-init : goal.pieces-init
pieces-init g c =
    let first = c.in_ok-read_piece.ensures in
    record {
      window = first.window;
      round = first.round;
      failures = (pieces_text _ _ _ _ first.read.more first.read.pieces).failures;
      read = first.read;
      goes = first.goes;
    }

pub pieces-preserved : goal.pieces-preserved
pieces-preserved g c =
    let f = c.args.feed.now in
    let h = c.pieces.feed in
    let k = c.read_piece-in-pieces.new.feed in
    let old = left (g.F.Feed.coming f) (g.F.Feed.given f) (g.F.Feed.failures f) in
    let mid = left (g.F.Feed.coming h) (g.F.Feed.given h) (g.F.Feed.failures h) in
    let new = left (g.F.Feed.coming k) (g.F.Feed.given k) (g.F.Feed.failures k) in
    let a = c.args.window.now in
    let b = c.pieces.window in
    let w = c.read_piece-in-pieces.new.window in
    let before = c.pieces.invariant in
    let next = c.in_ok-read_piece-2.ensures in
    let some = c.is_done.ensures.left c.pieces-test.true in
    let at = round_front c.args.table.now a b old mid c.args.round.now c.pieces.round before.read
    some in
    let all = round_on c.args.table.now a b w old mid new c.args.round.now c.pieces.round
    c.read_piece-in-pieces.new.round at next.read in
    record {
      window = next.window;
      round = next.round;
      failures = (pieces_text a w old new all.more all.pieces).failures;
      read = all;
      goes = goes_on a b w before.goes next.goes some;
    }

pub returns-in_err-read_piece-2 : goal.returns-in_err-read_piece-2
returns-in_err-read_piece-2 g c =
    let f = c.args.feed.now in
    let h = c.pieces.feed in
    let k = c.read_piece-in-pieces.new.feed in
    let old = left (g.F.Feed.coming f) (g.F.Feed.given f) (g.F.Feed.failures f) in
    let mid = left (g.F.Feed.coming h) (g.F.Feed.given h) (g.F.Feed.failures h) in
    let new = left (g.F.Feed.coming k) (g.F.Feed.given k) (g.F.Feed.failures k) in
    let a = c.args.window.now in
    let b = c.pieces.window in
    let w = c.read_piece-in-pieces.new.window in
    let r = c.args.round.now in
    let s = c.pieces.round in
    let t = c.read_piece-in-pieces.new.round in
    let at = round_front c.args.table.now a b old mid r s c.pieces.invariant.read
    (c.is_done.ensures.left c.pieces-test.true) in
    let e = c.in_err-read_piece-2.field-0.0 in
    let residual = c.from_residual-in_err-read_piece-2 in
    let p = err_from_is_err_and residual.result residual.ensures.1 in
    rw (p.1, p.2) (record {
      read = cut_on c.args.table.now a b w old mid new r s t at e
          c.in_err-read_piece-2.ensures.read;
      sound = c.in_err-read_piece-2.ensures.sound;
    })

pub returns : goal.returns
returns g c =
    let all = c.pieces.invariant in
    record { window = all.window; round = all.round; read = all.read; goes = all.goes }
