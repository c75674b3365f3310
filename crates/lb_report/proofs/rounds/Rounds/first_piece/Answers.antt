-- Pieces are read until one has a line, or all that there is.
use Rattle.lb_feed.proofs.Passing.{passes_on}
use Rattle.lb_feed.specs.Windows.{IsLoadFault, left}
use Rattle.lb_feed.specs.declared.feed.LoadError.{LoadError}
use Rattle.lb_feed.proofs.WindowReads.{fault_on, taken_on}
use Rattle.lb_report.proofs.rounds.Rounds.first_piece.Goals as goal

pub pieces-init : goal.pieces-init
pieces-init g c =
    let filled = c.in_ok-fill.ensures in
    record { window = filled.window; taken = filled.taken }

pub pieces-preserved : goal.pieces-preserved
pieces-preserved g c =
    let filled = c.in_ok-fill-2.ensures in
    record {
      window = filled.window;
      taken = taken_on _ _ _ _ _ _
          (taken_on _ _ _ _ _ _ c.pieces.invariant.taken c.in_ok-count.ensures.taken)
          filled.taken;
    }

pub returns-in_err-count-clause-err : goal.returns-in_err-count-clause-err
returns-in_err-count-clause-err g c =
    let feed = c.args.feed.now in
    let after = c.next_piece.new.feed in
    let old = left (g.F.Feed.coming feed) (g.F.Feed.given feed) (g.F.Feed.failures feed) in
    let new = left (g.F.Feed.coming after) (g.F.Feed.given after) (g.F.Feed.failures after) in
    let e = c.in_err-count.field-0.0 in
    let Is : LoadError → Type 0 = IsLoadFault c.args.window.now old new in
    passes_on c.from_residual-in_err-count.result e Is c.from_residual-in_err-count.ensures.1
    (fault_on _ _ _ _ new e c.pieces.invariant.taken.read c.in_err-count.ensures.err)

pub returns-in_err-fill-2-clause-err : goal.returns-in_err-fill-2-clause-err
returns-in_err-fill-2-clause-err g c =
    let feed = c.args.feed.now in
    let after = c.fill-in-pieces.new.feed in
    let old = left (g.F.Feed.coming feed) (g.F.Feed.given feed) (g.F.Feed.failures feed) in
    let new = left (g.F.Feed.coming after) (g.F.Feed.given after) (g.F.Feed.failures after) in
    let e = c.in_err-fill-2.field-0.0 in
    let Is : LoadError → Type 0 = IsLoadFault c.args.window.now old new in
    let read = taken_on _ _ _ _ _ _ c.pieces.invariant.taken c.in_ok-count.ensures.taken in
    passes_on c.from_residual-in_err-fill-2.result e Is c.from_residual-in_err-fill-2.ensures.1
    (fault_on _ _ _ _ new e read.read c.in_err-fill-2.ensures.err)

pub returns-then-is_over-clause-taken : goal.returns-then-is_over-clause-taken
returns-then-is_over-clause-taken g c =
    taken_on _ _ _ _ _ _ c.pieces.invariant.taken c.in_ok-count.ensures.taken
