use Rattle.lb_feed.proofs.Passing.{passes_on}
use Rattle.lb_feed.specs.Windows.{IsLoadFault, left}
use Rattle.lb_feed.specs.declared.feed.LoadError.{LoadError}
use Rattle.lb_feed.proofs.WindowReads.{fault_on, read_none, read_on}
use Rattle.lb_feed.proofs.window.Window.drain.Goals as goal

pub reads-preserved : goal.reads-preserved
reads-preserved g c =
    let filled = c.in_ok-fill.ensures in
    let before = c.reads.invariant in
    let emptied = c.let_go_all.ensures in
    let here = c.reads.feed in
    let between = left (g.F.Feed.coming here) (g.F.Feed.given here) (g.F.Feed.failures here) in
    let none =
    read_none c.reads.self c.let_go_all.new.self between emptied.read emptied.over emptied.ended in
    record {
      within = filled.window.limit;
      read = read_on _ _ _ _ _ _ before.read (read_on _ _ _ _ _ _ none filled.taken.read);
    }

pub returns-in_err-fill-clause-err : goal.returns-in_err-fill-clause-err
returns-in_err-fill-clause-err g c =
    let feed = c.args.feed.now in
    let here = c.reads.feed in
    let after = c.fill.new.feed in
    let old = left (g.F.Feed.coming feed) (g.F.Feed.given feed) (g.F.Feed.failures feed) in
    let between = left (g.F.Feed.coming here) (g.F.Feed.given here) (g.F.Feed.failures here) in
    let new = left (g.F.Feed.coming after) (g.F.Feed.given after) (g.F.Feed.failures after) in
    let e = c.in_err-fill.field-0.0 in
    let Is : LoadError → Type 0 = IsLoadFault c.args.self.now old new in
    let emptied = c.let_go_all.ensures in
    let none =
    read_none c.reads.self c.let_go_all.new.self between emptied.read emptied.over emptied.ended in
    let first = read_on _ _ _ _ _ _ c.reads.invariant.read none in
    passes_on c.from_residual.result e Is c.from_residual.ensures.1
    (fault_on _ _ _ _ new e first c.in_err-fill.ensures.err)
