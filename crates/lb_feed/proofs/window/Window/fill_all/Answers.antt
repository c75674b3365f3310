use Rattle.std.proofs.Common.{refl}
use Rattle.lb_feed.proofs.Passing.{passes_on}
use Rattle.lb_feed.specs.Windows.{IsLoadFault, left}
use Rattle.lb_feed.specs.declared.feed.LoadError.{LoadError}
use Rattle.lb_feed.proofs.WindowReads.{fault_on, taken_none, taken_on}
use Rattle.lb_feed.proofs.window.Window.fill_all.Goals as goal

pub reads-init : goal.reads-init
reads-init g c = record {
  window = c.requires.window;
  taken = taken_none c.args.self.now c.args.self.now _ refl refl refl refl;
}

pub reads-preserved : goal.reads-preserved
reads-preserved g c =
    let filled = c.in_ok-fill.ensures in
    record {
      window = filled.window;
      taken = taken_on _ _ _ _ _ _ c.reads.invariant.taken filled.taken;
    }

pub returns-in_err-fill-clause-err : goal.returns-in_err-fill-clause-err
returns-in_err-fill-clause-err g c =
    let feed = c.args.feed.now in
    let after = c.fill.new.feed in
    let old = left (g.F.Feed.coming feed) (g.F.Feed.given feed) (g.F.Feed.failures feed) in
    let new = left (g.F.Feed.coming after) (g.F.Feed.given after) (g.F.Feed.failures after) in
    let e = c.in_err-fill.field-0.0 in
    let Is : LoadError → Type 0 = IsLoadFault c.args.self.now old new in
    passes_on c.from_residual.result e Is c.from_residual.ensures.1
    (fault_on _ _ _ _ new e c.reads.invariant.taken.read c.in_err-fill.ensures.err)
