use Rattle.std.proofs.Common.{arith, inl, inr}
use Rattle.lb_feed.specs.Windows.{IsLoadFault, left}
use Rattle.lb_feed.specs.declared.feed.LoadError.{LoadError}
use Rattle.lb_feed.proofs.Passing.{passes_on}
use Rattle.lb_feed.proofs.WindowReads.{fault_on, taken_none, taken_on}
use Rattle.lb_feed.proofs.window.Window.fill.Goals as goal

pub reads-init : goal.reads-init
reads-init g c =
    let made = c.in_ok-make_room.ensures in
    record {
      window = made.window;
      front = made.front;
      taken =
          taken_none c.args.self.now c.make_room.new.self _ made.read made.over made.ended
          made.text;
      goes = inl made.room;
    }

pub reads-preserved : goal.reads-preserved
reads-preserved g c =
    let before = c.reads.invariant in
    let read = c.in_ok-read_more.ensures in
    record {
      window = read.window;
      front = read.front;
      taken = taken_on _ _ _ _ _ _ before.taken read.taken;
      goes = elim read.goes [
        | inl over ↦ inr (inl over)
        | inr more ↦ inr (inr (omega (arith, more, before.taken.read.counted)))
      ];
    }

pub returns-in_err-read_more-clause-err : goal.returns-in_err-read_more-clause-err
returns-in_err-read_more-clause-err g c =
    let feed = c.args.feed.now in
    let after = c.read_more.new.feed in
    let old = left (g.F.Feed.coming feed) (g.F.Feed.given feed) (g.F.Feed.failures feed) in
    let new = left (g.F.Feed.coming after) (g.F.Feed.given after) (g.F.Feed.failures after) in
    let e = c.in_err-read_more.field-0.0 in
    let Is : LoadError → Type 0 = IsLoadFault c.args.self.now old new in
    passes_on c.from_residual-in_err-read_more.result e Is
    c.from_residual-in_err-read_more.ensures.1
    (fault_on _ _ _ _ new e c.reads.invariant.taken.read c.in_err-read_more.ensures.err)
