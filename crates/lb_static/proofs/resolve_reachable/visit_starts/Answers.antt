-- The starts that came up are those of the program.
use Rattle.std.proofs.Common.{ap}
use Rattle.std.specs.Prelude.{option_map}
use Rattle.lb_syntax.specs.SourceView.{view_source}
use Rattle.lb_static.proofs.ReachedPlaces.{one_start, two_starts}
use Rattle.lb_static.proofs.resolve_reachable.visit_starts.Goals as goal

pub returns-in-None-clause-starts : goal.returns-in-None-clause-starts
returns-in-None-clause-starts c =
    one_start (view_source c.args.source.now) c.args.node.now
    (option_map (λ o. o.now) c.args.observer) c.args.work_list.now.order
    c.visit_named.new.work_list.order
    c.in_ok-root.root
    (ap (option_map (λ o. o.now)) c.in-None.is) c.requires.none c.requires.once
    c.in_ok-root.ensures.start

pub returns-in_ok-observer-in-Some-clause-starts :
    goal.returns-in_ok-observer-in-Some-clause-starts
returns-in_ok-observer-in-Some-clause-starts c =
    two_starts (view_source c.args.source.now) c.args.node.now c.in-Some.name.now
    (option_map (λ o. o.now) c.args.observer) c.args.work_list.now.order
    c.visit_named.new.work_list.order
    c.visit_named-in-Some.new.work_list.order c.in_ok-root.root c.in_ok-observer-in-Some.observer
    (ap (option_map (λ o. o.now)) c.in-Some.is) c.requires.none c.requires.once
    c.in_ok-root.ensures.start c.in_ok-observer-in-Some.ensures.start
