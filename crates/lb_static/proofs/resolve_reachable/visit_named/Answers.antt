-- The node that is found came up at the turn.
use Rattle.std.proofs.Common.{◌<◌, subst, sym}
use Rattle.std.proofs.lemmas.List.{length-map}
use Rattle.lb_syntax.specs.SourceView.{view_node}
use Rattle.lb_static.proofs.resolve_reachable.visit_named.Goals as goal

pub returns-in_ok-visit-in-Some-clause-start : goal.returns-in_ok-visit-in-Some-clause-start
returns-in_ok-visit-in-Some-clause-start c = record {
  place = c.in-Some.place;
  visited = c.in_ok-visit-in-Some.ensures.order;
  at = c.in_ok-visit-in-Some.ensures.turn;
  within = subst (λ n. c.in-Some.place < n)
      (sym (length-map c.args.source.now.nodes.items view_node)) c.in-Some.ensures.0;
  found = c.in-Some.ensures.1;
}
