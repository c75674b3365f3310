use Rattle.std.proofs.Common.{◌≡◌, take}
use Rattle.lb_static.specs.CalledNodes.{ids_of}
use Rattle.lb_static.proofs.resolve_reachable.node_ids.Given as goal

abbrev pub invariant-loop-turn : goal.invariant-loop-turn
invariant-loop-turn l = l.ids.items ≡ ids_of (take l.turn-index l.turns)
