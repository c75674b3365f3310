use Rattle.std.proofs.Common.{◌-◌, length}
use Rattle.lb_syntax.proofs.Pieces.{IsFound}
use Rattle.lb_syntax.proofs.lex.lex.Given as goal

abbrev pub invariant-loop-at : goal.invariant-loop-at
invariant-loop-at l = IsFound l.text l.at l.tokens.items l.starts.items

abbrev pub decreases-loop-at : goal.decreases-loop-at
decreases-loop-at l = length l.text - l.at
