use Rattle.std.proofs.Common.{◌≡◌, [], ◌∷◌, drop}
use Rattle.lb_syntax.specs.Tokens.{through}
use Rattle.lb_syntax.proofs.Begins.{counted_on}
use Rattle.lb_syntax.proofs.lex.through.Given as goal

abbrev pub invariant-loop-at : goal.invariant-loop-at
invariant-loop-at l =
    let pair = l.first ∷ l.second ∷ [] in
    through pair l.text ≡ counted_on l.at (through pair (drop l.at l.text))
