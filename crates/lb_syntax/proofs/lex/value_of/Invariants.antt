use Rattle.std.proofs.Common.{◌≡◌, take}
use Rattle.lb_syntax.specs.Tokens.{value_of}
use Rattle.lb_syntax.proofs.lex.value_of.Given as goal

abbrev pub invariant-loop-digit : goal.invariant-loop-digit
invariant-loop-digit l = l.value ≡ value_of (take l.digit-index l.digits)
