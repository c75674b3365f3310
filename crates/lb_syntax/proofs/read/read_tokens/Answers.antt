use Rattle.std.proofs.Common.{rules, arith}
use Rattle.std.proofs.lemmas.Grind.{common_steps}
use Rattle.lb_syntax.proofs.read.read_tokens.Goals as goal

pub returns-then-text-gt-MAX_TEXT : goal.returns-then-text-gt-MAX_TEXT
returns-then-text-gt-MAX_TEXT c = search rules

pub returns-in-Some : goal.returns-in-Some
returns-in-Some c = grind (arith, common_steps)
