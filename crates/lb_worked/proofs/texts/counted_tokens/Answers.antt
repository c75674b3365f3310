use Rattle.std.proofs.Common.{refl}
use Rattle.lb_syntax.specs.Limits.{runs}
use Rattle.lb_syntax.specs.Tokens.{word, value_of, piece, pieces_after}
use Rattle.lb_worked.proofs.texts.counted_tokens.Goals as goal

pub returns : goal.returns
unfolding word value_of piece pieces_after runs
returns c = record {
  of_equations = refl;
  semicolon_in_brackets = refl;
  depth_is_not_negative = refl;
  depth_ends_at_let = refl;
}
