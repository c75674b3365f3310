use Rattle.std.proofs.Common.{refl}
use Rattle.lb_syntax.specs.Tokens.{word, value_of, piece, pieces_after}
use Rattle.lb_worked.proofs.texts.bytes_of_no_token.Goals as goal

pub returns : goal.returns
unfolding word value_of piece pieces_after
returns c = record {
  offsets = refl;
  lines = refl;
  columns = refl;
}
