use Rattle.std.proofs.Common.{refl}
use Rattle.lb_syntax.specs.Tokens.{word, value_of, piece, pieces_after}
use Rattle.lb_worked.proofs.texts.words_and_symbols.Goals as goal

pub returns : goal.returns
unfolding word value_of piece pieces_after
returns c = record {
  longest_symbols = refl;
  starts_of_symbols = refl;
  literals = refl;
  starts_of_literals = refl;
  names = refl;
  starts_of_names = refl;
  reserved = refl;
  symbols = refl;
  starts_of_them = refl;
}
