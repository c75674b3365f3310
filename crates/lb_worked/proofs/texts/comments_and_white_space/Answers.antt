use Rattle.std.proofs.Common.{refl}
use Rattle.lb_syntax.specs.Tokens.{word, value_of, piece, pieces_after}
use Rattle.lb_worked.proofs.texts.comments_and_white_space.Goals as goal

pub returns : goal.returns
unfolding word value_of piece pieces_after
returns c = record {
  empty = refl;
  comments_do_not_nest = refl;
  start_after_a_comment = refl;
  start_between_comments = refl;
  opening_is_no_end = refl;
  at_its_opening = refl;
  unclosed_at_its_first_byte = refl;
  comment_before_minus = refl;
  any_byte_in_a_comment = refl;
  start_after_it = refl;
  a_byte_after_comments = refl;
}
