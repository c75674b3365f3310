-- The worked examples of the levels.
use Rattle.std.proofs.Common.{◌≡◌, List, [], ◌∷◌, Some, None, refl, ap, sym, ◌∙◌}
use Rattle.lb_syntax.specs.declared.token.Mark.TheVariants.{Less}
use Rattle.lb_syntax.specs.declared.token.Token.{Token}
use Rattle.lb_syntax.specs.declared.token.Token.TheVariants.{Literal as number, Mark as mark}
use Rattle.lb_syntax.specs.Tokens.{word, value_of, piece, pieces_after}
use Rattle.lb_syntax.specs.Tree.{Expr}
use Rattle.lb_syntax.specs.Readers.{expect, name_at}
use Rattle.lb_syntax.specs.Reading.{expression_at, static_at, tree_at, level_at, first, named}
use Rattle.lb_syntax.specs.Reading.{marked, climb, takes, choice, until, infix_at, list_until}
use Rattle.lb_syntax.specs.Reading.{list_at, tail_at, clock_at, clock_name_at, operands, items}
use Rattle.lb_syntax.specs.Reading.{iterate, iterator_of, applied_at, operator_at, separator}
use Rattle.lb_syntax.specs.Reading.{static_tree, static_level_at, static_first, static_takes}
use Rattle.lb_syntax.specs.Reading.{arguments_at, size_at, static_call, statics_at}
use Rattle.lb_worked.specs.WorkedLevels as worked
use Rattle.lb_worked.specs.WorkedLevels.{SpellsOnly, SpellsNone, AreLevels, tokens_of}
use Rattle.lb_syntax.proofs.Readers.{some_is}
use Rattle.lb_syntax.proofs.Ends.{ends_here}
use Rattle.lb_syntax.proofs.Sound.{expression_read, static_read}
use Rattle.lb_syntax.proofs.Complete.{expression_reads}

only : (e : Expr) (ts : List Token) → expression_at ts ≡ Some (e, []) → SpellsOnly e ts
only e ts h = (
  expression_read ts (e, []) h,
  λ other s. ap (λ z. z.0)
      (some_is (sym h ∙ expression_reads other ts [] s ends_here)),
)

none : (ts : List Token) → expression_at ts ≡ None → SpellsNone ts
none ts h other s = let h' = expression_reads other ts [] s ends_here in absurd cc

-- tokens spell no expression if the reading of one leaves some of them
partly : (e : Expr) (t : Token) (rest ts : List Token) → expression_at ts ≡ Some (e, t ∷ rest) →
    SpellsNone ts
partly e t rest ts h other s =
    let left = ap (λ z. z.1) (some_is (sym h ∙ expression_reads other ts [] s ends_here)) in
    absurd cc

pub are_levels : AreLevels
unfolding expression_at static_at tree_at level_at first named marked climb takes choice until
    infix_at list_until list_at tail_at clock_at clock_name_at operands items iterate iterator_of
    applied_at operator_at separator static_tree static_level_at static_first static_takes
    arguments_at size_at static_call statics_at expect name_at word value_of piece pieces_after
are_levels = record {
  choice_takes_the_rest =
      only worked.choice_takes_the_rest_tree worked.choice_takes_the_rest_tokens refl;
  join_is_last = only worked.join_is_last_tree worked.join_is_last_tokens refl;
  arrow_before_choice = only worked.arrow_before_choice_tree worked.arrow_before_choice_tokens refl;
  not_before_equal = only worked.not_before_equal_tree worked.not_before_equal_tokens refl;
  pre_before_when = only worked.pre_before_when_tree worked.pre_before_when_tokens refl;
  minus_to_the_left = only worked.minus_to_the_left_tree worked.minus_to_the_left_tokens refl;
  implies_to_the_right =
      only worked.implies_to_the_right_tree worked.implies_to_the_right_tokens refl;
  or_and_xor_on_one_level =
      only worked.or_and_xor_on_one_level_tree worked.or_and_xor_on_one_level_tokens refl;
  map_may_be_called = only worked.map_may_be_called_tree worked.map_may_be_called_tokens refl;
  map_of_an_operator = only worked.map_of_an_operator_tree worked.map_of_an_operator_tokens refl;
  comparisons_do_not_chain =
      partly worked.comparison_tree (mark Less) (number 3 ∷ []) worked.comparison_chain_tokens refl;
  map_of_a_number = none worked.map_of_a_number_tokens refl;
  static_minus = static_read worked.static_minus_tokens (worked.static_minus_tree, []) refl;
  least = only worked.least_tree (tokens_of "-2147483647 - 1") refl;
  and_before_xor = only worked.and_before_xor_tree (tokens_of "a or b xor c and d") refl;
  products_before_sums =
      only worked.products_before_sums_tree (tokens_of "1 - 2 * 3 mod 4 - 5") refl;
  minus_before_when = only worked.minus_before_when_tree (tokens_of "-a when not (c)") refl;
  when_to_the_left = only worked.when_to_the_left_tree (tokens_of "a when c when not d") refl;
  copies_to_the_left = only worked.copies_to_the_left_tree (tokens_of "0 ^ n ^ (1 - -2)") refl;
  static_quotients = only worked.static_quotients_tree (tokens_of "a ^ (n div 2 / 3)") refl;
  static_arguments =
      only worked.static_arguments_tree (tokens_of "f<<1, n; -3 * 2>>(a, b)") refl;
  no_arguments = only worked.no_arguments_tree (tokens_of "f()") refl;
}
