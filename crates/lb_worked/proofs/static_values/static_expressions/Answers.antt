use Rattle.std.proofs.Common.{refl}
use Rattle.lb_worked.proofs.static_values.static_expressions.Goals as goal

pub returns : goal.returns
returns c = record {
  cut_off_toward_zero = refl;
  sign_of_the_dividend = refl;
  negative_quotient = refl;
  no_value_past_the_greatest = refl;
  the_least = refl;
  no_negation_of_the_least = refl;
  no_quotient_of_the_least_by_minus_one = refl;
  no_remainder_by_zero = refl;
  left_to_right = refl;
  of_a_name = refl;
  of_an_unknown_name = refl;
}
