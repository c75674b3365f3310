use Rattle.std.proofs.Common.{refl}
use Rattle.std.proofs.Common.{arith}
use Rattle.std.proofs.lemmas.Fmt.{decimal_digit}
use Rattle.lb_worked.proofs.static_values.signatures.Goals as goal

pub returns : goal.returns
returns c = record {
  elements_of_a_matrix =
      simp (
        decimal_digit 0 (omega arith),
        decimal_digit 1 (omega arith),
        decimal_digit 2
            (omega arith),
      );
  length_of_it = refl;
  number_5 = simp (decimal_digit 1 (omega arith), decimal_digit 2 (omega arith));
  number_6 = refl;
  size_by_a_constant = simp (decimal_digit 0 (omega arith), decimal_digit 1 (omega arith));
  kinds = refl;
}
