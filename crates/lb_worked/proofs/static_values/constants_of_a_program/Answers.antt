use Rattle.std.proofs.Common.{refl}
use Rattle.lb_worked.proofs.static_values.constants_of_a_program.Goals as goal

pub returns : goal.returns
returns c = record {
  named_before = refl;
  whole_number = refl;
  in_a_circle = refl;
  past_the_greatest = refl;
}
