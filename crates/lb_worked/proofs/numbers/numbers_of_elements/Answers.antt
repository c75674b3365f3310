use Rattle.std.proofs.Common.{refl}
use Rattle.lb_check.specs.Elements.{program_elements, element_kinds, found_from, numbers_from}
use Rattle.lb_worked.proofs.numbers.numbers_of_elements.Goals as goal

pub returns : goal.returns
unfolding program_elements element_kinds found_from numbers_from
returns c = record {
  of_an_array = refl;
  of_an_iterated_node = refl;
  of_no_instance = refl;
  of_no_variable = refl;
  in_all = refl;
  of_a_slower_call = refl;
  of_one_size = refl;
  of_another_size = refl;
  of_the_observer = refl;
  kinds = refl;
  at_a_number = refl;
}
