use Rattle.lb_check.proofs.programs.AcceptedElements.{kinds_at_numbers, length_kinds, input_numbers}
use Rattle.lb_check.proofs.programs.AcceptedElements.{input_kinds_taken}
use Rattle.lb_worked.proofs.numbers.kinds_and_inputs.Goals as goal

pub returns : goal.returns
returns c = record {
  as_many = λ P. length_kinds P;
  kind = λ P accepted here i d j. kinds_at_numbers P accepted here i d j;
  inputs = λ P accepted root there. input_numbers P root there accepted;
  kinds_of_inputs = λ P root there. input_kinds_taken P root there;
}
