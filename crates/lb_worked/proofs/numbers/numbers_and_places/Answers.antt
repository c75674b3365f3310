use Rattle.lb_check.proofs.programs.AcceptedElements.{numbers_walk, numbers_width, number_is}
use Rattle.lb_check.proofs.programs.AcceptedElements.{number_of}
use Rattle.lb_worked.proofs.numbers.numbers_and_places.Goals as goal

pub returns : goal.returns
returns c = record {
  number = λ P accepted i x e. number_is P accepted i x e;
  place = λ P accepted p x k i e. number_of P accepted p x k i e;
  in_order = λ P accepted. numbers_walk P accepted;
  as_wide = λ P accepted here i. numbers_width P accepted here i;
}
