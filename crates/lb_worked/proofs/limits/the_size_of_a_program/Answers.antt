use Rattle.std.proofs.Common.{[], ◌∷◌, refl}
use Rattle.lb_worked.proofs.SolvesTest.{by_history}
use Rattle.lb_check.specs.Scalars.{Integer, Boolean, Stream}
use Rattle.lb_check.specs.Streams.{History}
use Rattle.lb_check.specs.declared.verdict.Verdict.TheVariants.{Passed}
use Rattle.std.specs.Prelude.{pos, Some}
use Rattle.std.specs.Prelude.{true, if◌then◌else◌, replicate, codes}
use Rattle.std.specs.Str.{bytes_eq}
use Rattle.lb_worked.proofs.limits.the_size_of_a_program.Goals as goal

abbrev ones : Stream
ones = Some (Integer (pos 1)) ∷ []

-- x is 1, ok is true, and A is 4,096 times 1
abbrev told : History
told = record {
  ticks = λ p. true ∷ [];
  columns = λ p y.
      if bytes_eq y (codes "A") then replicate 4096 ones else
      if bytes_eq y (codes "x") then ones ∷ [] else
      (Some (Boolean true) ∷ []) ∷ [];
}

pub returns : goal.returns
returns c = record {
  size_of_one_comparison = refl;
  size_of_thirteen = refl;
  size_of_fourteen = refl;
  of_two_results = refl;
  of_current_and_when = refl;
  of_fby = refl;
  thirteen_are_small_enough = refl;
  fourteen_are_too_many = refl;
  thirteen_pass = by_history _ _ Passed told refl refl;
}
