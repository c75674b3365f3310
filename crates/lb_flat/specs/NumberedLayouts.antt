-- The layout of a program by the numbers of its elements.
-- Source: this project's rule.
use Rattle.std.specs.Prelude.{ℕ, List}
use Rattle.lb_syntax.specs.Lists.{listed}
use Rattle.lb_syntax.specs.Tree.{Name}
use Rattle.lb_static.specs.Instances.{Program, Path, instances}
use Rattle.lb_check.specs.Elements.{found_from, numbers_of}
use Rattle.lb_check.specs.Needs.{WholeClock, Always as Always_whole, Where as Where_whole, serving}
use Rattle.lb_check.specs.Needs.{runs_on}
use Rattle.lb_flat.specs.Flat.{FlatClock, Always}
use Rattle.lb_flat.specs.Layouts.{Layout, where_signed}

-- a clock of the whole program, on numbers
abbrev pub numbered_clock : Program → WholeClock → FlatClock
numbered_clock P Always_whole = Always
numbered_clock P (Where_whole k p x sign) =
    where_signed (numbered_clock P k) sign (numbers_of P p x)

-- the numbers of the elements that serve for a variable in a clock, and none at a path that is no
-- instance
abbrev pub signs_of : Program → Path → Name → List ℕ
signs_of P p x =
    listed (λ s. let y = serving P p x in numbers_of P y.0 y.1) (found_from P 0 (instances P) p)

-- the layout of a program: the numbers of its elements, and the clocks of its instances
abbrev pub layout : Program → Layout
layout P = record {
  places = numbers_of P;
  signs = signs_of P;
  runs = λ p. numbered_clock P (runs_on P p);
}
