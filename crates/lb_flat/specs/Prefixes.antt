-- Histories that are the beginning of others, and programs whose inputs determine their histories
-- instant by instant.
-- Source: this project's rule.
use Rattle.std.specs.Prelude.{◌≡◌, ℕ, ◌++◌, length, map, take}
use Rattle.lb_syntax.specs.Lists.{Every}
use Rattle.lb_static.specs.Instances.{Program, Instance, instances}
use Rattle.lb_static.specs.DataTypes.{variables}
use Rattle.lb_check.specs.Streams.{History}
use Rattle.lb_check.specs.Solutions.{Inputs, Solves, HasOneHistory}
use Rattle.lb_flat.specs.Flattening.{IsTrace}

-- at an instance, the clock and the streams of variables in `H'` are the first `n` instants of
-- those in `H`
pub record IsPrefixAt (H' H : History) (n : ℕ) (here : Instance) : Type 0 where
  pub ticks : H'.ticks here.path ≡ take n (H.ticks here.path)
  pub columns :
      Every (λ d. H'.columns here.path d.name ≡ map (take n) (H.columns here.path d.name))
      (variables here.node)

-- history `H'` is the first `n` instants of `H`, for all instances and variables of a program
abbrev pub IsPrefix : Program → History → History → ℕ → Type 0
IsPrefix P H' H n = Every (IsPrefixAt H' H n) (instances P)

-- a program has one history on each trace, and its history on the beginning of a trace is the
-- beginning of its history on the whole trace
pub record IsDetermined (P : Program) : Type 0 where
  pub one : (X : Inputs) → IsTrace P X → HasOneHistory P X
  pub prefix :
      (X Z : Inputs) (H H' : History) → Solves P (X ++ Z) H → Solves P X H' →
      IsPrefix P H' H (length X)
