-- The history of a program that the streams of a flat program give, and the elements that decide a
-- verdict.
-- Source: this project's rule.
use Rattle.std.specs.Prelude.{◌≡◌, ℕ, List, [], ◌∷◌, map, true}
use Rattle.lb_syntax.specs.Lists.{Every}
use Rattle.lb_static.specs.Instances.{Program}
use Rattle.lb_static.specs.DataTypes.{input_kinds}
use Rattle.lb_check.specs.Scalars.{Stream}
use Rattle.lb_check.specs.Streams.{History}
use Rattle.lb_check.specs.Solutions.{Inputs, is_row}
use Rattle.lb_check.specs.Verdicts.{is_bad, is_nil, is_false, some_at, is_fault, is_undefined}
use Rattle.lb_check.specs.Verdicts.{is_failed, is_violated}
use Rattle.lb_flat.specs.Flat.{column, instants}
use Rattle.lb_flat.specs.Layouts.{Layout}
use Rattle.lb_flat.specs.Judging.{FlatProgram, named_elements, truth_elements}

-- the history that the streams of a flat program stand for
abbrev pub history_of : Layout → Inputs → List Stream → History
history_of Y X F = record {
  ticks = λ p. instants X F (Y.runs p);
  columns = λ p x. map (column X F) (Y.places p x);
}

-- a trace has scalars of the inputs' kinds
abbrev pub IsTrace : Program → Inputs → Type 0
IsTrace P X = Every (λ row. is_row (input_kinds P) row ≡ true) X

-- a fault, nil where a truth is wanted, a false assertion and a false property show at the elements
-- that are watched
pub record IsWatched (P : Program) (f : FlatProgram) (X : Inputs) (F : List Stream)
    (H : History) (t : ℕ) : Type 0 where
  pub fault :
      is_fault P H t ≡ some_at is_bad t (map (column X F) (named_elements f))
  pub undefined :
      is_undefined P H t ≡ some_at is_nil t (map (column X F) (truth_elements f))
  pub failed : is_failed P H t ≡ some_at is_false t (map (column X F) f.asserted)
  pub violated : is_violated P H t ≡ some_at is_false t (map (column X F) (f.property ∷ []))
