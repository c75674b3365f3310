-- The relation between a flat program and a program that it stands for.
-- Source: this project's rule.
use Rattle.std.specs.Prelude.{◌≡◌, ℕ, ◌<◌, true, None, List, length, replicate, take}
use Rattle.lb_static.specs.DataTypes.{input_kinds}
use Rattle.lb_static.specs.Instances.{Program, Observer}
use Rattle.lb_static.specs.Instantiation.{static_refusal}
use Rattle.lb_check.specs.Acceptance.{check_refusal}
use Rattle.lb_check.specs.Elements.{program_elements, element_kinds}
use Rattle.lb_check.specs.Scalars.{Stream}
use Rattle.lb_check.specs.Solutions.{Inputs, Solves, AreSame}
use Rattle.lb_check.specs.Streams.{History}
use Rattle.lb_flat.specs.Fitting.{IsFitting}
use Rattle.lb_flat.specs.Flat.{FlatClock}
use Rattle.lb_flat.specs.FlatSolutions.{IsFlatSolution}
use Rattle.lb_flat.specs.Flattening.{history_of, IsWatched}
use Rattle.lb_flat.specs.TemporaryKinds.{kind_among}
use Rattle.lb_flat.specs.Judging.{FlatProgram}
use Rattle.lb_flat.specs.MemoryPlaces.{HasAllMemories}
use Rattle.lb_flat.specs.NumberedLayouts.{layout}

-- `f` stands for `P`: `P` breaks no rule; the inputs, and the elements of variables, which come
-- first, have the kinds of `P`; the clocks and kinds of all elements fit; each solution of `f` on a
-- trace gives a history that solves `P`, and each such history comes from a solution; the elements
-- that decide a verdict are watched; and the memories of all operators stand in `f`
pub record IsFlatOf (P : Program) (f : FlatProgram) : Type 0 where
  pub accepted : static_refusal P ≡ None
  pub checked : check_refusal P ≡ None
  pub signature : f.inputs ≡ input_kinds P
  pub variables : f.variables ≡ length (program_elements P)
  pub as_many : length f.kinds ≡ f.size
  pub variable_kinds : take f.variables f.kinds ≡ element_kinds P
  pub fitting : (K : ℕ → FlatClock) × IsFitting f.inputs K (kind_among f.kinds) f.equations
  pub solves :
      (X : Inputs) (F : List Stream) → IsFlatSolution f.inputs (kind_among f.kinds) f X F →
      Solves P X (history_of (layout P) X F)
  pub solved :
      (X : Inputs) (H : History) → Solves P X H →
      (F : List Stream) × IsFlatSolution f.inputs (kind_among f.kinds) f X F
      × AreSame P (history_of (layout P) X F) H
  pub watched :
      (X : Inputs) (F : List Stream) → IsFlatSolution f.inputs (kind_among f.kinds) f X F →
      (t : ℕ) → t < length X → IsWatched P f X F (history_of (layout P) X F) t
  pub memories : HasAllMemories P (layout P) (kind_among f.kinds) f

-- history `H` comes from streams that solve `f`, and an observer runs at every instant
pub record IsStreamed (P : Program) (f : FlatProgram) (X : Inputs) (H : History) : Type 0 where
  pub observer_runs : H.ticks Observer ≡ replicate (length X) true
  pub streams : List Stream
  pub solution : IsFlatSolution f.inputs (kind_among f.kinds) f X streams
  pub same : AreSame P (history_of (layout P) X streams) H
