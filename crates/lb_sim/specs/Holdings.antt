-- Holdings of code: their places, and the scalars that they hold.
-- This file says what data of the program mean.
use Rattle.std.specs.Prelude.{◌≡◌, ◌<◌, Bool}
use Rattle.lb_syntax.specs.declared.tree.Kind.{Kind}
use Rattle.lb_syntax.specs.declared.tree.Kind.TheVariants.{Bool as Bool_kind}
use Rattle.lb_check.specs.Scalars.{Scalar, Boolean}
use Rattle.lb_machine.specs.Listed.{listed}
use Rattle.lb_machine.specs.Meaning.{Lane, HasRun}
use Rattle.lb_machine.specs.declared.code.Code.{Code}
use Rattle.lb_sim.specs.Showing.{scalar_at, kind_of, truth_at, value_at, value_kind}
use Rattle.lb_sim.specs.declared.place.Value.{Value}
use Rattle.lb_sim.specs.declared.place.Value.TheVariants.{Truth, Negated, Number}
use Rattle.lb_sim.specs.declared.place.Holding.{Holding}
use Rattle.lb_sim.specs.declared.place.Place.{Place}
use Rattle.lb_sim.specs.declared.literal.Literal.{Literal}

-- a value stands at a place of the code
abbrev pub IsValueIn : Code → Value → Type 0
IsValueIn code (Truth p) = p.0 < code.planes
IsValueIn code (Negated p) = p.0 < code.planes
IsValueIn code (Number w) = w.0 < code.words

-- the places of a holding are places of the code
pub record IsIn (code : Code) (h : Holding) : Type 0 where
  pub value : IsValueIn code h.value
  pub nil : h.nil.0 < code.planes
  pub bad : h.bad.0 < code.planes

-- a holding is of kind `kind`, and holds `scalar` in each lane that has run the code
pub record IsFor (code : Code) (kind : Kind) (scalar : Lane → Scalar) (h : Holding) : Type 0 where
  pub kind_is : kind_of h ≡ kind
  pub means : (s : Lane) → HasRun (listed code.instructions) s → scalar_at s h ≡ scalar s

-- a value is of kind `kind`, and is `scalar` in each lane that has run the code
pub record IsValueFor (code : Code) (kind : Kind) (scalar : Lane → Scalar) (v : Value) :
    Type 0 where
  pub kind_is : value_kind v ≡ kind
  pub means : (s : Lane) → HasRun (listed code.instructions) s → value_at s v ≡ scalar s

-- a truth is `value` in each lane that has run the code
pub record IsTruthFor (code : Code) (value : Lane → Bool) (x : Literal) : Type 0 where
  pub within : x.plane.0 < code.planes
  pub means : (s : Lane) → HasRun (listed code.instructions) s → truth_at s x ≡ value s

-- value `v` is the truth `x`
pub record IsTruth (v : Value) (x : Literal) : Type 0 where
  pub kind_is : value_kind v ≡ Bool_kind
  pub shows : (s : Lane) → value_at s v ≡ Boolean (truth_at s x)
  pub within : (code : Code) → IsValueIn code v → x.plane.0 < code.planes
  pub stands : (code : Code) → x.plane.0 < code.planes → IsValueIn code v

-- the holding and the presence of a place are in the code
pub record IsPlaceIn (code : Code) (p : Place) : Type 0 where
  pub holding : IsIn code p.holding
  pub present : p.present.0 < code.planes
