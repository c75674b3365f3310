-- The places before the code of the equations: inputs, constants and memories.
-- Source: this project's rule.
use Rattle.std.specs.Prelude.{◌≡◌, List, length, map, All}
use Rattle.lb_syntax.specs.declared.tree.Kind.{Kind}
use Rattle.lb_syntax.specs.declared.tree.Kind.TheVariants.{Bool as Bool_kind}
use Rattle.lb_syntax.specs.Lists.{Every}
use Rattle.lb_flat.specs.Fitting.{IsOf}
use Rattle.lb_flat.specs.Flat.{Operation, Constant, FirstThen, Previous, Latest, FlatEquation}
use Rattle.lb_flat.specs.TemporaryKinds.{kind_among}
use Rattle.lb_flat.specs.Judging.{FlatProgram}
use Rattle.lb_machine.specs.Meaning.{Lane}
use Rattle.lb_machine.specs.declared.code.Code.{Code}
use Rattle.lb_sim.specs.Holdings.{IsIn, IsValueIn}
use Rattle.lb_sim.specs.Showing.{scalar_at, kind_of, value_kind, IsPlain}
use Rattle.lb_sim.specs.States.{kept_at}
use Rattle.lb_sim.specs.declared.place.Holding.{Holding}
use Rattle.lb_sim.specs.declared.place.Value.{Value}

-- the holding of a memory of `->`: a truth value that is never nil and no fault
pub record IsFlagHolding (h : Holding) : Type 0 where
  pub kind_is : kind_of h ≡ Bool_kind
  pub plain : IsPlain h.value
  pub no_nil : h.nil.0 ≡ 0
  pub no_bad : h.bad.0 ≡ 0

-- the kinds of a constant and of a memory: each holding has the kind of its element, if the scalar
-- has it too; the memory of `->` is a flag
abbrev pub HasKinds : Kind → Operation → (constant kept : Holding) → Type 0
HasKinds kind (Constant v) constant kept = IsOf kind v → kind_of constant ≡ kind
HasKinds kind (FirstThen started a b) constant kept = IsFlagHolding kept
HasKinds kind (Previous v a) constant kept = IsOf kind v → kind_of kept ≡ kind
HasKinds kind (Latest v a) constant kept = IsOf kind v → kind_of kept ≡ kind
HasKinds kind o constant kept = Unit {0}

-- `HasKinds` for the element of an equation, in tables with a holding for each element
abbrev pub HasKindsIn : List Kind → (constants kept : List Holding) → FlatEquation → Type 0
HasKindsIn kinds constants kept q =
    HasKinds (kind_among kinds q.element) q.operation (kept_at constants q.element)
    (kept_at kept q.element)

-- the places of inputs, constants and memories are in the code, and have the kinds of the program
pub record IsAllotted (f : FlatProgram) (code : Code) (inputs : List Value)
    (constants kept : List Holding) : Type 0 where
  pub inputs_in : All (IsValueIn code) inputs
  pub constants_in : All (IsIn code) constants
  pub kept_in : All (IsIn code) kept
  pub all_constants : length constants ≡ f.size
  pub all_kept : length kept ≡ f.size
  pub input_kinds : map value_kind inputs ≡ f.inputs
  pub kinds : Every (HasKindsIn f.kinds constants kept) f.equations

-- a lane holds the scalar of a constant
abbrev pub HasConstant : Lane → Operation → (constant : Holding) → Type 0
HasConstant s (Constant v) constant = scalar_at s constant ≡ v
HasConstant s o constant = Unit {0}

-- a lane holds the scalars of the constants of all equations
abbrev pub HasAllConstants : Lane → List Holding → List FlatEquation → Type 0
HasAllConstants s constants Q =
    Every (λ q. HasConstant s q.operation (kept_at constants q.element)) Q
