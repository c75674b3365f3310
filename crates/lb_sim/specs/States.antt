-- The memories that a lane holds, as a state of the flat program; and the scalar that the code
-- makes each element show.
-- Source: this project's rule. No lane occurs beside it.
use Rattle.std.specs.Prelude.{◌≡◌, ℕ, Bool, false, Some, List, length, map}
use Rattle.std.specs.Prelude.{get_or}
use Rattle.std.specs.Prelude.{◌<◌, ◌+◌, ◌||◌, slice_get, if◌then◌else◌}
use Rattle.lb_check.specs.Scalars.{Scalar, Boolean, two_scalars, one_scalar, chosen}
use Rattle.lb_check.specs.Solutions.{Inputs}
use Rattle.lb_flat.specs.Flat.{Operation, Input, Constant, Copy, ApplyUnary, ApplyBinary, Choose}
use Rattle.lb_flat.specs.Flat.{FirstThen, Previous, Latest, Sample, FlatEquation}
use Rattle.lb_flat.specs.Judging.{FlatProgram}
use Rattle.lb_flat.specs.MemoryPlaces.{after_rows}
use Rattle.lb_flat.specs.Run.{is_now, run}
use Rattle.lb_machine.specs.Meaning.{Lane}
use Rattle.lb_machine.specs.declared.instruction.PlaneId.{PlaneId}
use Rattle.lb_machine.specs.declared.instruction.WordId.{WordId}
use Rattle.lb_sim.specs.Showing.{scalar_at, row_at}
use Rattle.lb_sim.specs.declared.place.Value.TheVariants.{Truth}
use Rattle.lb_sim.specs.declared.place.Holding.{Holding}
use Rattle.lb_sim.specs.declared.place.Place.{Place}

-- ## Places of elements

-- the holding, and the place, of nothing
abbrev pub no_holding : Holding
no_holding = record {
  value = Truth (record { 0 = 0 });
  nil = record { 0 = 0 };
  bad = record { 0 = 0 };
}

abbrev pub no_place : Place
no_place = record { holding = no_holding; present = record { 0 = 0 } }

-- the holding of an element, its presence in a lane, and the holding of its memory
abbrev pub holding_of : List Place → ℕ → Holding
holding_of places e = (get_or places e no_place).holding

abbrev pub present_at : Lane → List Place → ℕ → Bool
present_at s places e = s.bits (get_or places e no_place).present.0

abbrev pub kept_at : List Holding → ℕ → Holding
kept_at kept e = get_or kept e no_holding

-- ## Memories

-- the flag of a memory: only its truth value counts
abbrev pub flag_of : Scalar → Bool
flag_of (Boolean b) = b
flag_of v = false

abbrev pub flag_at : Lane → Holding → Bool
flag_at s h = flag_of (scalar_at s h)

-- an operation with the memory that a lane holds
abbrev pub with_memory : Lane → Holding → Operation → Operation
with_memory s h (Input j) = Input j
with_memory s h (Constant v) = Constant v
with_memory s h (Copy a) = Copy a
with_memory s h (ApplyUnary op a) = ApplyUnary op a
with_memory s h (ApplyBinary op a b) = ApplyBinary op a b
with_memory s h (Choose c a b) = Choose c a b
with_memory s h (FirstThen started a b) = FirstThen (flag_at s h) a b
with_memory s h (Previous v a) = Previous (scalar_at s h) a
with_memory s h (Latest v a) = Latest (scalar_at s h) a
with_memory s h (Sample a) = Sample a

abbrev pub equation_in : Lane → List Holding → FlatEquation → FlatEquation
equation_in s kept q =
    record q { operation = with_memory s (kept_at kept q.element) q.operation }

-- a lane holds the memories of a flat program after a trace
abbrev pub IsStateAfter : FlatProgram → List Holding → Lane → Inputs → Type 0
IsStateAfter f kept s X =
    after_rows f.equations (run f.size f.equations X) ≡ map (equation_in s kept) f.equations

-- ## Elements

-- an element shows the result of its operation on what the operands show; `kept` is its memory
abbrev pub IsShown : List Scalar → Lane → List Place → Holding → Operation → Scalar → Type 0
IsShown given s places kept (Input j) v = slice_get given j ≡ Some v
IsShown given s places kept (Constant w) v = v ≡ w
IsShown given s places kept (Copy a) v = v ≡ scalar_at s (holding_of places a)
IsShown given s places kept (ApplyUnary op a) v =
    v ≡ one_scalar op (scalar_at s (holding_of places a))
IsShown given s places kept (ApplyBinary op a b) v =
    v ≡ two_scalars op (scalar_at s (holding_of places a)) (scalar_at s (holding_of places b))
IsShown given s places kept (Choose c a b) v =
    v
    ≡ chosen (scalar_at s (holding_of places c)) (scalar_at s (holding_of places a))
    (scalar_at s (holding_of places b))
IsShown given s places kept (FirstThen started a b) v =
    v
    ≡ (if flag_at s kept then scalar_at s (holding_of places b)
    else scalar_at s (holding_of places a))
IsShown given s places kept (Previous w a) v = v ≡ scalar_at s kept
IsShown given s places kept (Latest w a) v =
    v
    ≡ (if present_at s places a then scalar_at s (holding_of places a) else scalar_at s kept)
IsShown given s places kept (Sample a) v = v ≡ scalar_at s (holding_of places a)

-- an equation is present on its clock, and shows its element
pub record IsShownBy (given : List Scalar) (s : Lane) (places : List Place) (kept : List Holding)
    (q : FlatEquation) : Type 0 where
  pub present : present_at s places q.element ≡ is_now (row_at s places) q.clock
  pub scalar :
      IsShown given s places (kept_at kept q.element) q.operation
      (scalar_at s (holding_of places q.element))

-- ## The next instant

-- the memory in the following lane `s'`, from what its operand shows in `s`
abbrev pub IsMoved : Lane → Lane → List Place → Holding → Operation → Type 0
IsMoved s s' places h (FirstThen started a b) =
    flag_at s' h ≡ (flag_at s h || present_at s places a)
IsMoved s s' places h (Previous v a) =
    scalar_at s' h
    ≡ (if present_at s places a then scalar_at s (holding_of places a) else scalar_at s h)
IsMoved s s' places h (Latest v a) =
    scalar_at s' h
    ≡ (if present_at s places a then scalar_at s (holding_of places a) else scalar_at s h)
IsMoved s s' places h o = Unit {0}

-- in the following lane `s'`, the places from `first_plane` and `first_word` on hold what their
-- sources hold in `s`; the places before them do not change
pub record IsCarriedOver (first_plane first_word : ℕ) (planes : List PlaneId)
    (words : List WordId) (s s' : Lane) : Type 0 where
  pub planes_carried :
      (j : ℕ) (d : PlaneId) → j < length planes →
      s'.bits (first_plane + j) ≡ s.bits (get_or planes j d).0
  pub words_carried :
      (j : ℕ) (d : WordId) → j < length words →
      s'.ints (first_word + j) ≡ s.ints (get_or words j d).0
  pub first_planes : (k : ℕ) → k < first_plane → s'.bits k ≡ s.bits k
  pub first_words : (k : ℕ) → k < first_word → s'.ints k ≡ s.ints k
