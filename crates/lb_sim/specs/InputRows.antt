-- The inputs of an instant in each lane: a plane for each Boolean of a signature and a word for
-- each integer, in the order of the signature.
-- Source: this project's rule. No lane occurs beside another.
use Rattle.std.specs.Prelude.{◌≡◌, ℕ, suc, ◌<◌, ◌≤◌, ◌-◌, Bool, true, false, List, [], ◌∷◌, ℤ, pos}
use Rattle.std.specs.Prelude.{length, map, get_or, slice_index_or}
use Rattle.lb_syntax.specs.declared.tree.Kind.{Kind}
use Rattle.lb_syntax.specs.declared.tree.Kind.TheVariants.{Int as Int_kind, Bool as Bool_kind}
use Rattle.lb_check.specs.Scalars.{Scalar, Integer, Boolean}
use Rattle.lb_traces.specs.Traces.{Recording, trace_at, cell_at}
pub use Rattle.lb_traces.specs.Packed.{truth_columns, number_columns}
use Rattle.lb_lanes.specs.Kernels.{lane_of}
use Rattle.lb_lanes.specs.Planes.{on}
use Rattle.lb_machine.specs.Meaning.{lane_at}
use Rattle.lb_sim.specs.Showing.{value_at}
use Rattle.lb_sim.specs.declared.place.Value.{Value}
use Rattle.lb_sim.specs.declared.place.Value.TheVariants.{Truth, Number}

-- whether a column of a kind holds Booleans
abbrev pub is_truth : Kind → Bool
is_truth Bool_kind = true
is_truth Int_kind = false

-- the values of inputs of these kinds, from plane `p` and word `w` on
abbrev pub places_of : ℕ → ℕ → List Kind → List Value
places_of p w [] = []
places_of p w (Bool_kind ∷ kinds) = Truth (record { 0 = p }) ∷ places_of (suc p) w kinds
places_of p w (Int_kind ∷ kinds) = Number (record { 0 = w }) ∷ places_of p (suc w) kinds

-- the row of inputs in lane `i`
abbrev pub lane_row : List Kind → List ℕ → List (List ℤ) → ℕ → List Scalar
lane_row kinds planes words i = map (value_at (lane_at planes words i)) (places_of 0 0 kinds)

-- the zero of a kind: false, or 0
abbrev pub zero_of : Kind → Scalar
zero_of Int_kind = Integer (pos 0)
zero_of Bool_kind = Boolean false

-- each word is 0 in each lane
abbrev pub AreZero : List (List ℤ) → Type 0
AreZero words =
    (w i : ℕ) → w < length words → i < 64 → lane_of (slice_index_or words w []) i ≡ pos 0

-- the instant of the batch at which the trace of lane `i` begins, and the instant of that trace at
-- instant `t` of the batch
abbrev pub begin_of : List ℕ → ℕ → ℕ
begin_of begins i = get_or begins i 0

abbrev pub instant_in : List ℕ → ℕ → ℕ → ℕ
instant_in begins t i = t - begin_of begins i

-- the cell of a member of a batch at instant `t` of the batch
abbrev pub member_cell : Recording → (members begins : List ℕ) → ℕ → ℕ → ℕ → ℤ
member_cell r members begins t i column =
    cell_at r.traces (get_or members i 0) (instant_in begins t i) column

-- the trace of lane `i` has begun by instant `t`, and has that instant
pub record IsAmid (r : Recording) (members begins : List ℕ) (t i : ℕ) : Type 0 where
  pub member : i < length members
  pub begun : begin_of begins i ≤ t
  pub there : instant_in begins t i < length (trace_at r.traces (get_or members i 0)).1

-- in each lane of `live` a member of the batch has instant `t`
abbrev pub HaveInstant : Recording → (members begins : List ℕ) → ℕ → ℕ → Type 0
HaveInstant r members begins t live =
    (i : ℕ) → i < 64 → on live i ≡ true → IsAmid r members begins t i
