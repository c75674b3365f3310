-- Traces that wait for lanes: the first members begin together, and a lane whose trace does not go
-- on takes the last member that waits.
-- Source: this project's rule. No lane occurs beside another, but where it is told which member
-- each of them takes.
use Rattle.std.specs.Prelude.{◌≡◌, ◌≢◌, ℕ, ◌<◌, ◌≤◌, ◌⊎◌, ◌&&◌, Bool, true, false, List, length}
use Rattle.std.specs.Prelude.{get_or, nat_lt, take}
use Rattle.std.specs.List.{sum_by}
use Rattle.lb_check.specs.declared.verdict.Verdict.{Verdict}
use Rattle.lb_flat.specs.Judging.{FlatProgram}
use Rattle.lb_traces.specs.Traces.{Recording, trace_at}
use Rattle.lb_lanes.specs.Planes.{on}
use Rattle.lb_sim.specs.BatchLanes.{length_in}
use Rattle.lb_sim.specs.BatchRuns.{steps_in}
use Rattle.lb_sim.specs.Correct.{HasVerdict}
use Rattle.lb_sim.specs.declared.batch_run.BatchRun.{BatchRun}

-- the number of instants of a trace, and of all members before place `k` together
abbrev pub length_of : Recording → ℕ → ℕ
length_of r k = length (trace_at r.traces k).1

abbrev pub instants_to : Recording → List ℕ → ℕ → ℕ
instants_to r members k = sum_by (length_of r) (take k members)

-- whether a lane is active and its trace goes on
abbrev pub goes_on : BatchRun → Recording → List ℕ → ℕ → Bool
goes_on run r traces i = on run.active.0 i && nat_lt (steps_in run i) (length_in r traces i)

-- one of the first `n` lanes is pending and has the member at place `k`
pub record IsInLane (places : List ℕ) (pending n k : ℕ) : Type 0 where
  pub lane : ℕ
  pub below : lane < n
  pub pends : on pending lane ≡ true
  pub place : get_or places lane 0 ≡ k

-- `lane` takes the member at `place`
pub record IsTakenBy (members places places' traces traces' : List ℕ) (lane place : ℕ) :
    Type 0 where
  pub places_room : length places' ≡ length places
  pub traces_room : length traces' ≡ length traces
  pub place_is : get_or places' lane 0 ≡ place
  pub trace_is : get_or traces' lane 0 ≡ get_or members place 0
  pub other_places : (i : ℕ) → i ≢ lane → get_or places' i 0 ≡ get_or places i 0
  pub other_traces : (i : ℕ) → i ≢ lane → get_or traces' i 0 ≡ get_or traces i 0

-- a settled lane has taken a member
pub record HasTaken (members : List ℕ) (n settled : ℕ) (places' traces' : List ℕ)
    (rest rest' i : ℕ) : Type 0 where
  pub inside : i < n
  pub idle : on settled i ≡ true
  pub after : rest' ≤ get_or places' i 0
  pub before : get_or places' i 0 < rest
  pub trace_is : get_or traces' i 0 ≡ get_or members (get_or places' i 0) 0

-- the lanes of `taken`, which are settled, take members, from place `rest` down to `rest'`; another
-- settled lane takes none only where no member waits
pub record AreTaken (members : List ℕ) (n settled : ℕ) (places places' traces traces' : List ℕ)
    (rest taken rest' : ℕ) : Type 0 where
  pub places_room : length places' ≡ length places
  pub traces_room : length traces' ≡ length traces
  pub not_below : n ≤ rest'
  pub not_above : rest' ≤ rest
  pub own_place : (i : ℕ) → i < 64 → on taken i ≡ false → get_or places' i 0 ≡ get_or places i 0
  pub own_trace : (i : ℕ) → i < 64 → on taken i ≡ false → get_or traces' i 0 ≡ get_or traces i 0
  pub left : (i : ℕ) → i < n → on settled i ≡ true → on taken i ≡ false → rest' ≡ n
  pub takes :
      (i : ℕ) → i < 64 → on taken i ≡ true →
      HasTaken members n settled places' traces' rest rest' i
  pub each :
      (k : ℕ) → rest' ≤ k → k < rest →
      IsInLane places' taken n k

-- a member has begun: it is one of the first, or was taken from the end
abbrev pub HasBegun : (n rest k : ℕ) → Type 0
HasBegun n rest k = (k < n) ⊎ (rest ≤ k)

-- for each member that has begun, the right verdict is kept or its lane is pending
abbrev pub AreKept :
    FlatProgram → Recording → List ℕ → (has : ℕ → Verdict → Type 0) → List ℕ →
    (pending n rest : ℕ) → Type 0
AreKept f r members has places pending n rest =
    (k : ℕ) → k < length members → HasBegun n rest k →
    HasVerdict f r members has k ⊎ IsInLane places pending n k
