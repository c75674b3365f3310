-- The lanes of a batch whose traces have an instant.
-- Source: this project's rule. No lane occurs beside another.
use Rattle.std.specs.Prelude.{◌≡◌, ◌≢◌, ℕ, ◌+◌, ◌<◌, ◌≤◌, ◌⊎◌, Bool, true, false, List, length}
use Rattle.std.specs.Prelude.{get_or, nat_lt}
use Rattle.lb_check.specs.declared.verdict.Verdict.{Verdict}
use Rattle.lb_check.specs.declared.verdict.Verdict.TheVariants.{Passed}
use Rattle.lb_traces.specs.Traces.{Recording, trace_at}
use Rattle.lb_lanes.specs.Planes.{on}
use Rattle.lb_sim.specs.InputRows.{begin_of}

-- the number of instants of the trace of a lane, and the instant of the batch at which it ends
abbrev pub length_in : Recording → List ℕ → ℕ → ℕ
length_in r members i = length (trace_at r.traces (get_or members i 0)).1

abbrev pub end_in : Recording → (members begins : List ℕ) → ℕ → ℕ
end_in r members begins i = begin_of begins i + length_in r members i

-- `plane` has the lanes whose traces have each instant from `t` to before `until`
pub record AreOn (r : Recording) (members begins : List ℕ) (t plane until : ℕ) : Type 0 where
  pub members_on :
      (i s : ℕ) → i < length members → t ≤ s → s < until →
      on plane i ≡ nat_lt s (end_in r members begins i)
  pub others_off : (i : ℕ) → length members ≤ i → i < 64 → on plane i ≡ false

-- `t` is before `until`, and `plane` has the lanes whose traces go on up to `until`
pub record AreRunning (r : Recording) (members begins : List ℕ) (t plane until : ℕ) :
    Type 0 where
  pub later : t < until
  pub lanes : AreOn r members begins t plane until

-- a lane has run `n` instants of its trace, when instant `t` is the next one
pub record IsAt (verdict : Verdict) (active : Bool) (as_long n t : ℕ) : Type 0 where
  pub within : n ≤ as_long
  pub now : active ≡ true → n ≡ t
  pub ended : active ≡ false → (n ≡ as_long) ⊎ (verdict ≢ Passed)
