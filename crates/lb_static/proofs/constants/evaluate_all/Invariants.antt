use Rattle.std.proofs.Common.{◌≡◌, ◌<◌, ◌≤◌, ℕ, true, false}
use Rattle.lb_static.specs.ConstantValues.{known, read_constants, IsStable, IsSound}
use Rattle.lb_static.proofs.constants.evaluate_all.Given as goal

abbrev pub invariant-loop-place : goal.invariant-loop-place
invariant-loop-place l = record {
  sound : IsSound (read_constants l.constants) l.values;
  kept : known l.initial.values ≤ known l.values;
  more : l.is_more ≡ true → known l.initial.values < known l.values;
  stable : l.is_more ≡ false → (i : ℕ) → i < l.place
      → IsStable (read_constants l.constants) l.values i;
}
