use Rattle.lb_check.proofs.Words.{◌≡◌, ◌⊎◌, ℕ, ◌-◌, ◌<◌, length, AreDepths, IsKnown, HasDepth}
use Rattle.lb_check.proofs.clock.note_depths.Given as goal

abbrev pub invariant-loop-above : goal.invariant-loop-above
invariant-loop-above l = record {
  within : l.variable < length l.variables;
  stands : HasDepth l.variables (l.depth - l.above) l.variable;
  known : AreDepths l.variables l.depths;
  noted : ((l.above ≡ 0) × (l.variable ≡ l.first)) ⊎ IsKnown l.depths l.first;
  kept : (x : ℕ) → IsKnown l.fn.depths x → IsKnown l.depths x;
}
