use Rattle.lb_flat.proofs.Words.{◌≡◌, [], length, map, drop, fixed_in, flat_equations, filled}
use Rattle.lb_flat.proofs.Words.{cell_of}
use Rattle.lb_flat.proofs.prepare.set_constants.Given as goal

-- the rest of the constants gives what all give
abbrev pub invariant-loop-i : goal.invariant-loop-i
invariant-loop-i l = record {
  as_long : length l.row ≡ length l.fn.row;
  rest :
      filled [] (map cell_of l.row) (fixed_in (flat_equations l.clocks (drop l.i l.equations)))
      ≡ filled [] (map cell_of l.fn.row) (fixed_in (flat_equations l.clocks l.equations));
}
