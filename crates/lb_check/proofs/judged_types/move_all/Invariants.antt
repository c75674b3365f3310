use Rattle.lb_check.proofs.Words.{◌≡◌, length, map, reverse, found_in, part_in, with_parts}
use Rattle.lb_check.proofs.judged_types.move_all.Given as goal

abbrev pub invariant-loop-part : goal.invariant-loop-part
invariant-loop-part l =
    record {
      left : l.parts.left ≡ l.fn.parts.left;
      moved :
          with_parts (found_in l.fn.found) (reverse (map part_in l.fn.parts.found.items))
          ≡ with_parts (found_in l.found) (reverse (map part_in l.parts.found.items));
    }

abbrev pub decreases-loop-part : goal.decreases-loop-part
decreases-loop-part l = length l.parts.found.items
