use Rattle.lb_check.proofs.Words.{◌≡◌, ◌++◌, drop, length, map, nothing_found, node_terms, true}
use Rattle.lb_check.proofs.Words.{IsReached, Program, ResolvedNode, keeps_names, with_terms}
use Rattle.lb_check.proofs.Words.{ℕ, ◌<◌, Option, Part, get_or}
use Rattle.lb_check.specs.{FoundParts.IsClockedPart, PlacedClocks.found_in}
use Rattle.lb_check.proofs.clock_rules.program_clocks.Given as goal

abbrev pub invariant-loop-node : goal.invariant-loop-node
invariant-loop-node l =
    let of = λ (n : ResolvedNode). with_terms nothing_found (node_terms l.reached n) in
    record {
      count : length l.parts.items ≡ l.node-index;
      parts : (P : Program) → keeps_names P ≡ true → IsReached P l.reached →
          (i : ℕ) (p : Option Part) → i < length l.parts.items → p ≡ get_or l.parts.items i p →
          IsClockedPart l.reached (record { 0 = i }) p;
      placed :
          map of l.node-items
          ≡ map found_in l.clocks.items ++ map of (drop l.node-index l.node-items);
    }
