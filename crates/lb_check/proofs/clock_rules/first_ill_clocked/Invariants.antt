use Rattle.lb_check.proofs.Words.{NodeId, Reached, Specialization, drop, find, is_clocked_at, map}
use Rattle.lb_check.{proofs.Words.{not, ◌≡◌}, specs.FoundParts.AreClockedParts}
use Rattle.lb_check.proofs.clock_rules.first_ill_clocked.Given as goal

abbrev pub invariant-loop-specialization : goal.invariant-loop-specialization
invariant-loop-specialization l =
    (r : Reached) → AreClockedParts r l.parts →
    let broken = λ (id : NodeId). not (is_clocked_at r id) in
    let node = λ (s : Specialization). s.node in
    find broken (map node l.table.specializations.items)
    ≡ find broken (map node (drop l.specialization-index l.specialization-items))
