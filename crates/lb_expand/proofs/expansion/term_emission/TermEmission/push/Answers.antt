-- With one equation more, all that is held is below the next free element.
use Rattle.lb_expand.proofs.Words.{◌+◌, All, arith, subst, sym, IsWithin}
use Rattle.lb_expand.proofs.emission.EmittedStacks.{equations_later, equation_pushed}
use Rattle.lb_expand.proofs.emission.EmittedStacks.{elements_later}
use Rattle.lb_expand.proofs.expansion.term_emission.TermEmission.push.Goals as goal

pub invariant_of-self-2 : goal.invariant_of-self-2
invariant_of-self-2 c =
    let old = c.args.self.now in
    let n = old.next in
    let clocks = old.clocks.items in
    record {
      equations_within =
          subst (All (IsWithin (n + 1) clocks)) (sym c.in_ok-push.ensures.items)
          (equation_pushed clocks n (n + 1) old.equations.items _ c.args.clock c.args.operation
          old.equations_within (omega arith) (omega arith) c.requires.clock
          c.requires.can.operands);
      copies_within =
          equations_later clocks n (n + 1) old.copies.items old.copies_within (omega arith);
      memory_operands_within =
          elements_later n (n + 1) old.memory_operands.items old.memory_operands_within
          (omega arith);
      asserted_within =
          elements_later n (n + 1) old.asserted.items old.asserted_within (omega arith);
      found_within = elements_later n (n + 1) old.found.items old.found_within (omega arith);
    }
