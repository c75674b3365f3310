use Rattle.std.proofs.Common.{◌+◌, refl, sym, subst, arith}
use Rattle.lb_machine.specs.Listed.{before_last}
use Rattle.lb_machine.specs.Straight.{IsStraight}
use Rattle.lb_machine.proofs.Building.{chosen_straight, chosen_run, run_last}
use Rattle.lb_machine.proofs.code.Code.choose_by.Goals as goal

pub invariant_of-self : goal.invariant_of-self
invariant_of-self c =
    let before = c.args.self.now in
    let t = c.args.test in
    record {
      straight =
          subst
          (λ is. IsStraight before.first_plane before.first_word is before.planes
          (before.words + 1))
          (sym c.put_last.ensures)
          (chosen_straight t.0 t.1 t.2 c.args.a c.args.b c.args.out c.args.mask
          before.first_plane before.first_word (before_last before.instructions.blocks.items)
          before.planes before.words (before.words + 1)
          (subst
          (λ is. IsStraight before.first_plane before.first_word is before.planes before.words)
          c.requires.ends.last before.straight)
          c.requires.left c.requires.right c.requires.next (omega arith));
      constants = before.constants;
      zero = before.zero;
      more_planes = before.more_planes;
      more_words = omega (arith, before.more_words);
    }

pub returns-clause-grown : goal.returns-clause-grown
returns-clause-grown c =
    let t = c.args.test in
    record {
      first_plane = refl;
      first_word = refl;
      planes = omega arith;
      words = omega arith;
      runs =
          chosen_run t.0 t.1 t.2 c.args.a c.args.b c.args.out c.args.mask
          (before_last c.args.self.now.instructions.blocks.items) _ _ c.requires.ends.last
          c.put_last.ensures;
    }

pub returns-clause-word : goal.returns-clause-word
returns-clause-word c =
    record {
      within = omega (arith, c.requires.next);
      means = λ s h.
          (run_last (before_last c.args.self.now.instructions.blocks.items) _ _
          c.put_last.ensures s h).1;
    }
