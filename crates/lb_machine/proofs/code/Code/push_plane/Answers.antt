use Rattle.std.proofs.Common.{◌+◌, sym, subst, arith}
use Rattle.lb_machine.specs.Straight.{IsStraight}
use Rattle.lb_machine.specs.Listed.{listed}
use Rattle.lb_machine.proofs.Building.{straight_more}
use Rattle.lb_machine.proofs.code.Code.push_plane.Goals as goal

pub invariant_of-self-2 : goal.invariant_of-self-2
invariant_of-self-2 c =
    let before = c.args.self.now in
    record {
      straight =
          subst
          (λ is. IsStraight before.first_plane before.first_word is (before.planes + 1)
          before.words)
          (sym c.in_ok-push.ensures.items)
          (straight_more before.first_plane before.first_word (listed before.instructions)
          before.planes before.words c.args.i before.straight c.requires.next (before.planes + 1)
          before.words c.requires.plane c.requires.no_word);
      constants = before.constants;
      zero = before.zero;
      more_planes = omega (arith, before.more_planes);
      more_words = before.more_words;
    }
