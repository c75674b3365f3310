use Rattle.std.proofs.Common.{◌+◌, refl, sym, subst, arith}
use Rattle.lb_machine.specs.Straight.{IsStraight}
use Rattle.lb_machine.specs.Listed.{listed}
use Rattle.lb_machine.specs.declared.instruction.Instruction.{Instruction}
use Rattle.lb_machine.specs.declared.instruction.Instruction.TheVariants.{Operate}
use Rattle.lb_machine.proofs.Building.{straight_more, run_before, run_last}
use Rattle.lb_machine.proofs.code.Code.operate.Goals as goal

pub invariant_of-self-2 : goal.invariant_of-self-2
invariant_of-self-2 c =
    let before = c.args.self.now in
    let i : Instruction =
    Operate c.args.op c.args.a c.args.b c.args.idle c.args.left c.args.right
    (record { 0 = before.words }) (record { 0 = before.planes }) in
    record {
      straight =
          subst
          (λ is.
          IsStraight before.first_plane before.first_word is (before.planes + 1)
          (before.words + 1))
          (sym c.in_ok-push.ensures.items)
          (straight_more before.first_plane before.first_word (listed before.instructions)
          before.planes before.words i before.straight (
            c.requires.a,
            c.requires.b,
            c.requires.idle,
            c.requires.left,
            c.requires.right,
            refl,
            refl,
          ) (before.planes + 1) (before.words + 1) (omega arith) (omega arith));
      constants = before.constants;
      zero = before.zero;
      more_planes = omega (arith, before.more_planes);
      more_words = omega (arith, before.more_words);
    }

pub returns-clause-grown : goal.returns-clause-grown
returns-clause-grown c =
    let before = c.args.self.now in
    record {
      first_plane = refl;
      first_word = refl;
      planes = omega arith;
      words = omega arith;
      runs = run_before (listed before.instructions) _ _ c.in_ok-push.ensures.items;
    }

pub returns-clause-results : goal.returns-clause-results
returns-clause-results c =
    let is = listed c.args.self.now.instructions in
    record {
      word_within = omega arith;
      plane_within = omega arith;
      result = λ s h. (run_last is _ _ c.in_ok-push.ensures.items s h).0;
      faults = λ s h. (run_last is _ _ c.in_ok-push.ensures.items s h).1;
    }
