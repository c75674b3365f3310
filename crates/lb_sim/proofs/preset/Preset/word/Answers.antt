use Rattle.std.proofs.Common.{arith}
use Rattle.std.specs.Result.{is_ok}
use Rattle.lb_sim.proofs.FirstPlaces.{zero_kept}
use Rattle.lb_sim.proofs.preset.Preset.word.Goals as goal

pub invariant_of-self-clause-zero : goal.invariant_of-self-clause-zero
invariant_of-self-clause-zero c =
    zero_kept (is_ok c.push.result) _ c.args.self.now.words.items _ c.push.ensures.items
    (omega (arith, c.args.self.now.one_word)) c.args.self.now.zero
