use Rattle.std.proofs.Common.{refl, arith}
use Rattle.lb_lanes.proofs.TwoRounds.{doubled_none, doubled_more, rounds_made}
use Rattle.lb_lanes.proofs.transposes.two_rounds.Goals as goal

pub loop-k-init : goal.loop-k-init
loop-k-init c =
    doubled_none c.args.shift c.args.mask c.args.next_shift c.args.next_mask c.args.words.now
    c.args.out.now (omega arith)

pub loop-k-preserved : goal.loop-k-preserved
loop-k-preserved c =
    doubled_more c.args.shift c.args.mask c.args.next_shift c.args.next_mask c.args.words.now
    c.loop-k.out c.loop-k.k _ _ _ _ c.loop-k.invariant c.loop-k-test.true refl refl refl refl

pub returns : goal.returns
returns c =
    rounds_made c.args.shift c.args.mask c.args.next_shift c.args.next_mask c.args.words.now
    c.loop-k.out c.loop-k.k c.requires.mask c.requires.next_mask (omega arith) c.loop-k.invariant
