use Rattle.std.proofs.Common.{◌&&◌, leb, refl}
use Rattle.lb_trace.specs.TruthBits.{is_digit, is_inner, truths_in}
use Rattle.lb_trace.proofs.TruthBits.{mask-of, truth-passes}
use Rattle.lb_trace.proofs.truth_bits.truths_in.Goals as goal

pub returns : goal.returns
unfolding truths_in
returns c =
    mask-of leb (λ text i. is_digit text i && is_inner text i) c.args.text.now _ _ c.requires
    c.type_inv.text (truth-passes c.args.text.now c.type_inv.text) refl refl
