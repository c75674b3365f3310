use Rattle.std.proofs.Common.{◌&&◌, eqb, refl}
use Rattle.lb_trace.specs.TruthBits.{is_inner, is_one, ones_in}
use Rattle.lb_trace.proofs.TruthBits.{mask-of, one-passes}
use Rattle.lb_trace.proofs.truth_bits.ones_in.Goals as goal

pub returns : goal.returns
unfolding ones_in
returns c =
    mask-of eqb (λ text i. is_one text i && is_inner text i) c.args.text.now _ _ c.requires
    c.type_inv.text (one-passes c.args.text.now c.type_inv.text) refl refl
