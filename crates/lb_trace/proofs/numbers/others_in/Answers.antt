use Rattle.std.proofs.Common.{ℕ, cond, leb, refl, arith, take}
use Rattle.std.proofs.lemmas.List.{length-take-le}
use Rattle.std.proofs.lemmas.Simd.{zip2_splat}
use Rattle.lb_trace.proofs.Fronts.{joined, others-of, splat_is}
use Rattle.lb_trace.proofs.numbers.others_in.Goals as goal

pub returns : goal.returns
returns c =
    let v = take 32 c.args.text.now in
    let long = length-take-le 32 c.args.text.now c.requires in
    others-of _ _ _ _ _ c.requires (omega arith) c.type_inv.text refl
    (joined (λ a b. cond (leb a b) 255 0) _ _ v (splat_is v 32 10 long)
    (zip2_splat {Y = ℕ} _ v 32 48 long)) refl
