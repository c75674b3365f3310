use Rattle.std.proofs.Common.{◌<◌, All, length, ap, sym, subst, arith}
use Rattle.std.proofs.lemmas.List.{length_push}
use Rattle.std.proofs.lemmas.List.Elements.{All-push}
use Rattle.lb_flat.specs.declared.equation.ElementId.{ElementId}
use Rattle.lb_sim.proofs.outermost.outermost.Goals as goal

pub loop-i-preserved : goal.loop-i-preserved
loop-i-preserved c =
    let found = c.loop-i.found.items in
    let more = c.in_ok-push.ensures.items in
    let one = length_push found (record { 0 = c.loop-i.i }) in
    record {
      first =
          subst (All (λ (a : ElementId). a.0 < c.args.count)) (sym more)
          (All-push (λ (a : ElementId). a.0 < c.args.count) found _ c.loop-i.invariant.first
          c.loop-i-test.true);
      few = omega (arith, ap length more, one, c.loop-i.invariant.few);
    }
