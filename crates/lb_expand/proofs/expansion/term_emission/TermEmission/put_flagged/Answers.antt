use Rattle.lb_expand.proofs.Words.{◌<◌, length, arith, ap, ◌∙◌, append-nil, TermEmission}
use Rattle.lb_expand.proofs.Words.{numbers_of, emitted_of}
use Rattle.lb_expand.proofs.clock_tables.ServingClocks.{flag_put, flag_skipped}
use Rattle.lb_expand.proofs.expansion.term_emission.TermEmission.put_flagged.Goals.{else-flags-x}
use Rattle.lb_expand.proofs.expansion.term_emission.TermEmission.put_flagged.Goals.{then-flags-x+in_ok-put}
use Rattle.lb_expand.proofs.expansion.term_emission.TermEmission.put_flagged.Goals as goal

pub loop-x-init : goal.loop-x-init
loop-x-init g c = grind (arith, append-nil (numbers_of c.args.self.now.found.items))

pub loop-x-preserved : goal.loop-x-preserved
loop-x-preserved g c =
    let places = (g.F.Frame.context c.args.frame.now).places in
    let l = c.loop-x in
    let lt : l.x < length c.args.flags.now = omega (arith, c.loop-x-test.true, l.auto.x-end) in
    elim c.if-flags-x.branch [
      | then-flags-x+in_ok-put w ↦
          record {
            emitted = ap emitted_of w.self-is
                ∙ flag_put _ _ _ _ _
                _ _ _ _ lt
                w.if-flags-x.true l.invariant.emitted w.in_ok-put.ensures.emitted
                w.places.ensures.places;
            next = ap (λ (e : TermEmission). e.next) w.self-is
                ∙ (w.in_ok-put.ensures.next ∙ l.invariant.next);
            clocks = ap (λ (e : TermEmission). e.clocks) w.self-is
                ∙ (w.in_ok-put.ensures.clocks ∙ l.invariant.clocks);
          }
      | else-flags-x w ↦
          record {
            emitted = ap emitted_of w.self-is
                ∙ flag_skipped _ _ _ _ _ _ _ lt
                w.if-flags-x.false l.invariant.emitted;
            next = ap (λ (e : TermEmission). e.next) w.self-is ∙ l.invariant.next;
            clocks = ap (λ (e : TermEmission). e.clocks) w.self-is ∙ l.invariant.clocks;
          }
    ]
