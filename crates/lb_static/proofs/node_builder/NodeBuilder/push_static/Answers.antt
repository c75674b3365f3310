-- The progress with one more static expression.
use Rattle.std.proofs.Common.{subst, sym}
use Rattle.lb_static.specs.NodeProgress.{StaticStands}
use Rattle.lb_static.specs.Progressed.{progress}
use Rattle.lb_static.specs.ResolvedTerms.{static_of}
use Rattle.lb_static.specs.StaticParts.{part_of}
use Rattle.lb_static.proofs.Growth.{kept_pushed, grown_static}
use Rattle.lb_static.proofs.Resolutions.{static_placed}
use Rattle.lb_static.proofs.node_builder.NodeBuilder.push_static.Goals as goal

pub invariant_of-self : goal.invariant_of-self
invariant_of-self c =
    let here = c.args.self.now in
    record {
      sound = kept_pushed here.node_scope here.statics.parts.items c.push.new.self.parts.items
          here.calls.items here.variables.items c.args.part c.push.result here.sound
          c.push.ensures.after c.push.ensures.err;
    }

pub returns-clause-after : goal.returns-clause-after
returns-clause-after c =
    let here = c.args.self.now in
    grown_static here.node_scope here.statics.parts.items c.push.new.self.parts.items
    here.calls.items here.variables.items c.args.part here.sound c.in_ok-push.ensures.after

pub returns-clause-stands : goal.returns-clause-stands
returns-clause-stands c =
    let here = c.args.self.now in
    let after = grown_static here.node_scope here.statics.parts.items c.push.new.self.parts.items
    here.calls.items here.variables.items c.args.part here.sound c.in_ok-push.ensures.after in
    subst (λ s. StaticStands s (static_of c.args.part.text) c.in_ok-push.field-0) (sym after)
    (static_placed (progress here) (part_of c.args.part) c.in_ok-push.field-0
    c.in_ok-push.ensures.place)
