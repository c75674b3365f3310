-- The progress with one more call.
use Rattle.std.proofs.Common.{◌≡◌, ◌∙◌, arith, length, sym}
use Rattle.std.proofs.lemmas.List.{length-map}
use Rattle.lb_static.proofs.Growth.{grown_call}
use Rattle.lb_static.proofs.node_builder.NodeBuilder.push_call.Goals as goal

pub returns-clause-after : goal.returns-clause-after
returns-clause-after c =
    let here = c.args.self.now in
    grown_call here.node_scope here.statics.parts.items here.calls.items c.push.new.self.items
    here.variables.items c.args.site c.in_ok-push.ensures.items

pub returns-clause-id : goal.returns-clause-id
returns-clause-id c =
    let calls = c.args.self.now.calls in
    let last : c.len.result ≡ length calls.items = omega (arith, c.len.ensures, calls.ok.0) in
    last ∙ sym (length-map calls.items _)
