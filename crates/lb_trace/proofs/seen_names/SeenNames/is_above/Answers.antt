-- The names rise, or they do not.
use Rattle.std.proofs.Common.{◌&&◌, sym, ap, ◌∙◌}
use Rattle.lb_trace.specs.Mirrors.{rises_to}
use Rattle.lb_trace.proofs.seen_names.SeenNames.is_above.Goals as goal

pub returns-then-not-self : goal.returns-then-not-self
returns-then-not-self c =
    sym (ap (λ b. b && rises_to c.args.traces.now.traces c.args.name.now) c.if-not-self.true)

pub returns : goal.returns
returns c =
    c.rises_to.ensures
    ∙ sym (ap (λ b. b && rises_to c.args.traces.now.traces c.args.name.now) c.if-not-self.false)
