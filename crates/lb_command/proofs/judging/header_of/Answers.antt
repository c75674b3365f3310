use Rattle.std.proofs.Common.{◌∙◌, ◌++◌, ap, codes}
use Rattle.lb_static.specs.Signature.{names_of}
use Rattle.lb_command.proofs.Columns.{columns_put}
use Rattle.lb_command.proofs.judging.header_of.Goals as goal

pub loop-i-preserved : goal.loop-i-preserved
loop-i-preserved c =
    let between = c.push.new.self.items in
    columns_put (codes "trace") (names_of c.args.inputs.now) c.loop-i.i c.name.result.now
    c.loop-i.text.items between c.extend_from_slice.new.self.items c.name.ensures
    c.loop-i.invariant c.in_ok-push.ensures.items
    (c.in_ok-extend_from_slice.ensures.items ∙ ap (λ b. between ++ b) c.as_bytes.ensures.value)
