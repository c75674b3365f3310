use Rattle.std.proofs.Common.{◌-◌, length, take, ◌∙◌}
use Rattle.std.specs.Prelude.{reverse}
use Rattle.lb_static.proofs.ElementNames.{one_index, count_more}
use Rattle.lb_static.proofs.element_names.+push_elements.Goals as goal

pub loop-i-preserved : goal.loop-i-preserved
loop-i-preserved t c =
    let inner = reverse (take (length c.args.sizes.now - 1) c.args.sizes.now) in
    let first = c.args.signature.now in
    let before = c.loop-i.signature in
    let after = c.push_elements.new.signature in
    let element = c.as_str.result.now in
    let pushed = c.in_ok-push_elements-in-len1-up.ensures in
    let is = c.as_str.ensures.value ∙ c.in_ok-element-in-len1-up.ensures in record {
      names = one_index c.args.name.now c.args.kind inner first before after c.loop-i.i element
          c.loop-i.invariant.names pushed is;
      count = count_more c.args.kind inner first before after c.loop-i.i element
          c.loop-i.invariant.count pushed;
    }
