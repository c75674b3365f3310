-- One more static expression without a new key leaves each key at its place.
use Rattle.std.specs.Result.{is_ok}
use Rattle.lb_static.proofs.SharedParts.{pushed_placed}
use Rattle.lb_static.proofs.static_parts.StaticParts.append.Goals as goal

pub invariant_of-self : goal.invariant_of-self
invariant_of-self c =
    let here = c.args.self.now in
    record {
      placed = pushed_placed here.places here.parts.items c.push.new.self.items c.args.part
          (is_ok c.push.result) here.placed c.requires c.push.ensures.items;
    }
