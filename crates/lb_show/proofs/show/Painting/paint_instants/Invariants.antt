use Rattle.std.proofs.Common.{◌≡◌, ◌<◌}
use Rattle.lb_show.specs.Paintings.{instants_left}
use Rattle.lb_show.proofs.show.Painting.paint_instants.Given as goal

abbrev pub invariant-instants : goal.invariant-instants
invariant-instants l = record {
  fewer : instants_left l.self < instants_left l.fn.self;
  begun : l.self.is_begun ≡ l.fn.self.is_begun;
}

abbrev pub decreases-instants : goal.decreases-instants
decreases-instants l = instants_left l.self
