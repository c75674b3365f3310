use Rattle.std.proofs.Common.{ap₂, ◌∙◌, w32, w64}
use Rattle.std.proofs.lemmas.Int.{to_z-of_z}
use Rattle.lb_lanes.specs.Halves.{whole_of}
use Rattle.lb_lanes.proofs.Halves.{lane_is}
use Rattle.lb_lanes.proofs.lanes.IntLanes.get.Goals as goal

pub returns : goal.returns
returns c =
    let a = c.self.inside in
    to_z-of_z w64 c.whole.result (record { sfits = c.whole.type_inv }) ∙ c.whole.ensures
    ∙ ap₂ whole_of
    (to_z-of_z w32 c.get.result (record { sfits = c.get.type_inv }) ∙ c.get.ensures)
    (to_z-of_z w32 c.get-2.result (record { sfits = c.get-2.type_inv }) ∙ c.get-2.ensures)
    ∙ lane_is a.high a.low c.args.self.now c.self.view_is c.args.lane c.requires
