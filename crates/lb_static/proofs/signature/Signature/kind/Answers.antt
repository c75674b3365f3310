-- The kind at a place of the view is that of the element at that place of the vector.
use Rattle.std.proofs.Common.{◌<◌, length}
use Rattle.std.proofs.lemmas.List.{length-map}
use Rattle.lb_static.proofs.Views.{slice_get-map-map}
use Rattle.lb_static.proofs.signature.Signature.kind.Goals as goal

pub returns : goal.returns
returns c =
    let below : c.args.i < length c.self.inside.elements.items =
    simp length-map at (rw (← c.self.view_is) at c.requires) in
    rw (← c.self.view_is) (slice_get-map-map _ _ _ _ _ below c.index.ensures)
