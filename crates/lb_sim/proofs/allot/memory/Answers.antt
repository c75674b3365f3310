use Rattle.std.proofs.Common.{◌≡◌, true, [], ◌∷◌, length, ◌∙◌, arith}
use Rattle.lb_flat.specs.Values.{scalar_of}
use Rattle.lb_sim.specs.Homes.{plane_in}
use Rattle.lb_sim.proofs.FewPlaces.{row_short}
use Rattle.lb_sim.proofs.FirstPlaces.{first_holding}
use Rattle.lb_sim.proofs.allot.memory.Goals as goal

pub plane-requires : goal.plane-requires
plane-requires c =
    let short = row_short (length c.args.preset.now.planes.items)
    (length c.first_value.new.preset.planes.items) (plane_in c.in_ok-value.value ∷ [])
    c.in_ok-value.ensures.value.planes in
    omega (arith, short, c.requires.planes)

pub bad_place-requires : goal.bad_place-requires
bad_place-requires c =
    let short = row_short (length c.args.preset.now.planes.items)
    (length c.first_value.new.preset.planes.items) (plane_in c.in_ok-value.value ∷ [])
    c.in_ok-value.ensures.value.planes in
    omega (arith, short, c.in_ok-nil.ensures.planes, c.requires.planes)

pub returns-clause-memory : goal.returns-clause-memory
returns-clause-memory c =
    let nil = c.in_ok-nil.ensures in
    let bad = c.in_ok-bad.ensures in
    first_holding c.args.preset.now c.first_value.new.preset c.plane.new.self
    c.bad_place.new.preset c.args.kind (c.args.watched ≡ true) (scalar_of c.args.v)
    c.in_ok-value.value c.in_ok-nil.nil c.in_ok-bad.bad c.in_ok-value.ensures.value nil.more
    nil.place nil.planes nil.words (λ i lt. nil.value i lt ∙ c.is_nil.ensures) bad.more bad.words
    bad.row bad.watched bad.value
