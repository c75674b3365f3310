use Rattle.lb_flat.proofs.Words.{◌≡◌, ◌∙◌, Some, [], ◌∷◌, ◌++◌, drop, length, set, ap, sym, subst}
use Rattle.lb_flat.proofs.Words.{arith, ElementId, numbers_of, program_of, IsReadCycle, length-map}
use Rattle.lb_flat.proofs.{Words.map-append, ordering.ReadCycles.{IsWay, way_closes, way_place}}
use Rattle.lb_flat.proofs.ordering.ReadCycles.{way_noted, way_less, way_free, way_more}
use Rattle.std.proofs.{Common.vec_len, lemmas.List.drop-map as map_drop}
use Rattle.lb_flat.proofs.scheduling.cycle.read_cycle.Goals as goal

pub split_at-requires : goal.split_at-requires
split_at-requires c =
    let f = program_of c.args.program.now in
    let is = numbers_of c.path.path.items in
    let places = c.path.places.items in
    let at = c.path.at.0 in
    let way = c.path.invariant.way in
    let first = c.in-Some.first in
    let noted = way_noted f is places at way c.index.result.now c.index.ensures first c.in-Some.is
    in
    let lt = way_place f is places at way first noted in
    let many = length-map c.path.path.items (λ (a : ElementId). a.0) in
    rw c.as_slice.ensures.value (omega (arith, lt, many))

pub returns-in-Some : goal.returns-in-Some
returns-in-Some c =
    let f = program_of c.args.program.now in
    let is = numbers_of c.path.path.items in
    let places = c.path.places.items in
    let at = c.path.at.0 in
    let way = c.path.invariant.way in
    let first = c.in-Some.first in
    let noted = way_noted f is places at way c.index.result.now c.index.ensures first c.in-Some.is
    in
    let rest : c.extend_from_slice.new.self.items ≡ drop first c.path.path.items =
    c.in_ok-extend_from_slice.ensures.items
    ∙ ap (λ xs. xs ++ c.split_at.result.1.now) c.new-cycle.ensures.items
    ∙ c.split_at.ensures.back ∙ ap (drop first) c.as_slice.ensures.value in
    subst (λ xs. IsReadCycle f (numbers_of xs)) (sym rest)
    (subst (IsReadCycle f) (map_drop (λ (a : ElementId). a.0) first c.path.path.items)
    (way_closes f is places at way first noted))

pub path-smaller : goal.path-smaller
path-smaller c =
    let f = program_of c.args.program.now in
    let is = numbers_of c.path.path.items in
    let places = c.path.places.items in
    let at = c.path.at.0 in
    let way = c.path.invariant.way in
    way_less f is places at way
    (way_free f is places at way c.index.result.now c.index.ensures c.in_default.not-Some)
    c.len.result

pub path-preserved : goal.path-preserved
path-preserved c =
    let f = program_of c.args.program.now in
    let path = c.path.path in
    let is = numbers_of path.items in
    let places = c.path.places.items in
    let at = c.path.at.0 in
    let next = c.next_variable-at-in-path.result.0 in
    let items = ap numbers_of c.in_ok-push.ensures.items
    ∙ map-append (λ (a : ElementId). a.0) path.items (c.path.at ∷ []) in
    let long : vec_len path ≡ length path.items = omega (arith, path.ok.0) in
    let count : length is ≡ c.len.result =
    length-map path.items (λ (a : ElementId). a.0) ∙ sym long ∙ sym c.len.ensures in
    record {
      left = c.next_variable-at-in-path.ensures.left;
      way =
          subst (λ js. IsWay f js (set places at (Some c.len.result)) next) (sym items)
          (subst (λ k. IsWay f (is ++ at ∷ []) (set places at (Some k)) next) count
          (way_more f is places at c.path.invariant.way next
          c.next_variable-at-in-path.ensures.leads c.next_variable-at-in-path.ensures.variable));
    }
