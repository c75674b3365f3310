-- The places of the piece lie in the text, and the piece is between them.
use Rattle.std.proofs.Common.{arith, ◌≡◌, ◌<◌, ◌≤◌, [], length, ◌+◌, sym}
use Rattle.std.specs.Prelude.{string_bytes}
use Rattle.std.specs.List.{slice_range}
use Rattle.lb_traces.specs.Ledger.{cut, place}
use Rattle.lb_traces.proofs.Ledgers.{length-pieces, get_or-pieces, place-le-last}
use Rattle.lb_traces.proofs.names.Names.get.Goals as goal
use Rattle.std.proofs.lemmas.List.{get_or_read}
use Rattle.std.proofs.lemmas.Str.{IsCharBoundary-from_ascii as boundary}

pub index-requires : goal.index-requires
index-requires c =
    let pieces : _ = length-pieces (slice_range (string_bytes c.self.inside.text))
    c.self.inside.ends.items in
    let n : c.args.k < length (cut c.self.inside.ends.items (string_bytes c.self.inside.text)) =
    rw c.self.view_is c.requires in
    omega (arith, pieces)

pub index-requires-2 : goal.index-requires-2
index-requires-2 c =
    let pieces : _ = length-pieces (slice_range (string_bytes c.self.inside.text))
    c.self.inside.ends.items in
    let n : c.args.k < length (cut c.self.inside.ends.items (string_bytes c.self.inside.text)) =
    rw c.self.view_is c.requires in
    omega (arith, pieces)

below : (c : goal.After-as_str) → c.args.k + 1 < length c.self.inside.ends.items
below c =
    let pieces : _ = length-pieces (slice_range (string_bytes c.self.inside.text))
    c.self.inside.ends.items in
    let n : c.args.k < length (cut c.self.inside.ends.items (string_bytes c.self.inside.text)) =
    rw c.self.view_is c.requires in
    omega (arith, pieces)

start_is : (c : goal.After-as_str) → c.index.result.now ≡ place c.self.inside.ends.items c.args.k
start_is c = get_or_read c.self.inside.ends.items c.args.k c.index.result.now
    (let b : _ = below c in omega arith) c.index.ensures 0

end_is : (c : goal.After-as_str) → c.index-2.result.now
    ≡ place c.self.inside.ends.items (c.args.k + 1)
end_is c = get_or_read c.self.inside.ends.items (c.args.k + 1) c.index-2.result.now (below c)
    c.index-2.ensures 0

rises : (c : goal.After-as_str) → place c.self.inside.ends.items c.args.k < place
    c.self.inside.ends.items (c.args.k + 1)
rises c = c.self.invariant.ledger.climbs c.args.k (c.args.k + 1) (omega arith) (below c)

within : (c : goal.After-as_str) → place c.self.inside.ends.items (c.args.k + 1) ≤ length
    (string_bytes c.self.inside.text)
within c =
    let most : _ = place-le-last c.self.inside.ends.items c.self.invariant.ledger (c.args.k + 1)
    (below c) in
    omega (arith, most, c.self.invariant.all)

pub range-requires-clause-start_le_end : goal.range-requires-clause-start_le_end
range-requires-clause-start_le_end c = omega (arith, start_is c, end_is c, rises c)

pub range-requires-clause-start_boundary : goal.range-requires-clause-start_boundary
range-requires-clause-start_boundary c = rw c.as_str.ensures.value
    (λ _. boundary (string_bytes c.self.inside.text) c.index.result.now c.self.invariant.ascii
    (omega (arith, start_is c, rises c, within c)))

pub range-requires-clause-end_boundary : goal.range-requires-clause-end_boundary
range-requires-clause-end_boundary c = rw c.as_str.ensures.value
    (boundary (string_bytes c.self.inside.text) c.index-2.result.now c.self.invariant.ascii
    (omega (arith, end_is c, within c)))

pub returns : goal.returns
returns c = rw (
  c.range.ensures.value,
  c.as_str.ensures.value,
  ← c.self.view_is,
  start_is c.before,
  end_is c.before,
)
    (sym (get_or-pieces (slice_range (string_bytes c.self.inside.text)) c.self.inside.ends.items
    c.args.k [] (below c.before)))
