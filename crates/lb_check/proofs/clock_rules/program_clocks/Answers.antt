use Rattle.lb_check.proofs.Words.{IsIllClocked, List, Option, Part, Reached, ResolvedNode, [], ap}
use Rattle.lb_check.proofs.Words.{arith, get_or, is_clocked, is_clocked_at, is_part_clocked, length}
use Rattle.lb_check.proofs.Words.{length-append, map, node_terms, nothing_found, refl, slice_get}
use Rattle.lb_check.proofs.Words.{subst, sym, with_terms, ℕ, ◌++◌, ◌<◌, ◌∙◌, ◌∷◌, ◌≡◌, ◌≤◌}
use Rattle.lb_check.proofs.clocking.{WalkedClocks.map_more, WholeClocks.first_broken_specialization}
use Rattle.lb_check.proofs.clocking.WholeClocks.{first_part, found_is}
use Rattle.lb_check.proofs.{definitions.BrokenRules.part_named, lists.ListPairs.mapped_end}
use Rattle.lb_check.specs.{FoundParts.{AreClockedParts, IsClockedPart}, PlacedClocks.found_in}
use Rattle.std.proofs.{Common.below_more, Math.{ListN.get_or-append, Seq.get_or-append_seam}}
use Rattle.std.proofs.lemmas.Option.{slice_get_read}
use Rattle.lb_check.proofs.clock_rules.program_clocks.Goals as goal

-- the parts that the loop finds are those of all reached nodes, once it ends
parts_found : (r : Reached) (ps given : List (Option Part)) (nodes : List ResolvedNode) (i : ℕ) →
    length ps ≡ i
    → ((k : ℕ) (p : Option Part) → k < length ps → p ≡ get_or ps k p →
    IsClockedPart r (record { 0 = k }) p) →
    given ≡ ps → nodes ≡ r.nodes.items → length nodes ≤ i → i ≤ length nodes →
    AreClockedParts r given
parts_found r ps given nodes i count parts same all end within =
    subst (AreClockedParts r) (sym same) (omega (arith, count, end, within, ap length all), parts)

pub loop-node-preserved : goal.loop-node-preserved
loop-node-preserved c =
    let r = c.args.reached.now in
    let l = c.loop-node in
    let nodes = c.deref-node-items.result.now in
    let ps = l.parts.items in
    let of = λ (n : ResolvedNode). with_terms nothing_found (node_terms r n) in
    let found = c.in_ok-found.found in
    let more = c.in_ok-push.ensures.items in
    let count = l.invariant.count in
    let longer = ap length more ∙ length-append ps (found.broken ∷ []) in
    let at =
    ap (λ ns. slice_get ns (length ps)) (sym c.deref-node-items.ensures.value)
    ∙ ap (slice_get nodes) count
    ∙ slice_get_read nodes _ l.node-index c.node-item.result refl c.loop-node-test.true
    c.node-item.is in
    let IsRight = λ (i : ℕ) (qs : List (Option Part)). (p : Option Part) → p ≡ get_or qs i p →
    IsClockedPart r (record { 0 = i }) p in
    record {
      count = omega (arith, count, longer);
      parts = λ P names reached i p lt is.
          below_more (λ k. IsRight k (ps ++ (found.broken ∷ []))) (length ps)
          (λ k h q e. l.invariant.parts P names reached k q h
          (e ∙ get_or-append ps (found.broken ∷ []) q k h))
          (λ q e. subst (IsClockedPart r (record { 0 = length ps }))
          (sym (e ∙ get_or-append_seam ps found.broken [] q))
          (c.in_ok-found.ensures.part P (record { 0 = length ps }) names reached at))
          i (omega (arith, lt, longer)) p (is ∙ ap (λ qs. get_or qs i p) more);
      placed = map_more of found_in (map of nodes) l.clocks.items nodes l.node-index
          l.invariant.placed c.push-in-loop-node.new.self.items c.node-item.result found.clocks
          c.loop-node-test.true c.node-item.is c.in_ok-found.ensures.placed
          c.in_ok-push-2.ensures.items;
    }

pub returns-clause-judged : goal.returns-clause-judged
returns-clause-judged c P j typed =
    let r = c.args.reached.now in
    let l = c.loop-node in
    let found = c.first_ill_clocked-broken in
    let parts = parts_found r l.parts.items _ _ l.node-index l.invariant.count
    (l.invariant.parts P j.names j.reached) c.deref.ensures.value
    c.deref-node-items.ensures.value c.loop-node-test.false c.loop-node.auto.node-index-end in
    found_is P r c.args.table.now j typed found.result (found.ensures.first r parts)

pub returns-clause-named : goal.returns-clause-named
returns-clause-named c P j typed =
    let r = c.args.reached.now in
    let t = c.args.table.now in
    let l = c.loop-node in
    let found = c.first_ill_clocked-broken in
    let parts = parts_found r l.parts.items _ _ l.node-index l.invariant.count
    (l.invariant.parts P j.names j.reached) c.deref.ensures.value
    c.deref-node-items.ensures.value c.loop-node-test.false c.loop-node.auto.node-index-end in
    part_named P r t j (is_clocked P) (is_part_clocked P) (is_clocked_at r) (IsIllClocked r)
    (first_broken_specialization P r t j typed) (first_part P r t j typed) found.result
    (found.ensures.first r parts) (found.ensures.part r parts)

pub returns-clause-placed : goal.returns-clause-placed
returns-clause-placed c =
    let of = λ (n : ResolvedNode). with_terms nothing_found (node_terms c.args.reached.now n) in
    let l = c.loop-node in
    sym (mapped_end of c.deref-node-items.result.now l.node-index (map found_in l.clocks.items) _
    c.loop-node-test.false l.invariant.placed)
    ∙ ap (map of) c.deref-node-items.ensures.value
