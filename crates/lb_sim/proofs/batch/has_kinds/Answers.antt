-- One more kind is equal, or one is another.
use Rattle.std.proofs.Common.{◌≡◌, ◌≢◌, ◌<◌, ◌∙◌, ℕ, List, length, get_or, take, arith, rules, true}
use Rattle.std.proofs.Common.{false, ap, sym, ◌+◌}
use Rattle.std.specs.Prelude.{slice_get, Some}
use Rattle.std.proofs.lemmas.List.{length-map, take_more_same}
use Rattle.std.proofs.lemmas.Option.{get_or_from_slice_get}
use Rattle.lb_syntax.specs.declared.tree.Kind.{Kind}
use Rattle.lb_static.specs.Signature.{Element, kinds_of}
use Rattle.lb_sim.proofs.batch.has_kinds.Goals as goal

kinds_more :
    (xs kinds : List Kind) (j : ℕ) (k d : Kind) → j < length kinds → length xs ≡ length kinds →
    slice_get xs j ≡ Some k → k ≡ get_or kinds j d → take j xs ≡ take j kinds →
    take (j + 1) xs ≡ take (j + 1) kinds
kinds_more xs kinds j k d inside long there same before =
    take_more_same xs kinds j d (omega (arith, inside, long)) inside before
    (get_or_from_slice_get xs j k d there ∙ same)

kinds_differ :
    (xs kinds : List Kind) (j : ℕ) (k d : Kind) → slice_get xs j ≡ Some k → k ≢ get_or kinds j d →
    xs ≢ kinds
kinds_differ xs kinds j k d there other same =
    other (sym (get_or_from_slice_get xs j k d there) ∙ ap (λ l. get_or l j d) same)

pub returns-then-not-is_kind-clause-other : goal.returns-then-not-is_kind-clause-other
returns-then-not-is_kind-clause-other c e =
    let is_other : c.is_kind.result ≡ false = search rules in
    kinds_differ (kinds_of c.args.signature.now) c.args.kinds.now c.loop-j.j c.kind.result _
    c.kind.ensures (c.is_kind.ensures.other is_other)

pub loop-j-preserved : goal.loop-j-preserved
loop-j-preserved c =
    let signature = c.args.signature.now in
    let kinds = c.args.kinds.now in
    let as_many = length-map signature (λ (e : Element). e.1) in
    let long : length (kinds_of signature) ≡ length kinds =
    omega (arith, as_many, c.len.ensures.count, c.if-len-kinds.false) in
    let is_same : c.is_kind.result ≡ true = search rules in
    kinds_more (kinds_of signature) kinds c.loop-j.j c.kind.result _
    (omega (arith, c.loop-j-test.true)) long c.kind.ensures (c.is_kind.ensures.same is_same)
    c.loop-j.invariant
