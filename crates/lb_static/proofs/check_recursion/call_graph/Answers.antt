-- One more node, and the nodes that it calls.
use Rattle.std.proofs.Common.{◌≡◌, ◌+◌, ◌<◌, ◌++◌, ◌∷◌, [], ℕ, List, ap, sym, ◌∙◌, drop, get_or}
use Rattle.std.proofs.Common.{length, map}
use Rattle.std.specs.Prelude.{Vec}
use Rattle.std.specs.Global.{Global}
use Rattle.std.proofs.Math.ListN.{drop_of_length-le}
use Rattle.std.proofs.lemmas.List.{append-nil, append_assoc, map-append}
use Rattle.lb_static.specs.CallGraphs.{callees_of, graph_of}
use Rattle.lb_static.proofs.Lists.{map_next}
use Rattle.lb_static.proofs.check_recursion.call_graph.Goals as goal

one_node : {A : Type 0} (f : A → List ℕ) (done after : List (Vec ℕ Global)) (v : Vec ℕ Global)
    (xs : List A) (i : ℕ) (x : A) (all : List (List ℕ)) → i < length xs → x ≡ get_or xs i x
    → v.items ≡ f x → after ≡ done ++ v ∷ []
    → map (λ w. w.items) done ++ map f (drop i xs) ≡ all
    → map (λ w. w.items) after ++ map f (drop (i + 1) xs) ≡ all
one_node f done after v xs i x all below is called more h =
    let before = map (λ w. w.items) done in
    let left = map f (drop (i + 1) xs) in
    ap (λ l. map (λ w. w.items) l ++ left) more
    ∙ ap (λ l. l ++ left) (map-append (λ w. w.items) done (v ∷ []))
    ∙ append_assoc before (v.items ∷ []) left ∙ ap (λ l. before ++ l ∷ left) called
    ∙ ap (λ l. before ++ l) (ap (λ y. f y ∷ left) is ∙ sym (map_next f xs i x below)) ∙ h

pub loop-node-preserved : goal.loop-node-preserved
loop-node-preserved c =
    let r = c.args.reached.now in
    one_node (λ n. callees_of r n.calls.items) c.loop-node.graph.items c.push.new.self.items
    c.in_ok-callees.field-0 c.deref-node-items.result.now c.loop-node.node-index
    c.node-item.result (graph_of r) c.loop-node-test.true c.node-item.is
    (c.in_ok-callees.ensures ∙ ap (callees_of r) c.deref.ensures.value)
    c.in_ok-push.ensures.items c.loop-node.invariant

pub returns : goal.returns
returns c =
    let r = c.args.reached.now in
    let done = map (λ w. w.items) c.loop-node.graph.items in
    sym (append-nil done)
    ∙ ap (λ l. done ++ map (λ n. callees_of r n.calls.items) l)
    (sym (drop_of_length-le c.deref-node-items.result.now c.loop-node-test.false))
    ∙ c.loop-node.invariant
