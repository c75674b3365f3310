-- The equations of an expansion give elements of the program: copies give the elements of
-- variables, and the other equations give the elements after them.
use Rattle.lb_expand.proofs.Words
use Words.{ArrayIterator, Child, Declaration, Every, FlatEquation, Instance, Layout, List, Name}
use Words.{Node, None, Observer, Option, Path, Program, Root, Some, State, Target, [], arith}
use Words.{before_instances, call_copies, copied, declared_clock, emit_instances, expanded}
use Words.{flat_clock, flat_map, from_inputs, given_inputs, instance_at, instances, iterator_copies}
use Words.{iterator_inputs, length, map, observed, observed_places, range_with_len, received, subst}
use Words.{suc, sym, targets, ℕ, ◌++◌, ◌+◌, ◌<◌, ◌∷◌, ◌≡◌}
use Rattle.lb_expand.proofs.emission.EmissionSteps.{AreJoined, IsStep, add_copies, instances_step}
use Rattle.lb_expand.proofs.{emission.EmissionSteps.keep_copies, lists.Lists.Every-pieces}
use Rattle.lb_expand.proofs.solutions.{Closing.Below, Emission.joins_copies, Filling.Fresh}
use Rattle.lb_expand.proofs.solutions.Solving.{IsLaidOut, assert_copies, start_closed}
use Rattle.{lb_expand.specs.Emit.input_targets, lb_flat.proofs.lists.Lists.Every-append}
use Rattle.lb_flat.proofs.lists.Lists.{Every-map}

-- ## Copies

module _ (V : ℕ) (Y : Layout) (P : Program)
    (places : (p : Path) (x : Name) → Below V (Y.places p x)) where
  -- equations of elements below V
  abbrev pub AllBelow : List FlatEquation → Type 0
  AllBelow qs = Every (λ q. q.element < V) qs

  -- an element of a target below V
  abbrev Low : Target → Type 0
  Low t = t.place < V

  targets_below : (n : Node) (p : Path) (x : Name) → Every Low (targets Y n p x)
  targets_below n p x = by (Y.places p x) (places p x)
    where
      by : (is : List ℕ) → Below V is →
          Every Low
          (map (λ i. record { place = i; clock = flat_clock Y p (declared_clock n x) }) is)
      by [] h = tt
      by (i ∷ is) h = (h.0, by is h.1)

  copied_below : (ts : List Target) (js : List ℕ) → Every Low ts → AllBelow (copied ts js)
  copied_below [] js h = tt
  copied_below (t ∷ ts) [] h = tt
  copied_below (t ∷ ts) (j ∷ js) h = (h.0, copied_below ts js h.1)

  received_below : (callee : Node) (p : Path) (ds : List Declaration) (iss : List (List ℕ)) →
      AllBelow (received Y callee p ds iss)
  received_below callee p [] iss = tt
  received_below callee p (d ∷ ds) [] = tt
  received_below callee p (d ∷ ds) (is ∷ iss) =
      Every-append (λ q. q.element < V) (copied (targets Y callee p d.name) is)
      (received Y callee p ds iss)
      (copied_below (targets Y callee p d.name) is (targets_below callee p d.name))
      (received_below callee p ds iss)

  call_below : (p : Path) (o : Option Node) (iss : List (List ℕ)) → AllBelow (call_copies Y p o iss)
  call_below p None iss = tt
  call_below p (Some callee) iss = received_below callee p callee.inputs iss

  iterator_below :
      (p : Path) (n : ℕ) (it : ArrayIterator) (m : ℕ) (o : Option Node) (iss : List (List ℕ)) →
      AllBelow (iterator_copies Y p n it m o iss)
  iterator_below p n it m None iss = tt
  iterator_below p n it m (Some callee) iss =
      let outputs : ℕ → Name → List ℕ = λ i x. Y.places (Child p n i) x in
      Every-pieces (λ q. q.element < V)
      (λ i. received Y callee (Child p n i) callee.inputs
      (iterator_inputs outputs m it callee.outputs iss i))
      (λ i. received_below callee (Child p n i) callee.inputs
      (iterator_inputs outputs m it callee.outputs iss i))
      (range_with_len 0 m)

  -- copies that are the same as before are below V as before
  on : (Q R : List FlatEquation) → R ≡ Q → AllBelow Q → AllBelow R
  on Q R e h = subst AllBelow (sym e) h

  abbrev Lows : State → State → Type 0
  Lows s t = AllBelow s.copies → AllBelow t.copies

  lowering : IsStep AllBelow Lows
  lowering = record {
    adding = record {
      none = λ s h. h;
      both = λ s t u a b h. b (a h);
      adds = λ k s os h. on _ _ (add_copies k s os) h;
    };
    keeps = λ x h. on _ _ (keep_copies x) h;
    joining = λ s qs is new h. on _ _ (joins_copies s qs is) (Every-append (λ q. q.element < V)
        s.copies qs h new);
  }

  joined_below : AreJoined AllBelow Y
  joined_below = record {
    calls = call_below;
    iterators = iterator_below;
    lefts = λ here xs is.
        copied_below (flat_map (targets Y here.node here.path) xs) is
        (Every-pieces Low (targets Y here.node here.path) (targets_below here.node here.path) xs);
  }

  -- ## The trace and the observer

  inputs_below : (j : ℕ) (ts : List Target) → Every Low ts → AllBelow (from_inputs j ts)
  inputs_below j [] h = tt
  inputs_below j (t ∷ ts) h = (h.0, inputs_below (suc j) ts h.1)

  given_below : (o : Option Instance) → AllBelow (given_inputs Y o)
  given_below None = tt
  given_below (Some root) =
      inputs_below 0 (input_targets Y root)
      (Every-pieces Low (λ d. targets Y root.node Root d.name)
      (λ d. targets_below root.node Root d.name) root.node.inputs)

  observed_below : (o p : Option Instance) → AllBelow (observed Y o p)
  observed_below None p = tt
  observed_below (Some root) None = tt
  observed_below (Some root) (Some observer) =
      received_below observer.node Observer observer.node.inputs (observed_places Y root)

-- ## All equations

fresh_within : (n : ℕ) (qs : List FlatEquation) → Fresh n qs →
    Every (λ q. q.element < n + length qs) qs
fresh_within n [] h = tt
fresh_within n (q ∷ qs) h = (
  let e = h.0.element in omega (arith, e),
  Every-map (λ q. q.element < suc n + length qs) (λ q. q.element < n + suc (length qs))
      (λ q lt. omega (arith, lt)) qs (fresh_within (suc n) qs h.1),
)

-- the equations of an expansion give elements of the program
pub expanded_within :
    (count : ℕ) (Y : Layout) (P : Program) → IsLaidOut count Y →
    Every (λ q. q.element < (expanded Y P count).size) (expanded Y P count).equations
expanded_within count Y P laid =
    let s = emit_instances Y P (before_instances count) (instances P) in
    let given = given_inputs Y (instance_at P Root) in
    let seen = observed Y (instance_at P Root) (instance_at P Observer) in
    let closed = start_closed count Y P laid in
    let widen : (qs : List FlatEquation) → Every (λ q. q.element < count) qs →
    Every (λ q. q.element < s.next) qs =
    λ qs h. Every-map (λ q. q.element < count) (λ q. q.element < s.next)
    (λ q lt. omega (arith, lt, closed.next)) qs h in
    Every-append (λ q. q.element < s.next) given (seen ++ (s.copies ++ s.equations))
    (widen given (given_below count Y P laid.places _)) (Every-append (λ q. q.element < s.next)
    seen (s.copies ++ s.equations) (widen seen (observed_below count Y P laid.places _ _))
    (Every-append (λ q. q.element < s.next) s.copies s.equations (widen s.copies
    (instances_step (AllBelow count Y P laid.places) (Lows count Y P laid.places) (lowering count Y
    P laid.places) Y (joined_below count Y P laid.places) P (λ x h. (on count Y P laid.places) _ _
    (assert_copies x) h) _ _ tt))
    (rw closed.next (fresh_within count _ closed.fresh))))
