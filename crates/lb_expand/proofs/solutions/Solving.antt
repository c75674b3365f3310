-- The equations of instances and of whole programs hold of streams and histories alike.
use Rattle.lb_expand.proofs.Words
use Words.{◌≡◌, ℕ, ◌+◌, List, [], ◌∷◌, length, flat_map, zip, refl, sym, ap, ◌∙◌, subst, length-map}
use Words.{Every, Name, Node, Statement, Equation, Assertion, Program, Instance, Path, Stream}
use Words.{Occurrence, call_count, occurrences, statement_clock, right_sides, statements}
use Words.{node_occurrences, History, Inputs, IsJoined, AreEqual, streams_at, column, AreLong}
use Words.{clock_reads, Layout, flat_clock, State, Emitted, joins, copied, Target, targets, assert}
use Words.{emit, emit_body, emit_instances, suc, Option, Some, None, IfSome, ◌++◌, map, arith}
use Words.{range_with_len, Declaration, heads_same, tails_same, Root, Observer, instance_at}
use Words.{instances, input_kinds, column_of, columns_at, Receives, FlatEquation, Holds, FlatSolves}
use Words.{from_inputs, given_inputs, observed_places, observed, before_instances, expanded, zero}
use Words.{◌<◌, Bool, true, false, replicate, Or, And, Kind, variables, width, declared_clock}
use Words.{fits, FlatClock, Always, Boolean, Bad}
use Rattle.std.proofs.Math.Numerals.{add-one}
use Rattle.lb_syntax.specs.declared.tree.Kind.TheVariants.{Bool as Truth}
use Rattle.lb_check.specs.{Clocks.Clock, Scalars.Nil, Solutions.{columns_of, IsGiven, IsObserved}}
use Rattle.lb_flat.{specs.Fitting.binary_kind, proofs.lists.Lists.{Every-append, Every-first}}
use Rattle.lb_flat.proofs.lists.Lists.{Every-second, Every-map, Every-both}
use Rattle.lb_expand.{specs.Emit.input_targets, proofs.lists.{Counting.IsTruth, Lists.map-pieces}}
use Rattle.lb_expand.proofs.solutions.Closing.{Closed, Below, tight, joins_tight, assert_closed}
use Rattle.lb_expand.proofs.solutions.Emission.{joins_equations, joins_copies, sound}
use Rattle.lb_expand.proofs.solutions.Filling.{filled_in, filled_solves, filled_long, length-filled}
use Rattle.lb_expand.proofs.solutions.Placing.{IsMet, AllMet, Agrees, IsPlaced, targeted}
use Rattle.lb_expand.proofs.solutions.Placing.{copied_same, copied_holds, targets_flat, HasTruths}
use Rattle.lb_expand.proofs.solutions.Placing.{columns, AreAsWide, received_sound, received_holds}

-- The copies of an instance hold exactly if its equations hold and its calls are joined; and so for
-- all instances.

-- the left variables are as wide as the right side
abbrev pub IsWide : Program → History → Instance → Statement → Occurrence → Type 0
IsWide P H here (Equation lefts e) o =
    length (flat_map (H.columns here.path) lefts) ≡ length (streams_at P H here o)
IsWide P H here (Assertion e) o = Unit {0}

-- the right sides of an instance are as wide as the left variables, and its occurrences are placed
pub record IsSound (Y : Layout) (P : Program) (H : History) (here : Instance) : Type 0 where
  pub wide : Every (λ s. IsWide P H here s.0 s.1) (statements P here.node)
  pub placed : Every (IsPlaced Y P H here) (node_occurrences P here.node)

-- the equations of an instance hold in a history, and its calls are joined
pub record IsSolvedAt (P : Program) (H : History) (here : Instance) : Type 0 where
  pub equations : Every (λ s. AreEqual P H here s.0 s.1) (statements P here.node)
  pub calls : Every (IsJoined P H here) (node_occurrences P here.node)

pub assert_equations : (x : Emitted) → (assert x).equations ≡ x.state.equations
unfolding assert
assert_equations x = refl

pub assert_copies : (x : Emitted) → (assert x).copies ≡ x.state.copies
unfolding assert
assert_copies x = refl

-- every occurrence in the right sides `rs`
abbrev pub occurrences_of : Program → Node → List Occurrence → List Occurrence
occurrences_of P here rs = flat_map (λ r. occurrences P here r.clock r.calls_before r.expr) rs

module _ (Y : Layout) (P : Program) (X : Inputs) (H : History) (F : List Stream)
    (long : AreLong X F) (agrees : Agrees Y X H F) where
  module _ (here : Instance) where
    -- the copies of `s` hold, the equations `ss` hold, and the calls in `os` are joined
    pub record There (s : State) (ss : List (Statement × Occurrence)) (os : List Occurrence) :
        Type 0 where
      pub copies : AllMet X F s.copies
      pub equal : Every (λ s. AreEqual P H here s.0 s.1) ss
      pub joined : Every (IsJoined P H here) os

    pub record BodySound (s t : State) (ss : List (Statement × Occurrence))
        (os : List Occurrence) : Type 0 where
      pub before : AllMet X F s.equations
      pub there : AllMet X F t.copies → There s ss os
      pub back : There s ss os → AllMet X F t.copies

    -- the targets of some left variables
    abbrev left_targets : List Name → List Target
    left_targets lefts = flat_map (targets Y here.node here.path) lefts

    pub body_sound :
        (n : ℕ) (s : State) (body : List Statement) →
        Every (λ s. IsWide P H here s.0 s.1) (zip body (right_sides P here.node n body)) →
        Every (IsPlaced Y P H here) (occurrences_of P here.node (right_sides P here.node n body)) →
        AllMet X F (emit_body Y P here n s body).equations →
        BodySound s (emit_body Y P here n s body) (zip body (right_sides P here.node n body))
        (occurrences_of P here.node (right_sides P here.node n body))
    unfolding emit_body
    body_sound n s [] wide w h = record {
      before = h;
      there = λ g. record { copies = g; equal = tt; joined = tt };
      back = λ g. g.copies;
    }
    body_sound n s (Assertion e ∷ rest) wide w h =
        let k = statement_clock P here.node (Assertion e) in
        let m = n + call_count e in
        let x = emit Y P here k n s e in
        let r = body_sound m (assert x) rest wide.1
        (Every-second (IsPlaced Y P H here) _ _ w) h in
        let a = sound Y P X H F long agrees here k n s e
        (Every-first (IsPlaced Y P H here) _ _ w)
        (subst (AllMet X F) (assert_equations x) r.before) in
        record {
          before = a.before;
          there = λ g.
              let u = r.there g in
              let v = a.joins.there (subst (AllMet X F) (assert_copies x) u.copies) in
              record {
                copies = v.0;
                equal = (tt, u.equal);
                joined = Every-append (IsJoined P H here) _ _ v.1 u.joined;
              };
          back = λ g.
              let of_a = Every-first (IsJoined P H here) _ _ g.joined in
              r.back (record {
                copies = subst (AllMet X F) (sym (assert_copies x)) (a.joins.back g.copies of_a);
                equal = g.equal.1;
                joined = Every-second (IsJoined P H here) _ _ g.joined;
              });
        }
    body_sound n s (Equation lefts e ∷ rest) wide w h =
        let k = statement_clock P here.node (Equation lefts e) in
        let m = n + call_count e in
        let x = emit Y P here k n s e in
        let ts = left_targets lefts in
        let qs = copied ts x.found in
        let t = (joins x.state qs []).state in
        let r = body_sound m t rest wide.1 (Every-second (IsPlaced Y P H here) _ _ w) h in
        let a = sound Y P X H F long agrees here k n s e
        (Every-first (IsPlaced Y P H here) _ _ w)
        (subst (AllMet X F) (joins_equations x.state qs []) r.before) in
        let left = map-pieces (λ t. column X F t.place) (targets Y here.node here.path)
        (H.columns here.path) (targets_flat Y X H F agrees here.node here.path) lefts in
        let as_long : length ts ≡ length x.found =
        sym (length-map ts (λ t. column X F t.place)) ∙ ap length (sym left) ∙ wide.0
        ∙ ap length (sym a.found) ∙ length-map x.found (column X F) in
        record {
          before = a.before;
          there = λ g.
              let u = r.there g in
              let c = subst (AllMet X F) (joins_copies x.state qs []) u.copies in
              let v = a.joins.there (Every-first (IsMet X F) x.state.copies qs c) in
              let of_qs = Every-second (IsMet X F) x.state.copies qs c in
              record {
                copies = v.0;
                equal = (left ∙ copied_same X F ts x.found as_long of_qs ∙ a.found, u.equal);
                joined = Every-append (IsJoined P H here) _ _ v.1 u.joined;
              };
          back = λ g.
              let of_a = Every-first (IsJoined P H here) _ _ g.joined in
              let of_qs = copied_holds X F ts x.found (sym left ∙ g.equal.0 ∙ sym a.found) in
              r.back (record {
                copies = subst (AllMet X F) (sym (joins_copies x.state qs []))
                    (Every-append (IsMet X F) x.state.copies qs (a.joins.back g.copies of_a) of_qs);
                equal = g.equal.1;
                joined = Every-second (IsJoined P H here) _ _ g.joined;
              });
        }

  pub record AllSound (s t : State) (instances : List Instance) : Type 0 where
    pub before : AllMet X F s.equations
    pub there : AllMet X F t.copies → AllMet X F s.copies × Every (IsSolvedAt P H) instances
    pub back : AllMet X F s.copies → Every (IsSolvedAt P H) instances → AllMet X F t.copies

  pub all_sound :
      (s : State) (instances : List Instance) → Every (IsSound Y P H) instances →
      AllMet X F (emit_instances Y P s instances).equations →
      AllSound s (emit_instances Y P s instances) instances
  unfolding emit_instances
  all_sound s [] ok h = record { before = h; there = λ g. (g, tt); back = λ g i. g }
  all_sound s (here ∷ rest) ok h =
      let t = emit_body Y P here 0 s here.node.body in
      let r = all_sound t rest ok.1 h in
      let a = body_sound here 0 s here.node.body ok.0.wide ok.0.placed r.before in
      record {
        before = a.before;
        there = λ g.
            let u = r.there g in
            let v = a.there u.0 in
            (v.copies, (record { equations = v.equal; calls = v.joined }, u.1));
        back = λ g i.
            r.back (a.back (record { copies = g; equal = i.0.equations; joined = i.0.calls })) i.1;
      }

-- ## Elements

-- the elements of variables and of clocks are the first V
pub record IsLaidOut (V : ℕ) (Y : Layout) : Type 0 where
  pub places : (p : Path) (x : Name) → Below V (Y.places p x)
  pub clocks : (p : Path) (k : Clock) → Below V (clock_reads (flat_clock Y p k))

-- every instance's equations give elements one after another
module _ (V : ℕ) (Y : Layout) (P : Program) (laid : IsLaidOut V Y) where
  body_closed :
      (here : Instance) (n : ℕ) (s : State) (body : List Statement) → Closed V s →
      Closed V (emit_body Y P here n s body)
  unfolding emit_body
  body_closed here n s [] c = c
  body_closed here n s (Assertion e ∷ rest) c =
      body_closed here (n + call_count e) (assert (emit Y P here _ n s e)) rest
      (assert_closed V _ (tight V Y P here laid.places (laid.clocks here.path) _ n s e c).state)
  body_closed here n s (Equation lefts e ∷ rest) c =
      let k = statement_clock P here.node (Equation lefts e) in
      body_closed here (n + call_count e) (joins (emit Y P here k n s e).state _ []).state rest
      (joins_tight V _ _ [] (tight V Y P here laid.places (laid.clocks here.path) k n s e c).state
      tt).state

  pub all_closed :
      (s : State) (instances : List Instance) → Closed V s →
      Closed V (emit_instances Y P s instances)
  unfolding emit_instances
  all_closed s [] c = c
  all_closed s (here ∷ rest) c =
      all_closed (emit_body Y P here 0 s here.node.body) rest
      (body_closed here 0 s here.node.body c)

-- Streams that solve a whole flat program, and histories that solve a whole program: its inputs are
-- the trace, the observer receives what it is to see, and every instance is solved.

-- the instances, the inputs and what the observer receives have the widths of their types
pub record IsProgramSound (Y : Layout) (P : Program) (H : History) : Type 0 where
  pub instances : Every (IsSound Y P H) (instances P)
  pub inputs :
      IfSome (instance_at P Root) (λ root.
      length (input_targets Y root) ≡ length (input_kinds P))
  pub observer :
      IfSome (instance_at P Root) (λ root. IfSome (instance_at P Observer) (λ observer.
      AreAsWide H Observer observer.node.inputs
      (columns_at H Root (root.node.inputs ++ root.node.outputs))))

-- a history has the inputs of the trace, feeds the observer, and solves every instance
pub record IsTied (P : Program) (X : Inputs) (H : History) : Type 0 where
  pub inputs : IfSome (instance_at P Root) (IsGiven P X H)
  pub observed :
      IfSome (instance_at P Root) (λ root. IfSome (instance_at P Observer) (IsObserved H root))
  pub instances : Every (IsSolvedAt P H) (instances P)

module _ (X : Inputs) (F : List Stream) where
  from_inputs_sound :
      (j : ℕ) (ts : List Target) → AllMet X F (from_inputs j ts) →
      targeted X F ts ≡ map (column_of X) (range_with_len j (length ts))
  from_inputs_sound j [] h = refl
  from_inputs_sound j (t ∷ ts) h =
      let e : suc j ≡ j + 1 = sym (add-one j) in
      cc (h.0.0, from_inputs_sound (suc j) ts h.1)

  from_inputs_holds :
      (j : ℕ) (ts : List Target) →
      targeted X F ts ≡ map (column_of X) (range_with_len j (length ts)) →
      Every (Holds X F) (from_inputs j ts)
  from_inputs_holds j [] e = tt
  from_inputs_holds j (t ∷ ts) e =
      let next : j + 1 ≡ suc j = add-one j in (
        heads_same _ _ _ _ e,
        from_inputs_holds (suc j) ts
            (tails_same _ _ _ _ e
            ∙ ap (λ i. map (column_of X) (range_with_len i (length ts))) next),
      )

module _ (Y : Layout) (P : Program) (X : Inputs) (H : History) (F : List Stream)
    (agrees : Agrees Y X H F) where
  inputs_flat :
      (root : Instance) →
      flat_map (λ d. H.columns Root d.name) root.node.inputs
      ≡ targeted X F (input_targets Y root)
  inputs_flat root =
      map-pieces (λ t. column X F t.place) (λ d. targets Y root.node Root d.name)
      (λ d. H.columns Root d.name)
      (λ d. targets_flat Y X H F agrees root.node Root d.name) root.node.inputs

  inputs_sound :
      (o : Option Instance) →
      IfSome o (λ root. length (input_targets Y root) ≡ length (input_kinds P)) →
      AllMet X F (given_inputs Y o) → IfSome o (IsGiven P X H)
  inputs_sound None w h = tt
  inputs_sound (Some root) w h =
      cc (inputs_flat root, from_inputs_sound X F 0 (input_targets Y root) h)

  inputs_hold :
      (o : Option Instance) →
      IfSome o (λ root. length (input_targets Y root) ≡ length (input_kinds P)) →
      IfSome o (IsGiven P X H) → Every (Holds X F) (given_inputs Y o)
  inputs_hold None w g = tt
  inputs_hold (Some root) w g =
      from_inputs_holds X F 0 _ (sym (inputs_flat root) ∙ g ∙ sym (ap (λ n. columns_of n X) w))

  places_flat :
      (ds : List Declaration) →
      map (columns X F) (map (λ d. Y.places Root d.name) ds) ≡ columns_at H Root ds
  places_flat [] = refl
  places_flat (d ∷ ds) = cc (agrees.columns Root d.name, places_flat ds)

  abbrev AreObserved : Option Instance → Option Instance → Type 0
  AreObserved root observer =
      IfSome root (λ root. IfSome observer (λ observer.
      AreAsWide H Observer observer.node.inputs
      (columns_at H Root (root.node.inputs ++ root.node.outputs))))

  observed_sound :
      (o p : Option Instance) → AreObserved o p → AllMet X F (observed Y o p) →
      IfSome o (λ root. IfSome p (IsObserved H root))
  observed_sound None p w h = tt
  observed_sound (Some root) None w h = tt
  observed_sound (Some root) (Some observer) w h =
      let e = places_flat (root.node.inputs ++ root.node.outputs) in
      let inputs = observer.node.inputs in
      subst (Receives H Observer inputs) e
      (received_sound Y X H F agrees observer.node Observer inputs (observed_places Y root)
      (subst (AreAsWide H Observer inputs) (sym e) w) h)

  observed_hold :
      (o p : Option Instance) → IfSome o (λ root. IfSome p (IsObserved H root)) →
      AllMet X F (observed Y o p)
  observed_hold None p g = tt
  observed_hold (Some root) None g = tt
  observed_hold (Some root) (Some observer) g =
      let e = places_flat (root.node.inputs ++ root.node.outputs) in
      let inputs = observer.node.inputs in
      received_holds Y X H F agrees observer.node Observer inputs (observed_places Y root)
      (subst (Receives H Observer inputs) (sym e) g)

-- what expansion has emitted after all instances is closed
pub start_closed :
    (count : ℕ) (Y : Layout) (P : Program) → IsLaidOut count Y →
    Closed count (emit_instances Y P (before_instances count) (instances P))
start_closed count Y P laid =
    all_closed count Y P laid _ _ (record { fresh = tt; next = omega arith })

module _ (count : ℕ) (Y : Layout) (laid : IsLaidOut count Y) (P : Program) (X : Inputs) where
  abbrev s : State
  s = emit_instances Y P (before_instances count) (instances P)

  abbrev given : List FlatEquation
  given = given_inputs Y (instance_at P Root)

  abbrev seen : List FlatEquation
  seen = observed Y (instance_at P Root) (instance_at P Observer)

  closed : Closed count s
  closed = start_closed count Y P laid

  -- streams that solve tie the history that they stand for
  pub from_flat :
      (H : History) (F : List Stream) → AreLong X F → Agrees Y X H F → IsProgramSound Y P H →
      AllMet X F (expanded Y P count).equations → IsTied P X H
  from_flat H F long agrees ok met =
      let met₁ = Every-second (IsMet X F) given (seen ++ (s.copies ++ s.equations)) met in
      let met₂ = Every-second (IsMet X F) seen (s.copies ++ s.equations) met₁ in
      let r = all_sound Y P X H F long agrees (before_instances count) (instances P) ok.instances
      (Every-second (IsMet X F) s.copies s.equations met₂) in
      record {
        inputs = inputs_sound Y P X H F agrees (instance_at P Root) ok.inputs
            (Every-first (IsMet X F) given (seen ++ (s.copies ++ s.equations)) met);
        observed = observed_sound Y P X H F agrees (instance_at P Root) (instance_at P Observer)
            ok.observer (Every-first (IsMet X F) seen (s.copies ++ s.equations) met₁);
        instances = (r.there (Every-first (IsMet X F) s.copies s.equations met₂)).1;
      }

  -- the streams of all elements, filled in from the streams of the variables
  abbrev pub all_streams_of : List Stream → List Stream
  all_streams_of F = filled_in X F s.equations

  -- a history that is tied gives streams that solve
  pub to_flat :
      (H : History) (F : List Stream) → length F ≡ count → AreLong X F →
      Every (λ q. HasTruths X (all_streams_of F) q.operation) s.equations →
      Agrees Y X H (all_streams_of F) → IsProgramSound Y P H → IsTied P X H →
      FlatSolves (expanded Y P count).size (expanded Y P count).equations X (all_streams_of F)
  to_flat H F e long truths agrees ok tied =
      let G = all_streams_of F in
      let long' = filled_long X F s.equations long in
      let further = filled_solves X F count s.equations e closed.fresh in
      let met = Every-both (Holds X G) (λ q. HasTruths X G q.operation) s.equations further
      truths in
      let r = all_sound Y P X H G long' agrees (before_instances count) (instances P)
      ok.instances met in
      let holds = λ (qs : List FlatEquation) (m : AllMet X G qs).
      Every-map (IsMet X G) (Holds X G) (λ q m. m.0) qs m in
      record {
        elements = length-filled X F s.equations ∙ ap (λ n. n + length s.equations) e
            ∙ sym closed.next;
        as_long = long';
        equations =
            Every-append (Holds X G) given (seen ++ (s.copies ++ s.equations))
            (inputs_hold Y P X H G agrees (instance_at P Root) ok.inputs tied.inputs)
            (Every-append (Holds X G) seen (s.copies ++ s.equations)
            (holds seen (observed_hold Y P X H G agrees (instance_at P Root)
            (instance_at P Observer) tied.observed))
            (Every-append (Holds X G) s.copies s.equations
            (holds s.copies (r.back tt tied.instances)) further));
      }

-- ## Truth values

pub fits_truths : (bs : List Bool) (xs : Stream) → fits Truth bs xs ≡ true → Every IsTruth xs
fits_truths bs [] e = tt
fits_truths (false ∷ bs) (None ∷ xs) e = (tt, fits_truths bs xs e)
fits_truths (true ∷ bs) (Some (Boolean b) ∷ xs) e = (tt, fits_truths bs xs e)
fits_truths (true ∷ bs) (Some Nil ∷ xs) e = (tt, fits_truths bs xs e)
fits_truths (true ∷ bs) (Some Bad ∷ xs) e = (tt, fits_truths bs xs e)
fits_truths _ _ e = cc

pub absent_truths : (n : ℕ) → Every IsTruth (replicate n None)
absent_truths zero = tt
absent_truths (suc n) = (tt, absent_truths n)

pub second_of_or : (k l r : Kind) → binary_kind Or k l ≡ Some r → l ≡ Truth
second_of_or k l r e = grind arith

pub second_of_and : (k l r : Kind) → binary_kind And k l ≡ Some r → l ≡ Truth
second_of_and k l r e = grind arith

-- ## Variables

-- element `i` is below `size`, on clock `k` and of kind `kind`
pub record IsElement (K : ℕ → FlatClock) (N : ℕ → Kind) (size : ℕ) (k : FlatClock) (kind : Kind)
    (i : ℕ) : Type 0 where
  pub within : i < size
  pub clock : K i ≡ k
  pub is_of : N i ≡ kind

-- a variable has as many elements as its type, on its clock and of its kind
pub record IsVariablePlaced (Y : Layout) (P : Program) (K : ℕ → FlatClock) (N : ℕ → Kind)
    (size : ℕ) (here : Instance) (d : Declaration) : Type 0 where
  pub width : length (Y.places here.path d.name) ≡ width P here d
  pub elements :
      Every (IsElement K N size
      (flat_clock Y here.path (declared_clock here.node d.name)) d.kind)
      (Y.places here.path d.name)

-- a layout that places all variables, with the two roots on the base clock
pub record IsPlacing (Y : Layout) (P : Program) (count : ℕ) (K : ℕ → FlatClock) (N : ℕ → Kind)
    (size : ℕ) : Type 0 where
  pub laid : IsLaidOut count Y
  pub root : Y.runs Root ≡ Always
  pub observer : Y.runs Observer ≡ Always
  pub variables :
      Every (λ here. Every (IsVariablePlaced Y P K N size here) (variables here.node))
      (instances P)
