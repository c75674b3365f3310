-- The streams of solutions of an accepted program: their instants, and histories that share them.
use Rattle.lb_check.proofs.Words
use Words.{AgreeAt, AreSame, ArrayIterator, Assertion, Bool, Call, Child, Clock, Cons, Declaration}
use Words.{Equation, Every, Expr, Exprs, Fill, History, IfSome, Inputs, Instance, Iterate, Kind}
use Words.{List, Map, Name, Nil, Node, Node_named, None, Observer, Occurrence, On, Option, Path}
use Words.{Program, Red, Root, Site, Solves, Some, Statement, Static, Symbol, [], all_streams}
use Words.{and_second, ap, ap₂, are_declared_clocks, argument_clocks, arith, at, base_clock}
use Words.{bytes_eq-Decides, call_clocks, call_count, call_site, callee_of, check_refusal, clock_or}
use Words.{clock_within, declared_clock, either_or, false, instance_at, instance_count, instances}
use Words.{instantiation_refusal, is_clocked, is_typed, length, length-replicate, map, named}
use Words.{node_named, node_occurrences, node_sites, number, operator_types, presence, refl}
use Words.{replicate, same_Some, sampled, signed, statements, static_count, static_refusal, subst}
use Words.{suc, sym, true, variable_clock, variables, zero, zip2, ℕ, ◌+◌, ◌<◌, ◌>>=◌, ◌∙◌, ◌∷◌, ◌≡◌}
use Rattle.lb_check.proofs.clocking.NamedClocks.{IsOver, OfCalled, Sited, base_over, declared_over}
use Rattle.lb_check.proofs.clocking.{NamedClocks.named_every, OwnClocks.more_steps}
use Rattle.lb_check.proofs.{definitions.BrokenRules.instantiation_kept, lists.Members.Every-append}
use Rattle.lb_check.proofs.lists.Members.{Every-at, Every-both, Every-first, Every-map}
use Rattle.lb_check.proofs.lists.Members.{Every-of_range, Every-range, Every-second, flat_same}
use Rattle.lb_check.proofs.programs.AcceptedRules.{all_clocked, all_declared, all_typed, calls_have}
use Rattle.lb_check.proofs.programs.{InstancePaths.{callee_node, path_is}, OccurrenceSites.own_site}
use Rattle.lb_check.proofs.programs.{Operands.OnEach, SameHistories.{StatementsStand, all_called}}
use Rattle.lb_check.proofs.programs.SameHistories.{called_same, callee_path, entered, started}
use Rattle.lb_check.proofs.programs.{SameHistories.starts_agree, SameStreams.{IsSame, Same}}
use Rattle.lb_check.proofs.programs.SameStreams.{StandsHere, all_same, known, operands}
use Rattle.lb_check.proofs.programs.SameStreams.{presence_same, same_streams, streams_same}
use Rattle.lb_check.proofs.programs.SiteOccurrences.{IsPassed, Passes, inherited}
use Rattle.lb_check.proofs.{programs.StandingParts.{Stands, node_stands}, typing.OperandTypes.bound}
use Rattle.lb_check.{proofs.typing.OperandTypes.{called, placed}, specs.Clocks.Base}
use Rattle.lb_check.specs.{Scalars.{Stream, is_of_kind}, Solutions.{AreEqual, Fits, IsCallJoined}}
use Rattle.lb_check.specs.Solutions.{IsGiven, IsIteratorJoined, IsJoined, IsJoinedAt, IsObserved}
use Rattle.lb_check.specs.Solutions.{Receives, SolvesAt, accumulated, columns_at, fits}
use Rattle.lb_check.specs.{Solutions.{iterator_inputs, variable_presence}, Streams.argument_streams}
use Rattle.lb_syntax.specs.{Lists.part, Tree.Sampling}

-- A history with the same streams as a solution of an accepted program, whose starts run at every
-- instant, solves the program too.

-- ## The inputs of instances

receives_same :
    (H G : History) (p : Path) (ds : List Declaration) (xss yss : List (List Stream)) →
    Every (λ d. H.columns p d.name ≡ G.columns p d.name) ds → xss ≡ yss → Receives H p ds xss →
    Receives G p ds yss
receives_same H G p ds xss yss agree same h = subst (Receives G p ds) same (by ds xss agree h)
  where
    by : (ds : List Declaration) (xss : List (List Stream)) →
        Every (λ d. H.columns p d.name ≡ G.columns p d.name) ds → Receives H p ds xss →
        Receives G p ds xss
    by [] [] a h = tt
    by (d ∷ ds) (xs ∷ xss) a h = (sym a.0 ∙ h.0, by ds xss a.1 h.1)
    by _ _ a h = absurd h

module _ {A : Type 0} (f g : ℕ → Name → List A) (n : ℕ) (outs : List Declaration)
    (same : (i : ℕ) → i < n → Every (λ o. f i o.name ≡ g i o.name) outs) where
  accumulated_same : (init : List A) (i : ℕ) → i < n →
      accumulated f outs init i ≡ accumulated g outs init i
  accumulated_same init i lt = by outs same i lt
    where
      by : (outs : List Declaration) →
          ((i : ℕ) → i < n → Every (λ o. f i o.name ≡ g i o.name) outs) → (i : ℕ) → i < n →
          accumulated f outs init i ≡ accumulated g outs init i
      by [] same i lt = refl
      by (o ∷ outs) same zero lt = refl
      by (o ∷ outs) same (suc i) lt = (same i (omega arith)).0

  -- the inputs of an instance of an iterator are the same
  inputs_same : (it : ArrayIterator) (args : List (List A)) (i : ℕ) → i < n →
      iterator_inputs f n it outs args i ≡ iterator_inputs g n it outs args i
  inputs_same Map args i lt = refl
  inputs_same Red [] i lt = refl
  inputs_same Red (init ∷ args) i lt =
      ap (λ xs. xs ∷ map (part n i) args) (accumulated_same init i lt)
  inputs_same Fill [] i lt = refl
  inputs_same Fill (init ∷ args) i lt = ap (λ xs. xs ∷ []) (accumulated_same init i lt)

-- ## One instance

module _ (P : Program) (H G : History) (here : Instance) (agree : AgreeAt H G here) where
  abbrev Own : Name → Type 0
  Own x = Same P H G here agree x

  abbrev StandsThere : Occurrence → Type 0
  StandsThere o = StandsHere P H G here agree o

  -- arguments, each on a clock of its own, have the same streams
  arguments_same :
      (ks : List Clock) (n : ℕ) (es : Exprs) → OnEach P here.node StandsThere ks n es →
      argument_streams P H here ks n es ≡ argument_streams P G here ks n es
  arguments_same ks n Nil s = refl
  arguments_same [] n (Cons a es) s = refl
  arguments_same (k ∷ ks) n (Cons a es) s =
      ap₂ (λ xs xss. xs ∷ xss) (same_streams P H G here agree k n a s.0)
      (arguments_same ks (n + call_count a) es s.1)

  -- a call stays joined
  call_stays :
      (k : Clock) (n : ℕ) (es : Exprs) (c : Instance) → IsOver Own k →
      IsSame H G (record c { path = Child here.path n 0 }) →
      argument_streams P H here (argument_clocks k c.node es) (n + 1) es
      ≡ argument_streams P G here (argument_clocks k c.node es) (n + 1) es →
      IsCallJoined P H here k n es (Some c.node) → IsCallJoined P G here k n es (Some c.node)
  call_stays k n es c over own args j =
      let base = base_clock k c.node in
      let on = presence_same P H G here agree base (base_over Own k c.node over) in (
        sym own.agrees.ticks ∙ j.0 ∙ on,
        receives_same H G _ c.node.inputs
            _
            _ (Every-first _ c.node.inputs _ own.agrees.columns)
            args j.1,
      )

  call_joined :
      (k : Clock) (n : ℕ) (f : Name) (statics : List Static) (es : Exprs) →
      StandsThere (at k n (Call f statics es)) →
      IsCallJoined P H here k n es (node_named P f) → IsCallJoined P G here k n es (node_named P f)
  call_joined k n f statics es s j =
      let t = bound (operator_types P here (Node_named f statics)) _ s.types s.typed in
      let c = called P here f statics t.value t.is in
      let p = placed P here f statics c.callee c.is in
      let child = record c.callee { path = Child here.path n 0 } in
      let own = s.sited.0.1 0 (omega arith) child (p.at n 0) in
      let args = arguments_same (call_clocks k (node_named P f) es) (n + 1) es
      (operands P H G here agree k n (Call f statics es) s) in
      subst (λ o.
      argument_streams P H here (call_clocks k o es) (n + 1) es
      ≡ argument_streams P G here (call_clocks k o es) (n + 1) es →
      IsCallJoined P H here k n es o → IsCallJoined P G here k n es o) (sym p.node)
      (λ same j. call_stays k n es c.callee s.over own same j) args j

  -- an iterator stays joined
  outputs_agree :
      (c : Node) (p : Path) → Every (λ d. H.columns p d.name ≡ G.columns p d.name) (variables c) →
      Every (λ d. H.columns p d.name ≡ G.columns p d.name) c.outputs
  outputs_agree c p all =
      let same = λ (d : Declaration). H.columns p d.name ≡ G.columns p d.name in
      Every-first same c.outputs c.locals (Every-second same c.inputs _ all)

  abbrev IsStepJoined : History → Clock → ℕ → ArrayIterator → ℕ → Exprs → Node → ℕ → Type 0
  IsStepJoined F k n it m es callee i =
      (F.ticks (Child here.path n i) ≡ presence F here.path k)
      × Receives F (Child here.path n i) callee.inputs
      (iterator_inputs (λ j x. F.columns (Child here.path n j) x) m it callee.outputs
      (all_streams P F here k (n + 1) es) i)

  step_stays :
      (k : Clock) (n : ℕ) (it : ArrayIterator) (m : ℕ) (es : Exprs) (c : Instance) →
      IsOver Own k →
      ((i : ℕ) → i < m → IsSame H G (record c { path = Child here.path n i })) →
      all_streams P H here k (n + 1) es ≡ all_streams P G here k (n + 1) es →
      (i : ℕ) → i < m → IsStepJoined H k n it m es c.node i → IsStepJoined G k n it m es c.node i
  step_stays k n it m es c over own args i lt j =
      let same = own i lt in
      let child = Child here.path n i in
      let outs : (i : ℕ) → i < m →
      Every (λ o. H.columns (Child here.path n i) o.name ≡ G.columns (Child here.path n i) o.name)
      c.node.outputs =
      λ i lt. outputs_agree c.node _ (own i lt).agrees.columns in (
        sym same.agrees.ticks ∙ j.0 ∙ presence_same P H G here agree k over,
        receives_same H G child c.node.inputs
            _
            _ (Every-first _ c.node.inputs _ same.agrees.columns) (inputs_same _
            _ m c.node.outputs outs it _ i lt
            ∙ ap (λ args. iterator_inputs (λ j x. G.columns (Child here.path n j) x) m it
            c.node.outputs args i) args)
            j.1,
      )

  iterator_stays :
      (k : Clock) (n : ℕ) (it : ArrayIterator) (m : ℕ) (es : Exprs) (c : Instance) →
      IsOver Own k →
      ((i : ℕ) → i < m → IsSame H G (record c { path = Child here.path n i })) →
      all_streams P H here k (n + 1) es ≡ all_streams P G here k (n + 1) es →
      IsIteratorJoined P H here k n it m es (Some c.node) →
      IsIteratorJoined P G here k n it m es (Some c.node)
  iterator_stays k n it m es c over own args j =
      Every-of_range _ 0 m (λ i lt.
      let none : i ≡ 0 + i = omega arith in
      subst (IsStepJoined G k n it m es c.node) none (step_stays k n it m es c over own args i lt
      (subst (IsStepJoined H k n it m es c.node) (sym none) (Every-range _ 0 m i j lt))))

  iterator_joined :
      (k : Clock) (n : ℕ) (it : ArrayIterator) (f : Name) (statics : List Static) (m : Static)
      (es : Exprs) → StandsThere (at k n (Iterate it (Node_named f statics) m es)) →
      IsIteratorJoined P H here k n it (number P here m) es (node_named P f) →
      IsIteratorJoined P G here k n it (number P here m) es (node_named P f)
  iterator_joined k n it f statics m es s j =
      let v = bound (static_count P here m) _ s.types s.typed in
      let t = bound (operator_types P here (Node_named f statics)) _ s.types v.gives in
      let c = called P here f statics t.value t.is in
      let p = placed P here f statics c.callee c.is in
      let args = all_same P H G here agree k (n + 1) es
      (operands P H G here agree k n (Iterate it (Node_named f statics) m es) s) in
      subst (λ o. IsIteratorJoined P H here k n it (number P here m) es o →
      IsIteratorJoined P G here k n it (number P here m) es o) (sym p.node)
      (λ j. iterator_stays k n it (number P here m) es c.callee s.over
      (λ i lt. s.sited.0.1 i lt (record c.callee { path = Child here.path n i }) (p.at n i))
      args j) j

  joined_at :
      (k : Clock) (n : ℕ) (e : Expr) → StandsThere (at k n e) → IsJoinedAt P H here k n e →
      IsJoinedAt P G here k n e
  joined_at k n (Call f statics es) s j = call_joined k n f statics es s j
  joined_at k n (Iterate it (Node_named f statics) m es) s j =
      iterator_joined k n it f statics m es s j
  joined_at k n (Iterate it (Symbol op) m es) s j = tt
  joined_at k n e s j = tt

  -- an equation stays equal on both sides
  equal_stays :
      (s : Statement) (o : Occurrence) →
      StatementsStand P H G here agree (s, o) →
      AreEqual P H here s o → AreEqual P G here s o
  equal_stays (Equation lefts e) o s h =
      sym (flat_same (H.columns here.path) (G.columns here.path) lefts s.1) ∙ h
      ∙ streams_same P H G here agree o s.0
  equal_stays (Assertion e) o s h = tt

  -- a variable still fits
  fits_stays : (d : Declaration) → H.columns here.path d.name ≡ G.columns here.path d.name →
      Fits P H here d → Fits P G here d
  fits_stays d same h =
      let on = presence_same P H G here agree (declared_clock here.node d.name)
      (declared_over Own here.node agree.columns d.name) in
      record {
        width = ap length (sym same) ∙ h.width;
        cells =
            subst (λ xss. Every (λ xs. fits d.kind (variable_presence G here d) xs ≡ true) xss)
            same
            (subst (λ bs. Every (λ xs. fits d.kind bs xs ≡ true) (H.columns here.path d.name)) on
            h.cells);
      }

  -- a history that agrees with a solution on an instance solves it there
  pub solves_here :
      is_typed P here ≡ true → is_clocked P here.node ≡ true →
      Sited (OfCalled P here (IsSame H G)) 0 (node_sites here.node) → SolvesAt P H here →
      SolvesAt P G here
  solves_here typed clocked s h =
      let stands = node_stands P here Own agree.columns (IsSame H G) (known P H G here agree) typed
      clocked s in
      record {
        variables =
            Every-map _ (Fits P G here) (λ d z. fits_stays d z.0 z.1) (variables here.node)
            (Every-both _ _ (variables here.node) agree.columns h.variables);
        equations =
            Every-map _ (λ s. AreEqual P G here s.0 s.1)
            (λ s z. equal_stays s.0 s.1 z.0 z.1) (statements P here.node)
            (Every-both (StatementsStand P H G here agree)
            (λ s. AreEqual P H here s.0 s.1) (statements P here.node) stands.1 h.equations);
        calls =
            Every-map _ (IsJoined P G here)
            (λ o z. joined_at o.clock o.calls_before o.expr z.0 z.1) (node_occurrences P here.node)
            (Every-both StandsThere (IsJoined P H here) (node_occurrences P here.node) stands.0
            h.calls);
      }

-- ## The starts

root_path : (P : Program) (c : Instance) → instance_at P Root ≡ Some c → c.path ≡ Root
root_path P c e = started P Root P.root c e

observer_path : (P : Program) (c : Instance) → instance_at P Observer ≡ Some c → c.path ≡ Observer
observer_path P c e =
    let f = bound P.observer _ c e in
    started P Observer f.value c f.gives

-- the variables of an instance agree at its path
agree_there : (H G : History) (c : Instance) (p : Path) → c.path ≡ p → AgreeAt H G c →
    Every (λ d. H.columns p d.name ≡ G.columns p d.name) (variables c.node)
agree_there H G c p e a =
    subst (λ q. Every (λ d. H.columns q d.name ≡ G.columns q d.name) (variables c.node)) e a.columns

given_stays :
    (P : Program) (X : Inputs) (H G : History) (o : Option Instance) →
    ((c : Instance) → o ≡ Some c → c.path ≡ Root) → IfSome o (AgreeAt H G) →
    IfSome o (IsGiven P X H) → IfSome o (IsGiven P X G)
given_stays P X H G None at a h = tt
given_stays P X H G (Some c) at a h =
    let same = λ (d : Declaration). H.columns Root d.name ≡ G.columns Root d.name in
    sym (flat_same _ _ c.node.inputs (Every-first same c.node.inputs _
    (agree_there H G c Root (at c refl) a)))
    ∙ h

columns_same : (H G : History) (p : Path) (ds : List Declaration) →
    Every (λ d. H.columns p d.name ≡ G.columns p d.name) ds → columns_at H p ds ≡ columns_at G p ds
columns_same H G p [] h = refl
columns_same H G p (d ∷ ds) h = ap₂ (λ xs xss. xs ∷ xss) h.0 (columns_same H G p ds h.1)

observed_stays :
    (P : Program) (H G : History) (o w : Option Instance) →
    ((c : Instance) → o ≡ Some c → c.path ≡ Root) →
    ((c : Instance) → w ≡ Some c → c.path ≡ Observer) →
    IfSome o (AgreeAt H G) → IfSome w (AgreeAt H G) →
    IfSome o (λ root. IfSome w (IsObserved H root)) →
    IfSome o (λ root. IfSome w (IsObserved G root))
observed_stays P H G None w at there a b h = tt
observed_stays P H G (Some root) None at there a b h = tt
observed_stays P H G (Some root) (Some observer) at there a b h =
    let same = λ (d : Declaration). H.columns Root d.name ≡ G.columns Root d.name in
    let own = agree_there H G root Root (at root refl) a in
    let ins = Every-first same root.node.inputs _ own in
    let outs = Every-first same root.node.outputs root.node.locals
    (Every-second same root.node.inputs _ own) in
    let seen = agree_there H G observer Observer (there observer refl) b in
    receives_same H G Observer observer.node.inputs
    _
    _ (Every-first _
    observer.node.inputs _ seen) (columns_same H G Root _
    (Every-append same root.node.inputs root.node.outputs ins outs))
    h

-- ## All instances

module _ (P : Program) (elaborated : static_refusal P ≡ None) (accepted : check_refusal P ≡ None)
    (X : Inputs) (H G : History) (same : AreSame P H G)
    (root_runs : G.ticks Root ≡ replicate (length X) true)
    (observer_runs : G.ticks Observer ≡ replicate (length X) true) where
  entered_all : instantiation_refusal P 0 (instances P) ≡ None
  entered_all = instantiation_kept P elaborated

  -- a history that is the same as a solution on the instances of an accepted program, and whose
  -- starts run at every instant, is a solution
  pub solves_same : Solves P X H → Solves P X G
  solves_same h =
      let starts = starts_agree P H G same in
      record {
        rows = h.rows;
        root_runs = root_runs;
        observer_runs = observer_runs;
        inputs = given_stays P X H G (instance_at P Root) (root_path P) starts.0 h.inputs;
        observed =
            observed_stays P H G (instance_at P Root) (instance_at P Observer) (root_path P)
            (observer_path P) starts.0 starts.1 h.observed;
        instances =
            Every-map _ (SolvesAt P G)
            (λ here z. solves_here P H G here z.0.0 z.0.1 z.1.0.0
            (all_called P (IsSame H G) here z.1.0.1.1 z.1.0.1.0.1) z.1.1) (instances P)
            (Every-both _ _ (instances P)
            (Every-both _ _ (instances P) same (all_typed P accepted))
            (Every-both _ _ (instances P)
            (Every-both _ _ (instances P) (all_clocked P accepted)
            (Every-both _ _ (instances P) (entered P entered_all accepted H G same)
            (called_same P entered_all accepted H G same)))
            h.instances));
      }

-- In a solution of an accepted program each instance has the instants of the trace, and so have the
-- clocks and the streams of its variables.

-- ## Lengths

pub fits_length : (kind : Kind) (bs : List Bool) (xs : Stream) → fits kind bs xs ≡ true →
    length xs ≡ length bs
fits_length kind [] [] e = refl
fits_length kind (true ∷ bs) (Some v ∷ xs) e =
    ap suc (fits_length kind bs xs (and_second (is_of_kind kind v) _ e))
fits_length kind (false ∷ bs) (None ∷ xs) e = ap suc (fits_length kind bs xs e)
fits_length kind _ _ e = absurd cc

pub length-both : {A B C : Type 0} (f : A → B → C) (n : ℕ) (xs : List A) (ys : List B) →
    length xs ≡ n → length ys ≡ n → length (zip2 f xs ys) ≡ n
length-both f n [] ys p q = p
length-both f n (x ∷ xs) [] p q = q
length-both f zero (x ∷ xs) (y ∷ ys) p q = absurd (omega arith)
length-both f (suc n) (x ∷ xs) (y ∷ ys) p q =
    ap suc (length-both f n xs ys (omega arith) (omega arith))

-- streams of one length
abbrev pub AreOfLength : ℕ → List Stream → Type 0
AreOfLength n xss = Every (λ xs. length xs ≡ n) xss

length-signed : (n : ℕ) (bs : List Bool) (sign : Bool) (xss : List Stream) → length bs ≡ n →
    AreOfLength n xss → length (signed bs sign xss) ≡ n
length-signed n bs sign [] e h = e
length-signed n bs sign (xs ∷ xss) e h = length-both _ n bs xs e h.0

cells_length : (n : ℕ) (kind : Kind) (bs : List Bool) (xss : List Stream) → length bs ≡ n →
    Every (λ xs. fits kind bs xs ≡ true) xss → AreOfLength n xss
cells_length n kind bs xss e h =
    Every-map (λ xs. fits kind bs xs ≡ true) (λ xs. length xs ≡ n)
    (λ xs f. fits_length kind bs xs f ∙ e) xss h

-- a clock that is found within `m` steps is found within `j` more
within_more : (j m : ℕ) (ds : List Declaration) (d : Declaration) (k : Clock) →
    clock_within m ds d ≡ Some k → clock_within (j + m) ds d ≡ Some k
within_more zero m ds d k e =
    let none : m ≡ 0 + m = omega arith in subst (λ i. clock_within i ds d ≡ Some k) none e
within_more (suc j) m ds d k e =
    let next : suc (j + m) ≡ suc j + m = omega arith in
    subst (λ i. clock_within i ds d ≡ Some k) next
    (more_steps (j + m) ds d k (within_more j m ds d k e))

-- ## One instance

module _ (P : Program) (H : History) (count : ℕ) where
  -- the instance at a path has `count` instants
  abbrev HasInstants : Instance → Type 0
  HasInstants c = length (H.ticks c.path) ≡ count

  module _ (here : Instance) (solves : SolvesAt P H here) (ticks : HasInstants here) where
    abbrev vars : List Declaration
    vars = variables here.node

    abbrev IsLongClock : Clock → Type 0
    IsLongClock k = length (presence H here.path k) ≡ count

    -- the streams of a variable have `count` instants
    abbrev IsLongName : Name → Type 0
    IsLongName x = AreOfLength count (H.columns here.path x)

    sampled_long :
        (j m : ℕ) → j + m ≡ length vars →
        ((v : Declaration) (k : Clock) → clock_within m vars v ≡ Some k → IsLongClock k) →
        (o : Option Sampling) (k : Clock) → sampled (clock_within m vars) vars o ≡ Some k →
        IsLongClock k
    sampled_long j m e next None k g = subst IsLongClock (same_Some Base k g) ticks
    sampled_long j m e next (Some s) k g =
        let v = bound (named (λ v. v.name) s.variable vars) _ k g in
        let up = bound (clock_within m vars v.value) _ k v.gives in
        let found = named_every (Fits P H here) s.variable vars v.value solves.variables v.is in
        let name : v.value.name ≡ s.variable =
        (bytes_eq-Decides v.value.name s.variable).0 found.1 in
        let all : clock_within (suc (length vars)) vars v.value ≡ Some up.value =
        subst (λ i. clock_within (suc i) vars v.value ≡ Some up.value) e
        (more_steps (j + m) vars v.value up.value
        (within_more j m vars v.value up.value up.is)) in
        let is_named : named (λ v. v.name) v.value.name vars ≡ Some v.value =
        ap (λ x. named (λ v. v.name) x vars) name ∙ v.is in
        let declared : declared_clock here.node v.value.name ≡ up.value =
        ap (λ o. clock_or (o >>= clock_within (suc (length vars)) vars)) is_named
        ∙ ap clock_or all in
        let inner = next v.value up.value up.is in
        let cells = cells_length count v.value.kind
        (presence H here.path (declared_clock here.node v.value.name))
        (H.columns here.path v.value.name)
        (ap (λ l. length (presence H here.path l)) declared ∙ inner) found.0.cells in
        subst IsLongClock (same_Some (On up.value s.variable s.sign) k up.gives)
        (length-signed count (presence H here.path up.value) s.sign
        (H.columns here.path s.variable) inner (subst IsLongName name cells))

    clock_long : (m j : ℕ) → j + m ≡ suc (length vars) → (d : Declaration) (k : Clock) →
        clock_within m vars d ≡ Some k → IsLongClock k
    clock_long zero j e d k g = absurd cc
    clock_long (suc m) j e d k g =
        sampled_long j m (omega (arith, e))
        (clock_long m (suc j) (omega (arith, e))) d.clock k g

    -- declared clocks have the instants of the trace
    pub declared_long : (x : Name) → IsLongClock (declared_clock here.node x)
    declared_long x = by (variable_clock here.node x) refl
      where
        by : (o : Option Clock) → variable_clock here.node x ≡ o → IsLongClock (clock_or o)
        by None is = ticks
        by (Some k) is =
            let d = bound (named (λ d. d.name) x vars)
            (clock_within (suc (length vars)) vars) k is in
            clock_long (suc (length vars)) 0 (omega arith) d.value k d.gives

    -- the streams of variables have the instants of the trace
    pub variables_long : Every (λ d. IsLongName d.name) vars
    variables_long =
        Every-map (Fits P H here) (λ d. IsLongName d.name)
        (λ d f. cells_length count d.kind (variable_presence H here d)
        (H.columns here.path d.name) (declared_long d.name) f.cells) vars solves.variables

    over_long : (k : Clock) → IsOver IsLongName k → IsLongClock k
    over_long Base h = ticks
    over_long (On k x sign) h =
        length-signed count (presence H here.path k) sign (H.columns here.path x)
        (over_long k h.0) h.1

    -- ## The instances that it calls

    call_long :
        (k : Clock) (n : ℕ) (es : Exprs) (o : Option Node) (callee : Node) → o ≡ Some callee →
        IsOver IsLongName k → IsCallJoined P H here k n es o →
        length (H.ticks (Child here.path n 0)) ≡ count
    call_long k n es None callee e over j = absurd cc
    call_long k n es (Some m) callee e over j =
        ap length j.0 ∙ over_long (base_clock k m) (base_over IsLongName k m over)

    iterator_long :
        (k : Clock) (n : ℕ) (it : ArrayIterator) (m : ℕ) (es : Exprs) (o : Option Node)
        (callee : Node) → o ≡ Some callee → IsOver IsLongName k →
        IsIteratorJoined P H here k n it m es o → (i : ℕ) → i < m →
        length (H.ticks (Child here.path n i)) ≡ count
    iterator_long k n it m es None callee e over j i lt = absurd cc
    iterator_long k n it m es (Some c) callee e over j i lt =
        let one = Every-range _ 0 m i j lt in
        let none : 0 + i ≡ i = omega arith in
        subst (λ i. length (H.ticks (Child here.path n i)) ≡ count) none
        (ap length one.0 ∙ over_long k over)

    joined_long :
        (k : Clock) (n : ℕ) (e : Expr) (s : Site) → own_site e ≡ Some s → IsOver IsLongName k →
        IsJoinedAt P H here k n e → (i : ℕ) (c : Instance) →
        i < either_or (instance_count P here s.count) 0 → callee_of P here s n i ≡ Some c →
        length (H.ticks (Child here.path n i)) ≡ count
    joined_long k n (Call f statics es) s is over j i c lt gives =
        subst (λ t. i < either_or (instance_count P here t.count) 0 →
        callee_of P here t n i ≡ Some c → length (H.ticks (Child here.path n i)) ≡ count)
        (same_Some (call_site f statics) s is)
        (λ lt gives.
        let named = callee_node P here (call_site f statics) n i c gives in
        let one : i < 1 = lt in
        let first : 0 ≡ i = omega (arith, one) in
        subst (λ i. length (H.ticks (Child here.path n i)) ≡ count) first
        (call_long k n es (node_named P f) c.node named over j))
        lt gives
    joined_long k n (Iterate it (Node_named f statics) m es) s is over j i c lt gives =
        let own : Site = record { callee = f; arguments = statics; count = Some m } in
        subst (λ t. i < either_or (instance_count P here t.count) 0 →
        callee_of P here t n i ≡ Some c → length (H.ticks (Child here.path n i)) ≡ count)
        (same_Some own s is)
        (λ lt gives.
        let named = callee_node P here own n i c gives in
        iterator_long k n it (number P here m) es (node_named P f) c.node named over j i lt)
        lt gives
    joined_long k n _ s is over j i c lt gives = absurd cc

    abbrev IsDeclared : Instance → Type 0
    IsDeclared c = are_declared_clocks c.node ≡ true

    abbrev all : List Occurrence
    all = node_occurrences P here.node

    -- the instances that it calls have `count` instants
    pub passes_long :
        is_typed P here ≡ true → is_clocked P here.node ≡ true →
        Sited (OfCalled P here IsDeclared) 0 (node_sites here.node) →
        Passes P HasInstants here
    passes_long typed clocked sited o s i c on is lt gives =
        let stands = node_stands P here IsLongName variables_long IsDeclared (λ c e. e) typed
        clocked sited in
        let own = Every-at (Stands P here IsLongName variables_long IsDeclared (λ c e. e)) all o
        stands.0 on in
        let joined = Every-at (IsJoined P H here) all o solves.calls on in
        subst (λ p. length (H.ticks p) ≡ count)
        (sym (callee_path P here s o.calls_before i c gives))
        (joined_long o.clock o.calls_before o.expr s is own.over joined i c lt gives)

-- ## All instances

module _ (P : Program) (elaborated : static_refusal P ≡ None) (checked : check_refusal P ≡ None)
    (X : Inputs) (H : History) (h : Solves P X H) where
  abbrev IsDeclaredNode : Instance → Type 0
  IsDeclaredNode c = are_declared_clocks c.node ≡ true

  abbrev IsLongInstance : Instance → Type 0
  IsLongInstance c = length (H.ticks c.path) ≡ length X

  all_pass : Every (IsPassed P IsLongInstance) (instances P)
  all_pass =
      Every-map _ (IsPassed P IsLongInstance)
      (λ c z. (
        z.0.1,
        λ long. passes_long P H (length X) c z.0.0 long z.0.1 z.1.0 z.1.1,
      )) (instances P)
      (Every-both _ _ (instances P)
      (Every-both (SolvesAt P H) (λ c. is_typed P c ≡ true) (instances P) h.instances
      (all_typed P checked))
      (Every-both (λ c. is_clocked P c.node ≡ true)
      (λ c. Sited (OfCalled P c IsDeclaredNode) 0 (node_sites c.node)) (instances P)
      (all_clocked P checked)
      (calls_have P elaborated IsDeclaredNode (all_declared P checked))))

  start_long :
      (p : Path) → H.ticks p ≡ replicate (length X) true → (c : Instance) →
      instance_at P p ≡ Some c → length (H.ticks c.path) ≡ length X
  start_long p runs c is =
      ap (λ q. length (H.ticks q)) (path_is P p c is) ∙ ap length runs
      ∙ length-replicate (length X) true

  -- the clock of each variable has the instants of the trace
  pub presence_long :
      Every (λ here.
      Every (λ d. length (variable_presence H here d) ≡ length X) (variables here.node))
      (instances P)
  presence_long =
      Every-map _ (λ here.
      Every (λ d. length (variable_presence H here d) ≡ length X) (variables here.node))
      (λ here z. Every-map (Fits P H here)
      (λ d. length (variable_presence H here d) ≡ length X)
      (λ d f. declared_long P H (length X) here z.0 z.1 d.name) (variables here.node)
      z.0.variables)
      (instances P)
      (Every-both (SolvesAt P H) (λ c. length (H.ticks c.path) ≡ length X) (instances P)
      h.instances (inherited P IsLongInstance all_pass (start_long Root h.root_runs)
      (start_long Observer h.observer_runs)))
