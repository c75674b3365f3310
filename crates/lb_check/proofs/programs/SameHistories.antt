-- Two histories that agree on instances: they have the same streams, rules and verdict.
use Rattle.lb_check.proofs.Words
use Words.{AgreeAt, AreSame, Assertion, Bool, Child, E10, E12, E5, E6, E9, Equation, Every, History}
use Words.{IfSome, Inputs, Instance, List, Name, None, Observer, Occurrence, Option, Path, Program}
use Words.{Root, Site, Solves, Some, Statement, Static, [], all_some, among, and_first, and_second}
use Words.{ap, ap₂, are_declared_clocks, arith, callee_of, check_refusal, children, clock_names}
use Words.{either_or, flat_map, has_values, holds, inl, inr, instance_at, instance_count}
use Words.{instance_refusal, instances, instances_from, instantiation_refusal, is_between}
use Words.{is_clocked, is_in_range, is_typed, length, list_all, list_any, listed, map, may_enter}
use Words.{memory_operand, nat_le, nat_lt, nat_tests, node_named, node_occurrences, node_sites}
use Words.{node_sizes, numbered_sites, range_with_len, refl, same_Some, site_instances, start_at}
use Words.{statements, static_count, static_refusal, static_value, streams_at, subst, suc, sym}
use Words.{true, unless, variables, zero, ℕ, ◌&&◌, ◌++◌, ◌+◌, ◌<◌, ◌||◌, ◌∙◌, ◌∷◌, ◌≡◌, ◌≤◌, ◌⊎◌}
use Rattle.lb_check.proofs.clocking.NamedClocks.{OfCalled, Sited, if_some}
use Rattle.lb_check.proofs.definitions.BrokenRules.{first_none, instantiation_kept, kept}
use Rattle.lb_check.proofs.{definitions.BrokenRules.second_none, lists.Members.Every-all}
use Rattle.lb_check.proofs.lists.Members.{Every-append, Every-both, Every-filter, Every-finds}
use Rattle.lb_check.proofs.lists.Members.{Every-first, Every-found, Every-map, Every-of_pieces}
use Rattle.lb_check.proofs.lists.Members.{Every-piece, Every-range, Every-second, Every-tested}
use Rattle.lb_check.proofs.{lists.Members.flat_same, programs.SameStreams.{IsSame, KeepsSame, Same}}
use Rattle.lb_check.proofs.programs.SameStreams.{StandsHere, keeps_same, known, streams_same}
use Rattle.lb_check.proofs.programs.StandingParts.{StatementStands, node_stands}
use Rattle.lb_check.{proofs.typing.OperandTypes.bound, specs.Scalars.{Cell, Stream}}
use Rattle.lb_check.specs.{Solutions.HasOneHistory, Verdicts.{Assertion_fails, Ends, False, Fault}}
use Rattle.lb_check.specs.Verdicts.{HasVerdict, IsLeast, IsOnlyVerdict, Passed, Undefined, Verdict}
use Rattle.lb_check.specs.Verdicts.{assertion_columns, assertion_of, assertions, clock_columns}
use Rattle.lb_check.specs.Verdicts.{clock_variables, decides, is_bad, is_failed, is_false, is_fault}
use Rattle.lb_check.specs.Verdicts.{is_nil, is_undefined, is_violated, memory_columns}
use Rattle.lb_check.specs.Verdicts.{memory_operands, named_places, property_columns, property_path}
use Rattle.lb_check.specs.Verdicts.{some_at, variable_columns}
use Rattle.lb_static.{proofs.SiteCounts.{counted, node_counts, passes}, specs.Instantiation.level}
use Rattle.lb_syntax.proofs.TruthValues.{contrary}

-- Two histories that agree on an instance and on those that it calls have the same streams at the
-- named places of the instance.

-- the named places of an instance, and its variables that serve as clocks, have the same streams
pub record SamePlaces (P : Program) (H G : History) (here : Instance) : Type 0 where
  pub named : named_places P H here ≡ named_places P G here
  pub clocks : clock_columns H here ≡ clock_columns G here
  pub asserted : assertion_columns P H here ≡ assertion_columns P G here

module _ (P : Program) (H G : History) (here : Instance) (agree : AgreeAt H G here) where
  abbrev Own : Name → Type 0
  Own x = Same P H G here agree x

  abbrev Keeps : Occurrence → Type 0
  Keeps o = KeepsSame P H G here agree o

  abbrev Equal : Occurrence → Type 0
  Equal o = streams_at P H here o ≡ streams_at P G here o

  -- the right side of a statement that is an assertion has the same streams
  abbrev Asserts : Statement × Occurrence → Type 0
  Asserts s = IfSome (assertion_of s.0 s.1) Equal

  -- a statement stands, where the histories agree on the variables of the instance
  abbrev pub StatementsStand : Statement × Occurrence → Type 0
  StatementsStand s =
      StatementStands P here Own agree.columns (IsSame H G) (known P H G here agree) s

  -- an assertion has the same streams
  asserts_same : (s : Statement × Occurrence) → StatementsStand s → Asserts s
  asserts_same s stands = by s.0 s.1 stands
    where
      by : (s : Statement) (o : Occurrence) → StatementsStand (s, o) → Asserts (s, o)
      by (Equation lefts e) o stands = tt
      by (Assertion e) o stands = streams_same P H G here agree o stands.0

  -- ## The named places

  pub same_places :
      is_typed P here ≡ true → is_clocked P here.node ≡ true →
      Sited (OfCalled P here (IsSame H G)) 0 (node_sites here.node) → SamePlaces P H G here
  same_places typed clocked s =
      let stands = node_stands P here Own agree.columns (IsSame H G) (known P H G here agree) typed
      clocked s in
      let keep = Every-map (StandsHere P H G here agree) Keeps (keeps_same P H G here agree)
      (node_occurrences P here.node) stands.0 in
      let assert = Every-map StatementsStand Asserts asserts_same (statements P here.node)
      stands.1 in
      let own : variable_columns H here ≡ variable_columns G here =
      flat_same (λ d. H.columns here.path d.name) (λ d. G.columns here.path d.name)
      (variables here.node) agree.columns in
      let clocks : clock_columns H here ≡ clock_columns G here =
      flat_same (λ d. H.columns here.path d.name) (λ d. G.columns here.path d.name)
      (clock_variables here.node)
      (Every-filter (λ d. H.columns here.path d.name ≡ G.columns here.path d.name)
      (λ d. among d.name (clock_names here.node)) (variables here.node) agree.columns) in
      let kept : memory_columns P H here ≡ memory_columns P G here =
      flat_same (streams_at P H here) (streams_at P G here) (memory_operands P here)
      (Every-found Equal (memory_operand P here) (node_occurrences P here.node) keep) in
      let asserted : assertion_columns P H here ≡ assertion_columns P G here =
      flat_same (streams_at P H here) (streams_at P G here) (assertions P here.node)
      (Every-found Equal (λ s. assertion_of s.0 s.1) (statements P here.node) assert) in
      record {
        named = ap₂ (λ xss yss. xss ++ yss) own (ap₂ (λ xss yss. xss ++ yss) kept asserted);
        clocks = clocks;
        asserted = asserted;
      }

-- A property of all instances of a program holds of those that an instance calls. Two histories
-- that agree on all instances have the same streams at all named places.

-- ## Instances that are not refused

-- an instance that is entered is not too deep, and its sizes are in range
abbrev pub IsEntered : Program → Instance → Type 0
IsEntered P c =
    (level P c.path ≤ 64) × (list_all (is_between P c 1 4096) (node_sizes c.node) ≡ true)

low : (n : ℕ) → nat_le n 64 ≡ true → n ≤ 64
low n e = grind (arith, nat_tests)

pub all_entered :
    (P : Program) (n : ℕ) (is : List Instance) → instantiation_refusal P n is ≡ None →
    Every (IsEntered P) is
all_entered P n [] e = tt
all_entered P n (c ∷ is) e =
    let here = first_none (instance_refusal P n c) _ e in
    let enter = kept (may_enter P n c) E12 (first_none _ _ here) in
    let later = second_none (unless (may_enter P n c) E12) _ here in
    let range = kept (is_in_range P c) E6 (second_none (unless (has_values P c) E5) _ later) in (
      (
        low (level P c.path) (and_second (nat_lt n 4096) _ enter),
        and_first (list_all (is_between P c 1 4096) (node_sizes c.node)) _ range,
      ),
      all_entered P (suc n) is (second_none (instance_refusal P n c) _ e),
    )

-- ## The instances that an instance calls

pub callee_path :
    (P : Program) (here : Instance) (site : Site) (call index : ℕ) (c : Instance) →
    callee_of P here site call index ≡ Some c → c.path ≡ Child here.path call index
callee_path P here site call index c e =
    let n = bound (node_named P site.callee) _ c e in
    let values = bound (all_some (map (static_value P here) site.arguments)) _ c n.gives in
    sym (ap (λ (i : Instance). i.path) (same_Some _ _ values.gives))

module _ (P : Program) where
  pub deeper : (here : Instance) →
      Every (λ c. level P c.path ≡ suc (level P here.path)) (children P here)
  deeper here =
      let below = λ (c : Instance). level P c.path ≡ suc (level P here.path) in
      Every-of_pieces below (site_instances P here) (numbered_sites 0 (node_sites here.node))
      (Every-all _ (λ s.
      Every-found below (callee_of P here s.1 s.0)
      (listed (range_with_len 0) (instance_count P here s.1.count))
      (Every-all _ (λ i. if_some below (callee_of P here s.1 s.0 i) (λ c e.
      ap (level P) (callee_path P here s.1 s.0 i c e))) _)) _)

  -- an instance of a start has the path of the start
  pub started : (p : Path) (f : Name) (c : Instance) → start_at P p f ≡ Some c → c.path ≡ p
  started p f c e = grind arith

  module _ (Q : Instance → Type 0) where
    abbrev pub Low : Instance → Type 0
    Low c = (level P c.path ≤ 64) × Q c

    -- a property of the instances below one that are not too deep holds of those that each of them
    -- calls
    of_children :
        (n : ℕ) (here : Instance) → level P here.path + n ≡ 66 →
        Every Low (instances_from P n here) →
        Every (λ i. Every Q (children P i)) (instances_from P n here)
    of_children zero here e h = tt
    of_children (suc zero) here e h = absurd (too_deep here e h.0.0)
      where
        too_deep : (here : Instance) → level P here.path + 1 ≡ 66 → level P here.path ≤ 64 → ⊥
        too_deep here e le = omega arith
    of_children (suc (suc n)) here e h =
        let each = Every-piece Low (instances_from P (suc n)) (children P here) h.1 in (
          Every-map _ Q (λ c z. z.0.1) (children P here) each,
          Every-of_pieces (λ i. Every Q (children P i)) (instances_from P (suc n))
              (children P here)
              (Every-map _ _
              (λ c z. of_children (suc n) c (as_deep (level P here.path) (level P c.path) n e z.0)
              z.1) (children P here)
              (Every-both _ _ (children P here) (deeper here) each)),
        )
      where
        as_deep : (l m n : ℕ) → l + suc (suc n) ≡ 66 → m ≡ suc l → m + suc n ≡ 66
        as_deep l m n e is = omega arith

    abbrev pub CallSuch : List Instance → Type 0
    CallSuch is = Every (λ i. Every Q (children P i)) is

    -- a property of the instances below a start holds of those that each of them calls
    from_start :
        (o : Option Instance) → ((c : Instance) → o ≡ Some c → level P c.path ≡ 1) →
        Every Low (listed (instances_from P 65) o) → CallSuch (listed (instances_from P 65) o)
    from_start None top h = tt
    from_start (Some c) top h =
        let first = top c refl in
        of_children 65 c (omega (arith, first)) h

    at_root : (c : Instance) → instance_at P Root ≡ Some c → level P c.path ≡ 1
    at_root c e = ap (level P) (started Root P.root c e)

    at_observer : (c : Instance) → instance_at P Observer ≡ Some c → level P c.path ≡ 1
    at_observer c e =
        let f = bound P.observer (start_at P Observer) c e in
        ap (level P) (started Observer f.value c f.gives)

    pub all_children : Every Low (instances P) → CallSuch (instances P)
    all_children h =
        let of_root = listed (instances_from P 65) (instance_at P Root) in
        let of_observer = listed (instances_from P 65) (instance_at P Observer) in
        Every-append (λ i. Every Q (children P i)) of_root of_observer
        (from_start (instance_at P Root) at_root (Every-first Low of_root of_observer h))
        (from_start (instance_at P Observer) at_observer (Every-second Low of_root of_observer h))

    -- ## Calls with their numbers

    called_at :
        (here : Instance) (s : ℕ × Site) → Every Q (site_instances P here s) →
        counted (is_between P here 1 4096) s.1 ≡ true → OfCalled P here Q s
    called_at here s all counts =
        (some_there s.1.count counts, by (instance_count P here s.1.count) each)
      where
        positive : (o : Option ℕ) → holds (λ n. nat_le 1 n && nat_le n 4096) o ≡ true →
            0 < either_or o 0
        positive None e = absurd cc
        positive (Some n) e =
            let some = and_first (nat_le 1 n) (nat_le n 4096) e in grind (arith, nat_tests)

        some_there : (o : Option Static) → passes (is_between P here 1 4096) o ≡ true →
            0 < either_or (instance_count P here o) 0
        some_there None e = omega arith
        some_there (Some n) e = positive (static_count P here n) e

        each : Every (λ i. IfSome (callee_of P here s.1 s.0 i) Q)
            (listed (range_with_len 0) (instance_count P here s.1.count))
        each =
            Every-finds Q (callee_of P here s.1 s.0)
            (listed (range_with_len 0) (instance_count P here s.1.count)) all

        by : (o : Option ℕ) →
            Every (λ i. IfSome (callee_of P here s.1 s.0 i) Q) (listed (range_with_len 0) o) →
            (i : ℕ) → i < either_or o 0 → (c : Instance) → callee_of P here s.1 s.0 i ≡ Some c →
            Q c
        by None h i lt c e = absurd (omega arith)
        by (Some n) h i lt c e =
            let there = Every-range (λ i. IfSome (callee_of P here s.1 s.0 i) Q) 0 n i h lt in
            let same : 0 + i ≡ i = omega arith in
            let here_it = subst (λ j. IfSome (callee_of P here s.1 s.0 j) Q) same there in
            subst (λ o. IfSome o Q) e here_it

    called_from :
        (here : Instance) (n : ℕ) (ss : List Site) →
        Every (λ s. Every Q (site_instances P here s)) (numbered_sites n ss) →
        list_all (counted (is_between P here 1 4096)) ss ≡ true →
        Sited (OfCalled P here Q) n ss
    called_from here n [] h e = tt
    called_from here n (s ∷ ss) h e = (
      called_at here (n, s) h.0 (and_first (counted (is_between P here 1 4096) s) _ e),
      called_from here (suc n) ss h.1 (and_second (counted (is_between P here 1 4096) s) _ e),
    )

    pub all_called :
        (here : Instance) → Every Q (children P here) →
        list_all (is_between P here 1 4096) (node_sizes here.node) ≡ true →
        Sited (OfCalled P here Q) 0 (node_sites here.node)
    all_called here h e =
        called_from here 0 (node_sites here.node)
        (Every-piece Q (site_instances P here) (numbered_sites 0 (node_sites here.node)) h)
        (node_counts (is_between P here 1 4096) here.node e)

-- ## Accepted programs

module _ (P : Program) (checked : check_refusal P ≡ None) where
  abbrev clocks : Instance → Bool
  clocks here = is_clocked P here.node

  -- each instance keeps the rules of types
  pub all_typed : Every (λ here. is_typed P here ≡ true) (instances P)
  all_typed =
      Every-tested (is_typed P) (instances P)
      (kept (list_all (is_typed P) (instances P)) E9 (first_none _ _ checked))

  -- each node of an instance keeps the rules of clocks
  pub all_clocked : Every (λ here. is_clocked P here.node ≡ true) (instances P)
  all_clocked =
      let later = second_none (unless (list_all (is_typed P) (instances P)) E9) _ checked in
      Every-tested clocks (instances P)
      (kept (list_all clocks (instances P)) E10 (first_none _ _ later))

-- ## Two histories

module _ (P : Program) (instantiated : instantiation_refusal P 0 (instances P) ≡ None)
    (accepted : check_refusal P ≡ None) (H G : History) (same : AreSame P H G) where
  pub entered : Every (IsEntered P) (instances P)
  entered = all_entered P 0 (instances P) instantiated

  pub called_same : Every (λ i. Every (IsSame H G) (children P i)) (instances P)
  called_same =
      all_children P (IsSame H G)
      (Every-map _ (Low P (IsSame H G)) (λ c h. (
        h.0.0,
        record {
          agrees = h.1.0;
          declared = and_first (are_declared_clocks c.node) _ h.1.1;
        },
      )) (instances P)
      (Every-both _ _ (instances P) entered
      (Every-both _ _ (instances P) same (all_clocked P accepted))))

  -- the named places of all instances have the same streams
  pub all_same_places : Every (SamePlaces P H G) (instances P)
  all_same_places =
      Every-map _ (SamePlaces P H G)
      (λ here h. same_places P H G here h.0.0 h.0.1 h.1.0
      (all_called P (IsSame H G) here h.1.1.1 h.1.1.0.1)) (instances P)
      (Every-both _ _ (instances P) (Every-both _ _ (instances P) same (all_typed P accepted))
      (Every-both _ _ (instances P) (all_clocked P accepted)
      (Every-both _ _ (instances P) entered called_same)))

-- ## The starts

abbrev AgreeFrom : Program → History → History → Option Instance → Type 0
AgreeFrom P H G o = Every (AgreeAt H G) (listed (instances_from P 65) o)

first_agrees :
    (P : Program) (H G : History) (o : Option Instance) → AgreeFrom P H G o →
    IfSome o (AgreeAt H G)
first_agrees P H G None h = tt
first_agrees P H G (Some c) h = h.0

-- the histories agree on the node under test, and on the observer
pub starts_agree :
    (P : Program) (H G : History) → AreSame P H G →
    IfSome (instance_at P Root) (AgreeAt H G) × IfSome (instance_at P Observer) (AgreeAt H G)
starts_agree P H G same =
    let of_root = listed (instances_from P 65) (instance_at P Root) in
    let of_observer = listed (instances_from P 65) (instance_at P Observer) in (
      first_agrees P H G (instance_at P Root)
          (Every-first (AgreeAt H G) of_root of_observer same),
      first_agrees P H G (instance_at P Observer)
          (Every-second (AgreeAt H G) of_root of_observer same),
    )

-- A trace on which a program has one history has one verdict.

-- ## Histories that decide alike

-- where the columns of each instance are the same, a test finds a cell in both or in none
tested_same : (f g : Instance → List Stream) (heres : List Instance) →
    Every (λ here. f here ≡ g here) heres → (test : Option Cell → Bool) (t : ℕ) →
    list_any (λ here. some_at test t (f here)) heres
    ≡ list_any (λ here. some_at test t (g here)) heres
tested_same f g [] h test t = refl
tested_same f g (here ∷ rest) h test t =
    ap₂ (λ a b. a || b) (ap (some_at test t) h.0) (tested_same f g rest h.1 test t)

-- two histories decide alike at each instant
record DecideAlike (P : Program) (H G : History) : Type 0 where
  fault : (t : ℕ) → is_fault P H t ≡ is_fault P G t
  undefined : (t : ℕ) → is_undefined P H t ≡ is_undefined P G t
  failed : (t : ℕ) → is_failed P H t ≡ is_failed P G t
  violated : (t : ℕ) → is_violated P H t ≡ is_violated P G t

agree_turned : (H G : History) (c : Instance) → AgreeAt H G c → AgreeAt G H c
agree_turned H G c a = record {
  ticks = sym a.ticks;
  columns = Every-map _ _ (λ d e. sym e) (variables c.node) a.columns;
}

agree_joined : (H F G : History) (c : Instance) → AgreeAt H F c × AgreeAt F G c → AgreeAt H G c
agree_joined H F G c a = record {
  ticks = a.0.ticks ∙ a.1.ticks;
  columns =
      Every-map _ _ (λ d e. e.0 ∙ e.1) (variables c.node)
      (Every-both _ _ (variables c.node) a.0.columns a.1.columns);
}

outputs_same :
    (H G : History) (o : Option Instance) → IfSome o (AgreeAt H G) →
    listed (λ here. flat_map (λ d. H.columns here.path d.name) here.node.outputs) o
    ≡ listed (λ here. flat_map (λ d. G.columns here.path d.name) here.node.outputs) o
outputs_same H G None a = refl
outputs_same H G (Some here) a =
    let agrees = λ (d : _). H.columns here.path d.name ≡ G.columns here.path d.name in
    flat_same _ _ here.node.outputs
    (Every-first agrees here.node.outputs here.node.locals
    (Every-second agrees here.node.inputs _ a.columns))

module _ (P : Program) (H G : History) (same : AreSame P H G) where
  property_same : property_columns P H ≡ property_columns P G
  property_same =
      outputs_same H G (instance_at P (property_path P.observer))
      (by P.observer (starts_agree P H G same))
    where
      by : (o : Option Name) →
          IfSome (instance_at P Root) (AgreeAt H G)
          × IfSome (instance_at P Observer) (AgreeAt H G) →
          IfSome (instance_at P (property_path o)) (AgreeAt H G)
      by None a = a.0
      by (Some x) a = a.1

  module _ (instantiated : instantiation_refusal P 0 (instances P) ≡ None)
      (accepted : check_refusal P ≡ None) where
    decide_alike : DecideAlike P H G
    decide_alike =
        let places = all_same_places P instantiated accepted H G same in
        let named = Every-map (SamePlaces P H G)
        (λ here. named_places P H here ≡ named_places P G here) (λ here p. p.named)
        (instances P) places in
        let clocks = Every-map (SamePlaces P H G)
        (λ here. clock_columns H here ≡ clock_columns G here) (λ here p. p.clocks)
        (instances P) places in
        let asserted = Every-map (SamePlaces P H G)
        (λ here. assertion_columns P H here ≡ assertion_columns P G here) (λ here p. p.asserted)
        (instances P) places in
        let of_named = tested_same (named_places P H) (named_places P G) (instances P) named in
        let of_clocks = tested_same (clock_columns H) (clock_columns G) (instances P) clocks in
        let of_asserted =
        tested_same (assertion_columns P H) (assertion_columns P G) (instances P) asserted in
        record {
          fault = of_named is_bad;
          undefined = λ t.
              ap₂ (λ a b. a || b) (of_clocks is_nil t)
              (ap₂ (λ a b. a || b) (of_asserted is_nil t) (ap (some_at is_nil t) property_same));
          failed = of_asserted is_false;
          violated = λ t. ap (some_at is_false t) property_same;
        }

-- ## Verdicts

pub compared : (t u : ℕ) → (t < u) ⊎ (t ≡ u) ⊎ (u < t)
compared zero zero = inr (inl refl)
compared zero (suc u) = inl (omega arith)
compared (suc t) zero = inr (inr (omega arith))
compared (suc t) (suc u) =
    elim (compared t u) [
      | inl lt ↦ inl (omega arith)
      | inr r ↦ elim r [ inl e ↦ inr (inl (ap suc e)) | inr lt ↦ inr (inr (omega arith)) ]
    ]

module _ (P : Program) (H G : History) (count : ℕ) (alike : DecideAlike P H G) where
  decides_same : (t : ℕ) → decides P H t ≡ decides P G t
  decides_same t =
      ap₂ (λ a b. a || b) (alike.fault t)
      (ap₂ (λ a b. a || b) (alike.undefined t)
      (ap₂ (λ a b. a || b) (alike.failed t) (alike.violated t)))

  least_same : (t u : ℕ) → IsLeast P H count t → IsLeast P G count u → t ≡ u
  least_same t u a b =
      elim (compared t u) [
        | inl lt ↦ absurd (contrary _ a.happens (decides_same t ∙ b.not_before t lt))
        | inr r ↦ elim r [
          | inl e ↦ e
          | inr lt ↦ absurd (contrary _ b.happens (sym (decides_same u) ∙ a.not_before u lt))
        ]
      ]

  -- one history does not pass where the other one decides at an instant
  passed : (u : ℕ) → Ends P H count Passed → IsLeast P G count u → ⊥
  passed u a b = contrary _ b.happens (sym (decides_same u) ∙ a u b.within)

  passed_turned : (t : ℕ) → IsLeast P H count t → Ends P G count Passed → ⊥
  passed_turned t a b = contrary _ a.happens (decides_same t ∙ b t a.within)

  fault_at : (t u : ℕ) → t ≡ u → is_fault P H t ≡ is_fault P G u
  fault_at t u e = alike.fault t ∙ ap (is_fault P G) e

  undefined_at : (t u : ℕ) → t ≡ u → is_undefined P H t ≡ is_undefined P G u
  undefined_at t u e = alike.undefined t ∙ ap (is_undefined P G) e

  failed_at : (t u : ℕ) → t ≡ u → is_failed P H t ≡ is_failed P G u
  failed_at t u e = alike.failed t ∙ ap (is_failed P G) e

  same_end : (v w : Verdict) → Ends P H count v → Ends P G count w → v ≡ w
  same_end Passed Passed a b = refl
  same_end Passed (Fault u) a b = absurd (passed u a b.0)
  same_end Passed (Undefined u) a b = absurd (passed u a b.0)
  same_end Passed (Assertion_fails u) a b = absurd (passed u a b.0)
  same_end Passed (False u) a b = absurd (passed u a b.0)
  same_end (Fault t) Passed a b = absurd (passed_turned t a.0 b)
  same_end (Fault t) (Fault u) a b = ap Fault (least_same t u a.0 b.0)
  same_end (Fault t) (Undefined u) a b =
      absurd (contrary _ a.1 (fault_at t u (least_same t u a.0 b.0) ∙ b.1))
  same_end (Fault t) (Assertion_fails u) a b =
      absurd (contrary _ a.1 (fault_at t u (least_same t u a.0 b.0) ∙ b.1))
  same_end (Fault t) (False u) a b =
      absurd (contrary _ a.1 (fault_at t u (least_same t u a.0 b.0) ∙ b.1))
  same_end (Undefined t) Passed a b = absurd (passed_turned t a.0 b)
  same_end (Undefined t) (Fault u) a b =
      absurd (contrary _ b.1 (sym (fault_at t u (least_same t u a.0 b.0)) ∙ a.1))
  same_end (Undefined t) (Undefined u) a b = ap Undefined (least_same t u a.0 b.0)
  same_end (Undefined t) (Assertion_fails u) a b =
      absurd (contrary _ a.2 (undefined_at t u (least_same t u a.0 b.0) ∙ b.2))
  same_end (Undefined t) (False u) a b =
      absurd (contrary _ a.2 (undefined_at t u (least_same t u a.0 b.0) ∙ b.2))
  same_end (Assertion_fails t) Passed a b = absurd (passed_turned t a.0 b)
  same_end (Assertion_fails t) (Fault u) a b =
      absurd (contrary _ b.1 (sym (fault_at t u (least_same t u a.0 b.0)) ∙ a.1))
  same_end (Assertion_fails t) (Undefined u) a b =
      absurd (contrary _ b.2 (sym (undefined_at t u (least_same t u a.0 b.0)) ∙ a.2))
  same_end (Assertion_fails t) (Assertion_fails u) a b = ap Assertion_fails (least_same t u a.0 b.0)
  same_end (Assertion_fails t) (False u) a b =
      absurd (contrary _ a.3 (failed_at t u (least_same t u a.0 b.0) ∙ b.3))
  same_end (False t) Passed a b = absurd (passed_turned t a.0 b)
  same_end (False t) (Fault u) a b =
      absurd (contrary _ b.1 (sym (fault_at t u (least_same t u a.0 b.0)) ∙ a.1))
  same_end (False t) (Undefined u) a b =
      absurd (contrary _ b.2 (sym (undefined_at t u (least_same t u a.0 b.0)) ∙ a.2))
  same_end (False t) (Assertion_fails u) a b =
      absurd (contrary _ b.3 (sym (failed_at t u (least_same t u a.0 b.0)) ∙ a.3))
  same_end (False t) (False u) a b = ap False (least_same t u a.0 b.0)

-- ## One history, one verdict

module _ (P : Program) (elaborated : static_refusal P ≡ None)
    (accepted : check_refusal P ≡ None) (X : Inputs) (one : HasOneHistory P X) where
  histories_same : (H G : History) → Solves P X H → Solves P X G → AreSame P H G
  histories_same H G h g =
      Every-map _ _ (λ c a. agree_joined H one.history G c (agree_turned one.history H c a.0, a.1))
      (instances P) (Every-both _ _ (instances P) (one.only H h) (one.only G g))

  -- a verdict is the only one, where one history alone solves the program, and this breaks no rule
  -- of names, static values, instances, types and clocks
  pub only_verdict : (v : Verdict) → HasVerdict P X v → IsOnlyVerdict P X v
  only_verdict v h = record {
    has = h;
    only = λ w g.
        same_end P h.0 g.0 (length X)
        (decide_alike P h.0 g.0 (histories_same h.0 g.0 h.1 g.1) (instantiation_kept P elaborated)
        accepted)
        v w h.2 g.2;
  }
