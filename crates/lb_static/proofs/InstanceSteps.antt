-- The instantiation of a program, step by step.
use Rattle.std.proofs.Common.{◌≡◌, ℕ, suc, zero, ◌<◌, ◌≤◌, ℤ, pos, Bool, true, false, List, [], ◌∷◌}
use Rattle.std.proofs.Common.{◌++◌, length, get_or, Option, Some, None, Ok, Err, Result, Vec, refl}
use Rattle.std.proofs.Common.{ap, sym, ◌∙◌, subst, inl, inr, ◌⊎◌, arith}
use Rattle.std.specs.Prelude.{is_some, nat_lt, nat_le, option_map, slice_get, IfOk, IfErr, IfSome}
use Rattle.std.specs.List.{zip}
use Rattle.std.specs.Borrow.{Bor}
use Rattle.std.specs.declared.alloc.Global.{Global}
use Rattle.std.proofs.lemmas.Option.{slice_get_read, get_or_from_slice_get}
use Rattle.std.proofs.lemmas.Bool.Decides.{nat_tests}
use Rattle.std.proofs.lemmas.Bool.{and_from}
use Rattle.lb_syntax.specs.Lists.{either_or, or_else}
use Rattle.lb_syntax.specs.Refusals.{E5, E6, E12, unless}
use Rattle.lb_syntax.specs.Tree.{Name}
use Rattle.lb_syntax.proofs.TruthValues.{and_second}
use Rattle.lb_static.specs.HeldValues.{value_of}
use Rattle.lb_static.specs.Instances.{Program, Instance, Path, name_value}
use Rattle.lb_static.specs.InstanceTable.{instance_of}
use Rattle.lb_static.specs.KeyedSpecializations.{IsFound}
use Rattle.lb_static.specs.ReachedNodes.{source_names}
use Rattle.lb_static.specs.ResolvedNodes.{IsResolved, node_of}
use Rattle.lb_static.specs.ResolvedTerms.{Counts, are_statics, is_count_within, is_site_within}
use Rattle.lb_static.specs.Specialized.{IsEvaluated, size_of, value_given}
use Rattle.lb_static.specs.Instantiation.{has_values, is_in_range, may_enter, level}
use Rattle.lb_static.specs.Instantiation.{instance_refusal}
use Rattle.lb_static.specs.Instantiated.{IsInstantiable, IsJudgement, IsJudged, IsJudgedAt}
use Rattle.lb_static.specs.Instantiated.{AreJudged, IsKnown, IsKnownWith, HasGrown, IsRefusal}
use Rattle.lb_static.specs.Instantiated.{times_of}
use Rattle.lb_static.specs.declared.constants.Constants.{Constants}
use Rattle.lb_static.specs.declared.error.StaticError.{StaticError}
use Rattle.lb_static.specs.declared.error.StaticError.TheVariants as error
use Rattle.lb_static.specs.declared.reachable.NodeId.{NodeId}
use Rattle.lb_static.specs.declared.table.Specialization.{Specialization}
use Rattle.lb_static.specs.declared.table.SpecializationId.{SpecializationId}
use Rattle.lb_static.specs.declared.reachable.Reached.{Reached}
use Rattle.lb_static.specs.declared.resolved.CallSite.{CallSite}
use Rattle.lb_static.specs.declared.resolved.ResolvedNode.{ResolvedNode}
use Rattle.lb_static.specs.declared.resolved.StaticId.{StaticId}
use Rattle.lb_static.specs.declared.static_value.StaticInt.{StaticInt}
use Rattle.lb_static.specs.declared.instantiate.Begun.{Begun}
use Rattle.lb_static.proofs.Evaluations.{as_many_values}
use Rattle.lb_static.proofs.Evaluated.{values_had, in_range_had, values_held}
use Rattle.lb_static.proofs.ReachedPlaces.{all_item}

-- ## The evaluation of a node, and the rules of its instance

module _ (P : Program) (p : Path) (n : ResolvedNode) (values : List ℤ) where
  abbrev here : Instance
  here = instance_of p (node_of n) values

  judged : (names : List Name) → IsResolved names n
      → (result : Result (Vec StaticInt Global) StaticError)
      → IsEvaluated (name_value P here) n result → IsJudgement P n here result
  judged names is (Ok statics) e =
      let pairs = zip (node_of n).parameters values in
      record {
        values = values_had P p n pairs is.statics ∙ ap is_some e.0;
        in_range = sym (in_range_had P p n pairs names is statics.items e.0) ∙ e.1;
        evaluated_as = values_held P p n pairs statics.items e.0;
      }
  judged names is (Err error.Memory) e = tt
  judged names is (Err (error.Name x)) e = e
  judged names is (Err (error.Recursion x)) e = e
  judged names is (Err (error.Root x)) e = e
  judged names is (Err (error.Value x)) e =
      values_had P p n (zip (node_of n).parameters values) is.statics ∙ ap is_some e
  judged names is (Err (error.Range x)) e =
      let pairs = zip (node_of n).parameters values in (
        values_had P p n pairs is.statics
            ∙ ap is_some e.1,
        sym (in_range_had P p n pairs names is e.0 e.1) ∙ e.2,
      )
  judged names is (Err (error.Instances x)) e = e

  pub judgement : (r : Reached) (c : Constants) → IsInstantiable P r c → (i : ℕ)
      → slice_get r.nodes.items i ≡ Some n
      → (result : Result (Vec StaticInt Global) StaticError)
      → IsEvaluated (value_given (value_of c) (node_of n).parameters values) n result
      → IsJudgement P n here result
  judgement r c w i at result e =
      let is = all_item (IsResolved (source_names P)) r.nodes.items i n w.reached.resolved at in
      judged (source_names P) is result
      (subst (λ f. IsEvaluated (value_given f (node_of n).parameters values) n result) w.values e)

pub sized_at : (nodes : List ResolvedNode) (i : ℕ) (n : ResolvedNode) (given : Name → Option ℤ)
    (result : Result (Vec StaticInt Global) StaticError)
    → n ≡ get_or nodes i n → IsEvaluated given n result
    → IfOk result (λ v. (m : ResolvedNode) → slice_get nodes i ≡ Some m
    → length v.items ≡ length m.statics.items)
sized_at nodes i n given (Ok v) is e = λ m at.
    as_many_values given n.statics.items v.items e.0
    ∙ ap (λ (k : ResolvedNode). length k.statics.items) (is ∙ get_or_from_slice_get nodes i m n at)
sized_at nodes i n given (Err x) is e = tt

-- ## One instance

module _ (P : Program) (k : ℕ) (here : Instance) where
  pub may_be_entered : k < 4096 → level P here.path ≤ 64 → may_enter P k here ≡ true
  may_be_entered few low =
      let a : nat_lt k 4096 ≡ true = grind (arith, nat_tests) in
      let b : nat_le (level P here.path) 64 ≡ true = grind (arith, nat_tests) in
      and_from (nat_lt k 4096) (nat_le (level P here.path) 64) a b

  by_tests : (a b c : Bool) → may_enter P k here ≡ a → has_values P here ≡ b
      → is_in_range P here ≡ c
      → instance_refusal P k here ≡ or_else (unless a E12) (or_else (unless b E5) (unless c E6))
  by_tests a b c e f g =
      ap (λ d. or_else (unless d E12)
      (or_else (unless (has_values P here) E5) (unless (is_in_range P here) E6))) e
      ∙ ap (λ d. or_else (unless a E12) (or_else (unless d E5) (unless (is_in_range P here) E6))) f
      ∙ ap (λ d. or_else (unless a E12) (or_else (unless b E5) (unless d E6))) g

  pub begun_well : (n : ResolvedNode) (statics : List ℤ) → k < 4096 → level P here.path ≤ 64
      → IsJudged P n here statics → instance_refusal P k here ≡ None
  begun_well n statics few low j =
      by_tests true true true (may_be_entered few low) j.values j.in_range

  pub begun_ill : (n : ResolvedNode) (e : StaticError) → k < 4096 → level P here.path ≤ 64
      → IsJudgement P n here (Err e)
      → IsRefusal (instance_refusal P k here) e
  begun_ill n error.Memory few low j = tt
  begun_ill n (error.Name x) few low j = absurd j
  begun_ill n (error.Recursion x) few low j = absurd j
  begun_ill n (error.Root x) few low j = absurd j
  begun_ill n (error.Value x) few low j =
      by_tests true false (is_in_range P here) (may_be_entered few low) j refl
  begun_ill n (error.Range x) few low j = by_tests true true false (may_be_entered few low) j.0 j.1
  begun_ill n (error.Instances x) few low j = absurd j

-- ## A specialization that is found

-- a specialization that is found is that of the node with these values, and its values are judged
pub known_with : (P : Program) (r : Reached) (specializations : List Specialization) (node : NodeId)
    (values : List ℤ) (o : Option (SpecializationId × Bor Specialization))
    → AreJudged P r specializations → IsFound specializations node values (option_map (λ f. f.0) o)
    → IfSome o (λ f. slice_get specializations f.0.0 ≡ Some f.1.now) → IsKnownWith P r o node values
known_with P r specializations node values None judged k there = tt
known_with P r specializations node values (Some f) judged k there =
    let at_place : Some k.0 ≡ Some f.1.now = sym k.1 ∙ there in
    let same : k.0 ≡ f.1.now = cc in
    subst (λ t. IsJudgedAt P r t × (t.node ≡ node) × (t.values.items ≡ values)) same
    ((judged f.0.0 k.0 k.1).1, k.2, k.3)

-- an instance with the values of a specialization that is found is judged
pub known_judged : (P : Program) (r : Reached) (o : Option (SpecializationId × Bor Specialization))
    (f : SpecializationId × Bor Specialization) (node : NodeId) (values statics : List ℤ)
    → IsKnownWith P r o node values → o ≡ Some f → statics ≡ f.1.now.statics.items
    → (p : Path) (n : ResolvedNode) → slice_get r.nodes.items node.0 ≡ Some n
    → IsJudged P n (instance_of p (node_of n) values) statics
known_judged P r o f node values statics k is same p n at =
    let known = subst (λ x. IsKnownWith P r x node values) is k in
    let there = subst (λ (m : NodeId). slice_get r.nodes.items m.0 ≡ Some n) (sym known.1) at in
    subst (IsJudged P n (instance_of p (node_of n) values)) (sym same)
    (subst (λ vs. IsJudged P n (instance_of p (node_of n) vs) f.1.now.statics.items) known.2
    (known.0 p n there))

-- the place of a specialization that is found is that of the node with these values
pub known_place : (specializations : List Specialization) (node : NodeId) (values : List ℤ)
    (o : Option SpecializationId) (result : Result Begun StaticError)
    → IsFound specializations node values o → IfOk result (λ b. IfSome b.known (λ id. o ≡ Some id))
    → IfOk result (λ b. IfSome b.known (IsKnown specializations node values))
known_place specializations node values o (Ok b) found h = by b.known h
  where
    by : (known : Option SpecializationId) → IfSome known (λ id. o ≡ Some id)
        → IfSome known (IsKnown specializations node values)
    by None e = tt
    by (Some id) e = subst (IsFound specializations node values) e found
known_place specializations node values o (Err e) found h = tt

-- ## Known specializations

got_pushed : {A : Type 0} (xs : List A) (y : A) (i : ℕ) (t : A)
    → slice_get (xs ++ y ∷ []) i ≡ Some t → (slice_get xs i ≡ Some t) ⊎ (y ≡ t)
got_pushed [] y zero t e = inr cc
got_pushed [] y (suc i) t e = absurd cc
got_pushed (x ∷ xs) y zero t e = inl e
got_pushed (x ∷ xs) y (suc i) t e = got_pushed xs y i t e

pub judged_more : (P : Program) (r : Reached) (before after : List Specialization)
    (s : Specialization) → AreJudged P r before → s.node.0 < length r.nodes.items → IsJudgedAt P r s
    → after ≡ before ++ s ∷ [] → AreJudged P r after
judged_more P r before after s judged within here e i t at =
    elim (got_pushed before s i t (subst (λ l. slice_get l i ≡ Some t) e at)) [
      | inl h ↦ judged i t h
      | inr h ↦ subst (λ u. (u.node.0 < length r.nodes.items) × IsJudgedAt P r u) h (within, here)
    ]

pub grown_more : (before added : List Specialization) → HasGrown before (before ++ added)
grown_more [] added i t e = absurd cc
grown_more (x ∷ xs) added zero t e = e
grown_more (x ∷ xs) added (suc i) t e = grown_more xs added i t e

last_known : (before : List Specialization) (s : Specialization)
    → slice_get (before ++ s ∷ []) (length before) ≡ Some s
last_known [] s = refl
last_known (x ∷ xs) s = last_known xs s

pub added_known : (before after : List Specialization) (s : Specialization) (id : SpecializationId)
    → after ≡ before ++ s ∷ [] → id.0 ≡ length before
    → IsKnown after s.node s.values.items id
added_known before after s id e f = (
  s,
  ap (λ l. slice_get l id.0) e ∙ ap (slice_get (before ++ s ∷ [])) f
      ∙ last_known before s,
  refl,
  refl,
)

pub known_later : (before after : List Specialization) (node : NodeId) (values : List ℤ)
    (id : SpecializationId)
    → HasGrown before after → IsKnown before node values id → IsKnown after node values id
known_later before after node values id grown k = (k.0, grown id.0 k.0 k.1, k.2, k.3)

pub some_known_later : (before after : List Specialization) (node : NodeId) (values : List ℤ)
    (o : Option SpecializationId)
    → HasGrown before after → IfSome o (IsKnown before node values)
    → IfSome o (IsKnown after node values)
some_known_later before after node values (Some id) grown k =
    known_later before after node values id grown k
some_known_later before after node values None grown k = tt

-- ## Calls

-- a call is entered as often as the value at the place of its count says
pub times_read : (nodes : ℕ) (statics : List ℤ) (s : CallSite) (id : StaticId) (x : ℤ)
    → is_site_within nodes (record { variables = 0; statics = length statics; calls = 0 }) s ≡ true
    → s.count ≡ Some id → x ≡ get_or statics id.0 x
    → times_of statics s.count ≡ size_of x
times_read nodes statics s id x site is read =
    let counts : Counts = record { variables = 0; statics = length statics; calls = 0 } in
    let last = and_second (are_statics counts s.first_argument s.arguments)
    (is_count_within counts s.count) (and_second (nat_lt s.callee.0 nodes) _ site) in
    let small : nat_lt id.0 (length statics) ≡ true =
    subst (λ o. is_count_within counts o ≡ true) is last in
    let within : id.0 < length statics = grind (arith, nat_tests) in
    ap (times_of statics) is
    ∙ ap (λ o. size_of (either_or o (pos 0)))
    (slice_get_read statics (length statics) id.0 x refl within read)

-- ## The promise of the whole function

pub memory_alone : {A : Type 0} (r : Result A StaticError) (T : StaticError → Type 0)
    → T error.Memory → IfErr r (λ e. e ≡ error.Memory) → IfErr r T
memory_alone (Ok x) T given h = tt
memory_alone (Err e) T given h = subst T (sym h) given

-- an instance that is judged at one path is judged at each path
pub elsewhere : (P : Program) (p q : Path) (n : ResolvedNode) (values statics : List ℤ)
    → IsJudged P n (instance_of p (node_of n) values) statics
    → IsJudged P n (instance_of q (node_of n) values) statics
elsewhere P p q n values statics j =
    record { values = j.values; in_range = j.in_range; evaluated_as = j.evaluated_as }

pub ok_when : {A E : Type 0} (r : Result A E) (T : Type 0) → ((x : A) → r ≡ Ok x → T)
    → IfOk r (λ _. T)
ok_when (Ok x) T f = f x refl
ok_when (Err e) T f = tt
