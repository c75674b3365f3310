-- The computed clocks of occurrences in an accepted program keep the rules of clocks, and no other
-- clocks do.
use Rattle.std.proofs.Common.{◌≡◌, ℕ, ◌+◌, ◌⊎◌, inl, inr, Bool, true, Option, Some, None}
use Rattle.std.proofs.Common.{List, [], ◌∷◌, ◌++◌, length, flat_map, refl, ap, sym, subst, ◌∙◌}
use Rattle.std.specs.Prelude.{IfSome}
use Rattle.std.specs.List.{list_all, zip}
use Rattle.lb_syntax.specs.Lists.{Every}
use Rattle.lb_syntax.specs.Tree.{Node_named, Symbol, Expr, Literal, Truth, Variable, Group}
use Rattle.lb_syntax.specs.Tree.{Unary, Binary, If, Arrow, Fby, Pre, Current, When, Replicate}
use Rattle.lb_syntax.specs.Tree.{Index, Slice, Join, Array, AtMostOne, Nor, Call, Iterate, Exprs}
use Rattle.lb_syntax.specs.Tree.{Nil, Cons, Statement, Equation, Assertion}
use Rattle.lb_syntax.proofs.TruthValues.{and_first, and_second}
use Rattle.lb_static.specs.Instances.{Program, Instance, node_named, static_count, instances}
use Rattle.lb_static.specs.Instances.{statement_sites}
use Rattle.lb_static.specs.DataTypes.{DataType, truth, are_types}
use Rattle.lb_static.specs.Instantiation.{are_same, static_refusal}
use Rattle.lb_static.specs.Parts.{right_side}
use Rattle.lb_check.specs.Acceptance.{IsAccepted, check_refusal, refusal}
use Rattle.lb_check.specs.ClockRules.{is_just_below, is_occurrence_clocked, is_clocked}
use Rattle.lb_check.specs.ClockRules.{are_declared_clocks, is_statement_clocked}
use Rattle.lb_check.specs.Clocks.{Clock, Base, On, clock_of, clock_or, declared_clock}
use Rattle.lb_check.specs.Occurrences.{Occurrence, at, call_count, call_clocks, occurrences}
use Rattle.lb_check.specs.Occurrences.{occurrences_in, occurrences_each, statement_clock}
use Rattle.lb_check.specs.Occurrences.{right_sides, node_occurrences}
use Rattle.lb_check.specs.TypeRules.{is_statement_typed}
use Rattle.lb_check.specs.Types.{data_types, all_types, from_one, from_truths, unary_type}
use Rattle.lb_check.specs.Types.{binary_type, common_type, array_of, index_type, slice_type}
use Rattle.lb_check.specs.Types.{join_type, name_data_type, operator_types, singly}
use Rattle.lb_check.proofs.{clocking.ClockTests.clock_same, definitions.BrokenRules.first_none}
use Rattle.lb_check.proofs.{definitions.BrokenRules.second_none, lists.Members.Every-from}
use Rattle.lb_check.proofs.lists.Members.{Every-first, Every-second, Every-tested}
use Rattle.lb_check.proofs.programs.AcceptedRules.{clocked, statements_typed}
use Rattle.lb_check.proofs.typing.OperandTypes.{bound, one, two, from_true, first_of_all}
use Rattle.lb_laws.specs.ClockAssignments.{Occurrences, Nothing, First, Both, IsOnly}
use Rattle.lb_laws.specs.ClockAssignments.{IsJustBelow, IsAssigned, AreAssigned, AreAssignedEach}
use Rattle.lb_laws.specs.ClockAssignments.{IsStatementClock, IsStatementAssigned}
use Rattle.lb_laws.specs.ClockAssignments.{AreStatementsAssigned, HasOneAssignment}
use Rattle.lb_laws.proofs.ComputedClocks.{agrees}
use Rattle.lb_laws.proofs.OneAssignment.{statements_single}

-- ## Lists of occurrences

first : (o : Occurrence) (Parts : Occurrences) (xs : List Occurrence) → Parts xs →
    First o Parts (o ∷ xs)
first o Parts xs h = (xs, h, refl)

both : (Front Back : Occurrences) (xs ys : List Occurrence) → Front xs → Back ys →
    Both Front Back (xs ++ ys)
both Front Back xs ys h g = (xs, ys, h, g, refl)

-- ## The operand of `current`

record Own (k : Clock) (o : Option Clock) : Type 0 where
  clock : Clock
  is : o ≡ Some clock
  below : IsJustBelow k clock

own_of : (k : Clock) (o : Option Clock) → is_just_below k o ≡ true → Own k o
own_of k None h = absurd cc
own_of k (Some Base) h = absurd cc
own_of k (Some (On l x sign)) h = record {
  clock = On l x sign;
  is = refl;
  below = (x, sign, ap (λ z. On z x sign) (sym (clock_same k l h)));
}

-- a clock that agrees with the determined clock equals it
only_by : (o : Option Clock) (own l : Clock) → o ≡ Some own → IfSome o (λ c. c ≡ l) → l ≡ own
only_by None own l e h = absurd cc
only_by (Some c) own l e h = let same : c ≡ own = cc in sym h ∙ same

module _ (P : Program) (here : Instance) where
  abbrev AllLawful : List Occurrence → Type 0
  AllLawful os = Every (λ o. is_occurrence_clocked P here.node o ≡ true) os

  fore : (os qs : List Occurrence) → AllLawful (os ++ qs) → AllLawful os
  fore os qs h = Every-first (λ o. is_occurrence_clocked P here.node o ≡ true) os qs h

  aft : (os qs : List Occurrence) → AllLawful (os ++ qs) → AllLawful qs
  aft os qs h = Every-second (λ o. is_occurrence_clocked P here.node o ≡ true) os qs h

  -- the computed occurrences of an expression on a clock keep the rules
  abbrev Keeps : Clock → ℕ → Expr → Type 0
  Keeps k n e = IsAssigned P here.node k n e (occurrences P here.node k n e)

  -- the occurrences of two operands keep the rules
  pair :
      (k : Clock) (n : ℕ) (e a b : Expr) → Keeps k n a → Keeps k (n + call_count a) b →
      First (at k n e)
      (Both (IsAssigned P here.node k n a) (IsAssigned P here.node k (n + call_count a) b))
      (at k n e ∷ (occurrences P here.node k n a
      ++ occurrences P here.node k (n + call_count a) b))
  pair k n e a b p q =
      let os = occurrences P here.node k n a in
      let qs = occurrences P here.node k (n + call_count a) b in
      first (at k n e)
      (Both (IsAssigned P here.node k n a) (IsAssigned P here.node k (n + call_count a) b))
      (os ++ qs)
      (both (IsAssigned P here.node k n a) (IsAssigned P here.node k (n + call_count a) b) os qs
      p q)

  mutual
    unfolding IsAssigned AreAssigned AreAssignedEach

    keeps :
        (k : Clock) (n : ℕ) (e : Expr) (ts : List DataType) → data_types P here e ≡ Some ts →
        AllLawful (occurrences P here.node k n e) → Keeps k n e
    keeps k n (Literal m) ts e h = first (at k n (Literal m)) Nothing [] refl
    keeps k n (Truth b) ts e h = first (at k n (Truth b)) Nothing [] refl
    keeps k n (Variable x) ts e h = (h.0, first (at k n (Variable x)) Nothing [] refl)
    keeps k n (Group a) ts e h = keeps k n a ts e h
    keeps k n (Unary op a) ts e h =
        let i = one (data_types P here a) (unary_type op) ts e in
        first (at k n (Unary op a)) (IsAssigned P here.node k n a) (occurrences P here.node k n a)
        (keeps k n a (i.data_type ∷ []) i.is h.1)
    keeps k n (Binary op a b) ts e h =
        let i = two (data_types P here a) (data_types P here b) (binary_type op) ts e in
        let oa = occurrences P here.node k n a in
        let ob = occurrences P here.node k (n + call_count a) b in
        pair k n (Binary op a b) a b
        (keeps k n a (i.first ∷ []) i.is_first (fore oa ob h.1))
        (keeps k (n + call_count a) b (i.second ∷ []) i.is_second (aft oa ob h.1))
    keeps k n (If c a b) ts e h =
        let na = n + call_count c in
        let nb = na + call_count a in
        let c_is = bound (from_truths (from_one (data_types P here c) Some)) _ ts e in
        let truths = from_true (from_one (data_types P here c) Some) c_is.value c_is.is in
        let z = one (data_types P here c) Some truths.data_types truths.is in
        let i = two (data_types P here a) (data_types P here b) common_type ts c_is.gives in
        let oc = occurrences P here.node k n c in
        let oa = occurrences P here.node k na a in
        let ob = occurrences P here.node k nb b in
        let rest = aft oc (oa ++ ob) h.1 in
        let branches : Occurrences =
        Both (IsAssigned P here.node k na a) (IsAssigned P here.node k nb b) in
        first (at k n (If c a b)) (Both (IsAssigned P here.node k n c) branches)
        (oc ++ (oa ++ ob))
        (both (IsAssigned P here.node k n c) branches oc (oa ++ ob)
        (keeps k n c (z.data_type ∷ []) z.is (fore oc (oa ++ ob) h.1))
        (both (IsAssigned P here.node k na a) (IsAssigned P here.node k nb b) oa ob
        (keeps k na a (i.first ∷ []) i.is_first (fore oa ob rest))
        (keeps k nb b (i.second ∷ []) i.is_second (aft oa ob rest))))
    keeps k n (Arrow a b) ts e h =
        let i = two (data_types P here a) (data_types P here b) common_type ts e in
        let oa = occurrences P here.node k n a in
        let ob = occurrences P here.node k (n + call_count a) b in
        pair k n (Arrow a b) a b (keeps k n a (i.first ∷ []) i.is_first (fore oa ob h.1))
        (keeps k (n + call_count a) b (i.second ∷ []) i.is_second (aft oa ob h.1))
    keeps k n (Fby a b) ts e h =
        let i = two (data_types P here a) (data_types P here b) common_type ts e in
        let oa = occurrences P here.node k n a in
        let ob = occurrences P here.node k (n + call_count a) b in
        pair k n (Fby a b) a b (keeps k n a (i.first ∷ []) i.is_first (fore oa ob h.1))
        (keeps k (n + call_count a) b (i.second ∷ []) i.is_second (aft oa ob h.1))
    keeps k n (Pre a) ts e h =
        let i = one (data_types P here a) Some ts e in
        first (at k n (Pre a)) (IsAssigned P here.node k n a) (occurrences P here.node k n a)
        (keeps k n a (i.data_type ∷ []) i.is h.1)
    keeps k n (When a x sign) ts e h =
        let own = declared_clock here.node x in
        let b = bound (from_truths (singly (name_data_type P here x))) _ ts e in
        let i = one (data_types P here a) Some ts b.gives in (
          h.0,
          first (at k n (When a x sign)) (IsAssigned P here.node own n a)
              (occurrences P here.node own n a) (keeps own n a (i.data_type ∷ []) i.is h.1),
        )
    keeps k n (Current a) ts e h =
        let i = one (data_types P here a) Some ts e in
        let own = own_of k (clock_of P here.node a) h.0 in
        let there = clock_or (clock_of P here.node a) in
        let same : there ≡ own.clock = ap clock_or own.is in
        let below : IsJustBelow k there = subst (λ l. IsJustBelow k l) (sym same) own.below in
        let known : clock_of P here.node a ≡ Some there = own.is ∙ ap Some (sym same) in (
          there,
          below,
          λ l xs stands. only_by (clock_of P here.node a) there l known
              (agrees P here l n a i.data_type i.is xs stands),
          first (at k n (Current a)) (IsAssigned P here.node there n a)
              (occurrences P here.node there n a) (keeps there n a (i.data_type ∷ []) i.is h.1),
        )
    keeps k n (Replicate a m) ts e h =
        let c = bound (static_count P here m) _ ts e in
        let i = one (data_types P here a) (array_of c.value) ts c.gives in
        first (at k n (Replicate a m)) (IsAssigned P here.node k n a)
        (occurrences P here.node k n a) (keeps k n a (i.data_type ∷ []) i.is h.1)
    keeps k n (Index a m) ts e h =
        let c = bound (static_count P here m) _ ts e in
        let i = one (data_types P here a) (index_type c.value) ts c.gives in
        first (at k n (Index a m)) (IsAssigned P here.node k n a)
        (occurrences P here.node k n a) (keeps k n a (i.data_type ∷ []) i.is h.1)
    keeps k n (Slice a m l) ts e h =
        let c = bound (static_count P here m) _ ts e in
        let d = bound (static_count P here l) _ ts c.gives in
        let i = one (data_types P here a) (slice_type c.value d.value) ts d.gives in
        first (at k n (Slice a m l)) (IsAssigned P here.node k n a)
        (occurrences P here.node k n a) (keeps k n a (i.data_type ∷ []) i.is h.1)
    keeps k n (Join a b) ts e h =
        let i = two (data_types P here a) (data_types P here b) join_type ts e in
        let oa = occurrences P here.node k n a in
        let ob = occurrences P here.node k (n + call_count a) b in
        pair k n (Join a b) a b (keeps k n a (i.first ∷ []) i.is_first (fore oa ob h.1))
        (keeps k (n + call_count a) b (i.second ∷ []) i.is_second (aft oa ob h.1))
    keeps k n (Array es) ts e h =
        let b = bound (all_types P here es) _ ts e in
        first (at k n (Array es)) (AreAssigned P here.node k n es)
        (occurrences_in P here.node k n es) (keep_all k n es b.value b.is h.1)
    keeps k n (AtMostOne es) ts e h =
        let b = from_true (all_types P here es) ts e in
        first (at k n (AtMostOne es)) (AreAssigned P here.node k n es)
        (occurrences_in P here.node k n es) (keep_all k n es b.data_types b.is h.1)
    keeps k n (Nor es) ts e h =
        let b = from_true (all_types P here es) ts e in
        first (at k n (Nor es)) (AreAssigned P here.node k n es)
        (occurrences_in P here.node k n es) (keep_all k n es b.data_types b.is h.1)
    keeps k n (Call f statics es) ts e h =
        let o = bound (operator_types P here (Node_named f statics)) _ ts e in
        let a = bound (all_types P here es) _ ts o.gives in
        let ks = call_clocks k (node_named P f) es in (
          h.0,
          first (at k n (Call f statics es)) (AreAssignedEach P here.node ks (n + 1) es)
              (occurrences_each P here.node ks (n + 1) es)
              (keep_each ks (n + 1) es a.value a.is h.1),
        )
    keeps k n (Iterate it (Node_named f statics) m es) ts e h =
        let c = bound (static_count P here m) _ ts e in
        let o = bound (operator_types P here (Node_named f statics)) _ ts c.gives in
        let a = bound (all_types P here es) _ ts o.gives in (
          h.0,
          first (at k n (Iterate it (Node_named f statics) m es))
              (AreAssigned P here.node k (n + 1) es) (occurrences_in P here.node k (n + 1) es)
              (keep_all k (n + 1) es a.value a.is h.1),
        )
    keeps k n (Iterate it (Symbol op) m es) ts e h =
        let c = bound (static_count P here m) _ ts e in
        let o = bound (operator_types P here (Symbol op)) _ ts c.gives in
        let a = bound (all_types P here es) _ ts o.gives in
        first (at k n (Iterate it (Symbol op) m es)) (AreAssigned P here.node k n es)
        (occurrences_in P here.node k n es) (keep_all k n es a.value a.is h.1)

    keep_all :
        (k : Clock) (n : ℕ) (es : Exprs) (ts : List DataType) → all_types P here es ≡ Some ts →
        AllLawful (occurrences_in P here.node k n es) →
        AreAssigned P here.node k n es (occurrences_in P here.node k n es)
    keep_all k n Nil ts e h = refl
    keep_all k n (Cons a es) ts e h =
        let i = first_of_all P here a es ts e in
        let oa = occurrences P here.node k n a in
        let ob = occurrences_in P here.node k (n + call_count a) es in
        both (IsAssigned P here.node k n a) (AreAssigned P here.node k (n + call_count a) es) oa ob
        (keeps k n a (i.first ∷ []) i.is (fore oa ob h))
        (keep_all k (n + call_count a) es i.rest i.others (aft oa ob h))

    keep_each :
        (ks : List Clock) (n : ℕ) (es : Exprs) (ts : List DataType) →
        all_types P here es ≡ Some ts → AllLawful (occurrences_each P here.node ks n es) →
        AreAssignedEach P here.node ks n es (occurrences_each P here.node ks n es)
    keep_each ks n Nil ts e h = refl
    keep_each [] n (Cons a es) ts e h = refl
    keep_each (k ∷ ks) n (Cons a es) ts e h =
        let i = first_of_all P here a es ts e in
        let oa = occurrences P here.node k n a in
        let ob = occurrences_each P here.node ks (n + call_count a) es in
        both (IsAssigned P here.node k n a) (AreAssignedEach P here.node ks (n + call_count a) es)
        oa ob (keeps k n a (i.first ∷ []) i.is (fore oa ob h))
        (keep_each ks (n + call_count a) es i.rest i.others (aft oa ob h))

  -- ## Statements

  record Typed (o : Option (List DataType)) : Type 0 where
    types : List DataType
    are : o ≡ Some types

  same_types : (o p : Option (List DataType)) → are_same P o p ≡ true → Typed o
  same_types (Some ss) (Some ts) e = record { types = ss; are = refl }
  same_types None p e = absurd cc
  same_types (Some ss) None e = absurd cc

  -- a list of types that equals a list of one type has one type
  one_type : (o : Option (List DataType)) (t : DataType) → are_same P o (Some (t ∷ [])) ≡ true →
      (s : DataType) × (o ≡ Some (s ∷ []))
  one_type None t e = absurd cc
  one_type (Some []) t e = absurd cc
  one_type (Some (s ∷ [])) t e = (s, refl)
  one_type (Some (s ∷ (u ∷ ss))) t e = absurd (by (and_second _ (are_types (u ∷ ss) []) e))
    where
      by : are_types (u ∷ ss) [] ≡ true → ⊥
      by h = cc

  statement_types :
      (s : Statement) → is_statement_typed P here s ≡ true →
      Typed (data_types P here (right_side s))
  statement_types (Equation lefts e) h = same_types (data_types P here e) _ h
  statement_types (Assertion e) h = same_types (data_types P here e) _ h

  asserted_by :
      (n : ℕ) (e : Expr) (o : Option Clock) → clock_of P here.node e ≡ o →
      is_statement_typed P here (Assertion e) ≡ true →
      IsOnly (clock_or o) (λ l. IsAssigned P here.node l n e) ⊎ (clock_or o ≡ Base)
  asserted_by n e None is h = inr refl
  asserted_by n e (Some c) is h =
      let t = one_type (data_types P here e) truth h in
      inl (λ l xs stands. only_by (clock_of P here.node e) c l is
      (agrees P here l n e t.0 t.1 xs stands))

  clock_is :
      (n : ℕ) (s : Statement) → is_statement_typed P here s ≡ true →
      IsStatementClock P here.node n s (statement_clock P here.node s)
  clock_is n (Equation [] e) h = refl
  clock_is n (Equation (x ∷ xs) e) h = refl
  clock_is n (Assertion e) h = asserted_by n e (clock_of P here.node e) refl h

  abbrev right_occurrences : Occurrence → List Occurrence
  right_occurrences r = occurrences P here.node r.clock r.calls_before r.expr

  abbrev is_pair_clocked : Statement × Occurrence → Bool
  is_pair_clocked s = is_statement_clocked P here.node s.0 s.1

  statement_kept :
      (n : ℕ) (s : Statement) → is_statement_typed P here s ≡ true →
      AllLawful (occurrences P here.node (statement_clock P here.node s) n (right_side s)) →
      is_statement_clocked P here.node s
      (at (statement_clock P here.node s) n (right_side s)) ≡ true →
      IsStatementAssigned P here.node n s
      (occurrences P here.node (statement_clock P here.node s) n (right_side s))
  unfolding IsStatementAssigned
  statement_kept n s typed lawful rule =
      let t = statement_types s typed in
      let k = statement_clock P here.node s in
      (k, clock_is n s typed, (rule, keeps k n (right_side s) t.types t.are lawful))

  statements_kept :
      (n : ℕ) (ss : List Statement) → list_all (is_statement_typed P here) ss ≡ true →
      AllLawful (flat_map right_occurrences (right_sides P here.node n ss)) →
      list_all is_pair_clocked (zip ss (right_sides P here.node n ss)) ≡ true →
      AreStatementsAssigned P here.node n ss
      (flat_map right_occurrences (right_sides P here.node n ss))
  unfolding AreStatementsAssigned
  statements_kept n [] typed lawful rules = refl
  statements_kept n (s ∷ rest) typed lawful rules =
      let k = statement_clock P here.node s in
      let m = n + length (statement_sites s) in
      let here_os = occurrences P here.node k n (right_side s) in
      let later = flat_map right_occurrences (right_sides P here.node m rest) in
      both (IsStatementAssigned P here.node n s) (AreStatementsAssigned P here.node m rest)
      here_os later
      (statement_kept n s (and_first (is_statement_typed P here s) _ typed)
      (fore here_os later lawful) (and_first (is_pair_clocked (s, at k n (right_side s))) _ rules))
      (statements_kept m rest (and_second (is_statement_typed P here s) _ typed)
      (aft here_os later lawful)
      (and_second (is_pair_clocked (s, at k n (right_side s))) _ rules))

  -- ## An instance

  one_by :
      list_all (is_statement_typed P here) here.node.body ≡ true →
      is_clocked P here.node ≡ true → HasOneAssignment P here
  one_by typed clocks =
      let rest = and_second (are_declared_clocks here.node) _ clocks in
      let all = node_occurrences P here.node in
      let lawful = Every-tested (is_occurrence_clocked P here.node) all
      (and_first (list_all (is_occurrence_clocked P here.node) all) _ rest) in
      let rules = and_second (list_all (is_occurrence_clocked P here.node) all) _ rest in
      let kept = statements_kept 0 here.node.body typed lawful rules in
      record {
        keeps_rules = kept;
        no_other = λ os stands.
            statements_single P here.node 0 here.node.body os all stands kept;
      }

-- ## All instances

-- an accepted program keeps the rules of types, clocks and definitions
rules_kept : (P : Program) → refusal P ≡ None → check_refusal P ≡ None
rules_kept P e = first_none (check_refusal P) _ (second_none (static_refusal P) _ e)

pub one_assignment :
    (P : Program) → IsAccepted P → Every (HasOneAssignment P) (instances P)
one_assignment P accepted =
    let checked = rules_kept P accepted.rules in
    Every-from (HasOneAssignment P) (instances P)
    (λ here i. one_by P here (statements_typed P checked here i) (clocked P checked here i))
