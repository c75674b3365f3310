-- At most one list of occurrences keeps the rules of clocks, for an expression on a clock, and for
-- a statement.
use Rattle.std.proofs.Common.{◌≡◌, ℕ, ◌+◌, inl, inr, Bool, List, [], ◌∷◌, ◌++◌, length}
use Rattle.std.proofs.Common.{ap, ap₂, sym, subst, ◌∙◌}
use Rattle.lb_syntax.specs.Tree.{Node_named, Symbol, Expr, Literal, Truth, Variable, Group}
use Rattle.lb_syntax.specs.Tree.{Unary, Binary, If, Arrow, Fby, Pre, Current, When, Replicate}
use Rattle.lb_syntax.specs.Tree.{Index, Slice, Join, Array, AtMostOne, Nor, Call, Iterate, Exprs}
use Rattle.lb_syntax.specs.Tree.{Nil, Cons, Node, Statement, Equation, Assertion}
use Rattle.lb_static.specs.Instances.{Program, node_named, statement_sites}
use Rattle.lb_static.specs.Parts.{right_side}
use Rattle.lb_check.specs.ClockRules.{is_on_clock}
use Rattle.lb_check.specs.Clocks.{Clock, declared_clock}
use Rattle.lb_check.specs.Occurrences.{Occurrence, at, call_count, call_clocks}
use Rattle.lb_laws.specs.ClockAssignments.{Occurrences, Nothing, First, Both, Where}
use Rattle.lb_laws.specs.ClockAssignments.{IsAssigned, AreAssigned, AreAssignedEach}
use Rattle.lb_laws.specs.ClockAssignments.{IsStatementClock, IsStatementAssigned}
use Rattle.lb_laws.specs.ClockAssignments.{AreStatementsAssigned}

-- ## At most one list

-- a statement holds of one list of occurrences at most
abbrev pub Single : Occurrences → Type 0
Single Those = (xs ys : List Occurrence) → Those xs → Those ys → xs ≡ ys

nothing_single : Single Nothing
nothing_single xs ys p q = p ∙ sym q

first_single : (o : Occurrence) (Parts : Occurrences) → Single Parts → Single (First o Parts)
first_single o Parts single xs ys p q =
    p.2 ∙ ap (λ zs. o ∷ zs) (single p.0 q.0 p.1 q.1) ∙ sym q.2

both_single :
    (Those Others : Occurrences) → Single Those → Single Others → Single (Both Those Others)
both_single Those Others one other xs ys p q =
    p.4 ∙ ap₂ (λ us vs. us ++ vs) (one p.0 q.0 p.2 q.2) (other p.1 q.1 p.3 q.3) ∙ sym q.4

where_single : (rule : Bool) (Those : Occurrences) → Single Those → Single (Where rule Those)
where_single rule Those single xs ys p q = single xs ys p.1 q.1

module _ (P : Program) (here : Node) where
  -- an operator of one operand, or of two, has one list of occurrences at most
  one_operand :
      (k : Clock) (n : ℕ) (e a : Expr) → Single (IsAssigned P here k n a) →
      Single (First (at k n e) (IsAssigned P here k n a))
  one_operand k n e a single = first_single (at k n e) (IsAssigned P here k n a) single

  two_operands :
      (k : Clock) (n : ℕ) (e a b : Expr) → Single (IsAssigned P here k n a) →
      Single (IsAssigned P here k (n + call_count a) b) →
      Single (First (at k n e)
      (Both (IsAssigned P here k n a) (IsAssigned P here k (n + call_count a) b)))
  two_operands k n e a b one other =
      first_single (at k n e)
      (Both (IsAssigned P here k n a) (IsAssigned P here k (n + call_count a) b))
      (both_single (IsAssigned P here k n a) (IsAssigned P here k (n + call_count a) b) one other)

  mutual
    unfolding IsAssigned AreAssigned AreAssignedEach

    pub single : (k : Clock) (n : ℕ) (e : Expr) → Single (IsAssigned P here k n e)
    single k n (Literal m) = first_single (at k n (Literal m)) Nothing nothing_single
    single k n (Truth b) = first_single (at k n (Truth b)) Nothing nothing_single
    single k n (Variable x) =
        where_single (is_on_clock P here k (Variable x)) (First (at k n (Variable x)) Nothing)
        (first_single (at k n (Variable x)) Nothing nothing_single)
    single k n (Group a) = single k n a
    single k n (Unary op a) = one_operand k n (Unary op a) a (single k n a)
    single k n (Binary op a b) =
        two_operands k n (Binary op a b) a b (single k n a) (single k (n + call_count a) b)
    single k n (If c a b) =
        let branches : Occurrences =
        Both (IsAssigned P here k (n + call_count c) a)
        (IsAssigned P here k (n + call_count c + call_count a) b) in
        first_single (at k n (If c a b)) (Both (IsAssigned P here k n c) branches)
        (both_single (IsAssigned P here k n c) branches (single k n c)
        (both_single (IsAssigned P here k (n + call_count c) a)
        (IsAssigned P here k (n + call_count c + call_count a) b)
        (single k (n + call_count c) a) (single k (n + call_count c + call_count a) b)))
    single k n (Arrow a b) =
        two_operands k n (Arrow a b) a b (single k n a) (single k (n + call_count a) b)
    single k n (Fby a b) =
        two_operands k n (Fby a b) a b (single k n a) (single k (n + call_count a) b)
    single k n (Pre a) = one_operand k n (Pre a) a (single k n a)
    single k n (When a x sign) =
        let own = declared_clock here x in
        where_single (is_on_clock P here k (When a x sign))
        (First (at k n (When a x sign)) (IsAssigned P here own n a))
        (first_single (at k n (When a x sign)) (IsAssigned P here own n a) (single own n a))
    single k n (Current a) = λ xs ys p q.
        let same : q.0 ≡ p.0 = p.2 q.0 q.3.0 q.3.1 in
        let there = subst (λ l. IsAssigned P here l n a q.3.0) same q.3.1 in
        p.3.2 ∙ ap (λ zs. at k n (Current a) ∷ zs) (single p.0 n a p.3.0 q.3.0 p.3.1 there)
        ∙ sym q.3.2
    single k n (Replicate a m) = one_operand k n (Replicate a m) a (single k n a)
    single k n (Index a i) = one_operand k n (Index a i) a (single k n a)
    single k n (Slice a i j) = one_operand k n (Slice a i j) a (single k n a)
    single k n (Join a b) =
        two_operands k n (Join a b) a b (single k n a) (single k (n + call_count a) b)
    single k n (Array es) =
        first_single (at k n (Array es)) (AreAssigned P here k n es) (all_single k n es)
    single k n (AtMostOne es) =
        first_single (at k n (AtMostOne es)) (AreAssigned P here k n es) (all_single k n es)
    single k n (Nor es) =
        first_single (at k n (Nor es)) (AreAssigned P here k n es) (all_single k n es)
    single k n (Call f statics es) =
        let ks = call_clocks k (node_named P f) es in
        let e : Expr = Call f statics es in
        where_single (is_on_clock P here k e)
        (First (at k n e) (AreAssignedEach P here ks (n + 1) es))
        (first_single (at k n e) (AreAssignedEach P here ks (n + 1) es)
        (each_single ks (n + 1) es))
    single k n (Iterate it (Node_named f statics) m es) =
        let e : Expr = Iterate it (Node_named f statics) m es in
        where_single (is_on_clock P here k e) (First (at k n e) (AreAssigned P here k (n + 1) es))
        (first_single (at k n e) (AreAssigned P here k (n + 1) es) (all_single k (n + 1) es))
    single k n (Iterate it (Symbol op) m es) =
        first_single (at k n (Iterate it (Symbol op) m es)) (AreAssigned P here k n es)
        (all_single k n es)

    all_single : (k : Clock) (n : ℕ) (es : Exprs) → Single (AreAssigned P here k n es)
    all_single k n Nil = nothing_single
    all_single k n (Cons e es) =
        both_single (IsAssigned P here k n e) (AreAssigned P here k (n + call_count e) es)
        (single k n e) (all_single k (n + call_count e) es)

    each_single : (ks : List Clock) (n : ℕ) (es : Exprs) → Single (AreAssignedEach P here ks n es)
    each_single ks n Nil = nothing_single
    each_single [] n (Cons e es) = nothing_single
    each_single (k ∷ ks) n (Cons e es) =
        both_single (IsAssigned P here k n e) (AreAssignedEach P here ks (n + call_count e) es)
        (single k n e) (each_single ks (n + call_count e) es)

  -- ## Statements

  -- a statement stands on one clock
  one_clock :
      (n : ℕ) (s : Statement) (k l : Clock) (xs ys : List Occurrence) →
      IsStatementClock P here n s k → IsStatementClock P here n s l →
      IsAssigned P here k n (right_side s) xs → IsAssigned P here l n (right_side s) ys → l ≡ k
  one_clock n (Equation [] e) k l xs ys p q a b = q ∙ sym p
  one_clock n (Equation (x ∷ more) e) k l xs ys p q a b = q ∙ sym p
  one_clock n (Assertion e) k l xs ys (inl only) q a b = only l ys b
  one_clock n (Assertion e) k l xs ys (inr base) (inl only) a b = sym (only k xs a)
  one_clock n (Assertion e) k l xs ys (inr base) (inr other) a b = other ∙ sym base

  statement_single : (n : ℕ) (s : Statement) → Single (IsStatementAssigned P here n s)
  unfolding IsStatementAssigned
  statement_single n s = λ xs ys p q.
      let same = one_clock n s p.0 q.0 xs ys p.1 q.1 p.2.1 q.2.1 in
      single p.0 n (right_side s) xs ys p.2.1
      (subst (λ k. IsAssigned P here k n (right_side s) ys) same q.2.1)

  pub statements_single :
      (n : ℕ) (ss : List Statement) → Single (AreStatementsAssigned P here n ss)
  unfolding AreStatementsAssigned
  statements_single n [] = nothing_single
  statements_single n (s ∷ rest) =
      both_single (IsStatementAssigned P here n s)
      (AreStatementsAssigned P here (n + length (statement_sites s)) rest) (statement_single n s)
      (statements_single (n + length (statement_sites s)) rest)
