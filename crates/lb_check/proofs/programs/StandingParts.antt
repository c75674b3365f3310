-- Each part of a text that keeps the rules of types and clocks keeps them where it stands. Its
-- clock is over names with a property that the variables of the node have.
use Rattle.lb_check.proofs.Words
use Words.{list_all, Every, all_some, Name, Static, Node_named, Symbol, Expr, Group, Unary, Binary}
use Words.{If, Arrow, Fby, Pre, Current, When, Replicate, Index, Slice, Join, Array, AtMostOne, Nor}
use Words.{Call, Iterate, Exprs, Nil, Cons, Statement, Equation, Assertion, and_first, and_second}
use Words.{Program, Instance, Child, call_site, sites, sites_in, statement_sites, node_sites}
use Words.{node_named, DataType, variables, are_same, truth, is_type, left_names}
use Words.{are_declared_clocks, are_given_variables, is_call_clocked, is_on_clock, is_clocked}
use Words.{is_occurrence_clocked, Clock, On, clock_of, clock_or, declared_clock, Occurrence, at}
use Words.{call_count, call_clocks, occurrences, occurrences_in, occurrences_each, statement_clock}
use Words.{right_sides, right_side, statements, node_occurrences, type_of_name, is_statement_typed}
use Words.{is_clock_typed, is_typed, data_types, false, operator_types, ◌≡◌, ℕ, ◌+◌, true, Option}
use Words.{Some, List, [], ◌∷◌, ◌++◌, map, flat_map, length, refl, sym, subst, arith}
use Rattle.{std.proofs.Common.zip, lb_syntax.specs.Tree.{Literal, Truth, Variable}}
use Rattle.lb_check.proofs.clocking.{ClockTests.clock_same, NamedClocks.{AllLawful, AreSited}}
use Rattle.lb_check.proofs.clocking.NamedClocks.{OfCalled, fore, aft, sited_first, sited_second}
use Rattle.lb_check.proofs.clocking.NamedClocks.{sited_after, called_passes, left, right}
use Rattle.lb_check.proofs.clocking.NamedClocks.{determined, IsOver, clock_or_over, declared_over}
use Rattle.lb_check.proofs.clocking.NamedClocks.{arguments_over, named_has}
use Rattle.lb_check.proofs.lists.Members.{Every-append, Every-tested}
use Rattle.lb_check.proofs.programs.Operands.{OnTwo, OnRow, OnEach, OnOperands, on_parts, HasTypes}
use Rattle.lb_check.proofs.programs.Operands.{operands_typed}
use Rattle.lb_check.proofs.typing.OperandTypes.{bound, one, Placed, called, placed, first_of}

-- ## The types of statements

-- results that are compared and the same are both there
same_some :
    (P : Program) (o p : Option (List DataType)) → are_same P o p ≡ true →
    (ts : List DataType) × (o ≡ Some ts) × (us : List DataType) × (p ≡ Some us)
same_some P (Some ts) (Some us) e = (ts, refl, us, refl)
same_some P _ _ e = absurd cc

-- the operand of an assertion has one type
typed_truth :
    (P : Program) (o : Option (List DataType)) → are_same P o (Some (truth ∷ [])) ≡ true →
    (t : DataType) × (o ≡ Some (t ∷ []))
typed_truth P (Some (t ∷ [])) e = (t, refl)
typed_truth P (Some (t ∷ (u ∷ ts))) e = let end = and_second (is_type t truth) false e in absurd cc
typed_truth P _ e = absurd cc

module _ (P : Program) (here : Instance) (V : Name → Type 0)
    (all : Every (λ d. V d.name) (variables here.node)) (Q : Instance → Type 0)
    (declared : (c : Instance) → Q c → are_declared_clocks c.node ≡ true) where
  -- an occurrence has types, a clock over names with `V`, parts that keep the rules of clocks, and
  -- calls that have their instances
  pub record Stands (o : Occurrence) : Type 0 where
    pub types : List DataType
    pub typed : data_types P here o.expr ≡ Some types
    pub over : IsOver V o.clock
    pub lawful : AllLawful P here Q (occurrences P here.node o.clock o.calls_before o.expr)
    pub sited : AreSited P here Q o.calls_before (sites o.expr)

  -- each of some occurrences stands so
  abbrev pub AllStand : List Occurrence → Type 0
  AllStand os = Every Stands os

  -- the clocks of the arguments of a call are over names with `V`
  pub clocks_over :
      (k : Clock) (n : ℕ) (f : Name) (statics : List Static) (es : Exprs) (c : Instance) →
      Placed P here f statics c → OfCalled P here Q (n, call_site f statics) →
      is_on_clock P here.node k (Call f statics es) ≡ true → IsOver V k →
      Every (IsOver V) (call_clocks k (node_named P f) es)
  clocks_over k n f statics es c p s lawful over =
      let call = called_passes P (is_call_clocked here.node k es) f c.node lawful p.node in
      let given = and_first (are_given_variables here.node c.node es) _ call in
      let known = declared (record c { path = Child here.path n 0 })
      (s.1 0 (omega arith) (record c { path = Child here.path n 0 }) (p.at n 0)) in
      subst (λ o. Every (IsOver V) (call_clocks k o es)) (sym p.node)
      (arguments_over V here.node c.node es all known given k over)

  -- the clock that an operand of `current` determines is over names with `V`
  pub current_over :
      (k : Clock) (n : ℕ) (a : Expr) (t : DataType) → data_types P here a ≡ Some (t ∷ []) →
      AllLawful P here Q (occurrences P here.node k n a) → AreSited P here Q n (sites a) →
      IsOver V (clock_or (clock_of P here.node a))
  current_over k n a t e h s =
      clock_or_over V (clock_of P here.node a) (determined P here V all Q declared k n a t e h s)

  -- ## The operands of an expression that stands

  -- an operand stands, where it has types and the rest passes to it
  stand :
      (k : Clock) (n : ℕ) (e : Expr) → HasTypes P here (at k n e) → IsOver V k →
      AllLawful P here Q (occurrences P here.node k n e) → AreSited P here Q n (sites e) →
      Stands (at k n e)
  stand k n e t o h s =
      record { types = t.types; typed = t.typed; over = o; lawful = h; sited = s }

  -- two operands stand
  two_stand :
      (k : Clock) (n : ℕ) (a b : Expr) → OnTwo P here.node (HasTypes P here) k n a b → IsOver V k →
      AllLawful P here Q
      (occurrences P here.node k n a ++ occurrences P here.node k (n + call_count a) b) →
      AreSited P here Q n (sites a ++ sites b) → OnTwo P here.node Stands k n a b
  two_stand k n a b t o h s =
      let l = left P here Q k n a b h s in
      let r = right P here Q k n a b h s in
      (stand k n a t.0 o l.0 l.1, stand k (n + call_count a) b t.1 o r.0 r.1)

  -- each expression of a row stands, and below of a row on clocks of their own
  row_stands :
      (k : Clock) (n : ℕ) (es : Exprs) → OnRow P here.node (HasTypes P here) k n es → IsOver V k →
      AllLawful P here Q (occurrences_in P here.node k n es) →
      AreSited P here Q n (sites_in es) → OnRow P here.node Stands k n es
  row_stands k n Nil t o h s = tt
  row_stands k n (Cons a es) t o h s =
      let oa = occurrences P here.node k n a in (
        stand k n a t.0 o (fore P here Q oa _ h) (sited_first _ n (sites a) (sites_in es) s),
        row_stands k (n + call_count a) es t.1 o (aft P here Q oa _ h)
            (sited_second _ n (sites a) (sites_in es) s),
      )

  each_stands :
      (ks : List Clock) (n : ℕ) (es : Exprs) → OnEach P here.node (HasTypes P here) ks n es →
      Every (IsOver V) ks → AllLawful P here Q (occurrences_each P here.node ks n es) →
      AreSited P here Q n (sites_in es) → OnEach P here.node Stands ks n es
  each_stands ks n Nil t o h s = tt
  each_stands [] n (Cons a es) t o h s = tt
  each_stands (k ∷ ks) n (Cons a es) t o h s =
      let oa = occurrences P here.node k n a in (
        stand k n a t.0 o.0 (fore P here Q oa _ h) (sited_first _ n (sites a) (sites_in es) s),
        each_stands ks (n + call_count a) es t.1 o.1 (aft P here Q oa _ h)
            (sited_second _ n (sites a) (sites_in es) s),
      )

  -- the operands of an expression stand where it does
  pub operands_stand : (k : Clock) (n : ℕ) (e : Expr) → Stands (at k n e) →
      OnOperands P here.node Stands k n e
  operands_stand k n e s = by e s (operands_typed P here k n e s.types s.typed)
    where
      by : (e : Expr) → Stands (at k n e) → OnOperands P here.node (HasTypes P here) k n e →
          OnOperands P here.node Stands k n e
      by (Literal m) s t = tt
      by (Truth b) s t = tt
      by (Variable x) s t = tt
      by (Group a) s t = stand k n a t s.over s.lawful s.sited
      by (Unary op a) s t = stand k n a t s.over s.lawful.1 s.sited
      by (Binary op a b) s t = two_stand k n a b t s.over s.lawful.1 s.sited
      by (If c a b) s t =
          let oc = occurrences P here.node k n c in
          let first = sited_first _ n (sites c) (sites a ++ sites b) s.sited in
          let rest = sited_second _ n (sites c) (sites a ++ sites b) s.sited in (
            stand k n c t.0 s.over (fore P here Q oc _ s.lawful.1) first,
            two_stand k (n + call_count c) a b t.1 s.over (aft P here Q oc _ s.lawful.1) rest,
          )
      by (Arrow a b) s t = two_stand k n a b t s.over s.lawful.1 s.sited
      by (Fby a b) s t = two_stand k n a b t s.over s.lawful.1 s.sited
      by (Pre a) s t = stand k n a t s.over s.lawful.1 s.sited
      by (When a x sign) s t =
          let own = declared_clock here.node x in
          let over = subst (IsOver V) (clock_same k (On own x sign) s.lawful.0) s.over in
          stand own n a t over.0 s.lawful.1 s.sited
      by (Current a) s t =
          let own = clock_or (clock_of P here.node a) in
          let i = one (data_types P here a) Some s.types s.typed in
          let over = current_over own n a i.data_type i.is s.lawful.1 s.sited in
          stand own n a t over s.lawful.1 s.sited
      by (Replicate a m) s t = stand k n a t s.over s.lawful.1 s.sited
      by (Index a m) s t = stand k n a t s.over s.lawful.1 s.sited
      by (Slice a m l) s t = stand k n a t s.over s.lawful.1 s.sited
      by (Join a b) s t = two_stand k n a b t s.over s.lawful.1 s.sited
      by (Array es) s t = row_stands k n es t s.over s.lawful.1 s.sited
      by (AtMostOne es) s t = row_stands k n es t s.over s.lawful.1 s.sited
      by (Nor es) s t = row_stands k n es t s.over s.lawful.1 s.sited
      by (Call f statics es) s t =
          let o = bound (operator_types P here (Node_named f statics)) _ s.types s.typed in
          let c = called P here f statics o.value o.is in
          let p = placed P here f statics c.callee c.is in
          each_stands (call_clocks k (node_named P f) es) (n + 1) es t
          (clocks_over k n f statics es c.callee p s.sited.0 s.lawful.0 s.over) s.lawful.1
          (sited_after _ n (sites_in es) s.sited.1)
      by (Iterate it (Node_named f statics) m es) s t =
          row_stands k (n + 1) es t s.over s.lawful.1 (sited_after _ n (sites_in es) s.sited.1)
      by (Iterate it (Symbol op) m es) s t = row_stands k n es t s.over s.lawful.1 s.sited

  -- ## Statements

  -- each left variable is one of the node, and has `V`
  left_has :
      (xs : List Name) (ts : List DataType) → all_some (map (type_of_name P here) xs) ≡ Some ts →
      Every V xs
  left_has [] ts e = tt
  left_has (x ∷ xs) ts e =
      let f = first_of (type_of_name P here x) (map (type_of_name P here) xs) ts e in
      let d = bound _ _ f.first f.is in
      (named_has V x _ d.value all d.is, left_has xs f.rest f.others)

  -- the left variables of a statement have `V`, and its right side stands
  abbrev pub StatementStands : Statement × Occurrence → Type 0
  StatementStands s = Stands s.1 × Every V (left_names s.0)

  abbrev parts_of : List Occurrence → List Occurrence
  parts_of rs = flat_map (λ r. occurrences P here.node r.clock r.calls_before r.expr) rs

  equation_over :
      (lefts : List Name) (e : Expr) → IsOver V (statement_clock P here.node (Equation lefts e))
  equation_over [] e = tt
  equation_over (x ∷ xs) e = declared_over V here.node all x

  -- the right side of a statement stands, and its left variables have `V`
  statement_stands :
      (n : ℕ) (s : Statement) → is_statement_typed P here s ≡ true →
      AllLawful P here Q
      (occurrences P here.node (statement_clock P here.node s) n (right_side s)) →
      AreSited P here Q n (statement_sites s) →
      StatementStands (s, at (statement_clock P here.node s) n (right_side s))
  statement_stands n (Equation lefts e) typed h s =
      let t = same_some P (data_types P here e) (all_some (map (type_of_name P here) lefts))
      typed in
      let o = equation_over lefts e in (
        record { types = t.0; typed = t.1; over = o; lawful = h; sited = s },
        left_has lefts t.2 t.3,
      )
  statement_stands n (Assertion e) typed h s =
      let t = typed_truth P (data_types P here e) typed in
      let o = current_over (statement_clock P here.node (Assertion e)) n e t.0 t.1 h s in
      (record { types = t.0 ∷ []; typed = t.1; over = o; lawful = h; sited = s }, tt)

  abbrev BodyStands : ℕ → List Statement → Type 0
  BodyStands n ss =
      AllStand (parts_of (right_sides P here.node n ss))
      × Every StatementStands (zip ss (right_sides P here.node n ss))

  -- the parts and the statements of a text stand, where the rules of types and clocks are kept
  body_stands :
      (n : ℕ) (ss : List Statement) → list_all (is_statement_typed P here) ss ≡ true →
      AllLawful P here Q (parts_of (right_sides P here.node n ss)) →
      AreSited P here Q n (flat_map statement_sites ss) → BodyStands n ss
  body_stands n [] typed h w = (tt, tt)
  body_stands n (s ∷ ss) typed h w =
      let k = statement_clock P here.node s in
      let m = n + length (statement_sites s) in
      let oa = occurrences P here.node k n (right_side s) in
      let ob = parts_of (right_sides P here.node m ss) in
      let first = statement_stands n s (and_first (is_statement_typed P here s) _ typed)
      (fore P here Q oa ob h)
      (sited_first _ n (statement_sites s) (flat_map statement_sites ss) w) in
      let later = body_stands m ss (and_second (is_statement_typed P here s) _ typed)
      (aft P here Q oa ob h)
      (sited_second _ n (statement_sites s) (flat_map statement_sites ss) w) in (
        Every-append Stands oa ob (on_parts P here.node Stands operands_stand k n (right_side s)
            first.0) later.0,
        (first, later.1),
      )

  -- the parts and the statements of a node that keeps the rules stand
  pub node_stands :
      is_typed P here ≡ true → is_clocked P here.node ≡ true →
      AreSited P here Q 0 (node_sites here.node) →
      AllStand (node_occurrences P here.node)
      × Every StatementStands (statements P here.node)
  node_stands typed clocked s =
      let legal = and_first (list_all (is_occurrence_clocked P here.node)
      (node_occurrences P here.node)) _ (and_second (are_declared_clocks here.node) _ clocked) in
      body_stands 0 here.node.body
      (and_second (list_all (is_clock_typed P here) (variables here.node)) _ typed)
      (Every-tested (is_occurrence_clocked P here.node) (node_occurrences P here.node) legal) s
