-- The occurrences of an expression and of a node, part by part.
use Rattle.lb_check.proofs.Words
use Words.{ℕ, ◌+◌, List, [], ◌∷◌, ◌++◌, flat_map, Every, Node_named, Symbol, Expr, Group, Unary}
use Words.{Binary, If, Arrow, Fby, Pre, Current, When, Replicate, Index, Slice, Join, Array}
use Words.{AtMostOne, Nor, Call, Iterate, Exprs, Nil, Cons, Node, Program, node_named, Clock}
use Words.{clock_of, clock_or, declared_clock, Occurrence, at, call_count, call_clocks, occurrences}
use Words.{occurrences_in, occurrences_each, right_sides, node_occurrences, ◌≡◌, suc, true, Option}
use Words.{Some, None, map, length, refl, ap, ap₂, sym, ◌∙◌, arith, list_all, length-map}
use Words.{map-append, and_first, and_second, DataType, truth, are_types, variable_type, variables}
use Words.{Instance, statement_sites, are_same, node_parts, parts, parts_in, Site, sites, sites_in}
use Words.{right_side, length-all_some, given_inputs, base_clock, outer, statement_clock, call_site}
use Words.{is_clock_typed, is_statement_typed, is_typed, data_types, all_types, operator_types}
use Words.{Name, Static, Statement, Equation, Assertion}
use Rattle.lb_syntax.specs.Tree.{Literal, Truth, Variable}
use Rattle.lb_check.proofs.lists.Members.{Every-append, Every-first, Every-second}
use Rattle.lb_check.proofs.programs.OccurrenceSites.{own_site, body_occurrences}
use Rattle.lb_check.proofs.programs.Operands.{HasTypes, OnOperands, OnRow, operands_typed}
use Rattle.lb_check.proofs.typing.OperandTypes.{bound, truly, first_of_all, called, placed}

-- A property of all occurrences of an expression holds of those of the operands of operators with
-- memory.

module _ (P : Program) (here : Node) (Q : Occurrence → Type 0) where
  abbrev pub AllHave : List Occurrence → Type 0
  AllHave os = Every Q os

  -- the property holds of the operands of an operator with memory
  abbrev pub OperandsHave : Clock → ℕ → Expr → Type 0
  OperandsHave k n (Pre a) = AllHave (occurrences P here k n a)
  OperandsHave k n (Current a) = AllHave (occurrences P here (clock_or (clock_of P here a)) n a)
  OperandsHave k n (Arrow a b) = AllHave (occurrences P here k n a)
  OperandsHave k n (Fby a b) =
      AllHave (occurrences P here k n a) × AllHave (occurrences P here k (n + call_count a) b)
  OperandsHave k n e = Unit {0}

  abbrev pub OperandHas : Occurrence → Type 0
  OperandHas o = OperandsHave o.clock o.calls_before o.expr

  abbrev Below : List Occurrence → Type 0
  Below os = Every OperandHas os

  -- of two lists of occurrences, one after the other
  two_below : (os os' : List Occurrence) → (AllHave os → Below os) → (AllHave os' → Below os') →
      AllHave (os ++ os') → Below (os ++ os')
  two_below os os' f g h =
      Every-append OperandHas os os' (f (Every-first Q os os' h)) (g (Every-second Q os os' h))

  mutual
    below : (k : Clock) (n : ℕ) (e : Expr) → AllHave (occurrences P here k n e) →
        Below (occurrences P here k n e)
    below k n (Literal m) h = (tt, tt)
    below k n (Truth b) h = (tt, tt)
    below k n (Variable x) h = (tt, tt)
    below k n (Group a) h = below k n a h
    below k n (Unary op a) h = (tt, below k n a h.1)
    below k n (Binary op a b) h =
        (tt, two_below _ _ (below k n a) (below k (n + call_count a) b) h.1)
    below k n (If c a b) h =
        let na = n + call_count c in (
          tt,
          two_below _ _ (below k n c)
              (two_below _ _ (below k na a) (below k (na + call_count a) b)) h.1,
        )
    below k n (Arrow a b) h = (
      Every-first Q _ _ h.1,
      two_below _ _ (below k n a) (below k (n + call_count a) b) h.1,
    )
    below k n (Fby a b) h = (
      (Every-first Q _ _ h.1, Every-second Q _ _ h.1),
      two_below _ _ (below k n a) (below k (n + call_count a) b) h.1,
    )
    below k n (Pre a) h = (h.1, below k n a h.1)
    below k n (Current a) h = (h.1, below (clock_or (clock_of P here a)) n a h.1)
    below k n (When a x sign) h = (tt, below (declared_clock here x) n a h.1)
    below k n (Replicate a m) h = (tt, below k n a h.1)
    below k n (Index a i) h = (tt, below k n a h.1)
    below k n (Slice a i j) h = (tt, below k n a h.1)
    below k n (Join a b) h = (tt, two_below _ _ (below k n a) (below k (n + call_count a) b) h.1)
    below k n (Array es) h = (tt, row_below k n es h.1)
    below k n (AtMostOne es) h = (tt, row_below k n es h.1)
    below k n (Nor es) h = (tt, row_below k n es h.1)
    below k n (Call f statics es) h =
        (tt, each_below (call_clocks k (node_named P f) es) (n + 1) es h.1)
    below k n (Iterate it (Node_named f statics) m es) h = (tt, row_below k (n + 1) es h.1)
    below k n (Iterate it (Symbol op) m es) h = (tt, row_below k n es h.1)

    row_below : (k : Clock) (n : ℕ) (es : Exprs) → AllHave (occurrences_in P here k n es) →
        Below (occurrences_in P here k n es)
    row_below k n Nil h = tt
    row_below k n (Cons e es) h = two_below _ _ (below k n e) (row_below k (n + call_count e) es) h

    each_below :
        (ks : List Clock) (n : ℕ) (es : Exprs) → AllHave (occurrences_each P here ks n es) →
        Below (occurrences_each P here ks n es)
    each_below ks n Nil h = tt
    each_below [] n (Cons e es) h = tt
    each_below (k ∷ ks) n (Cons e es) h =
        two_below _ _ (below k n e) (each_below ks (n + call_count e) es) h

  body_below :
      (rs : List Occurrence) →
      AllHave (flat_map (λ r. occurrences P here r.clock r.calls_before r.expr) rs) →
      Below (flat_map (λ r. occurrences P here r.clock r.calls_before r.expr) rs)
  body_below [] h = tt
  body_below (r ∷ rs) h = two_below _ _ (below r.clock r.calls_before r.expr) (body_below rs) h

  -- a property of all occurrences of a node holds of those of operands that memories keep
  pub operands_have : AllHave (node_occurrences P here) → Every OperandHas (node_occurrences P here)
  operands_have h = body_below (right_sides P here 0 here.body) h

-- The occurrences of a node whose types are right are its parts, in text order.

-- two lists of the same types are of one length
pub as_many_types : (ss ts : List DataType) → are_types ss ts ≡ true → length ss ≡ length ts
as_many_types [] [] e = refl
as_many_types (s ∷ ss) (t ∷ ts) e = ap suc (as_many_types ss ts (and_second _ _ e))
as_many_types _ _ e = absurd cc

-- the expressions of some occurrences
abbrev pub exprs_of : List Occurrence → List Expr
exprs_of os = map (λ o. o.expr) os

-- the expressions of the occurrences of two operands
joined_parts :
    (os os' : List Occurrence) (xs ys : List Expr) → exprs_of os ≡ xs → exprs_of os' ≡ ys →
    exprs_of (os ++ os') ≡ xs ++ ys
joined_parts os os' xs ys h g = map-append (λ o. o.expr) os os' ∙ ap₂ (λ xs ys. xs ++ ys) h g

pub never_as_many : (ts : List DataType) → 0 ≡ suc (length ts) → ⊥
never_as_many ts e = omega (arith, e)

pub one_less : (ks : List Clock) (ts : List DataType) → suc (length ks) ≡ suc (length ts) →
    length ks ≡ length ts
one_less ks ts e = omega (arith, e)

module _ (P : Program) (here : Instance) where
  -- a call has as many clocks of arguments as arguments
  pub as_many_clocks :
      (k : Clock) (f : Name) (statics : List Static) (es : Exprs) (ts args : List DataType)
      (types : List DataType × List DataType) →
      operator_types P here (Node_named f statics) ≡ Some types → are_types types.0 args ≡ true →
      length (call_clocks k (node_named P f) es) ≡ length args
  as_many_clocks k f statics es ts args types e same =
      let c = called P here f statics types e in
      let p = placed P here f statics c.callee c.is in
      let n = c.callee.node in
      ap (λ o. length (call_clocks k o es)) p.node
      ∙ length-map n.inputs
      (λ d. outer (base_clock k n) (given_inputs n.inputs es) (declared_clock n d.name))
      ∙ sym (length-map n.inputs (variable_type P c.callee))
      ∙ sym (length-all_some _ types.0 c.inputs)
      ∙ as_many_types types.0 args same

  -- results that are compared and the same have types
  compared :
      (o p : Option (List DataType)) → are_same P o p ≡ true → (ts : List DataType) × (o ≡ Some ts)
  compared None p e = absurd cc
  compared (Some ts) p e = (ts, refl)

  pub right_typed :
      (s : Statement) → is_statement_typed P here s ≡ true →
      (ts : List DataType) × (data_types P here (right_side s) ≡ Some ts)
  right_typed (Equation lefts a) e = compared _ _ e
  right_typed (Assertion a) e = compared (data_types P here a) (Some (truth ∷ [])) e

  -- ## What the occurrences, the parts and the calls of a text have in common

  -- `C n os es ss` speaks of the occurrences `os`, the parts `es` and the calls `ss` of a text, the
  -- first call with number n. It holds of no text, of an expression with its operands, whether it
  -- is a call or not, and of two texts, one after the other.
  module _ (C : ℕ → List Occurrence → List Expr → List Site → Type 0)
      (none : (n : ℕ) → C n [] [] [])
      (part : (k : Clock) (n : ℕ) (e : Expr) (os : List Occurrence) (es : List Expr)
      (ss : List Site) → own_site e ≡ None → C n os es ss → C n (at k n e ∷ os) (e ∷ es) ss)
      (call : (k : Clock) (n : ℕ) (e : Expr) (s : Site) (os : List Occurrence) (es : List Expr)
      (ss : List Site) → own_site e ≡ Some s → C (n + 1) os es ss →
      C n (at k n e ∷ os) (e ∷ es) (s ∷ ss))
      (joined : (n : ℕ) (os ps : List Occurrence) (es fs : List Expr) (ss ts : List Site) →
      C n os es ss → C (n + length ss) ps fs ts → C n (os ++ ps) (es ++ fs) (ss ++ ts)) where
    -- `C` holds of two texts, one after the other
    both : {n : ℕ} {os ps : List Occurrence} {es fs : List Expr} {ss ts : List Site} →
        C n os es ss → C (n + length ss) ps fs ts → C n (os ++ ps) (es ++ fs) (ss ++ ts)
    both h g = joined _ _ _ _ _ _ _ h g

    -- `C` holds of an expression that is no call
    own : {k : Clock} {n : ℕ} {e : Expr} {os : List Occurrence} {es : List Expr}
        {ss : List Site} → own_site e ≡ None → C n os es ss → C n (at k n e ∷ os) (e ∷ es) ss
    own is h = part _ _ _ _ _ _ is h

    -- the operands have types
    types : (k : Clock) (n : ℕ) (e : Expr) → HasTypes P here (at k n e) →
        OnOperands P here.node (HasTypes P here) k n e
    types k n e t = operands_typed P here k n e t.types t.typed

    mutual
      -- `C` holds of an expression with types
      of_text : (k : Clock) (n : ℕ) (e : Expr) → HasTypes P here (at k n e) →
          C n (occurrences P here.node k n e) (parts e) (sites e)
      of_text k n (Literal m) t = own refl (none n)
      of_text k n (Truth b) t = own refl (none n)
      of_text k n (Variable x) t = own refl (none n)
      of_text k n (Group a) t = of_text k n a (types k n (Group a) t)
      of_text k n (Unary op a) t = own refl (of_text k n a (types k n (Unary op a) t))
      of_text k n (Binary op a b) t =
          let o = types k n (Binary op a b) t in
          own refl (both (of_text k n a o.0) (of_text k (n + call_count a) b o.1))
      of_text k n (If c a b) t =
          let na = n + call_count c in
          let o = types k n (If c a b) t in
          own refl (both (of_text k n c o.0)
          (both (of_text k na a o.1.0) (of_text k (na + call_count a) b o.1.1)))
      of_text k n (Arrow a b) t =
          let o = types k n (Arrow a b) t in
          own refl (both (of_text k n a o.0) (of_text k (n + call_count a) b o.1))
      of_text k n (Fby a b) t =
          let o = types k n (Fby a b) t in
          own refl (both (of_text k n a o.0) (of_text k (n + call_count a) b o.1))
      of_text k n (Pre a) t = own refl (of_text k n a (types k n (Pre a) t))
      of_text k n (When a x sign) t =
          own refl (of_text (declared_clock here.node x) n a (types k n (When a x sign) t))
      of_text k n (Current a) t =
          own refl (of_text (clock_or (clock_of P here.node a)) n a (types k n (Current a) t))
      of_text k n (Replicate a m) t = own refl (of_text k n a (types k n (Replicate a m) t))
      of_text k n (Index a m) t = own refl (of_text k n a (types k n (Index a m) t))
      of_text k n (Slice a m l) t = own refl (of_text k n a (types k n (Slice a m l) t))
      of_text k n (Join a b) t =
          let o = types k n (Join a b) t in
          own refl (both (of_text k n a o.0) (of_text k (n + call_count a) b o.1))
      of_text k n (Array es) t = own refl (of_row k n es (types k n (Array es) t))
      of_text k n (AtMostOne es) t = own refl (of_row k n es (types k n (AtMostOne es) t))
      of_text k n (Nor es) t = own refl (of_row k n es (types k n (Nor es) t))
      of_text k n (Call f statics es) t =
          let o = bound (operator_types P here (Node_named f statics)) _ t.types t.typed in
          let a = bound (all_types P here es) _ t.types o.gives in
          let same = truly (are_types o.value.0 a.value) o.value.1 t.types a.gives in
          call k n (Call f statics es) (call_site f statics) _ _ _ refl
          (of_each (call_clocks k (node_named P f) es) (n + 1) es a.value a.is
          (as_many_clocks k f statics es t.types a.value o.value o.is same.holds))
      of_text k n (Iterate it (Node_named f statics) m es) t =
          call k n (Iterate it (Node_named f statics) m es)
          (record { callee = f; arguments = statics; count = Some m }) _ _ _ refl
          (of_row k (n + 1) es (types k n (Iterate it (Node_named f statics) m es) t))
      of_text k n (Iterate it (Symbol op) m es) t =
          own refl (of_row k n es (types k n (Iterate it (Symbol op) m es) t))

      of_row : (k : Clock) (n : ℕ) (es : Exprs) → OnRow P here.node (HasTypes P here) k n es →
          C n (occurrences_in P here.node k n es) (parts_in es) (sites_in es)
      of_row k n Nil t = none n
      of_row k n (Cons a es) t = both (of_text k n a t.0) (of_row k (n + call_count a) es t.1)

      of_each :
          (ks : List Clock) (n : ℕ) (es : Exprs) (ts : List DataType) →
          all_types P here es ≡ Some ts → length ks ≡ length ts →
          C n (occurrences_each P here.node ks n es) (parts_in es) (sites_in es)
      of_each ks n Nil ts e long = none n
      of_each [] n (Cons a es) ts e long =
          let i = first_of_all P here a es ts e in
          absurd (never_as_many i.rest (long ∙ ap length i.all))
      of_each (k ∷ ks) n (Cons a es) ts e long =
          let i = first_of_all P here a es ts e in
          both (of_text k n a (record { types = i.first ∷ []; typed = i.is }))
          (of_each ks (n + call_count a) es i.rest i.others
          (one_less ks i.rest (long ∙ ap length i.all)))

    -- `C` holds of the right side of a statement
    of_side :
        (n : ℕ) (s : Statement) → is_statement_typed P here s ≡ true →
        C n (occurrences P here.node (statement_clock P here.node s) n (right_side s))
        (parts (right_side s)) (statement_sites s)
    of_side n (Equation lefts e) typed =
        let t = right_typed (Equation lefts e) typed in
        of_text _ n e (record { types = t.0; typed = t.1 })
    of_side n (Assertion e) typed =
        let t = right_typed (Assertion e) typed in
        of_text _ n e (record { types = t.0; typed = t.1 })

    -- `C` holds of statements whose types are right
    pub of_body :
        (n : ℕ) (ss : List Statement) → list_all (is_statement_typed P here) ss ≡ true →
        C n (body_occurrences P here.node n ss) (flat_map (λ s. parts (right_side s)) ss)
        (flat_map statement_sites ss)
    of_body n [] e = none n
    of_body n (s ∷ ss) e =
        both (of_side n s (and_first (is_statement_typed P here s) _ e))
        (of_body (n + length (statement_sites s)) ss (and_second (is_statement_typed P here s) _ e))

  -- the occurrences of a node are its parts, where an instance of it keeps the rules of types
  pub node_occurrence_parts :
      is_typed P here ≡ true → exprs_of (node_occurrences P here.node) ≡ node_parts here.node
  node_occurrence_parts e =
      of_body (λ n os es ss. exprs_of os ≡ es) (λ n. refl)
      (λ k n e os es ss is h. ap (λ xs. e ∷ xs) h) (λ k n e s os es ss is h. ap (λ xs. e ∷ xs) h)
      (λ n os ps es fs ss ts h g. joined_parts os ps es fs h g) 0 here.node.body
      (and_second (list_all (is_clock_typed P here) (variables here.node)) _ e)
