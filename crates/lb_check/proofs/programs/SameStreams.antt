-- Two histories that agree on an instance and on those that it calls have the same streams of each
-- expression in its text.
use Rattle.lb_check.proofs.Words
use Words.{◌≡◌, ℕ, suc, ◌+◌, ◌-◌, ◌*◌, ◌<◌, true, Option, Some, None, List, [], ◌∷◌, ◌++◌, map}
use Words.{drop, take, refl, ap, ap₂, sym, ◌∙◌, subst, arith, IfSome, option_map, ArrayIterator}
use Words.{Map, Red, Fill, Every, zip2, either_or, listed, Name, Static, Node_named, Symbol, Expr}
use Words.{Group, Unary, Binary, If, Arrow, Fby, Pre, Current, When, Replicate, Index, Slice, Join}
use Words.{Array, AtMostOne, Nor, Call, Iterate, Exprs, Nil, Cons, Declaration, Node, Program}
use Words.{Instance, Child, name_value, static_count, variables, named, are_declared_clocks, Clock}
use Words.{On, clock_of, clock_or, declared_clock, Occurrence, at, call_count, AgreeAt, streams_at}
use Words.{History, presence, signed, all_streams, number, part_count, operator_types}
use Words.{memory_operand, pos}
use Rattle.lb_syntax.specs.{Lists.{copies, joined}, Tree.{Literal, Truth, Variable}}
use Rattle.lb_check.specs.{Clocks.Base, Scalars.{or_fault, Integer, Boolean, two_scalars}}
use Rattle.lb_check.specs.Scalars.{one_scalar, at_most_one, none_true, first_value}
use Rattle.lb_check.specs.Streams.{constantly, along, along_two, choices, across, first_then}
use Rattle.lb_check.specs.Streams.{previous, sample, latest, gathered, last_of, iterated, symbols}
use Rattle.lb_check.specs.Streams.{streams, outputs_of, name_streams}
use Rattle.lb_check.proofs.clocking.{ClockTests.clock_same, NamedClocks.{count_of, OfCalled}}
use Rattle.lb_check.proofs.clocking.NamedClocks.{if_some, named_every, IsOver}
use Rattle.lb_check.proofs.lists.Members.{Every-first, Every-second, Every-of_range, flat_same}
use Rattle.lb_check.proofs.programs.{Operands.{OnOperands, OnRow}, StandingParts.{Stands}}
use Rattle.lb_check.proofs.programs.StandingParts.{operands_stand}
use Rattle.lb_check.proofs.typing.OperandTypes.{bound, Placed, called, placed}

-- ## Iterators

module _ {A : Type 0} (f g : ℕ → Name → List A) (n : ℕ) where
  -- two families of outputs are the same at each of n instances
  abbrev AreSameOutputs : List Declaration → Type 0
  AreSameOutputs outs = (i : ℕ) → i < n → Every (λ o. f i o.name ≡ g i o.name) outs

  gathered_same :
      (outs : List Declaration) → AreSameOutputs outs → gathered f n outs ≡ gathered g n outs
  gathered_same [] h = refl
  gathered_same (o ∷ outs) h =
      ap₂ (λ xs ys. xs ++ ys) (flat_same _ _ _ (Every-of_range _ 0 n (λ i lt.
      let same : i ≡ 0 + i = omega arith in
      subst (λ j. f j o.name ≡ g j o.name) same (h i lt).0)))
      (gathered_same outs (λ i lt. (h i lt).1))

  last_same : (outs : List Declaration) → 0 < n → AreSameOutputs outs →
      last_of f n outs ≡ last_of g n outs
  last_same [] some h = refl
  last_same (o ∷ outs) some h = (h (n - 1) (omega arith)).0

  iterated_same :
      (it : ArrayIterator) (outs : List Declaration) → 0 < n → AreSameOutputs outs →
      iterated f n it outs ≡ iterated g n it outs
  iterated_same Map outs some h = gathered_same outs h
  iterated_same Red outs some h = last_same outs some h
  iterated_same Fill [] some h = refl
  iterated_same Fill (o ∷ outs) some h =
      ap₂ (λ xs ys. xs ++ ys) (last_same (o ∷ outs) some h)
      (gathered_same outs (λ i lt. (h i lt).1))

-- two histories agree on an instance that is called, and it keeps the rules of declared clocks
pub record IsSame (H G : History) (c : Instance) : Type 0 where
  pub agrees : AgreeAt H G c
  pub declared : are_declared_clocks c.node ≡ true

module _ (P : Program) (H G : History) (here : Instance) (agree : AgreeAt H G here) where
  -- the histories agree on name `x`
  abbrev pub Same : Name → Type 0
  Same x = H.columns here.path x ≡ G.columns here.path x

  -- the histories agree on a clock over names on which they agree
  pub presence_same : (k : Clock) → IsOver Same k → presence H here.path k ≡ presence G here.path k
  presence_same Base h = agree.ticks
  presence_same (On k x sign) h = ap₂ (λ bs xss. signed bs sign xss) (presence_same k h.0) h.1

  -- an instance that is called keeps the rules of declared clocks
  pub known : (c : Instance) → IsSame H G c → are_declared_clocks c.node ≡ true
  known c same = same.declared

  -- an occurrence stands, where the histories agree on the variables of the instance
  abbrev pub StandsHere : Occurrence → Type 0
  StandsHere o = Stands P here Same agree.columns (IsSame H G) known o

  abbrev pub SameStreams : Clock → ℕ → Expr → Type 0
  SameStreams k n e = streams P H here k n e ≡ streams P G here k n e

  -- the operand that an occurrence keeps, if it keeps one, has the same streams
  abbrev pub KeepsSame : Occurrence → Type 0
  KeepsSame o =
      IfSome (memory_operand P here o) (λ a. streams_at P H here a ≡ streams_at P G here a)

  -- ## Names and iterators

  name_same :
      (k : Clock) (x : Name) → presence H here.path k ≡ presence G here.path k →
      name_streams P here H k x ≡ name_streams P here G k x
  name_same k x e =
      by (named (λ d. d.name) x (variables here.node)) (if_some _ _ (λ d is.
      (named_every _ x _ d agree.columns is).0))
    where
      by : (o : Option Declaration) → IfSome o (λ d. Same d.name) →
          either_or (option_map (λ d. H.columns here.path d.name) o)
          (constantly (or_fault (name_value P here x)) (presence H here.path k) ∷ [])
          ≡ either_or (option_map (λ d. G.columns here.path d.name) o)
          (constantly (or_fault (name_value P here x)) (presence G here.path k) ∷ [])
      by None h = ap (λ bs. constantly (or_fault (name_value P here x)) bs ∷ []) e
      by (Some d) h = h

  -- the outputs of an instance of a call are the same
  outputs_same :
      (f : Name) (statics : List Static) (n i : ℕ) (count : Option Static) (c : Instance) →
      Placed P here f statics c →
      OfCalled P here (IsSame H G) (n, record { callee = f; arguments = statics; count = count }) →
      i < count_of P here (record { callee = f; arguments = statics; count = count }) →
      Every (λ o. H.columns (Child here.path n i) o.name ≡ G.columns (Child here.path n i) o.name)
      (outputs_of P here f)
  outputs_same f statics n i count c p s lt =
      let same = (s.1 i lt (record c { path = Child here.path n i }) (p.at n i)).agrees in
      let agrees = λ (d : Declaration).
      H.columns (Child here.path n i) d.name ≡ G.columns (Child here.path n i) d.name in
      subst (λ o. Every agrees (listed (λ (n : Node). n.outputs) o)) (sym p.node)
      (Every-first agrees c.node.outputs c.node.locals
      (Every-second agrees c.node.inputs _ same.columns))

  -- ## Expressions

  -- the histories agree on the instants of an occurrence
  on : (o : Occurrence) → StandsHere o → presence H here.path o.clock ≡ presence G here.path o.clock
  on o s = presence_same o.clock s.over

  -- the operands of an expression stand where it does
  pub operands : (k : Clock) (n : ℕ) (e : Expr) → StandsHere (at k n e) →
      OnOperands P here.node StandsHere k n e
  operands k n e s = operands_stand P here Same agree.columns (IsSame H G) known k n e s

  mutual
    -- an expression that stands has the same streams
    pub same_streams : (k : Clock) (n : ℕ) (e : Expr) → StandsHere (at k n e) → SameStreams k n e
    same_streams k n (Literal m) s = ap (λ bs. constantly (Integer (pos m)) bs ∷ []) (on _ s)
    same_streams k n (Truth b) s = ap (λ bs. constantly (Boolean b) bs ∷ []) (on _ s)
    same_streams k n (Variable x) s = name_same k x (on _ s)
    same_streams k n (Group a) s = same_streams k n a (operands k n (Group a) s)
    same_streams k n (Unary op a) s =
        ap (map (along (one_scalar op))) (same_streams k n a (operands k n (Unary op a) s))
    same_streams k n (Binary op a b) s =
        let o = operands k n (Binary op a b) s in
        ap₂ (zip2 (along_two (two_scalars op))) (same_streams k n a o.0)
        (same_streams k (n + call_count a) b o.1)
    same_streams k n (If c a b) s =
        let na = n + call_count c in
        let nb = na + call_count a in
        let o = operands k n (If c a b) s in
        ap (λ xss. choices xss (streams P H here k na a) (streams P H here k nb b))
        (same_streams k n c o.0)
        ∙ ap₂ (choices (streams P G here k n c)) (same_streams k na a o.1.0)
        (same_streams k nb b o.1.1)
    same_streams k n (Arrow a b) s =
        let o = operands k n (Arrow a b) s in
        ap₂ (zip2 first_then) (same_streams k n a o.0) (same_streams k (n + call_count a) b o.1)
    same_streams k n (Fby a b) s =
        let o = operands k n (Fby a b) s in
        ap₂ (zip2 first_then) (same_streams k n a o.0)
        (ap₂ (λ bs xss. map (previous first_value bs) xss) (on _ s)
        (same_streams k (n + call_count a) b o.1))
    same_streams k n (Pre a) s =
        ap₂ (λ bs xss. map (previous first_value bs) xss) (on _ s)
        (same_streams k n a (operands k n (Pre a) s))
    same_streams k n (When a x sign) s =
        let own = declared_clock here.node x in
        let over = subst (IsOver Same) (clock_same k (On own x sign) s.lawful.0) s.over in
        ap₂ (λ bs xss. map (zip2 sample bs) xss) (presence_same (On own x sign) over)
        (same_streams own n a (operands k n (When a x sign) s))
    same_streams k n (Current a) s =
        ap₂ (λ bs xss. map (latest first_value bs) xss) (on _ s)
        (same_streams (clock_or (clock_of P here.node a)) n a (operands k n (Current a) s))
    same_streams k n (Replicate a m) s =
        ap (copies (number P here m)) (same_streams k n a (operands k n (Replicate a m) s))
    same_streams k n (Index a m) s =
        ap (λ xss. take (part_count P here a) (drop (part_count P here a * number P here m) xss))
        (same_streams k n a (operands k n (Index a m) s))
    same_streams k n (Slice a m l) s =
        ap (λ xss. take (part_count P here a * (suc (number P here l) - number P here m))
        (drop (part_count P here a * number P here m) xss))
        (same_streams k n a (operands k n (Slice a m l) s))
    same_streams k n (Join a b) s =
        let o = operands k n (Join a b) s in
        ap₂ (λ xs ys. xs ++ ys) (same_streams k n a o.0)
        (same_streams k (n + call_count a) b o.1)
    same_streams k n (Array es) s = ap joined (all_same k n es (operands k n (Array es) s))
    same_streams k n (AtMostOne es) s =
        ap₂ (λ bs xsss. across at_most_one bs (joined xsss) ∷ []) (on _ s)
        (all_same k n es (operands k n (AtMostOne es) s))
    same_streams k n (Nor es) s =
        ap₂ (λ bs xsss. across none_true bs (joined xsss) ∷ []) (on _ s)
        (all_same k n es (operands k n (Nor es) s))
    same_streams k n (Call f statics es) s =
        let t = bound (operator_types P here (Node_named f statics)) _ s.types s.typed in
        let c = called P here f statics t.value t.is in
        let p = placed P here f statics c.callee c.is in
        flat_same _ _ (outputs_of P here f)
        (outputs_same f statics n 0 None c.callee p s.sited.0 (omega arith))
    same_streams k n (Iterate it (Node_named f statics) m es) s =
        let m_is = bound (static_count P here m) _ s.types s.typed in
        let t = bound (operator_types P here (Node_named f statics)) _ s.types m_is.gives in
        let c = called P here f statics t.value t.is in
        let p = placed P here f statics c.callee c.is in
        iterated_same (λ i x. H.columns (Child here.path n i) x)
        (λ i x. G.columns (Child here.path n i) x) (number P here m) it (outputs_of P here f)
        s.sited.0.0 (λ i lt. outputs_same f statics n i (Some m) c.callee p s.sited.0 lt)
    same_streams k n (Iterate it (Symbol op) m es) s =
        ap (symbols it op) (all_same k n es (operands k n (Iterate it (Symbol op) m es) s))

    -- each expression of a row that stands has the same streams
    pub all_same :
        (k : Clock) (n : ℕ) (es : Exprs) → OnRow P here.node StandsHere k n es →
        all_streams P H here k n es ≡ all_streams P G here k n es
    all_same k n Nil s = refl
    all_same k n (Cons a es) s =
        ap₂ (λ xs xss. xs ∷ xss) (same_streams k n a s.0) (all_same k (n + call_count a) es s.1)

  -- an occurrence that stands has the same streams
  pub streams_same : (o : Occurrence) → StandsHere o → streams_at P H here o ≡ streams_at P G here o
  streams_same o s = same_streams o.clock o.calls_before o.expr s

  -- so has the operand that it keeps
  pub keeps_same : (o : Occurrence) → StandsHere o → KeepsSame o
  keeps_same o s = by o.clock o.calls_before o.expr s
    where
      by : (k : Clock) (n : ℕ) (e : Expr) → StandsHere (at k n e) → KeepsSame (at k n e)
      by k n (Pre a) s = same_streams k n a (operands k n (Pre a) s)
      by k n (Fby a b) s = same_streams k (n + call_count a) b (operands k n (Fby a b) s).1
      by k n (Current a) s =
          same_streams (clock_or (clock_of P here.node a)) n a (operands k n (Current a) s)
      by k n e s = tt
