-- The room of an expression: it has at least as many tokens as its depth, and as its spine.
use Rattle.std.proofs.Common.{ℕ, suc, ◌+◌, ◌≤◌, ◌<◌, max, inl, inr, Bool, true, false, List, []}
use Rattle.std.proofs.Common.{◌∷◌, length, arith}
use Rattle.lb_syntax.specs.declared.level.Form.TheVariants as form
use Rattle.lb_syntax.specs.declared.token.Token.{Token}
use Rattle.lb_syntax.specs.declared.tree.BinaryOperator.TheVariants.{Or, Xor, And, Plus, Minus}
use Rattle.lb_syntax.specs.declared.tree.BinaryOperator.TheVariants.{Times}
use Rattle.lb_syntax.specs.Tree.{Name, Not, Negate, Static, Whole}
use Rattle.lb_syntax.specs.Tree.{Named, Negated, Combined, Grouped, Operator, Node_named, Symbol}
use Rattle.lb_syntax.specs.Tree.{Expr, Exprs, Literal, Truth, Variable, Group, Unary, Binary, If}
use Rattle.lb_syntax.specs.Tree.{Arrow, Fby, Pre, Current, When, Replicate, Index, Slice, Join}
use Rattle.lb_syntax.specs.Tree.{Array}
use Rattle.lb_syntax.specs.Tree.{AtMostOne, Nor, Call, Iterate, Nil, Cons}
use Rattle.lb_syntax.specs.Levels.{Form}
use Rattle.lb_syntax.specs.Spelling.{IsSeparator, IsTail, IsStatic, AreArguments, IsSize}
use Rattle.lb_syntax.specs.Spelling.{IsClockName, IsClock, IsOperator, IsForm, IsSpelled}
use Rattle.lb_syntax.specs.Spelling.{AreSpelled, AreMore, MayBeSpelled}
use Rattle.lb_syntax.proofs.StaticComplete.{len, static_shorter, separator_room, Applied}

-- the depth to which the reader nests for a tree
abbrev mutual
  pub depth : Expr → ℕ
  depth (Group e) = suc (depth e)
  depth (Unary op a) = suc (depth a)
  depth (Binary op a b) = max (depth a) (suc (depth b))
  depth (If c a b) = suc (max (depth c) (max (depth a) (depth b)))
  depth (Arrow a b) = max (depth a) (suc (depth b))
  depth (Fby a b) = max (depth a) (suc (depth b))
  depth (Pre a) = suc (depth a)
  depth (Current a) = suc (depth a)
  depth (When e c sign) = depth e
  depth (Replicate e n) = depth e
  depth (Index e i) = depth e
  depth (Slice e i j) = depth e
  depth (Join a b) = max (depth a) (suc (depth b))
  depth (Array es) = suc (depth_all es)
  depth (AtMostOne es) = suc (depth_all es)
  depth (Nor es) = suc (depth_all es)
  depth (Call f ss es) = suc (depth_all es)
  depth (Iterate i f n es) = suc (depth_all es)
  depth _ = 1

  pub depth_all : Exprs → ℕ
  depth_all Nil = 0
  depth_all (Cons e es) = max (depth e) (depth_all es)

pub depth_one : (e : Expr) → 1 ≤ depth e
depth_one (When e c sign) = depth_one e
depth_one (Replicate e n) = depth_one e
depth_one (Index e i) = depth_one e
depth_one (Slice e i j) = depth_one e
depth_one _ = omega arith

-- the number of forms that take the tree so far as their left operand: 2 for `a - b - c`
abbrev pub spine : Expr → ℕ
spine (Binary op a b) = suc (spine a)
spine (Arrow a b) = suc (spine a)
spine (Fby a b) = suc (spine a)
spine (Join a b) = suc (spine a)
spine (When e c sign) = suc (spine e)
spine (Replicate e n) = suc (spine e)
spine (Index e i) = suc (spine e)
spine (Slice e i j) = suc (spine e)
spine _ = 0

static_room_in : (s : Static) (ts rest : List Token) → IsStatic s ts rest → length rest ≤ length ts
static_room_in s ts rest is = let lt = static_shorter s ts rest is in omega arith

size_room : (n : Static) (ts rest : List Token) → IsSize n ts rest → length rest ≤ length ts
size_room (Whole n) ts rest is = static_room_in (Whole n) ts rest is
size_room (Named x) ts rest is = static_room_in (Named x) ts rest is
size_room (Grouped s) ts rest is = static_room_in (Grouped s) ts rest is
size_room (Negated s) ts rest is = absurd is
size_room (Combined op s t) ts rest is = absurd is

clock_name_room : (c : Name) (ts rest : List Token) → IsClockName c ts rest →
    length rest ≤ length ts
clock_name_room c ts rest (inl e) = omega (arith, len ts _ e)
clock_name_room c ts rest (inr is) =
    omega (arith, len ts _ is.1, len is.0 _ is.2.1, len is.2.0 _ is.2.2)

clock_room : (c : Name) (sign : Bool) (ts rest : List Token) → IsClock c sign ts rest →
    length rest ≤ length ts
clock_room c true ts rest is = clock_name_room c ts rest is
clock_room c false ts rest is = omega (arith, len ts _ is.1, clock_name_room c is.0 rest is.2)

statics_more_room : (ss : List Static) (ts rest : List Token) →
    IsTail IsSeparator IsStatic ss ts rest → length rest ≤ length ts
statics_more_room [] ts rest is = omega (arith, len ts _ is)
statics_more_room (s ∷ ss) ts rest is =
    omega (
      arith,
      separator_room ts is.0 is.1,
      static_shorter s is.0 is.2.0 is.2.1,
      statics_more_room ss is.2.0 rest is.2.2,
    )

arguments_room : (ss : List Static) (ts rest : List Token) → AreArguments ss ts rest →
    length rest ≤ length ts
arguments_room [] ts rest is = omega (arith, len ts _ is)
arguments_room (s ∷ ss) ts rest is =
    let all = is.2.1 in
    omega (
      arith,
      len ts _ is.1,
      static_shorter s is.0 all.0 all.1,
      statics_more_room ss all.0 is.2.0 all.2,
      len is.2.0 _ is.2.2,
    )

operator_room : (f : Operator) (ts rest : List Token) → IsOperator f ts rest →
    length rest ≤ length ts
operator_room (Node_named f ss) ts rest is =
    omega (arith, len ts _ is.1, arguments_room ss is.0 rest is.2)
operator_room (Symbol Plus) ts rest is = omega (arith, len ts _ is)
operator_room (Symbol Minus) ts rest is = omega (arith, len ts _ is)
operator_room (Symbol Times) ts rest is = omega (arith, len ts _ is)
operator_room (Symbol And) ts rest is = omega (arith, len ts _ is)
operator_room (Symbol Or) ts rest is = omega (arith, len ts _ is)
operator_room (Symbol Xor) ts rest is = omega (arith, len ts _ is)
operator_room (Symbol _) ts rest is = absurd is

applied_room : (f : Operator) (n : Static) (ts rest : List Token) → Applied f n ts rest →
    length rest ≤ length ts
applied_room f n ts rest is =
    let size = is.2.2 in
    omega (
      arith,
      operator_room f ts is.0 is.1,
      separator_room is.0 is.2.0 is.2.1,
      static_shorter n is.2.0 size.0 size.1,
      len size.0 _ size.2,
    )

form_room : (f : Form) (ts rest : List Token) → IsForm f ts rest → length rest < length ts
form_room f ts rest is = omega (arith, len ts _ is.2)

mutual
  pub room : (e : Expr) (ts rest : List Token) → IsSpelled e ts rest
      → depth e + length rest ≤ length ts
  room (Literal n) ts rest s = omega (arith, len ts _ s)
  room (Truth true) ts rest s = omega (arith, len ts _ s)
  room (Truth false) ts rest s = omega (arith, len ts _ s)
  room (Variable x) ts rest s = omega (arith, len ts _ s)
  room (Group e) ts rest s = omega (arith, len ts _ s.1, room e s.0 s.2.0 s.2.1, len s.2.0 _ s.2.2)
  room (Unary Not a) ts rest s = omega (arith, len ts _ s.0.1, room a s.0.0 rest s.0.2)
  room (Unary Negate a) ts rest s = omega (arith, len ts _ s.0.1, room a s.0.0 rest s.0.2)
  room (Pre a) ts rest s = omega (arith, len ts _ s.0.1, room a s.0.0 rest s.0.2)
  room (Current a) ts rest s = omega (arith, len ts _ s.0.1, room a s.0.0 rest s.0.2)
  room (If c a b) ts rest s =
      let x = s.0 in
      let y = x.2.2 in
      let z = y.2.2 in
      omega (
        arith,
        len ts _ x.1,
        room c x.0 x.2.0 x.2.1,
        len x.2.0 _ y.1,
        room a y.0 y.2.0 y.2.1,
        len y.2.0 _ z.1,
        room b z.0 rest z.2,
      )
  room (Binary op a b) ts rest s =
      omega (
        arith,
        room a ts s.0.0 s.0.1,
        form_room (form.Data op) s.0.0 s.0.2.0 s.0.2.1,
        room b s.0.2.0 rest s.0.2.2,
      )
  room (Arrow a b) ts rest s =
      omega (
        arith,
        room a ts s.0.0 s.0.1,
        form_room form.Arrow s.0.0 s.0.2.0 s.0.2.1,
        room b s.0.2.0 rest s.0.2.2,
      )
  room (Fby a b) ts rest s =
      omega (
        arith,
        room a ts s.0.0 s.0.1,
        form_room form.Fby s.0.0 s.0.2.0 s.0.2.1,
        room b s.0.2.0 rest s.0.2.2,
      )
  room (Join a b) ts rest s =
      omega (
        arith,
        room a ts s.0.0 s.0.1,
        form_room form.Join s.0.0 s.0.2.0 s.0.2.1,
        room b s.0.2.0 rest s.0.2.2,
      )
  room (When e c sign) ts rest s =
      omega (
        arith,
        room e ts s.0.0 s.0.1,
        form_room form.When s.0.0 s.0.2.0 s.0.2.1,
        clock_room c sign s.0.2.0 rest s.0.2.2,
      )
  room (Replicate e n) ts rest s =
      omega (
        arith,
        room e ts s.0.0 s.0.1,
        form_room form.Replicate s.0.0 s.0.2.0 s.0.2.1,
        size_room n s.0.2.0 rest s.0.2.2,
      )
  room (Index e i) ts rest s =
      let x = s.0.2.2 in
      omega (
        arith,
        room e ts s.0.0 s.0.1,
        form_room form.Element s.0.0 s.0.2.0 s.0.2.1,
        static_room_in i s.0.2.0 x.0 x.1,
        len x.0 _ x.2,
      )
  room (Slice e i j) ts rest s =
      let x = s.0.2.2 in
      let y = x.2.2 in
      omega (
        arith,
        room e ts s.0.0 s.0.1,
        form_room form.Element s.0.0 s.0.2.0 s.0.2.1,
        static_room_in i s.0.2.0 x.0 x.1,
        len x.0 _ x.2.1,
        static_room_in j x.2.0 y.0 y.1,
        len y.0 _ y.2,
      )
  room (Array es) ts rest s =
      omega (arith, len ts _ s.1, room_all es s.0 s.2.0 s.2.1, len s.2.0 _ s.2.2)
  room (AtMostOne es) ts rest s = let x =
      s.2 in omega
      (arith, len ts _ s.1, len s.0 _ x.1, room_all es x.0 x.2.0 x.2.1, len x.2.0 _ x.2.2)
  room (Nor es) ts rest s = let x =
      s.2 in omega
      (arith, len ts _ s.1, len s.0 _ x.1, room_all es x.0 x.2.0 x.2.1, len x.2.0 _ x.2.2)
  room (Call f ss es) ts rest s =
      let x = s.0.2 in
      let y = x.2 in
      omega (
        arith,
        len ts _ s.0.1,
        arguments_room ss s.0.0 x.0 x.1,
        len x.0 _ y.1,
        room_may es y.0 y.2.0 y.2.1,
        len y.2.0 _ y.2.2,
      )
  room (Iterate i f n es) ts rest s =
      let x = s.2 in
      let y = x.2 in
      omega (
        arith,
        len ts _ s.1,
        len s.0 _ x.1.1,
        applied_room f n x.1.0 x.0 x.1.2,
        len x.0 _ y.1,
        room_all es y.0 y.2.0 y.2.1,
        len y.2.0 _ y.2.2,
      )

  room_all : (es : Exprs) (ts rest : List Token) → AreSpelled es ts rest →
      depth_all es + length rest ≤ length ts
  room_all Nil ts rest s = absurd s
  room_all (Cons e es) ts rest s = omega (arith, room e ts s.0 s.1, room_more es s.0 rest s.2)

  room_more : (es : Exprs) (ts rest : List Token) → AreMore es ts rest →
      depth_all es + length rest ≤ length ts
  room_more Nil ts rest s = omega (arith, len ts _ s)
  room_more (Cons e es) ts rest s =
      omega (arith, len ts _ s.1, room e s.0 s.2.0 s.2.1, room_more es s.2.0 rest s.2.2)

  room_may : (es : Exprs) (ts rest : List Token) → MayBeSpelled es ts rest →
      depth_all es + length rest ≤ length ts
  room_may Nil ts rest s = omega (arith, len ts _ s)
  room_may (Cons e es) ts rest s = omega (arith, room e ts s.0 s.1, room_more es s.0 rest s.2)

pub expr_shorter : (e : Expr) (ts rest : List Token) → IsSpelled e ts rest → length rest ≤ length ts
expr_shorter e ts rest s = omega (arith, room e ts rest s)

pub spine_room : (e : Expr) (ts rest : List Token) → IsSpelled e ts rest →
    spine e + length rest ≤ length ts
spine_room (Binary op a b) ts rest s =
    omega (
      arith,
      spine_room a ts s.0.0 s.0.1,
      form_room (form.Data op) s.0.0 s.0.2.0 s.0.2.1,
      room b s.0.2.0 rest s.0.2.2,
    )
spine_room (Arrow a b) ts rest s =
    omega (
      arith,
      spine_room a ts s.0.0 s.0.1,
      form_room form.Arrow s.0.0 s.0.2.0 s.0.2.1,
      room b s.0.2.0 rest s.0.2.2,
    )
spine_room (Fby a b) ts rest s =
    omega (
      arith,
      spine_room a ts s.0.0 s.0.1,
      form_room form.Fby s.0.0 s.0.2.0 s.0.2.1,
      room b s.0.2.0 rest s.0.2.2,
    )
spine_room (Join a b) ts rest s =
    omega (
      arith,
      spine_room a ts s.0.0 s.0.1,
      form_room form.Join s.0.0 s.0.2.0 s.0.2.1,
      room b s.0.2.0 rest s.0.2.2,
    )
spine_room (When e c sign) ts rest s =
    omega (
      arith,
      spine_room e ts s.0.0 s.0.1,
      form_room form.When s.0.0 s.0.2.0 s.0.2.1,
      clock_room c sign s.0.2.0 rest s.0.2.2,
    )
spine_room (Replicate e n) ts rest s =
    omega (
      arith,
      spine_room e ts s.0.0 s.0.1,
      form_room form.Replicate s.0.0 s.0.2.0 s.0.2.1,
      size_room n s.0.2.0 rest s.0.2.2,
    )
spine_room (Index e i) ts rest s =
    let x = s.0.2.2 in
    omega (
      arith,
      spine_room e ts s.0.0 s.0.1,
      form_room form.Element s.0.0 s.0.2.0 s.0.2.1,
      static_room_in i s.0.2.0 x.0 x.1,
      len x.0 _ x.2,
    )
spine_room (Slice e i j) ts rest s =
    let x = s.0.2.2 in
    let y = x.2.2 in
    omega (
      arith,
      spine_room e ts s.0.0 s.0.1,
      form_room form.Element s.0.0 s.0.2.0 s.0.2.1,
      static_room_in i s.0.2.0 x.0 x.1,
      len x.0 _ x.2.1,
      static_room_in j x.2.0 y.0 y.1,
      len y.0 _ y.2,
    )
spine_room e ts rest s = omega (arith, room e ts rest s)
