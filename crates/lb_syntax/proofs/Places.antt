-- An expression and the form that follows it: the form belongs to no operand of the expression.
use Rattle.std.proofs.Common.{ℕ, ◌≤◌, ◌<◌, min, List, arith}
use Rattle.std.specs.Prelude.{◌≢◌}
use Rattle.lb_syntax.specs.declared.level.Form.TheVariants as form
use Rattle.lb_syntax.specs.declared.token.Token.{Token}
use Rattle.lb_syntax.specs.Tree.{Not, Negate}
use Rattle.lb_syntax.specs.Tree.{Expr, Unary, Binary, If, Arrow, Fby, Pre, Current, Join}
use Rattle.lb_syntax.specs.Levels.{Form, row_of, unary_level, level, edge, IsLeft, IsLast}
use Rattle.lb_syntax.specs.Spelling.{IsSpelled}
use Rattle.lb_syntax.proofs.Rows.{is_row, suits}

-- a form of level `k` after an expression belongs to no operand on its right edge
abbrev pub IsBelow : ℕ → Expr → Type 0
IsBelow k (Binary op a b) = (k < (row_of (form.Data op)).right) × IsBelow k b
IsBelow k (Arrow a b) = (k < (row_of form.Arrow).right) × IsBelow k b
IsBelow k (Fby a b) = (k < (row_of form.Fby).right) × IsBelow k b
IsBelow k (Join a b) = (k < (row_of form.Join).right) × IsBelow k b
IsBelow k (Unary op a) = (k < unary_level op) × IsBelow k a
IsBelow k (Pre a) = (k < 12) × IsBelow k a
IsBelow k (Current a) = (k < 12) × IsBelow k a
IsBelow k (If c a b) = (k < 2) × IsBelow k b
IsBelow k _ = Unit {0}

-- `k` is the level of no prefix form
record IsInfixLevel (k : ℕ) : Type 0 where
  pub no_choice : k ≢ 2
  pub no_not : k ≢ 8
  pub no_memory : k ≢ 12

below_last : (least k : ℕ) (e : Expr) (ts rest : List Token) → IsInfixLevel k →
    IsSpelled e ts rest → IsLast least e → k < least → k ≤ edge e → IsBelow k e
below_last least k (Binary op a b) ts rest il s last lt le =
    let up = (is_row (form.Data op)).right_high in (
      omega arith,
      below_last (row_of (form.Data op)).right k b s.0.2.0 rest il s.0.2.2 s.2
          (omega arith) le,
    )
below_last least k (Arrow a b) ts rest il s last lt le = let lt : k < 3 =
    omega arith in (lt, below_last 3 k b s.0.2.0 rest il s.0.2.2 s.2 lt le)
below_last least k (Fby a b) ts rest il s last lt le = let lt : k < 3 =
    omega arith in (lt, below_last 3 k b s.0.2.0 rest il s.0.2.2 s.2 lt le)
below_last least k (Join a b) ts rest il s last lt le = let lt : k < 2 =
    omega arith in (lt, below_last 2 k b s.0.2.0 rest il s.0.2.2 s.2 lt le)
below_last least k (Unary Not a) ts rest il s last lt le =
    let n = il.no_not in
    let lt : k < 8 = omega arith in
    (lt, below_last 8 k a s.0.0 rest il s.0.2 s.1 lt (omega arith))
below_last least k (Unary Negate a) ts rest il s last lt le =
    let n = il.no_memory in
    let lt : k < 12 = omega arith in
    (lt, below_last 12 k a s.0.0 rest il s.0.2 s.1 lt (omega arith))
below_last least k (Pre a) ts rest il s last lt le =
    let n = il.no_memory in
    let lt : k < 12 = omega arith in
    (lt, below_last 12 k a s.0.0 rest il s.0.2 s.1 lt (omega arith))
below_last least k (Current a) ts rest il s last lt le =
    let n = il.no_memory in
    let lt : k < 12 = omega arith in
    (lt, below_last 12 k a s.0.0 rest il s.0.2 s.1 lt (omega arith))
below_last least k (If c a b) ts rest il s last lt le =
    let n = il.no_choice in
    let lt : k < 2 = omega arith in
    (lt, below_last 2 k b s.0.2.2.2.2.0 rest il s.0.2.2.2.2.2 s.1 lt (omega arith))
below_last least k _ ts rest il s last lt le = tt

form_is_level : (f : Form) → IsInfixLevel (row_of f).level
form_is_level f = let r =
    is_row f in record { no_choice = r.no_choice; no_not = r.no_not; no_memory = r.no_memory }

pub below_left : (f : Form) (e : Expr) (ts rest : List Token) → IsSpelled e ts rest →
    IsLeft (row_of f) e → IsBelow (row_of f).level e
below_left f (Binary op a b) ts rest s is =
    let g = form.Data op in
    let lt = suits (row_of f) (row_of g) (is_row f) (is_row g) is.high in
    let last = form_is_level f in
    (lt, below_last (row_of g).right (row_of f).level b s.0.2.0 rest last s.0.2.2 s.2 lt is.clear)
below_left f (Arrow a b) ts rest s is =
    let lt = suits (row_of f) (row_of form.Arrow) (is_row f) (is_row form.Arrow) is.high in
    (lt, below_last 3 (row_of f).level b s.0.2.0 rest (form_is_level f) s.0.2.2 s.2 lt is.clear)
below_left f (Fby a b) ts rest s is =
    let lt = suits (row_of f) (row_of form.Fby) (is_row f) (is_row form.Fby) is.high in
    (lt, below_last 3 (row_of f).level b s.0.2.0 rest (form_is_level f) s.0.2.2 s.2 lt is.clear)
below_left f (Join a b) ts rest s is =
    let lt = suits (row_of f) (row_of form.Join) (is_row f) (is_row form.Join) is.high in
    (lt, below_last 2 (row_of f).level b s.0.2.0 rest (form_is_level f) s.0.2.2 s.2 lt is.clear)
below_left f (Unary Not a) ts rest s is =
    let le : (row_of f).level ≤ min 8 (edge a) =
    is.clear in below_last 14 (row_of f).level (Unary Not a) ts rest (form_is_level f) s tt
    (omega arith) le
below_left f (Unary Negate a) ts rest s is =
    let le : (row_of f).level ≤ min 12 (edge a) =
    is.clear in below_last 14 (row_of f).level (Unary Negate a) ts rest (form_is_level f) s tt
    (omega arith) le
below_left f (Pre a) ts rest s is =
    let le : (row_of f).level ≤ min 12 (edge a) =
    is.clear in below_last 14 (row_of f).level (Pre a) ts rest (form_is_level f) s tt
    (omega arith) le
below_left f (Current a) ts rest s is =
    let le : (row_of f).level ≤ min 12 (edge a) =
    is.clear in below_last 14 (row_of f).level (Current a) ts rest (form_is_level f) s tt
    (omega arith) le
below_left f (If c a b) ts rest s is =
    let le : (row_of f).level ≤ min 2 (edge b) =
    is.clear in below_last 14 (row_of f).level (If c a b) ts rest (form_is_level f) s tt
    (omega arith) le
below_left f _ ts rest s is = tt

pub last_one : (e : Expr) → IsLast 1 e
last_one (Binary op a b) = (is_row (form.Data op)).one
last_one (Unary op a) = tt
last_one (Pre a) = tt
last_one (Current a) = tt
last_one (If c a b) = tt
last_one _ = omega arith

-- a token that is no mark of a form belongs to no operand of the expression before it
pub below_none : (e : Expr) (ts rest : List Token) → IsSpelled e ts rest → IsBelow 0 e
below_none e ts rest s =
    below_last 1 0 e ts rest
    (record { no_choice = omega arith; no_not = omega arith; no_memory = omega arith }) s
    (last_one e) (omega arith) (omega arith)

pub level_last : (least : ℕ) (e : Expr) → least ≤ level e → IsLast least e
level_last least (If c a b) le = tt
level_last least (Unary op a) le = tt
level_last least (Pre a) le = tt
level_last least (Current a) le = tt
level_last least _ le = le
