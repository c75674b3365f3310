-- The instances of a program: each call and each iterated node of each instance, with the values
-- of its static parameters.
-- Source: Lustre V6 reference manual, nodes, static parameters and array iterators. The order of
-- instances is this project's rule.
use Rattle.std.specs.Prelude.{ℕ, zero, suc, nat_eq, nat_lt, Bool, true, false, ◌&&◌, ℤ, Option}
use Rattle.std.specs.Prelude.{Some, None, option_map, List, [], ◌∷◌, ◌++◌, map, length, slice_get}
use Rattle.std.specs.Prelude.{flat_map, if◌then◌else◌}
use Rattle.std.specs.List.{range_with_len, zip}
use Rattle.lb_syntax.specs.Lists.{◌>>=◌, all_some, some_of, listed}
use Rattle.lb_syntax.specs.Tree.{Name, Static, Node_named, Symbol, Expr, Literal, Truth, Variable}
use Rattle.lb_syntax.specs.Tree.{Group, Unary, Binary, If, Arrow, Fby, Pre, Current, When}
use Rattle.lb_syntax.specs.Tree.{Replicate, Index, Slice, Join, Array, AtMostOne, Nor, Call}
use Rattle.lb_syntax.specs.Tree.{Iterate, Exprs, Nil, Cons, Node, Source, Statement, Equation}
use Rattle.lb_syntax.specs.Tree.{Assertion}
use Rattle.lb_static.specs.StaticValues.{named, value_under, constant_value, natural}

-- ## The place of an instance

-- a path: the node under test, the observer, or the call of a number in the text of the node at a
-- path, at an index of its iterator (0 for a call); `Child Root 2 0` is call 2 of `Root`
pub data Path : Type 0 where
  Root : Path
  Observer : Path
  Child : Path → (call index : ℕ) → Path

-- whether two paths are the same
abbrev pub is_path : Path → Path → Bool
is_path Root Root = true
is_path Observer Observer = true
is_path (Child p c i) (Child q d j) = nat_eq c d && (nat_eq i j && is_path p q)
is_path _ _ = false

-- a node at its path, with the values of its static parameters
pub record Instance : Type 0 where
  pub path : Path
  pub node : Node
  pub values : List (Name × ℤ)

-- ## The calls in a text

-- a call or an iterated node in the text of a node; a call has no count
pub record Site : Type 0 where
  pub callee : Name
  pub arguments : List Static
  pub count : Option Static

abbrev pub call_site : Name → List Static → Site
call_site f statics = record { callee = f; arguments = statics; count = None }

abbrev mutual
  -- the calls of an expression in text order, each before those in its arguments; an iterated
  -- symbol is no call
  pub sites : Expr → List Site
  sites (Literal n) = []
  sites (Truth b) = []
  sites (Variable x) = []
  sites (Group a) = sites a
  sites (Unary op a) = sites a
  sites (Binary op a b) = sites a ++ sites b
  sites (If c a b) = sites c ++ (sites a ++ sites b)
  sites (Arrow a b) = sites a ++ sites b
  sites (Fby a b) = sites a ++ sites b
  sites (Pre a) = sites a
  sites (Current a) = sites a
  sites (When a x sign) = sites a
  sites (Replicate a n) = sites a
  sites (Index a i) = sites a
  sites (Slice a i j) = sites a
  sites (Join a b) = sites a ++ sites b
  sites (Array es) = sites_in es
  sites (AtMostOne es) = sites_in es
  sites (Nor es) = sites_in es
  sites (Call f statics es) = call_site f statics ∷ sites_in es
  sites (Iterate it (Node_named f statics) n es) =
      record { callee = f; arguments = statics; count = Some n } ∷ sites_in es
  sites (Iterate it (Symbol op) n es) = sites_in es

  pub sites_in : Exprs → List Site
  sites_in Nil = []
  sites_in (Cons e es) = sites e ++ sites_in es

abbrev pub statement_sites : Statement → List Site
statement_sites (Equation lefts e) = sites e
statement_sites (Assertion e) = sites e

-- the calls of a node in text order; their places in this list are their numbers
abbrev pub node_sites : Node → List Site
node_sites n = flat_map statement_sites n.body

-- the calls with their numbers, counted from `n`
abbrev pub numbered_sites : ℕ → List Site → List (ℕ × Site)
numbered_sites n [] = []
numbered_sites n (s ∷ ss) = (n, s) ∷ numbered_sites (suc n) ss

-- ## Programs

-- a source, with the names of the node under test and of the observer, if there is one
pub record Program : Type 0 where
  pub source : Source
  pub root : Name
  pub observer : Option Name

-- the value of a static parameter, or else of a constant: a parameter hides a constant
abbrev pub given_or_constant : Option (Name × ℤ) → Option ℤ → Option ℤ
given_or_constant (Some v) o = Some v.1
given_or_constant None o = o

module _ (P : Program) where
  -- the value of a name in a static expression of an instance
  abbrev pub name_value : Instance → Name → Option ℤ
  name_value here x =
      given_or_constant (named (λ v. v.0) x here.values)
      (constant_value P.source.constants (length P.source.constants) x)

  abbrev pub static_value : Instance → Static → Option ℤ
  static_value here s = value_under (name_value here) s

  -- a static value that is a size or an index
  abbrev pub static_count : Instance → Static → Option ℕ
  static_count here s = static_value here s >>= natural

  abbrev pub node_named : Name → Option Node
  node_named f = named (λ n. n.name) f P.source.nodes

  -- the number of instances of a call
  abbrev pub instance_count : Instance → Option Static → Option ℕ
  instance_count here None = Some 1
  instance_count here (Some s) = static_count here s

  -- the instance of call `call` at index `index` below an instance
  abbrev pub callee_of : Instance → Site → (call index : ℕ) → Option Instance
  callee_of here site call index =
      node_named site.callee >>= λ n.
      all_some (map (static_value here) site.arguments) >>= λ values.
      let at = Child here.path call index in
      Some (record { path = at; node = n; values = zip n.parameters values })

  -- the instance at which instantiation starts
  abbrev pub start_at : Path → Name → Option Instance
  start_at p f = option_map (λ n. record { path = p; node = n; values = [] }) (node_named f)

  -- the instance that stands at a path
  abbrev pub instance_at : Path → Option Instance
  instance_at Root = start_at Root P.root
  instance_at Observer = P.observer >>= start_at Observer
  instance_at (Child path call index) =
      instance_at path >>= λ here.
      slice_get (node_sites here.node) call >>= λ site.
      instance_count here site.count >>= λ n.
      if nat_lt index n then callee_of here site call index else None

module _ (P : Program) where
  -- the instances of one call or iteration of an instance, index 0 first
  abbrev pub site_instances : Instance → ℕ × Site → List Instance
  site_instances here s =
      let indexes = listed (range_with_len 0) (instance_count P here s.1.count) in
      some_of (map (callee_of P here s.1 s.0) indexes)

  -- the instances that an instance calls, in text order
  abbrev pub children : Instance → List Instance
  children here = flat_map (site_instances here) (numbered_sites 0 (node_sites here.node))

  -- an instance and those below it, at most `n` levels, each before those below it
  abbrev pub instances_from : ℕ → Instance → List Instance
  instances_from zero here = []
  instances_from (suc n) here = here ∷ flat_map (instances_from n) (children here)

  -- the instances in the order of instantiation: those of the node under test, then those of the
  -- observer. An accepted program has none below level 64; level 65 is there to be refused.
  abbrev pub instances : List Instance
  instances =
      listed (instances_from 65) (instance_at P Root)
      ++ listed (instances_from 65) (instance_at P Observer)
