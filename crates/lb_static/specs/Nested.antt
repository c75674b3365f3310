-- The part of an expression around its last operand, or before its list of operands.
-- This file mirrors code (src/resolving_terms.rt); no definition of the language stands on it.
use Rattle.std.specs.Prelude.{◌≡◌, List, Result, Ok, Err, Box, Vec}
use Rattle.std.specs.declared.alloc.Global.{Global}
use Rattle.lb_syntax.specs.Tree.{Expr}
use Rattle.lb_static.specs.NameFaults.{IsNameFault}
use Rattle.lb_static.specs.NodeProgress.{Progress, ResolvesTerm, ResolvesTerms, expr_told}
use Rattle.lb_static.specs.NodeProgress.{exprs_told}
use Rattle.lb_static.specs.declared.error.StaticError.{StaticError}
use Rattle.lb_static.specs.declared.resolved.Term as term
use Rattle.lb_static.specs.declared.resolved.Term.{Term}
use Rattle.lb_static.specs.declared.resolving_terms.Outer.{Outer}
use Rattle.lb_static.specs.declared.resolving_terms.Outer.TheVariants.{Group, Unary, Binary, If}
use Rattle.lb_static.specs.declared.resolving_terms.Outer.TheVariants.{Arrow, Fby, Pre, Current}
use Rattle.lb_static.specs.declared.resolving_terms.Outer.TheVariants.{When, Replicate, Index}
use Rattle.lb_static.specs.declared.resolving_terms.Outer.TheVariants.{Slice, Join}
use Rattle.lb_static.specs.declared.resolving_terms.Head.{Head}
use Rattle.lb_static.specs.declared.resolving_terms.Head.TheVariants.{Array, AtMostOne, Nor, Call}
use Rattle.lb_static.specs.declared.resolving_terms.Head.TheVariants.{IterateNode, IterateSymbol}

-- the term with the outer part `outer` and the last operand `a`
abbrev pub around : Outer → Box Term Global → Term
around Group a = term.Group a
around (Unary op) a = term.Unary op a
around (Binary op first) a = term.Binary op first a
around (If condition first) a = term.If condition first a
around (Arrow first) a = term.Arrow first a
around (Fby first) a = term.Fby first a
around Pre a = term.Pre a
around Current a = term.Current a
around (When clock sign) a = term.When a clock sign
around (Replicate size) a = term.Replicate a size
around (Index index) a = term.Index a index
around (Slice start end) a = term.Slice a start end
around (Join first) a = term.Join first a

-- the term with the head `head` and the operands `all`
abbrev pub before_row : Head → Vec Term Global → Term
before_row Array all = term.Array all
before_row AtMostOne all = term.AtMostOne all
before_row Nor all = term.Nor all
before_row (Call site) all = term.Call site all
before_row (IterateNode iterator site) all = term.IterateNode iterator site all
before_row (IterateSymbol iterator op size) all = term.IterateSymbol iterator op size all

-- an answer: the term whose last operand stands for an expression, or why there is none
abbrev pub ResolvesNested :
    (before after : Progress) → Outer → Expr → Result Term StaticError → Type 0
ResolvesNested before after outer e (Ok t) =
    (a : Box Term Global) × (t ≡ around outer a) × ResolvesTerm before after e (Ok a.value)
ResolvesNested before after outer e (Err f) = IsNameFault f (expr_told f before e)

-- an answer: the term whose operands stand for some expressions, or why there is none
abbrev pub ResolvesRow :
    (before after : Progress) → Head → List Expr → Result Term StaticError → Type 0
ResolvesRow before after head es (Ok t) =
    (all : Vec Term Global) × (t ≡ before_row head all) × ResolvesTerms before after es (Ok all)
ResolvesRow before after head es (Err f) = IsNameFault f (exprs_told f before es)
