-- The part of a node that is resolved so far, and the effect of one more resolved part.
-- This file says what data of the program mean; no definition of the language stands on it.
use Rattle.std.specs.Prelude.{◌≡◌, ℕ, Bool, true, ◌&&◌, Option, None, Some, option_map, List, []}
use Rattle.std.specs.Prelude.{◌∷◌, ◌++◌, map, flat_map, length, Result, Ok, Err, Box, Vec}
use Rattle.std.specs.declared.alloc.Global.{Global}
use Rattle.std.specs.List.{list_all}
use Rattle.lb_syntax.specs.SourceView.{view_groups, view_source, view_statement}
use Rattle.lb_syntax.specs.Tree.{Name, Static, Expr, Declaration, Sampling, Statement, Node, Source}
use Rattle.lb_syntax.specs.Grammar.{Group, declarations, declared}
use Rattle.lb_syntax.specs.declared.tree.Node as written
use Rattle.lb_static.specs.Names.{is_variable}
use Rattle.lb_static.specs.Instances.{Program, Site, sites, statement_sites}
use Rattle.lb_static.specs.CountedNames.{NameUse, Variables, counted, every}
use Rattle.lb_static.specs.NameFaults.{IsNameFault, alone, is_told}
use Rattle.lb_static.specs.NodeNames.{node_in, passes, call_passes, static_passes}
use Rattle.lb_static.specs.NodeNames.{passes_where, statement_passes_where, call_passes_where}
use Rattle.lb_static.specs.NodeNames.{static_passes_where, statics_pass_where}
use Rattle.lb_static.specs.NodeNames.{statics_pass}
use Rattle.lb_static.specs.Parts.{among, right_side, variable_names}
use Rattle.lb_static.specs.ResolvedTerms.{Texts, Counts, sampling_of, is_sampling_within, static_of}
use Rattle.lb_static.specs.ResolvedTerms.{expr_of, statement_of, is_statement_within}
use Rattle.lb_static.specs.ResolvedTerms.{is_statement_unhidden, declaration_of, site_of, site_at}
use Rattle.lb_static.specs.ResolvedTerms.{static_at, statics_at, is_call, is_static, are_statics}
use Rattle.lb_static.specs.ResolvedTerms.{is_within, is_unhidden, is_declared_within}
use Rattle.lb_static.specs.ResolvedTerms.{is_site_within}
use Rattle.lb_static.specs.DataTypes.{variables}
use Rattle.lb_static.specs.SharedParts.{with_parts}
use Rattle.lb_static.specs.StaticParts.{Part, Purpose, part_of, parts_of, arguments_of, group_parts}
use Rattle.lb_static.specs.declared.error.StaticError.{StaticError}
use Rattle.lb_static.specs.declared.node_scope.NodeScope.{NodeScope}
use Rattle.lb_static.specs.declared.resolved.CallId.{CallId}
use Rattle.lb_static.specs.declared.resolved.CallSite.{CallSite}
use Rattle.lb_static.specs.declared.resolved.Sampling as resolved
use Rattle.lb_static.specs.declared.resolved.StaticId.{StaticId}
use Rattle.lb_static.specs.declared.resolved.StaticPart.{StaticPart}
use Rattle.lb_static.specs.declared.resolved.ResolvedStatement.{ResolvedStatement}
use Rattle.lb_static.specs.declared.resolved.Term.{Term}
use Rattle.lb_static.specs.declared.resolved.Variable.{Variable}

-- a node of a source, and the part of it that is resolved so far: its variables, without their
-- names, its static expressions and its calls
pub record Progress : Type 0 where
  pub source : Source
  pub node : Node
  pub declared : List Declaration
  pub parts : List Part
  pub calls : List Site

-- ## The meaning of the numbers so far

abbrev pub texts : Progress → Texts
texts s = record {
  variables = variable_names s.node;
  statics = map (λ p. p.1) s.parts;
  calls = s.calls;
}

abbrev pub counts_in : Texts → Counts
counts_in t = record {
  variables = length t.variables;
  statics = length t.statics;
  calls = length t.calls;
}

abbrev pub is_variable_of : Progress → Name → Bool
is_variable_of s x = among x (variable_names s.node)

abbrev pub program_of : Progress → Program
program_of s = alone s.source

-- the names of the nodes of the source
abbrev pub callees : Progress → List Name
callees s = map (λ n. n.name) s.source.nodes

-- ## Additions

-- `s` with more static expressions and calls
abbrev pub grown : Progress → List Part → List Site → Progress
grown s parts calls = record {
  source = s.source;
  node = s.node;
  declared = s.declared;
  parts = with_parts s.parts parts;
  calls = s.calls ++ calls;
}

-- `s` with one more variable
abbrev pub with_variable : Progress → Declaration → Progress
with_variable s d = record {
  source = s.source;
  node = s.node;
  declared = s.declared ++ d ∷ [];
  parts = s.parts;
  calls = s.calls;
}

-- ## The progress that the code keeps

abbrev pub texts_in : List StaticPart → List Static
texts_in parts = map (λ p. static_of p.text) parts

abbrev pub kept : NodeScope → List StaticPart → List CallSite → List Variable → Progress
kept n parts calls variables = record {
  source = view_source n.source.now;
  node = node_in n;
  declared =
      map (declaration_of (variable_names (node_in n)) (texts_in parts) []) variables;
  parts = map part_of parts;
  calls =
      map (site_of (map (λ m. m.name) (view_source n.source.now).nodes) (texts_in parts)) calls;
}

abbrev pub counts_kept : NodeScope → List StaticPart → List CallSite → Counts
counts_kept n parts calls = record {
  variables = length (variable_names (node_in n));
  statics = length parts;
  calls = length calls;
}

-- each number is within range
pub record IsKept (n : NodeScope) (parts : List StaticPart) (calls : List CallSite)
    (variables : List Variable) : Type 0 where
  pub declared_within :
      list_all (is_declared_within (counts_kept n parts calls)) variables ≡ true
  pub calls_within :
      list_all (is_site_within (length n.source.now.nodes.items) (counts_kept n parts calls)) calls
      ≡ true

-- ## Static expressions and calls

-- the number `id` stands for the static expression `x`
abbrev pub StaticStands : Progress → Static → StaticId → Type 0
StaticStands s x id =
    (static_at (texts s).statics id ≡ x) × (is_static (counts_in (texts s)) id ≡ true)

abbrev pub static_fits : Progress → Static → Bool
static_fits s x = static_passes (program_of s) s.node x

abbrev pub static_told : StaticError → Progress → Static → Bool
static_told f s x = static_passes_where (is_told f) (program_of s) s.node x

-- an answer: the number that stands for a static expression, or why there is none
abbrev pub ResolvesStatic :
    (before after : Progress) → Purpose → Static → Result StaticId StaticError → Type 0
ResolvesStatic before after role x (Ok id) =
    (after ≡ grown before ((role, x) ∷ []) []) × StaticStands after x id
    × (static_fits before x ≡ true)
ResolvesStatic before after role x (Err f) = IsNameFault f (static_told f before x)

abbrev pub statics_fit : Progress → List Static → Bool
statics_fit s xs = statics_pass (program_of s) s.node xs

abbrev pub statics_told : StaticError → Progress → List Static → Bool
statics_told f s xs = statics_pass_where (is_told f) (program_of s) s.node xs

-- `place` stands for static expressions that stand one after another: the first, and their count
abbrev pub StaticsStand : Progress → List Static → StaticId × ℕ → Type 0
StaticsStand s xs place =
    (statics_at (texts s).statics place.0 place.1 ≡ xs)
    × (are_statics (counts_in (texts s)) place.0 place.1 ≡ true)

abbrev pub ResolvesStatics :
    (before after : Progress) → Purpose → List Static → Result (StaticId × ℕ) StaticError → Type 0
ResolvesStatics before after role xs (Ok place) =
    (after ≡ grown before (map (λ x. (role, x)) xs) []) × StaticsStand after xs place
    × (statics_fit before xs ≡ true)
ResolvesStatics before after role xs (Err f) = IsNameFault f (statics_told f before xs)

-- the number `id` stands for the call `site`
abbrev pub CallStands : Progress → Site → CallId → Type 0
CallStands s site id = (site_at s.calls id ≡ site) × (is_call (counts_in (texts s)) id ≡ true)

abbrev pub call_fits : Progress → Site → Bool
call_fits s site = call_passes (program_of s) s.node site

abbrev pub call_told : StaticError → Progress → Site → Bool
call_told f s site = call_passes_where (is_told f) (program_of s) s.node site

-- an answer: the number of a call, or why there is none
abbrev pub ResolvesCall :
    (before after : Progress) → Site → Result CallId StaticError → Type 0
ResolvesCall before after site (Ok id) =
    (after ≡ grown before (arguments_of site.arguments) (site ∷ [])) × CallStands after site id
    × (call_fits before site ≡ true)
ResolvesCall before after site (Err f) = IsNameFault f (call_told f before site)

-- ## Expressions

-- `s` with the static expressions and calls of an expression
abbrev pub after_expr : Progress → Expr → Progress
after_expr s e = grown s (parts_of (is_variable_of s) e) (sites e)

-- a term stands for an expression, with each number within range and each name unhidden
abbrev pub Stands : Progress → Expr → Term → Type 0
Stands s e t =
    (expr_of (texts s) t ≡ e) × (is_within (counts_in (texts s)) t ≡ true)
    × (is_unhidden (texts s) t ≡ true)

abbrev pub expr_passes : Progress → Expr → Bool
expr_passes s e = passes (program_of s) s.node e

abbrev pub expr_told : StaticError → Progress → Expr → Bool
expr_told f s e = passes_where (is_told f) (program_of s) s.node e

-- an answer: the term that stands for an expression, or why there is none
abbrev pub ResolvesTerm :
    (before after : Progress) → Expr → Result Term StaticError → Type 0
ResolvesTerm before after e (Ok t) =
    (after ≡ after_expr before e) × Stands after e t × (expr_passes before e ≡ true)
ResolvesTerm before after e (Err f) = IsNameFault f (expr_told f before e)

-- `ResolvesTerm` for a term in a box
abbrev pub ResolvesBox :
    (before after : Progress) → Expr → Result (Box Term Global) StaticError → Type 0
ResolvesBox before after e (Ok t) = ResolvesTerm before after e (Ok t.value)
ResolvesBox before after e (Err f) = ResolvesTerm before after e (Err f)

-- the terms `ts` stand for the expressions `es`
abbrev pub StandAll : Progress → List Expr → List Term → Type 0
StandAll s es ts =
    (map (expr_of (texts s)) ts ≡ es)
    × (list_all (is_within (counts_in (texts s))) ts ≡ true)
    × (list_all (is_unhidden (texts s)) ts ≡ true)

abbrev pub exprs_pass : Progress → List Expr → Bool
exprs_pass s es = list_all (expr_passes s) es

abbrev pub exprs_told : StaticError → Progress → List Expr → Bool
exprs_told f s es = list_all (expr_told f s) es

-- `s` with the static expressions and calls of some expressions
abbrev pub after_exprs : Progress → List Expr → Progress
after_exprs s es = grown s (flat_map (parts_of (is_variable_of s)) es) (flat_map sites es)

abbrev pub ResolvesTerms :
    (before after : Progress) → List Expr → Result (Vec Term Global) StaticError → Type 0
ResolvesTerms before after es (Ok ts) =
    (after ≡ after_exprs before es) × StandAll after es ts.items × (exprs_pass before es ≡ true)
ResolvesTerms before after es (Err f) = IsNameFault f (exprs_told f before es)

-- ## Statements

abbrev pub StatementStands : Progress → Statement → ResolvedStatement → Type 0
StatementStands s x statement =
    (statement_of (texts s) statement ≡ x)
    × (is_statement_within (counts_in (texts s)) statement ≡ true)
    × (is_statement_unhidden (texts s) statement ≡ true)

abbrev pub statement_fits_where : (NameUse → Name → Bool) → Progress → Statement → Bool
statement_fits_where counts s x = statement_passes_where counts (program_of s) s.node x

abbrev pub statement_fits : Progress → Statement → Bool
statement_fits = statement_fits_where every

abbrev pub statement_told : StaticError → Progress → Statement → Bool
statement_told f = statement_fits_where (is_told f)

abbrev pub after_statements : Progress → List Statement → Progress
after_statements s xs =
    grown s (flat_map (λ x. parts_of (is_variable_of s) (right_side x)) xs)
    (flat_map statement_sites xs)

-- an answer: the resolved statement that stands for a statement, or why there is none
abbrev pub ResolvesStatement :
    (before after : Progress) → Statement → Result ResolvedStatement StaticError → Type 0
ResolvesStatement before after x (Ok statement) =
    (after ≡ after_expr before (right_side x)) × StatementStands after x statement
    × (statement_fits before x ≡ true)
ResolvesStatement before after x (Err f) = IsNameFault f (statement_told f before x)

-- resolved statements stand for some statements of a body
abbrev pub StatementsStand : Progress → List Statement → List ResolvedStatement → Type 0
StatementsStand s xs statements =
    (map (statement_of (texts s)) statements ≡ xs)
    × (list_all (is_statement_within (counts_in (texts s))) statements ≡ true)
    × (list_all (is_statement_unhidden (texts s)) statements ≡ true)

abbrev pub ResolvesStatements :
    (before after : Progress) → List Statement → Result (Vec ResolvedStatement Global) StaticError
    → Type 0
ResolvesStatements before after xs (Ok statements) =
    (after ≡ after_statements before xs) × StatementsStand after xs statements.items
    × (list_all (statement_fits before) xs ≡ true)
ResolvesStatements before after xs (Err f) = IsNameFault f (list_all (statement_told f before) xs)

-- ## Declarations

-- a declaration without its name
abbrev pub nameless : Declaration → Declaration
nameless d = record { name = []; kind = d.kind; sizes = d.sizes; clock = d.clock }

abbrev pub clock_fits_where : (NameUse → Name → Bool) → Progress → Option Sampling → Bool
clock_fits_where counts s None = true
clock_fits_where counts s (Some c) =
    counted (counts Variables) (is_variable (program_of s) s.node) c.variable

abbrev pub clock_fits : Progress → Option Sampling → Bool
clock_fits = clock_fits_where every

abbrev pub clock_told : StaticError → Progress → Option Sampling → Bool
clock_told f = clock_fits_where (is_told f)

-- each name that counts in the sizes and the clock of a declaration has a meaning
abbrev pub declaration_fits_where : (NameUse → Name → Bool) → Progress → Declaration → Bool
declaration_fits_where counts s d =
    statics_pass_where counts (program_of s) s.node d.sizes && clock_fits_where counts s d.clock

abbrev pub declaration_fits : Progress → Declaration → Bool
declaration_fits = declaration_fits_where every

abbrev pub declaration_told : StaticError → Progress → Declaration → Bool
declaration_told f = declaration_fits_where (is_told f)

-- `s` with these declarations, and `parts` as the static expressions of their sizes
abbrev pub declared_more : Progress → List Declaration → List Part → Progress
declared_more s ds parts = record {
  source = s.source;
  node = s.node;
  declared = s.declared ++ map nameless ds;
  parts = with_parts s.parts parts;
  calls = s.calls;
}

-- `s` with one more variable `v` for each name
abbrev pub with_alike : Progress → List Name → Variable → Progress
with_alike s names v = record {
  source = s.source;
  node = s.node;
  declared =
      s.declared
      ++ map (λ x. declaration_of (variable_names s.node) (texts s).statics [] v) names;
  parts = s.parts;
  calls = s.calls;
}

abbrev pub after_group : Progress → Group → Progress
after_group s g = declared_more s (declarations g) (group_parts g)

abbrev pub after_groups : Progress → List Group → Progress
after_groups s gs = declared_more s (declared gs) (flat_map group_parts gs)

-- a resolved clock stands for a clock of the text
abbrev pub ClockStands : Progress → Option Sampling → Option resolved.Sampling → Type 0
ClockStands s c clock =
    (option_map (sampling_of (variable_names s.node)) clock ≡ c)
    × (is_sampling_within (counts_in (texts s)) clock ≡ true)

-- ## A node

-- `s` with the declarations and statements of a whole node
abbrev pub after_node : Progress → written.Node → Progress
after_node s n =
    let inputs = after_groups s (view_groups n.inputs.items) in
    let outputs = after_groups inputs (view_groups n.outputs.items) in
    let locals = after_groups outputs (view_groups n.locals.items) in
    after_statements locals (map view_statement n.body.items)

-- each name that counts in the declarations and in the statements of a node has a meaning
abbrev pub node_fits_where : (NameUse → Name → Bool) → Progress → Node → Bool
node_fits_where counts s n =
    list_all (declaration_fits_where counts s) (variables n)
    && list_all (statement_fits_where counts s) n.body

abbrev pub node_fits : Progress → Node → Bool
node_fits = node_fits_where every

abbrev pub node_told : StaticError → Progress → Node → Bool
node_told f = node_fits_where (is_told f)
