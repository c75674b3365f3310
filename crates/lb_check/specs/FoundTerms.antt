-- The clocks and types that are found of the expressions in a text, by number. The number of an
-- expression is its place among all expressions of its node, in text order, parentheses apart:
-- where `a + (b)` is the only right side, the sum is 0, `a` is 1 and `b` is 2.
-- This file says what data of the program mean; no definition of the language stands on it.
use Rattle.std.specs.Prelude.{◌≡◌, ℕ, Bool, true, false, ◌&&◌, min, nat_lt, Option, Some, None}
use Rattle.std.specs.Prelude.{List}
use Rattle.std.specs.Prelude.{Vec, [], map, length, reverse, slice_get}
use Rattle.std.specs.Global.{Global}
use Rattle.std.specs.List.{list_all}
use Rattle.lb_syntax.specs.Lists.{holds, listed}
use Rattle.lb_syntax.specs.Tree.{Name, Expr, Call}
use Rattle.lb_static.specs.InstanceTable.{instance_of}
use Rattle.lb_static.specs.Instances.{Program, Instance, Path, node_named}
use Rattle.lb_static.specs.Parts.{node_parts, variable_names}
use Rattle.lb_static.specs.ResolvedNodes.{node_of, counts_of}
use Rattle.lb_static.specs.ResolvedTerms.{is_variable, name_at}
use Rattle.lb_static.specs.declared.reachable.Reached.{Reached}
use Rattle.lb_static.specs.declared.resolved.ResolvedNode.{ResolvedNode}
use Rattle.lb_static.specs.declared.table.Specialization.{Specialization}
use Rattle.lb_static.specs.declared.table.Table.{Table}
use Rattle.lb_check.specs.Clocks.{Given}
use Rattle.lb_check.specs.Needs.{call_at, given_to, site_clock}
use Rattle.lb_check.specs.Occurrences.{Occurrence, node_occurrences}
use Rattle.lb_check.specs.OwnClocks.{clock_in, is_clock_within, name_in}
use Rattle.lb_check.specs.PlacedClocks.{FoundCall, call_in}
use Rattle.lb_check.specs.PlacedTypes.{found_in, sizes_of, parts_of}
use Rattle.lb_check.specs.Streams.{data_type, part_count}
use Rattle.lb_check.specs.TypeRules.{expression_size, is_small}
use Rattle.lb_check.specs.declared.found_clocks.GivenVariable.{GivenVariable}
use Rattle.lb_check.specs.declared.found_clocks.NodeClocks.{NodeClocks}
use Rattle.lb_check.specs.declared.found_types.NodeTypes.{NodeTypes}
use Rattle.lb_check.specs.declared.own_clock.Clock.{Clock}

-- the clocks `ks` are those on which the expressions of a node stand
abbrev pub HasTermClocks : Program → ResolvedNode → List Clock → Type 0
HasTermClocks P n ks =
    map (λ o. o.clock) (node_occurrences P (node_of n)) ≡ map (clock_in n) ks

-- the names of a variable of a callee, and of the variable of the caller that stands for it
abbrev pub pair_names : List Name → ResolvedNode → GivenVariable → Name × Name
pair_names names n g = (name_at names g.callee, name_in n g.caller)

-- the names of the pairs `gs` of a call, with those of its callee; nothing but a call has a callee
abbrev pub given_names : Program → ResolvedNode → Expr → List GivenVariable → Given
given_names P n (Call f statics es) gs =
    listed (λ callee. map (pair_names (variable_names callee) n) gs) (node_named P f)
given_names P n e gs = map (pair_names [] n) gs

-- whether the pairs `gs` have variables of the callee of a call
abbrev pub are_parameters : Program → Expr → List GivenVariable → Bool
are_parameters P (Call f statics es) gs =
    holds (λ callee. list_all (λ g. nat_lt g.callee.0 (length (variable_names callee))) gs)
    (node_named P f)
are_parameters P e gs = true

-- whether what is found of a call names variables of the node alone
abbrev pub is_call_within : ResolvedNode → FoundCall → Bool
is_call_within n c =
    is_clock_within n c.runs && list_all (λ g. is_variable (counts_of n) g.caller) c.given

-- what is found of a call is right: the clock on which its instances run, and the variables that
-- the node gives for clock parameters of its callee
pub record IsFoundCall (P : Program) (n : ResolvedNode) (o : Occurrence) (c : FoundCall) :
    Type 0 where
  pub runs : site_clock P o.clock o.expr ≡ clock_in n c.runs
  pub given : given_to P (node_of n) o.calls_before o.expr ≡ given_names P n o.expr c.given
  pub parameters : are_parameters P o.expr c.given ≡ true

-- what is found of each call of a node, by its number, is right
abbrev pub HasFoundCalls : Program → ResolvedNode → List FoundCall → Type 0
HasFoundCalls P n cs =
    (i : ℕ) (o : Occurrence) → call_at P (node_of n) i ≡ Some o →
    (c : FoundCall) × (slice_get cs i ≡ Some c) × IsFoundCall P n o c

-- what is found of the clocks of each node that has a specialization is right
pub record HasFoundClocks (P : Program) (r : Reached) (t : Table)
    (found : List NodeClocks) : Type 0 where
  pub clocks : (i : ℕ) (s : Specialization) (n : ResolvedNode) →
      slice_get t.specializations.items i ≡ Some s →
      slice_get r.nodes.items s.node.0 ≡ Some n →
      (f : NodeClocks)
      × (slice_get found s.node.0 ≡ Some f)
      × HasTermClocks P n f.terms.items
      × HasFoundCalls P n (map call_in f.calls.items)
      × (list_all (is_clock_within n) f.terms.items ≡ true)
      × (list_all (is_call_within n) (map call_in f.calls.items) ≡ true)

-- ## Types

-- the types that are found of an instance are right. Of each of its expressions they have the kind,
-- the number of scalar elements (up to 65,537), the sizes, the outermost last, and the number of
-- scalar elements in each element of an array (up to 65,537).
pub record HasTypes (P : Program) (here : Instance) (f : NodeTypes) : Type 0 where
  pub kinds :
      map (λ t. t.kind) f.terms.items
      ≡ map (λ e. (data_type P here e).kind) (node_parts here.node)
  pub elements :
      map (λ t. t.elements) f.terms.items
      ≡ map (λ e. min (expression_size P here e) 65537) (node_parts here.node)
  pub sizes : (i : ℕ) (e : Expr) → slice_get (node_parts here.node) i ≡ Some e →
      sizes_of (found_in f) i ≡ reverse (data_type P here e).sizes
  pub parts : (i : ℕ) (e : Expr) → slice_get (node_parts here.node) i ≡ Some e →
      parts_of (found_in f) i ≡ min (part_count P here e) 65537

-- the types that are found of each specialization are right for each of its instances; none are
-- found where the program is too large
abbrev pub HasFoundTypes : Program → Reached → Table → Option (Vec NodeTypes Global) → Type 0
HasFoundTypes P r t None = is_small P ≡ false
HasFoundTypes P r t (Some found) =
    (i : ℕ) (s : Specialization) (n : ResolvedNode) →
    slice_get t.specializations.items i ≡ Some s → slice_get r.nodes.items s.node.0 ≡ Some n →
    (f : NodeTypes)
    × (slice_get found.items i ≡ Some f)
    × ((p : Path) → HasTypes P (instance_of p (node_of n) s.values.items) f)
