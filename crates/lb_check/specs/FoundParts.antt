-- The part of a node that breaks a rule, as the code finds it.
-- This file mirrors code (src/judged_types.rt, src/clock_rules.rt, src/definition_rules.rt); no
-- definition of the language stands on it.
use Rattle.std.specs.Prelude.{◌≡◌, ◌≢◌, ℕ, ◌<◌, Bool, true, false, Option, Some, None, List}
use Rattle.std.specs.Prelude.{Result, Ok, Err, Vec, get_or, length, slice_get}
use Rattle.std.specs.Global.{Global}
use Rattle.lb_syntax.specs.Tree.{Node}
use Rattle.lb_static.specs.DataTypes.{variables}
use Rattle.lb_static.specs.ReachedNodes.{tree_at}
use Rattle.lb_static.specs.ResolvedNodes.{node_of}
use Rattle.lb_static.specs.Instances.{Program}
use Rattle.lb_static.specs.declared.reachable.NodeId.{NodeId}
use Rattle.lb_static.specs.declared.reachable.Reached.{Reached}
use Rattle.lb_static.specs.declared.resolved.ResolvedNode.{ResolvedNode}
use Rattle.lb_static.specs.declared.resolved.ResolvedStatement.{ResolvedStatement}
use Rattle.lb_static.specs.declared.table.Specialization.{Specialization}
use Rattle.lb_static.specs.declared.table.Table.{Table}
use Rattle.lb_check.specs.declared.found_types.NodeTypes.{NodeTypes}
use Rattle.lb_check.specs.declared.judged_types.IllTyped.{IllTyped}
use Rattle.lb_check.specs.declared.part.Part.{Part}
use Rattle.lb_check.specs.declared.part.Part.TheVariants as part
use Rattle.lb_check.specs.BrokenParts.{at_place, first_broken, is_declared_clock, is_part_defined}
use Rattle.lb_check.specs.ClockRules.{are_declared_clocks}
use Rattle.lb_check.specs.NodeClocks.{is_clocked_at}
use Rattle.lb_check.specs.NodeDefinitions.{count_statements, is_defined_at, wanted_count}
use Rattle.lb_check.specs.PlacedTypes.{Kept, AreFound, AreKept, found_in, nothing_found}
use Rattle.lb_check.specs.PlacedTypes.{specialization_types}
use Rattle.lb_check.specs.TermClocks as clocks
use Rattle.lb_check.specs.TermClocks.{is_resolved_statement_clocked}
use Rattle.lb_check.specs.TermTypes.{Context, context_of, is_specialization_typed}
use Rattle.lb_check.specs.TermTypes.{is_resolved_statement_typed, is_variable_typed}

-- ## Types

abbrev pub is_part_typed_in : Context → ResolvedNode → Part → Bool
is_part_typed_in ctx n (part.Variable x) = at_place (is_variable_typed ctx) n.variables.items x.0
is_part_typed_in ctx n (part.Statement j) =
    at_place (is_resolved_statement_typed ctx) n.body.items j

-- a specialization breaks the rules of types, and part `p` of its node breaks them
abbrev pub IsIllTyped : Reached → Table → Specialization → Part → Type 0
IsIllTyped r t s p =
    (is_specialization_typed r t s ≡ false)
    × ((n : ResolvedNode) → slice_get r.nodes.items s.node.0 ≡ Some n →
    is_part_typed_in (context_of r t n s) n p ≡ false)

-- the types of the terms of a specialization that keeps the rules of types are found, or else a
-- part breaks these rules
abbrev pub IsJudgedSpecialization :
    Reached → Table → Specialization → (before after : Kept) → Result NodeTypes Part → Type 0
IsJudgedSpecialization r t s before after (Ok f) =
    (is_specialization_typed r t s ≡ true)
    × AreKept (specialization_types r t s) before after nothing_found (found_in f)
IsJudgedSpecialization r t s before after (Err p) = IsIllTyped r t s p

-- the specialization at `place` is of node `id`, and breaks the rules of types in part `p`
abbrev pub IsIllTypedAt : Reached → Table → (place : ℕ) → NodeId → Part → Type 0
IsIllTypedAt r t place id p =
    (s : Specialization) × (slice_get t.specializations.items place ≡ Some s) × (s.node ≡ id)
    × IsIllTyped r t s p

-- the types of the terms of each specialization are found, or else the first specialization that
-- breaks the rules of types, with a part that does
abbrev pub AreJudgedTypes :
    Reached → Table → Result (Option (Vec NodeTypes Global)) IllTyped → Type 0
AreJudgedTypes r t (Ok found) =
    (None ≡ first_broken (is_specialization_typed r t) t.specializations.items) × AreFound r t found
AreJudgedTypes r t (Err f) =
    (Some f.place ≡ first_broken (is_specialization_typed r t) t.specializations.items)
    × IsIllTypedAt r t f.place f.node f.part

-- ## Clocks

-- the place of a variable whose declared clock breaks the rules, or none where each keeps them
abbrev pub IsDeclaredClock : Node → Option ℕ → Type 0
IsDeclaredClock here None = are_declared_clocks here ≡ true
IsDeclaredClock here (Some i) =
    (are_declared_clocks here ≡ false)
    × (at_place (is_declared_clock here i) (variables here) i ≡ false)

-- a part that breaks the rules of clocks: a variable breaks the rules of declared clocks, or a
-- statement breaks the other rules, in a node that keeps those of declared clocks
abbrev pub IsPartIllClocked : Reached → ResolvedNode → Part → Type 0
IsPartIllClocked r n (part.Variable x) =
    at_place (is_declared_clock (node_of n) x.0) (variables (node_of n)) x.0 ≡ false
IsPartIllClocked r n (part.Statement j) =
    (are_declared_clocks (node_of n) ≡ true)
    × (at_place (is_resolved_statement_clocked (clocks.context_of r n)) n.body.items j ≡ false)

-- the reached node `id` breaks the rules of clocks, and its part `p` breaks them
abbrev pub IsIllClocked : Reached → NodeId → Part → Type 0
IsIllClocked r id p =
    (is_clocked_at r id ≡ false)
    × ((n : ResolvedNode) → slice_get r.nodes.items id.0 ≡ Some n → IsPartIllClocked r n p)

-- a part that breaks the rules of clocks, or none where the node keeps them
abbrev pub IsClockedPart : Reached → NodeId → Option Part → Type 0
IsClockedPart r id None = is_clocked_at r id ≡ true
IsClockedPart r id (Some p) = IsIllClocked r id p

-- the first part that breaks the rules of clocks, from the places of the first declared clock and
-- of the first statement that do
abbrev pub broken_part : Option ℕ → Option ℕ → Option Part
broken_part (Some i) s = Some (part.Variable (record { 0 = i }))
broken_part None (Some j) = Some (part.Statement j)
broken_part None None = None

-- of each reached node, its part breaks the rules of clocks, or the node keeps them and has none
abbrev pub AreClockedParts : Reached → List (Option Part) → Type 0
AreClockedParts r parts =
    (length parts ≡ length r.nodes.items)
    × ((i : ℕ) (p : Option Part) → i < length parts → p ≡ get_or parts i p →
    IsClockedPart r (record { 0 = i }) p)

-- ## Definitions

-- the place of a variable with too few or too many definitions, or none where each has its number
abbrev pub IsDefinedPlace : (inputs count : ℕ) → List ResolvedStatement → Option ℕ → Type 0
IsDefinedPlace inputs count ss None =
    (i : ℕ) → i < count → count_statements i ss ≡ wanted_count inputs i
IsDefinedPlace inputs count ss (Some i) =
    (i < count) × (count_statements i ss ≢ wanted_count inputs i)

-- the reached node `id` breaks the rules of definitions, and its part `p` breaks them
abbrev pub IsIllDefined : Program → Reached → NodeId → Part → Type 0
IsIllDefined P r id p =
    (is_defined_at P r id ≡ false)
    × ((here : Node) → tree_at r id ≡ Some here → is_part_defined P here p ≡ false)

-- a part that breaks the rules of definitions, or none where the node keeps them
abbrev pub IsDefinedPart : Program → Reached → NodeId → Option Part → Type 0
IsDefinedPart P r id None = is_defined_at P r id ≡ true
IsDefinedPart P r id (Some p) = IsIllDefined P r id p
