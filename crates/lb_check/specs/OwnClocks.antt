-- The clocks that the code compares, and their meaning in a node.
-- This file says what data of the program mean; no definition of the language stands on it.
use Rattle.std.specs.Prelude.{◌≡◌, Bool, true, List}
use Rattle.lb_syntax.specs.Tree.{Name}
use Rattle.lb_static.specs.Names.{are_distinct}
use Rattle.lb_static.specs.Parts.{variable_names}
use Rattle.lb_static.specs.ResolvedNodes.{IsResolved, counts_of, node_of}
use Rattle.lb_static.specs.ResolvedTerms.{is_variable, name_at}
use Rattle.lb_static.specs.declared.resolved.ResolvedNode.{ResolvedNode}
use Rattle.lb_static.specs.declared.resolved.VariableId.{VariableId}
use Rattle.lb_check.specs.ClockRules.{are_declared_clocks}
use Rattle.lb_check.specs.Clocks as tree
use Rattle.lb_check.specs.Clocks.{declared_clock}
use Rattle.lb_check.specs.declared.own_clock.Clock.{Clock}
use Rattle.lb_check.specs.declared.own_clock.Clock.TheVariants.{Base, On}

-- the name of a variable of a node
abbrev pub name_in : ResolvedNode → VariableId → Name
name_in r x = name_at (variable_names (node_of r)) x

-- a clock of the code, as the text of a node sees it
abbrev pub clock_in : ResolvedNode → Clock → tree.Clock
clock_in r Base = tree.Base
clock_in r (On x sign) = tree.On (declared_clock (node_of r) (name_in r x)) (name_in r x) sign

-- whether the variable of a clock is one of the node
abbrev pub is_clock_within : ResolvedNode → Clock → Bool
is_clock_within r Base = true
is_clock_within r (On x sign) = is_variable (counts_of r) x

-- a node stands for its tree, has distinct names, and keeps the rules of declared clocks
pub record HasClocks (r : ResolvedNode) : Type 0 where
  pub nodes : List Name
  pub resolved : IsResolved nodes r
  pub distinct : are_distinct (variable_names (node_of r)) ≡ true
  pub declared : are_declared_clocks (node_of r) ≡ true
