-- The rule of names, where only some names count.
-- With each name counted it is the rule itself; with one name counted it fails where that name
-- breaks the rule. No definition of the language stands on this file.
use Rattle.std.specs.Prelude.{Bool, true, false, ◌&&◌, ◌||◌, not, is_some, List, [], ◌∷◌, ◌++◌}
use Rattle.std.specs.Prelude.{flat_map, length}
use Rattle.std.specs.Str.{bytes_eq}
use Rattle.std.specs.List.{list_all}
use Rattle.lb_syntax.specs.Tree.{Name, Node}
use Rattle.lb_static.specs.Instances.{Program, Site, node_named, node_sites}
use Rattle.lb_static.specs.Names.{constants_within, global_names, is_callable, is_constant}
use Rattle.lb_static.specs.Names.{is_known}
use Rattle.lb_static.specs.Names.{is_static_name, is_variable, reached_constants, reached_nodes}
use Rattle.lb_static.specs.Names.{start_names}
use Rattle.lb_static.specs.Parts.{among, clock_names, declared_names, left_names, node_names}
use Rattle.lb_static.specs.Parts.{node_static_names, static_names}
use Rattle.lb_static.specs.declared.causes.NameRule.{NameRule}
use Rattle.lb_static.specs.declared.causes.NameRule.TheVariants as rule
use Rattle.lb_static.specs.declared.causes.Sought.{Sought}
use Rattle.lb_static.specs.declared.causes.Sought.TheVariants as sought

-- the purpose of a name
pub data NameUse : Type 0 where
  Declares : NameUse
  Calls : NameUse
  Values : NameUse
  Statics : NameUse
  Variables : NameUse

-- each name counts
abbrev pub every : NameUse → Name → Bool
every purpose x = true

-- a test of a name, passed by each name that does not count
abbrev pub counted : (Name → Bool) → (Name → Bool) → Name → Bool
counted counts test x = not (counts x) || test x

-- no name that counts is there twice
abbrev pub are_once : (Name → Bool) → List Name → Bool
are_once counts [] = true
are_once counts (x ∷ xs) = counted counts (λ y. not (among y xs)) x && are_once counts xs

module _ (counts : NameUse → Name → Bool) (P : Program) where
  -- a called or iterated name, if it counts, is that of a node with as many static parameters
  abbrev pub is_callable_where : Site → Bool
  is_callable_where s = not (counts Calls s.callee) || is_callable P s

  -- every name that counts in the declarations and statements of a node has a meaning
  abbrev pub means_where : Node → Bool
  means_where n =
      list_all is_callable_where (node_sites n)
      && (list_all (counted (counts Values) (is_known P n)) (node_names n)
      && (list_all (counted (counts Statics) (is_static_name P n)) (node_static_names n)
      && list_all (counted (counts Variables) (is_variable P n))
      (clock_names n ++ flat_map left_names n.body)))

  abbrev pub is_named_where : Node → Bool
  is_named_where n = are_once (counts Declares) (declared_names n) && means_where n

  -- the node under test and the observer are there, if their names count
  abbrev pub starts_where : Bool
  starts_where = list_all (counted (counts Calls) (λ x. is_some (node_named P x))) (start_names P)

  abbrev pub are_named_where : Bool
  are_named_where = starts_where && list_all is_named_where (reached_nodes P)

  -- each name that counts in the values of some constants is the name of a constant
  abbrev pub constants_where : List Name → Bool
  constants_where xs =
      list_all (λ c. list_all (counted (counts Statics) (is_constant P)) (static_names c.value))
      (constants_within P xs (length P.source.constants))

  abbrev pub keeps_names_where : Bool
  keeps_names_where =
      are_once (counts Declares) (global_names P)
      && (starts_where
      && (list_all is_named_where (reached_nodes P)
      && list_all (λ c. list_all (counted (counts Statics) (is_constant P)) (static_names c.value))
      (reached_constants P)))

-- the purpose of a name that is sought as one of these
abbrev pub use_of : Sought → NameUse
use_of sought.Node = Calls
use_of sought.Variable = Variables
use_of sought.Clock = Variables
use_of sought.Value = Values
use_of sought.Constant = Statics

-- whether a name of this purpose can break this rule
abbrev pub is_broken_by : NameUse → NameRule → Bool
is_broken_by Declares (rule.Doubled first) = true
is_broken_by Calls (rule.Arguments wanted given) = true
is_broken_by Calls (rule.Unknown sought.Node) = true
is_broken_by Values (rule.Unknown sought.Value) = true
is_broken_by Statics (rule.Unknown sought.Constant) = true
is_broken_by Variables (rule.Unknown sought.Variable) = true
is_broken_by Variables (rule.Unknown sought.Clock) = true
is_broken_by _ _ = false

-- the rule of names, where only this name counts, and only with purposes that can break `broken`
abbrev pub keeps_name : Program → Name → NameRule → Bool
keeps_name P x broken =
    keeps_names_where (λ purpose y. bytes_eq x y && is_broken_by purpose broken) P
