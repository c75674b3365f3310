-- The answers of steps that resolve names: when they may refuse, and which name the error may hold.
-- This file says what data of the program mean; no definition of the language stands on it.
use Rattle.std.specs.Prelude.{◌≡◌, Bool, true, false, ◌&&◌, [], None, string_bytes}
use Rattle.std.specs.Str.{bytes_eq}
use Rattle.lb_syntax.specs.Tree.{Name, Node, Source}
use Rattle.lb_static.specs.Instances.{Program}
use Rattle.lb_static.specs.CountedNames.{NameUse, is_broken_by, is_named_where}
use Rattle.lb_static.specs.Names.{is_named}
use Rattle.lb_static.specs.declared.causes.NameRule.{NameRule}
use Rattle.lb_static.specs.declared.error.StaticError.{StaticError}
use Rattle.lb_static.specs.declared.error.StaticError.TheVariants as error

-- whether an error holds the name `x`, and with a rule that this purpose can break
abbrev pub is_told : StaticError → NameUse → Name → Bool
is_told (error.Name fault) purpose x =
    bytes_eq (string_bytes fault.value.name) x && is_broken_by purpose fault.value.rule
is_told _ purpose x = false

-- an error holds the name `x` and the rule `broken`, unless memory ran out
abbrev pub TellsRule : Name → NameRule → StaticError → Type 0
TellsRule x broken error.Memory = Unit {0}
TellsRule x broken (error.Name fault) =
    (string_bytes fault.value.name ≡ x) × (fault.value.rule ≡ broken)
TellsRule x broken _ = ⊥

-- an error holds the name `x`, and a rule that this purpose can break, unless memory ran out
abbrev pub TellsName : Name → NameUse → StaticError → Type 0
TellsName x purpose error.Memory = Unit {0}
TellsName x purpose (error.Name fault) =
    (string_bytes fault.value.name ≡ x) × (is_broken_by purpose fault.value.rule ≡ true)
TellsName x purpose _ = ⊥

-- A refused name fails the test `b` of the rule of names. If `b` counts only the name of the error
-- (`is_told`), it is that name that breaks the rule.
abbrev pub IsNameFault : StaticError → Bool → Type 0
IsNameFault error.Memory b = Unit {0}
IsNameFault (error.Name fault) b = b ≡ false
IsNameFault _ b = ⊥

-- the program of a source without a node under test, by which the names of one node are judged
abbrev pub alone : Source → Program
alone s = record { source = s; root = []; observer = None }

-- each name of a node has a meaning
abbrev pub named_in : Source → Node → Bool
named_in s n = is_named (alone s) n

-- the name that an error holds has a meaning wherever it stands in a node
abbrev pub told_in : StaticError → Source → Node → Bool
told_in e s n = is_named_where (is_told e) (alone s) n
