-- An instance that breaks a rule, and the part of its node that does.
-- This file says what data of the program mean; no definition of the language stands on it.
use Rattle.std.specs.Prelude.{◌≡◌, Bool, false, Some}
use Rattle.lb_syntax.specs.Lists.{In}
use Rattle.lb_static.specs.Instances.{Program, Instance, instances}
use Rattle.lb_static.specs.ReachedNodes.{tree_at}
use Rattle.lb_static.specs.declared.reachable.NodeId.{NodeId}
use Rattle.lb_static.specs.declared.reachable.Reached.{Reached}
use Rattle.lb_check.specs.declared.part.Part.{Part}

-- an instance of the program, of node `id`, breaks `rule`, and part `part` of it breaks `part_rule`
abbrev pub IsBroken :
    (rule : Instance → Bool) (part_rule : Instance → Part → Bool) → Program → Reached → NodeId →
    Part → Type 0
IsBroken rule part_rule P r id part =
    (here : Instance) × In here (instances P) × (tree_at r id ≡ Some here.node)
    × (rule here ≡ false) × (part_rule here part ≡ false)
