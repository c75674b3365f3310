-- A program whose types, clocks and definitions are judged: what is known of it before.
-- This file says what data of the program mean; no definition of the language stands on it.
use Rattle.std.specs.Prelude.{◌≡◌, true, None}
use Rattle.lb_static.specs.InstanceTable.{IsTable}
use Rattle.lb_static.specs.Instances.{Program, instances}
use Rattle.lb_static.specs.Names.{keeps_names}
use Rattle.lb_static.specs.ReachedNodes.{IsReached}
use Rattle.lb_static.specs.Instantiation.{instantiation_refusal}
use Rattle.lb_static.specs.declared.reachable.Reached.{Reached}
use Rattle.lb_static.specs.declared.table.Table.{Table}

-- the names of a judged program are known, its instances stand in a table, and no static value is
-- missing or out of range
pub record IsJudged (P : Program) (r : Reached) (t : Table) : Type 0 where
  pub names : keeps_names P ≡ true
  pub reached : IsReached P r
  pub table : IsTable P r t
  pub instantiated : instantiation_refusal P 0 (instances P) ≡ None
