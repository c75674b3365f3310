-- The promise of the instances of a program to the layer above them.
-- This file says what data of the program mean; no definition of the language stands on it.
use Rattle.std.specs.Prelude.{◌≡◌, true, None, Result, Ok, Err}
use Rattle.lb_static.specs.Instances.{Program, instances}
use Rattle.lb_static.specs.InstanceTable.{HasStarts, IsTable}
use Rattle.lb_static.specs.Correct.{IsStaticFault}
use Rattle.lb_static.specs.Names.{is_well_founded}
use Rattle.lb_static.specs.Instantiation.{has_no_parameters, instantiation_refusal}
use Rattle.lb_static.specs.declared.error.StaticError.{StaticError}
use Rattle.lb_static.specs.declared.reachable.Reached.{Reached}
use Rattle.lb_static.specs.declared.table.Table.{Table}

-- a program whose instances keep the rules, and their table
pub record HasTable (P : Program) (r : Reached) (t : Table) : Type 0 where
  pub calls : is_well_founded P ≡ true
  pub parameters : has_no_parameters P ≡ true
  pub instantiated : instantiation_refusal P 0 (instances P) ≡ None
  pub starts : HasStarts P r t
  pub table : IsTable P r t

-- an answer: the table of the instances of a program that keeps the rule of names, or the first
-- rule that is broken
abbrev pub IsTableAnswer : Program → Reached → Result Table StaticError → Type 0
IsTableAnswer P r (Ok t) = HasTable P r t
IsTableAnswer P r (Err e) = IsStaticFault P e
