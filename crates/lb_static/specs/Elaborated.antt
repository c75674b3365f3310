-- The promise of an elaborated program to the layer above.
-- This file says what data of the program mean; no definition of the language stands on it.
use Rattle.std.specs.Prelude.{◌≡◌, Option, None, option_map}
use Rattle.lb_syntax.specs.SourceView.{view_source}
use Rattle.lb_syntax.specs.Tree.{Name}
use Rattle.lb_syntax.specs.declared.tree.Source.{Source}
use Rattle.lb_static.specs.Instances.{Program}
use Rattle.lb_static.specs.InstanceTable.{IsTable}
use Rattle.lb_static.specs.ReachedNodes.{IsReached}
use Rattle.lb_static.specs.DataTypes.{signature}
use Rattle.lb_static.specs.Instantiation.{static_refusal}
use Rattle.lb_static.specs.declared.elab.Elaboration.{Elaboration}

-- the program of a source, with the names of the node under test and of the observer
abbrev pub program_of : Source → Name → Option Name → Program
program_of source node observer =
    record { source = view_source source; root = node; observer = observer }

-- the program that was elaborated
abbrev pub elaborated_program : Elaboration → Program
elaborated_program e = program_of e.source.now e.node.now (option_map (λ o. o.now) e.observer)

-- a program that breaks no rule of names, static values and instances, with the nodes that it
-- reaches, its instances and its signature
pub record IsElaborated (P : Program) (e : Elaboration) : Type 0 where
  pub accepted : static_refusal P ≡ None
  pub reached : IsReached P e.reached
  pub table : IsTable P e.reached e.table
  pub inputs : signature P ≡ e.signature

-- all that an elaboration holds is true of its program
abbrev pub IsLawful : Elaboration → Type 0
IsLawful e = IsElaborated (elaborated_program e) e
