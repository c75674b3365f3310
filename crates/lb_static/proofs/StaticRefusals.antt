-- The refusal of a program, from the faults of its parts.
use Rattle.std.proofs.Common.{◌≡◌, Bool, true, false, Option, Some, None, Result, Ok, Err, refl}
use Rattle.std.specs.Prelude.{IfOk}
use Rattle.lb_syntax.specs.Lists.{or_else, holds}
use Rattle.lb_syntax.specs.Refusals.{Refusal, E4, E5, E6, E7, E8, E12, unless}
use Rattle.lb_static.specs.declared.error.StaticError.{StaticError}
use Rattle.lb_static.specs.declared.error.StaticError.TheVariants.{Memory, Name as Name_fault}
use Rattle.lb_static.specs.declared.error.StaticError.TheVariants.{Recursion, Root as Root_fault}
use Rattle.lb_static.specs.declared.error.StaticError.TheVariants.{Value, Range, Instances}
use Rattle.lb_static.specs.CallGraphs.{IsCallsAnswer, IsCycleTold}
use Rattle.lb_static.specs.CountedNames.{keeps_names_where}
use Rattle.lb_static.specs.NameFaults.{IsNameFault, is_told}
use Rattle.lb_static.proofs.CountedNames.{rule_broken}
use Rattle.lb_static.specs.Correct.{IsStaticFault}
use Rattle.lb_static.specs.TableAnswers.{IsTableAnswer}
use Rattle.lb_static.specs.InstanceTable.{HasStarts, IsTable}
use Rattle.lb_static.specs.LinkedSpecializations.{AreSpecialized}
use Rattle.lb_static.specs.InstanceRows.{AreInstances}
use Rattle.lb_static.specs.declared.reachable.Reached.{Reached}
use Rattle.lb_static.specs.declared.table.Table.{Table}
use Rattle.lb_static.specs.Instances.{Program, Root, instance_at, instances}
use Rattle.lb_static.specs.Interfaces.{IsRootFault}
use Rattle.lb_static.specs.Names.{is_well_founded, keeps_names}
use Rattle.lb_static.specs.RootAnswers.{IsRootAnswer}
use Rattle.lb_static.specs.Instantiation.{has_no_parameters, is_root, static_refusal}
use Rattle.lb_static.specs.Instantiation.{instantiation_refusal}
use Rattle.lb_static.specs.Instantiated.{IsRefusal, IsInstantiationAnswer}

-- ## The first of five refusals

abbrev first_of_five : (a b c d : Bool) (o : Option Refusal) → Option Refusal
first_of_five a b c d o =
    or_else (unless a E4) (or_else (unless b E7) (or_else (unless c E8) (or_else o (unless d E8))))

at_names : (a b c d : Bool) (o : Option Refusal) → a ≡ false → first_of_five a b c d o ≡ Some E4
at_names false b c d o e = refl
at_names true b c d o e = absurd cc

at_calls : (a b c d : Bool) (o : Option Refusal) → a ≡ true → b ≡ false
    → first_of_five a b c d o ≡ Some E7
at_calls true false c d o e f = refl
at_calls true true c d o e f = absurd cc
at_calls false b c d o e f = absurd cc

at_parameters : (a b c d : Bool) (o : Option Refusal) → a ≡ true → b ≡ true → c ≡ false
    → first_of_five a b c d o ≡ Some E8
at_parameters true true false d o e f g = refl
at_parameters true true true d o e f g = absurd cc
at_parameters true false c d o e f g = absurd cc
at_parameters false b c d o e f g = absurd cc

at_instantiation : (a b c d : Bool) (o : Option Refusal) (r : Refusal) → a ≡ true → b ≡ true
    → c ≡ true
    → o ≡ Some r → first_of_five a b c d o ≡ Some r
at_instantiation true true true d (Some s) r e f g h = h
at_instantiation true true true d None r e f g h = absurd cc
at_instantiation true true false d o r e f g h = absurd cc
at_instantiation true false c d o r e f g h = absurd cc
at_instantiation false b c d o r e f g h = absurd cc

at_root : (a b c d : Bool) (o : Option Refusal) → a ≡ true → b ≡ true → c ≡ true → o ≡ None
    → d ≡ false → first_of_five a b c d o ≡ Some E8
at_root true true true false None e f g h k = refl
at_root true true true true None e f g h k = absurd cc
at_root true true true d (Some s) e f g h k = absurd cc
at_root true true false d o e f g h k = absurd cc
at_root true false c d o e f g h k = absurd cc
at_root false b c d o e f g h k = absurd cc

at_none : (a b c d : Bool) (o : Option Refusal) → a ≡ true → b ≡ true → c ≡ true → o ≡ None
    → d ≡ true → first_of_five a b c d o ≡ None
at_none true true true true None e f g h k = refl
at_none true true true false None e f g h k = absurd cc
at_none true true true d (Some s) e f g h k = absurd cc
at_none true true false d o e f g h k = absurd cc
at_none true false c d o e f g h k = absurd cc
at_none false b c d o e f g h k = absurd cc

-- the node under test has a lawful interface
abbrev has_data_type : Program → Bool
has_data_type P = holds (is_root P) (instance_at P Root)

-- ## Faults of the parts

pub name_fault : (P : Program) (e : StaticError) → IsNameFault e (keeps_names_where (is_told e) P)
    → IsStaticFault P e
name_fault P Memory h = tt
name_fault P (Name_fault x) h = (
  at_names (keeps_names P) (is_well_founded P) (has_no_parameters P) (has_data_type P)
      (instantiation_refusal P 0 (instances P))
      (rule_broken (is_told (Name_fault x)) P h),
  h,
)
name_fault P (Recursion x) h = absurd h
name_fault P (Root_fault x) h = absurd h
name_fault P (Value x) h = absurd h
name_fault P (Range x) h = absurd h
name_fault P (Instances x) h = absurd h

pub calls_fault : (P : Program) (e : StaticError) → keeps_names P ≡ true → IsCallsAnswer P (Err e)
    → IsCycleTold P (Err e) → IsStaticFault P e
calls_fault P Memory names h t = h
calls_fault P (Name_fault x) names h t = absurd h
calls_fault P (Recursion x) names h t = (
  at_calls (keeps_names P) (is_well_founded P) (has_no_parameters P) (has_data_type P)
      (instantiation_refusal P 0 (instances P)) names h,
  t,
)
calls_fault P (Root_fault x) names h t = absurd h
calls_fault P (Value x) names h t = absurd h
calls_fault P (Range x) names h t = absurd h
calls_fault P (Instances x) names h t = absurd h

pub parameters_fault : (P : Program) (e : StaticError) → keeps_names P ≡ true
    → is_well_founded P ≡ true
    → has_no_parameters P ≡ false → IsRootFault (Unit {0}) e → IsStaticFault P e
parameters_fault P Memory names calls h told = tt
parameters_fault P (Root_fault x) names calls h told =
    at_parameters (keeps_names P) (is_well_founded P) (has_no_parameters P) (has_data_type P)
    (instantiation_refusal P 0 (instances P)) names calls h
parameters_fault P (Name_fault x) names calls h told = absurd told
parameters_fault P (Recursion x) names calls h told = absurd told
parameters_fault P (Value x) names calls h told = absurd told
parameters_fault P (Range x) names calls h told = absurd told
parameters_fault P (Instances x) names calls h told = absurd told

pub instantiation_fault : (P : Program) (e : StaticError) → keeps_names P ≡ true
    → is_well_founded P ≡ true
    → has_no_parameters P ≡ true
    → IsRefusal (instantiation_refusal P 0 (instances P)) e → IsStaticFault P e
instantiation_fault P e names calls parameters h = by e h
  where
    first : (r : Refusal) → instantiation_refusal P 0 (instances P) ≡ Some r
        → static_refusal P ≡ Some r
    first r =
        at_instantiation (keeps_names P) (is_well_founded P) (has_no_parameters P) (has_data_type P)
        (instantiation_refusal P 0 (instances P)) r names calls parameters

    by : (e : StaticError) → IsRefusal (instantiation_refusal P 0 (instances P)) e
        → IsStaticFault P e
    by Memory h = tt
    by (Name_fault x) h = absurd h
    by (Recursion x) h = absurd h
    by (Root_fault x) h = absurd h
    by (Value x) h = first E5 h
    by (Range x) h = first E6 h
    by (Instances x) h = first E12 h

pub root_fault : (P : Program) (e : StaticError) → keeps_names P ≡ true → is_well_founded P ≡ true
    → has_no_parameters P ≡ true
    → instantiation_refusal P 0 (instances P) ≡ None → IsRootAnswer P (Err e) → IsStaticFault P e
root_fault P Memory names calls parameters instantiated h = h
root_fault P (Name_fault x) names calls parameters instantiated h = absurd h
root_fault P (Recursion x) names calls parameters instantiated h = absurd h
root_fault P (Root_fault x) names calls parameters instantiated h =
    at_root (keeps_names P) (is_well_founded P) (has_no_parameters P) (has_data_type P)
    (instantiation_refusal P 0 (instances P)) names calls parameters instantiated h
root_fault P (Value x) names calls parameters instantiated h = absurd h
root_fault P (Range x) names calls parameters instantiated h = absurd h
root_fault P (Instances x) names calls parameters instantiated h = absurd h

pub no_fault : (P : Program) → keeps_names P ≡ true → is_well_founded P ≡ true
    → has_no_parameters P ≡ true
    → instantiation_refusal P 0 (instances P) ≡ None → holds (is_root P) (instance_at P Root) ≡ true
    → static_refusal P ≡ None
no_fault P names calls parameters instantiated h =
    at_none (keeps_names P) (is_well_founded P) (has_no_parameters P) (has_data_type P)
    (instantiation_refusal P 0 (instances P)) names calls parameters instantiated h

-- ## The table

pub is_table : (P : Program) (r : Reached) (t : Table) → HasStarts P r t → AreSpecialized P r t
    → AreInstances P r t → IsTable P r t
is_table P r t starts specialized rows = record {
  specialized = specialized;
  instances = rows.instances;
  root = starts.root;
  observer = starts.observer;
  used = rows.used;
  few = rows.few;
  before = rows.before;
}

pub table_answer : (P : Program) (r : Reached) (result : Result Table StaticError)
    → keeps_names P ≡ true → is_well_founded P ≡ true → has_no_parameters P ≡ true
    → IsInstantiationAnswer P r result → IfOk result (AreSpecialized P r)
    → IfOk result (AreInstances P r)
    → IsTableAnswer P r result
table_answer P r (Ok t) names calls parameters instantiated specialized rows = record {
  calls = calls;
  parameters = parameters;
  instantiated = instantiated.0;
  starts = instantiated.1;
  table = is_table P r t instantiated.1 specialized rows;
}
table_answer P r (Err e) names calls parameters instantiated specialized rows =
    instantiation_fault P e names calls parameters instantiated
