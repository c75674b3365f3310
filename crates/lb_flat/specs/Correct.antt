-- The promises of `order` and `eval_trace`, and what it is to be the expansion of a program.
-- This file says what data of the program mean; no definition of the language stands on it.
use Rattle.std.specs.Prelude.{◌≡◌, ℕ, ◌<◌, Some, slice_get, List, []}
use Rattle.lb_syntax.specs.Lists.{In}
use Rattle.lb_static.specs.Instances.{Program}
use Rattle.lb_static.specs.DataTypes.{signature}
use Rattle.lb_check.specs.Elements.{program_elements}
use Rattle.lb_check.specs.Needs.{Element, Needs}
use Rattle.lb_check.specs.Solutions.{HasOneHistory}
use Rattle.lb_check.specs.Verdicts.{IsOnlyVerdict}
use Rattle.lb_check.specs.declared.verdict.Verdict.{Verdict}
use Rattle.lb_flat.specs.declared.error.OrderError.{OrderError}
use Rattle.lb_flat.specs.Flat.{FlatEquation}
use Rattle.lb_flat.specs.FlatPrograms.{IsFlatOf}
use Rattle.lb_flat.specs.GivenOnce.{IsGiven}
use Rattle.lb_flat.specs.Inputs.{inputs_of}
use Rattle.lb_flat.specs.Judging.{FlatProgram}
use Rattle.lb_flat.specs.Programs.{numbers_of}
use Rattle.lb_flat.specs.Reading.{Leads, Chain, NeedsAt, IsReadCycle, IsCertificate}
use Rattle.lb_flat.specs.RightVerdicts.{right_verdict}
use Rattle.lb_flat.specs.Run.{Ready}
use Rattle.lb_flat.specs.Standing.{HasKindsOf, StandsForProgram}
use Rattle.lb_traces.specs.Traces.{Recording}
use Rattle.lb_flat.specs.declared.error.OrderError.TheVariants as order_error

-- ## Expansion

-- element `x` of a program reads element `y`, directly or by way of any elements of `f`
pub record HasReads (P : Program) (f : FlatProgram) (x y : Element) : Type 0 where
  pub one : ℕ
  pub other : ℕ
  pub is_one : slice_get (program_elements P) one ≡ Some x
  pub is_other : slice_get (program_elements P) other ≡ Some y
  pub chain : Chain f other one

-- `f` stands for `P`, and gives each element once; an element of a variable needs, at the same
-- instant, each such element that it reads directly or by way of temporaries; and each element
-- reads all that it needs
pub record IsExpansionOf (P : Program) (f : FlatProgram) : Type 0 where
  pub flat : IsFlatOf P f
  pub given : IsGiven f
  pub needs :
      (i j : ℕ) → i < f.variables → j < f.variables → Leads f j i → NeedsAt P i j
  pub reads : (x y : Element) → Needs P x y → HasReads P f x y

-- ## Order

-- two lists hold the same equations, in any order
pub record IsOrderingOf (Q Q' : List FlatEquation) : Type 0 where
  pub there : (q : FlatEquation) → In q Q → In q Q'
  pub back : (q : FlatEquation) → In q Q' → In q Q

-- `g` is `f`, with its equations in an order in which they can be computed
pub record IsOrderOf (f g : FlatProgram) : Type 0 where
  pub same : g ≡ record f { equations = g.equations }
  pub ordering : IsOrderingOf f.equations g.equations
  pub ready : Ready g.size [] g.equations

-- why the equations of `f` have no order: elements of variables read one another in a cycle, and in
-- each program whose expansion is `f` each of these elements needs the next; or memory ran out
abbrev pub IsCycleFound : FlatProgram → OrderError → Type 0
IsCycleFound f order_error.Memory = Unit {0}
IsCycleFound f (order_error.Cycle c) =
    let is = numbers_of c.value.elements.items in
    IsReadCycle f is × ((P : Program) → IsExpansionOf P f → IsCertificate P is)

-- ## Verdicts

-- `v` is the verdict of trace `k`: the only verdict of each program that `f` stands for and whose
-- signature the traces have, by the one history that solves it; and the right verdict of `f`, where
-- `f` stands for a program and the traces have the kinds of its inputs
pub record IsVerdictOf (f : FlatProgram) (r : Recording) (k : ℕ) (v : Verdict) : Type 0 where
  pub only_verdict :
      (P : Program) → IsFlatOf P f → signature P ≡ r.signature →
      IsOnlyVerdict P (inputs_of r k) v
  pub has_one_history :
      (P : Program) → IsFlatOf P f → signature P ≡ r.signature → HasOneHistory P (inputs_of r k)
  pub is_right : StandsForProgram f → HasKindsOf f r → v ≡ right_verdict f r k
