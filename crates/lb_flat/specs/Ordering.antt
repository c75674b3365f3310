-- The promises of the parts of `order` to each other.
-- This file says what data of the program mean; no definition of the language stands on it.
use Rattle.std.specs.Prelude.{◌≡◌, ℕ, suc, ◌<◌, Bool, true, false, not, Option, Some, None}
use Rattle.std.specs.Prelude.{option_and_then, slice_get, List, [], ◌∷◌, ◌++◌, length, replicate}
use Rattle.std.specs.Prelude.{get_or, All}
use Rattle.std.specs.List.{find}
use Rattle.lb_syntax.specs.Lists.{In}
use Rattle.lb_flat.specs.declared.equation.ClockId.{ClockId}
use Rattle.lb_flat.specs.declared.equation.Clock.{Clock}
use Rattle.lb_flat.specs.declared.equation.Equation.{Equation}
use Rattle.lb_flat.specs.declared.program.FlatProgram.{FlatProgram}
use Rattle.lb_flat.specs.Correct.{IsOrderingOf}
use Rattle.lb_flat.specs.Flat.{FlatEquation}
use Rattle.lb_flat.specs.GivenOnce.{IsGiven}
use Rattle.lb_flat.specs.InOrder.{is_done, is_in_order}
use Rattle.lb_flat.specs.Programs.{IsInRange, flat_equations, program_of}
use Rattle.lb_flat.specs.Run.{equation_reads}
use Rattle.lb_flat.specs.Values.{equation_of}
use Rattle.lb_flat.specs.Within.{AreClocks, IsWithin}

-- the equations of a program in an order in which they can be computed
pub record AreOrdered (p : FlatProgram) (qs : List Equation) : Type 0 where
  pub within : All (IsWithin p.size p.clocks.items) qs
  pub ordering :
      IsOrderingOf (flat_equations p.clocks.items p.equations.items)
      (flat_equations p.clocks.items qs)
  pub in_order :
      is_in_order (replicate p.size false) (flat_equations p.clocks.items qs) ≡ true

-- the clock at a place of a table; none is the base clock
abbrev pub clock_at : List Clock → Option ClockId → Option Clock
clock_at clocks k = option_and_then (λ id. slice_get clocks id.0) k

-- ## The table of equations

-- each equation of a table stands at its element, and uses elements and clocks of the table alone
pub record IsTable (clocks : List Clock) (table : List (Option Equation)) : Type 0 where
  pub table_clocks : AreClocks (length table) clocks
  pub own :
      (e : ℕ) (q : Equation) → get_or table e None ≡ Some q → q.element.0 ≡ e
  pub within :
      (e : ℕ) (q : Equation) → get_or table e None ≡ Some q → IsWithin (length table) clocks q

-- a table of `size` entries has the equations `qs`, each at its element
pub record IsTableOf (size : ℕ) (qs : List Equation) (table : List (Option Equation)) :
    Type 0 where
  pub entries : length table ≡ size
  pub listed : (e : ℕ) (q : Equation) → get_or table e None ≡ Some q → In q qs
  pub own : (e : ℕ) (q : Equation) → get_or table e None ≡ Some q → q.element.0 ≡ e
  pub each : (q : Equation) → In q qs → get_or table q.element.0 None ≡ Some q

-- ## Scheduling

-- the first of these elements that is not done
abbrev pub first_left : List Bool → List ℕ → Option ℕ
first_left done is = find (λ i. not (is_done done i)) is

-- the first element that an equation reads and that is not done
abbrev pub awaited : List Clock → List Bool → Equation → Option ℕ
awaited clocks done q = first_left done (equation_reads (equation_of clocks q))

-- where an element is done, all that its equation reads is done
abbrev pub AreSettled : List Clock → List (Option Equation) → List Bool → Type 0
AreSettled clocks table done =
    (e : ℕ) (q : Equation) → is_done done e ≡ true → get_or table e None ≡ Some q →
    awaited clocks done q ≡ None

-- the equation of an element is on a clock
pub record IsOn (table : List (Option Equation)) (e : ℕ) (clock : Option ClockId) : Type 0 where
  pub equation : Equation
  pub stands : get_or table e None ≡ Some equation
  pub clock_is : equation.clock ≡ clock

-- how many elements are not done
abbrev pub left : List Bool → ℕ
left [] = 0
left (true ∷ done) = left done
left (false ∷ done) = suc (left done)

-- the equations `out` begin an order, and the elements that they give are done
pub record IsScheduled (clocks : List Clock) (table : List (Option Equation)) (done : List Bool)
    (out : List Equation) : Type 0 where
  pub marks : length done ≡ length table
  pub begins :
      (Q : List FlatEquation) → is_in_order done Q ≡ true →
      is_in_order (replicate (length table) false) (flat_equations clocks out ++ Q) ≡ true
  pub entries : (q : Equation) → In q out → get_or table q.element.0 None ≡ Some q
  pub holds :
      (e : ℕ) (q : Equation) → is_done done e ≡ true → get_or table e None ≡ Some q → In q out
  pub settled : AreSettled clocks table done

-- the equations of a table, in an order in which they can be computed
pub record AreScheduled (clocks : List Clock) (table : List (Option Equation))
    (out : List Equation) :
    Type 0 where
  pub in_order :
      is_in_order (replicate (length table) false) (flat_equations clocks out) ≡ true
  pub entries : (q : Equation) → In q out → get_or table q.element.0 None ≡ Some q
  pub holds :
      (e : ℕ) (q : Equation) → e < length table → get_or table e None ≡ Some q → In q out

-- an element is done, or its equation cannot be computed yet
abbrev pub IsNotNext : List Clock → List (Option Equation) → List Bool → ℕ → Type 0
IsNotNext clocks table done e =
    is_done done e ≡ false → (q : Equation) → get_or table e None ≡ Some q →
    awaited clocks done q ≡ None → ⊥

-- ## Where no element is next

-- an element of a program is not done
pub record IsLeft (p : FlatProgram) (done : List Bool) (e : ℕ) : Type 0 where
  pub is_element : e < p.size
  pub is_left : is_done done e ≡ false

-- some elements of a program are done, and none of the others is next in the table
pub record IsStuckAt (p : FlatProgram) (rows : List (Option Equation)) (done : List Bool) :
    Type 0 where
  pub in_range : IsInRange p
  pub given : IsGiven (program_of p)
  pub table : IsTableOf p.size p.equations.items rows
  pub marks : length done ≡ length rows
  pub stuck : (e : ℕ) → e < length rows → IsNotNext p.clocks.items rows done e
  pub settled : AreSettled p.clocks.items rows done
