-- The meaning of instructions in one lane. No other lane occurs.
-- Source: this project's rule.
use Rattle.std.specs.Prelude.{◌≡◌, ℕ, Bool, true, false, not, ◌&&◌, ◌||◌, List, [], ℤ, pos, int_lt}
use Rattle.std.specs.Prelude.{int_le, slice_index, slice_index_or, if◌then◌else◌}
use Rattle.std.specs.List.{AllByRecursion}
use Rattle.std.specs.Ordering.{int_eq}
use Rattle.lb_lanes.specs.Kernels.{lane_of, kept, faulty}
use Rattle.lb_lanes.specs.Operators.{result_of}
use Rattle.lb_lanes.specs.Planes.{on, differ}
use Rattle.lb_machine.specs.declared.instruction.PlaneOperator.{PlaneOperator}
use Rattle.lb_machine.specs.declared.instruction.PlaneOperator.TheVariants.{And, Or, Xor, AndNot}
use Rattle.lb_machine.specs.declared.instruction.Comparison.{Comparison}
use Rattle.lb_machine.specs.declared.instruction.Comparison.TheVariants.{Equal, Below, AtMost}
use Rattle.lb_machine.specs.declared.instruction.Instruction.{Instruction}
use Rattle.lb_machine.specs.declared.instruction.Instruction.TheVariants.{Select, Compare}
use Rattle.lb_machine.specs.declared.instruction.Instruction.TheVariants.{Operate, Blend, Choose}

-- the values of a lane: a Boolean at each plane, and an integer at each word
pub record Lane : Type 0 where
  pub bits : ℕ → Bool
  pub ints : ℕ → ℤ

-- lane `i` of planes and words
abbrev pub lane_at : List ℕ → List (List ℤ) → ℕ → Lane
lane_at planes words i = record {
  bits = λ p. on (slice_index planes p) i;
  ints = λ w. lane_of (slice_index_or words w []) i;
}

-- the result of an operator on two Booleans
abbrev pub combined : PlaneOperator → Bool → Bool → Bool
combined And a b = a && b
combined Or a b = a || b
combined Xor a b = differ a b
combined AndNot a b = a && not b

abbrev pub compared : Comparison → ℤ → ℤ → Bool
compared Equal a b = int_eq a b
compared Below a b = int_lt a b
compared AtMost a b = int_le a b

-- an instruction has been done in a lane
abbrev pub IsDone : Lane → Instruction → Type 0
IsDone s (Select m a b out) =
    s.bits out.0 ≡ (if s.bits m.0 then s.bits a.0 else s.bits b.0)
IsDone s (Compare c a b out) = s.bits out.0 ≡ compared c (s.ints a.0) (s.ints b.0)
IsDone s (Operate op a b idle left right out faults) =
    let before = s.bits left.0 || s.bits right.0 in
    let active = not (s.bits idle.0 || before) in
    let value = result_of op (s.ints a.0) (s.ints b.0) in
    (s.ints out.0 ≡ kept active value) × (s.bits faults.0 ≡ (before || faulty active value))
IsDone s (Blend m a b out) =
    s.ints out.0 ≡ (if s.bits m.0 then s.ints a.0 else s.ints b.0)
IsDone s (Choose c x y a b passed out) =
    (s.bits passed.0 ≡ compared c (s.ints x.0) (s.ints y.0))
    × (s.ints out.0 ≡ (if s.bits passed.0 then s.ints a.0 else s.ints b.0))

-- a lane in which the first two planes are false and true, and the first word is 0
pub record HasConstants (s : Lane) : Type 0 where
  pub nowhere : s.bits 0 ≡ false
  pub everywhere : s.bits 1 ≡ true
  pub zero : s.ints 0 ≡ pos 0

-- a lane in which these instructions have been done
pub record HasRun (code : List Instruction) (s : Lane) : Type 0 where
  pub constants : HasConstants s
  pub done : AllByRecursion (IsDone s) code
