-- The meaning of the state of the code that expands resolved terms.
-- This file says what data of the program mean; no definition of the language stands on it.
use Rattle.std.specs.Prelude.{ℕ, List, [], ◌∷◌, ◌++◌, take, drop}
use Rattle.std.specs.List.{slice_range}
use Rattle.lb_flat.specs.declared.equation.ElementId.{ElementId}
use Rattle.lb_expand.specs.declared.expansion.term_emission.TermEmission.{TermEmission}
use Rattle.lb_expand.specs.Emit.{State, Emitted, push, add}
use Rattle.lb_flat.specs.Flat.{FlatClock}
use Rattle.lb_flat.specs.Programs.{numbers_of, flat_equations}
use Rattle.lb_flat.specs.Flat as flat

-- the state of emission that `e` stands for, under its table of clocks
abbrev pub state_of : TermEmission → State
state_of e = record {
  equations = flat_equations e.clocks.items e.equations.items;
  copies = flat_equations e.clocks.items e.copies.items;
  next = e.next;
  memory_operands = numbers_of e.memory_operands.items;
  asserted = numbers_of e.asserted.items;
}

-- the state of `e`, with the elements on its stack as the result
abbrev pub emitted_of : TermEmission → Emitted
emitted_of e = record { state = state_of e; found = numbers_of e.found.items }

-- the state of `e`, with the element `a` as the result
abbrev pub held : TermEmission → ElementId → Emitted
held e a = record { state = state_of e; found = a.0 ∷ [] }

-- ## A stack of elements

-- an emission with the elements `below` below its own
abbrev pub onto : List ℕ → Emitted → Emitted
onto below x = record { state = x.state; found = below ++ x.found }

-- an emission without its first `from` elements
abbrev pub above : ℕ → Emitted → Emitted
above from x = record { state = x.state; found = drop from x.found }

-- an emission without its elements from place `from` on, before place `to`
abbrev pub without : ℕ → ℕ → Emitted → Emitted
without from to x = record { state = x.state; found = take from x.found ++ drop to x.found }

-- `f` on the elements from place `from` on; those below stay as they are
abbrev pub on_top : ℕ → (Emitted → Emitted) → Emitted → Emitted
on_top from f x = onto (take from x.found) (f (above from x))

-- `f` on the elements from place `from` to `middle`, and those from `middle` on
abbrev pub on_two : ℕ → ℕ → (List ℕ → Emitted → Emitted) → Emitted → Emitted
on_two from middle f x =
    onto (take from x.found) (f (slice_range x.found from middle) (above middle x))

-- `f` on the elements from place `from` to `second`, from `second` to `third`, and from `third` on
abbrev pub on_three :
    ℕ → ℕ → ℕ → (List ℕ → List ℕ → Emitted → Emitted) → Emitted → Emitted
on_three from second third f x =
    onto (take from x.found)
    (f (slice_range x.found from second) (slice_range x.found second third) (above third x))

-- an emission with `is` added to the operands that memories keep
abbrev pub with_kept : Emitted → List ℕ → Emitted
with_kept x is = record {
  state = record x.state { memory_operands = x.state.memory_operands ++ is };
  found = x.found;
}

-- an emission whose elements from place `from` on are kept by memories
abbrev pub kept : ℕ → Emitted → Emitted
kept from x = with_kept x (drop from x.found)

-- the state with `is` added to the assertions
abbrev pub with_asserted : State → List ℕ → State
with_asserted s is = record s { asserted = s.asserted ++ is }

-- an emission with one more element, which operation `o` gives
abbrev pub pushed : FlatClock → flat.Operation → Emitted → Emitted
pushed k o x =
    record { state = push k x.state o; found = x.found ++ x.state.next ∷ [] }

-- an emission with one more element for each operation of `os`
abbrev pub added : FlatClock → List flat.Operation → Emitted → Emitted
added k os x = onto x.found (add k x.state os)
