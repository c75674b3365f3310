-- The meaning of the numbers in the text of a row's node.
-- This file mirrors code (src/expansion/frame.rt); no definition of the language stands on it.
use Rattle.std.specs.Prelude.{ℕ, ℤ, Bool, List, slice_get, option_map}
use Rattle.lb_syntax.specs.Lists.{either_or}
use Rattle.lb_static.specs.declared.reachable.Reached.{Reached}
use Rattle.lb_static.specs.declared.resolved.ResolvedNode.{ResolvedNode}
use Rattle.lb_static.specs.declared.table.Specialization.{Specialization}
use Rattle.lb_static.specs.declared.table.Table.{Table}
use Rattle.lb_check.specs.Scalars.{Scalar, or_fault}
use Rattle.lb_static.specs.ReachedNodes.{callee_in}
use Rattle.lb_check.specs.TermTypes.{count_at, repeats_at}
use Rattle.lb_expand.specs.declared.expansion.frame.Callee.{Callee}
use Rattle.lb_expand.specs.EmitTerms.{Context}
use Rattle.lb_flat.specs.Flat.{FlatClock}
use Rattle.lb_expand.specs.Rows.{row_numbers, child_numbers}

-- the value of static expression `i` as an operand, where `statics` holds the values of all
abbrev pub value_at : List ℤ → ℕ → Scalar
value_at statics i = or_fault (slice_get statics i)

-- the value of static expression `i` as a size or an index; 0 where it is none
abbrev pub size_at : List ℤ → ℕ → ℕ
size_at statics i = either_or (count_at statics (record { 0 = i })) 0

-- how often call `c` is iterated; 0 where it is not
abbrev pub times_at : ResolvedNode → Specialization → ℕ → ℕ
times_at n s c = either_or (repeats_at n s (record { 0 = c })) 0

-- how many inputs and outputs a node has
abbrev pub parameters_of : ResolvedNode → Callee
parameters_of m = record { inputs = m.inputs; outputs = m.outputs }

-- the clocks of a row, and how many scalar elements each element of the array of a term has
pub record RowClocks : Type 0 where
  pub declared : ℕ → FlatClock
  pub sampled : ℕ → Bool → FlatClock
  pub clock : ℕ → FlatClock
  pub parts : ℕ → ℕ
  pub input : (call index variable : ℕ) → FlatClock

-- the context of row `j`, which is of node `n` and specialization `s`
abbrev pub row_context :
    Reached → Table → RowClocks → ℕ → ResolvedNode → Specialization → Context
row_context r t k j n s = record {
  places = λ x. row_numbers r t j (record { 0 = x });
  declared = k.declared;
  sampled = k.sampled;
  value = value_at s.statics.items;
  count = size_at s.statics.items;
  clock = k.clock;
  parts = k.parts;
  callee = λ c. option_map parameters_of (callee_in r n (record { 0 = c }));
  repeats = times_at n s;
  child = λ c i x. child_numbers r t j c i (record { 0 = x });
  input = k.input;
}
