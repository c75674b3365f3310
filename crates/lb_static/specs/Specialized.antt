-- The static expressions of a node under values of its static parameters.
-- This file says what data of the program mean; no definition of the language stands on it.
use Rattle.std.specs.Prelude.{◌≡◌, ℕ, ◌*◌, min, nat_le, ℤ, pos, negsuc, Bool, true, false, ◌&&◌}
use Rattle.std.specs.Prelude.{Option, Some, None, List, [], ◌∷◌, map, take, drop, Result, Ok, Err}
use Rattle.std.specs.Prelude.{Vec}
use Rattle.std.specs.List.{list_all, zip}
use Rattle.std.specs.declared.alloc.Global.{Global}
use Rattle.lb_syntax.specs.Lists.{◌>>=◌, all_some, holds}
use Rattle.lb_syntax.specs.Tree.{Name}
use Rattle.lb_static.specs.HeldValues.{value_of}
use Rattle.lb_static.specs.Instances.{given_or_constant}
use Rattle.lb_static.specs.ResolvedTerms.{static_of}
use Rattle.lb_static.specs.StaticParts.{Purpose, Size, Index, SliceStart, SliceEnd, Dimension}
use Rattle.lb_static.specs.StaticParts.{Argument, Value, purpose_of}
use Rattle.lb_static.specs.StaticValues.{named, natural, value_under}
use Rattle.lb_static.specs.declared.error.StaticError.{StaticError}
use Rattle.lb_static.specs.declared.error.StaticError.TheVariants as error
use Rattle.lb_static.specs.declared.instance_values.InstanceValues.{InstanceValues}
use Rattle.lb_static.specs.declared.resolved.ResolvedNode.{ResolvedNode}
use Rattle.lb_static.specs.declared.resolved.StaticPart.{StaticPart}
use Rattle.lb_static.specs.declared.resolved.Variable.{Variable as Declared}
use Rattle.lb_static.specs.declared.static_value.StaticInt.{StaticInt}

-- ## Values

-- the value of a name, where the static parameters `names` have the values `values`
abbrev pub value_given : (Name → Option ℤ) → List Name → List ℤ → Name → Option ℤ
value_given constants names values x =
    given_or_constant (named (λ v. v.0) x (zip names values)) (constants x)

abbrev pub given_by : InstanceValues → Name → Option ℤ
given_by v = value_given (value_of v.constants.now) v.parameters.now v.values.now

-- the value of a static expression of a node
abbrev pub part_value : (Name → Option ℤ) → StaticPart → Option ℤ
part_value given p = value_under given (static_of p.text)

-- the values of the static expressions, if all have one
abbrev pub part_values : (Name → Option ℤ) → List StaticPart → Option (List ℤ)
part_values given ps = all_some (map (part_value given) ps)

-- ## Ranges

abbrev pub count_between : (low high : ℕ) → Option ℤ → Bool
count_between low high v = holds (λ n. nat_le low n && nat_le n high) (v >>= natural)

-- a slice between these ends does not run backwards
abbrev pub runs_forward : Option ℤ → Option ℤ → Bool
runs_forward v w = holds (λ i. holds (nat_le i) (w >>= natural)) (v >>= natural)

-- a value is within the range that its purpose allows
abbrev pub part_passes : (Name → Option ℤ) → Purpose → Option ℤ → Bool
part_passes given Size v = count_between 1 4096 v
part_passes given Index v = count_between 0 4095 v
part_passes given SliceStart v = count_between 0 4095 v
part_passes given (SliceEnd s) v = count_between 0 4095 v && runs_forward (value_under given s) v
part_passes given Dimension v = count_between 1 4096 v
part_passes given Argument v = true
part_passes given Value v = true

abbrev pub are_in_range : (Name → Option ℤ) → List StaticPart → List ℤ → Bool
are_in_range given [] vs = true
are_in_range given (p ∷ ps) [] = true
are_in_range given (p ∷ ps) (v ∷ vs) =
    part_passes given (purpose_of p.role) (Some v) && are_in_range given ps vs

-- ## Widths

-- a size as a number; a negative size counts as 0
abbrev pub size_of : ℤ → ℕ
size_of (pos n) = n
size_of (negsuc n) = 0

-- `elements` times the sizes, and 65,537 for each product that is greater
abbrev pub times_sizes : ℕ → List ℤ → ℕ
times_sizes elements [] = elements
times_sizes elements (v ∷ vs) = times_sizes (min (elements * size_of v) 65537) vs

-- a variable has at most 65,536 elements, where `values` are those of the static expressions
abbrev pub is_narrow : List ℤ → Declared → Bool
is_narrow values v =
    nat_le (times_sizes 1 (take v.sizes (drop v.first_size.0 values))) 65536

-- ## Nodes

abbrev pub node_in_range : (Name → Option ℤ) → ResolvedNode → List ℤ → Bool
node_in_range given n values =
    are_in_range given n.statics.items values
    && list_all (is_narrow values) n.variables.items

-- The values of the static expressions of a node, in range; or an error, where some expression has
-- no value (E5), or a value is out of range (E6).
abbrev pub IsEvaluated : (Name → Option ℤ) → ResolvedNode
    → Result (Vec StaticInt Global) StaticError → Type 0
IsEvaluated given n (Ok statics) =
    (part_values given n.statics.items ≡ Some statics.items)
    × (node_in_range given n statics.items ≡ true)
IsEvaluated given n (Err error.Memory) = Unit {0}
IsEvaluated given n (Err (error.Value x)) = part_values given n.statics.items ≡ None
IsEvaluated given n (Err (error.Range x)) =
    (values : List ℤ) × (part_values given n.statics.items ≡ Some values)
    × (node_in_range given n values ≡ false)
IsEvaluated given n (Err _) = ⊥
