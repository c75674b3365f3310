-- The types that a term with a row of operands takes and gives.
-- This file mirrors code (src/signature.rt); no definition of the language stands on it.
use Rattle.std.specs.Prelude.{ℕ, ℤ, Bool, true, false, ◌&&◌, ◌==◌, nat_eq, nat_lt, Option, Some}
use Rattle.std.specs.Prelude.{None, option_map, List, [], ◌∷◌, map, length, take, drop, replicate}
use Rattle.std.specs.Prelude.{reverse, slice_get, if◌then◌else◌}
use Rattle.std.specs.List.{list_all, zip}
use Rattle.lb_syntax.specs.declared.tree.ArrayIterator.{ArrayIterator}
use Rattle.lb_syntax.specs.declared.tree.ArrayIterator.TheVariants.{Map, Red, Fill}
use Rattle.lb_syntax.specs.declared.tree.BinaryOperator.{BinaryOperator}
use Rattle.lb_syntax.specs.declared.tree.Kind.{Kind}
use Rattle.lb_syntax.specs.declared.tree.Kind.TheVariants.{Int as Int_kind, Bool as Bool_kind}
use Rattle.lb_syntax.specs.Lists.{◌>>=◌, all_some, either_or, holds, where_true}
use Rattle.lb_static.specs.declared.reachable.Reached.{Reached}
use Rattle.lb_static.specs.declared.resolved.CallId.{CallId}
use Rattle.lb_static.specs.declared.resolved.ResolvedNode.{ResolvedNode}
use Rattle.lb_static.specs.declared.resolved.Term.{Term, AtMostOne', Nor', Call', IterateNode'}
use Rattle.lb_static.specs.declared.resolved.Term.{IterateSymbol'}
use Rattle.lb_static.specs.declared.table.Specialization.{Specialization}
use Rattle.lb_static.specs.declared.table.Table.{Table}
use Rattle.lb_static.specs.CalledSpecializations.{called_by}
use Rattle.lb_static.specs.DataTypes.{DataType, is_type}
use Rattle.lb_static.specs.StaticValues.{natural}
use Rattle.lb_static.specs.StoredTypes.{declared_type, naturals, view_type}
use Rattle.lb_check.specs.TermTypes.{CallTypes, Context, when_both}
use Rattle.lb_check.specs.Types.{array_of, common_type, is_arithmetic, is_logical, singly}
use Rattle.lb_check.specs.declared.signature.Arrays.{Arrays}
use Rattle.lb_check.specs.declared.signature.Arrays.TheVariants.{No, All, Rest}
use Rattle.lb_check.specs.declared.signature.Called.{Called}
use Rattle.lb_check.specs.declared.signature.Elements.{Elements}
use Rattle.lb_check.specs.declared.signature.Elements.TheVariants.{Scalars, Declared}
use Rattle.lb_check.specs.declared.signature.Signature.{Signature as stored}
use Rattle.lb_check.specs.declared.signature.TypeRow.{TypeRow}
use Rattle.lb_check.specs.declared.type_env.TypeEnv.{TypeEnv}
use Rattle.lb_check.specs.declared.types.SideTypes.{SideTypes}
use Rattle.lb_check.specs.declared.types.SideTypes.TheVariants.{Single, Several}

-- a signature: the types that are taken and given, with none for a type that is not there, and
-- whether it may be called or iterated
pub record Signature : Type 0 where
  pub takes : List (Option DataType)
  pub gives : List (Option DataType)
  pub stands : Bool

abbrev pub nothing : Signature
nothing = record { takes = []; gives = []; stands = false }

-- ## Types one by one

abbrev pub type_at : List (Option DataType) → ℕ → Option DataType
type_at os i = either_or (slice_get os i) None

-- whether both types are there, and they are the same
abbrev pub are_one : Option DataType → Option DataType → Bool
are_one o p = holds (λ s. holds (λ t. is_type s t) p) o

-- the type with `values` as its sizes, the outermost last, where none is negative
abbrev pub type_with : Kind → List ℤ → Option DataType
type_with kind values =
    option_map (λ ns. record { kind = kind; sizes = reverse ns }) (naturals values)

-- whether `o` is the type of this kind with these sizes, the outermost last
abbrev pub is_type_with : Option DataType → Kind → List ℕ → Bool
is_type_with o kind sizes = are_one o (Some (record { kind = kind; sizes = reverse sizes }))

-- whether `value` is the size `size`
abbrev pub is_size : ℤ → ℕ → Bool
is_size value size = holds (λ n. n == size) (natural value)

-- whether the values are the sizes, place by place
abbrev pub are_sizes : List ℤ → List ℕ → Bool
are_sizes values sizes =
    list_all (λ p. is_size p.0 p.1) (zip values sizes) && (length values == length sizes)

-- whether the given types are those that are wanted, and no others
abbrev pub are_met : (wanted given : List (Option DataType)) → Bool
are_met [] [] = true
are_met [] (o ∷ os) = false
are_met (w ∷ ws) [] = false
are_met (w ∷ ws) (o ∷ os) = are_one w o && are_met ws os

-- the common type of all, if they have one
abbrev pub common : List (Option DataType) → Option DataType
common [] = None
common (o ∷ []) = o
common (o ∷ (p ∷ os)) = when_both o (common (p ∷ os)) common_type

-- the types of the results for operands of these types
abbrev pub outcome : Signature → List (Option DataType) → Option (List (Option DataType))
outcome s os = where_true (s.stands && are_met s.takes os) s.gives

-- ## Callees

abbrev pub scalars : Kind → ℕ → Bool → Signature
scalars kind n stands =
    let scalar : Option DataType = Some (record { kind = kind; sizes = [] }) in
    record { takes = replicate n scalar; gives = scalar ∷ []; stands = stands }

-- the signature of a node under these static values
abbrev pub declared_signature : List ℤ → ResolvedNode → Signature
declared_signature statics n = record {
  takes = map (declared_type statics) (take n.inputs n.variables.items);
  gives = map (declared_type statics) (take n.outputs (drop n.inputs n.variables.items));
  stands = true;
}

abbrev pub callee_signature : Reached → Option Specialization → Signature
callee_signature r None = nothing
callee_signature r (Some s) =
    either_or (option_map (declared_signature s.statics.items) (slice_get r.nodes.items s.node.0))
    nothing

abbrev pub called_at : Reached → Table → Specialization → CallId → Signature
called_at r t s c = callee_signature r (called_by t s c)

-- the signature of an iterated data operator: a comparison is not iterated
abbrev pub symbol_signature : BinaryOperator → Signature
symbol_signature op =
    if is_arithmetic op then scalars Int_kind 2 true else scalars Bool_kind 2 (is_logical op)

-- ## Iterated callees

abbrev pub arrays : ℕ → Option DataType → Option DataType
arrays n o = o >>= array_of n

-- a row of types with arrays of all but the first
abbrev pub rest_arrays : ℕ → List (Option DataType) → List (Option DataType)
rest_arrays n [] = []
rest_arrays n (o ∷ os) = o ∷ map (arrays n) os

-- whether the first type that is taken is the first that is given: that of the accumulator
abbrev pub is_accumulated : Signature → Bool
is_accumulated s = are_one (type_at s.takes 0) (type_at s.gives 0)

-- a row of types with arrays of none, of all, or of all but the first
abbrev pub arrays_in : Arrays → List (Option DataType) → List (Option DataType)
arrays_in No os = os
arrays_in (All n) os = map (arrays n) os
arrays_in (Rest n) os = rest_arrays n os

abbrev pub spread : Signature → (takes gives : Arrays) → Bool → Signature
spread s takes gives stands =
    record { takes = arrays_in takes s.takes; gives = arrays_in gives s.gives; stands = stands }

abbrev pub accumulated : Signature → (takes gives : Arrays) → Bool → Signature
accumulated s takes gives fits = spread s takes gives (s.stands && (fits && is_accumulated s))

abbrev pub iterated_by : ArrayIterator → ℕ → Signature → Signature
iterated_by Map n s = spread s (All n) (All n) s.stands
iterated_by Red n s = accumulated s (Rest n) No (nat_eq (length s.gives) 1)
iterated_by Fill n s =
    accumulated s No (Rest n) (nat_eq (length s.takes) 1 && nat_lt 1 (length s.gives))

abbrev pub iterated : ArrayIterator → Option ℕ → Signature → Signature
iterated it None s = nothing
iterated it (Some n) s = iterated_by it n s

-- the signature of a term with `count` operands in a row, a list apart
abbrev pub signature : (CallId → Signature) → Context → Term → ℕ → Signature
signature called ctx (AtMostOne' arity all) count = scalars Bool_kind count true
signature called ctx (Nor' arity all) count = scalars Bool_kind count true
signature called ctx (Call' c arity all) count = called c
signature called ctx (IterateNode' it c arity all) count = iterated it (ctx.repeats c) (called c)
signature called ctx (IterateSymbol' it op n arity all) count =
    iterated it (ctx.count n) (symbol_signature op)
signature called ctx t count = nothing

-- the types of the results of a term with a row of operands of these types, a list apart
abbrev pub given_of : (CallId → Signature) → Context → Term → List (Option DataType) →
    Option (List (Option DataType))
given_of called ctx t os = outcome (signature called ctx t (length os)) os

-- the type of a list of elements of these types
abbrev pub list_of : List (Option DataType) → Option DataType
list_of os = arrays (length os) (common os)

-- the types that are taken and given, if all are there
abbrev pub pair_of : Option (List DataType) → Option (List DataType) → Option CallTypes
pair_of o p = o >>= λ ins. p >>= λ outs. Some (ins, outs)

abbrev pub evaluated : Signature → Option CallTypes
evaluated s = if s.stands then pair_of (all_some s.takes) (all_some s.gives) else None

-- ## From the last operand to the first

-- the type of the elements of `[a, b, c]` from `b` on, from its own and that of the one seen, `c`
abbrev pub like_later : ℕ → (own later : Option DataType) → Option DataType
like_later seen own later = if nat_eq seen 0 then own else when_both own later common_type

-- whether a signature takes `count` operands
abbrev pub has_arity : Signature → ℕ → Bool
has_arity s count = s.stands && nat_eq (length s.takes) count

-- ## The meaning of what the code holds

abbrev pub elements_in : Elements → List (Option DataType)
elements_in (Scalars kind n) = replicate n (Some (record { kind = kind; sizes = [] }))
elements_in (Declared vs statics) = map (declared_type statics.now) vs.now

abbrev pub row_in : TypeRow → List (Option DataType)
row_in r = arrays_in r.arrays (elements_in r.elements)

abbrev pub called_in : Called → Signature
called_in c =
    record { takes = elements_in c.takes; gives = elements_in c.gives; stands = c.stands }

abbrev pub signature_in : stored → Signature
signature_in s = record { takes = row_in s.takes; gives = row_in s.gives; stands = s.stands }

abbrev pub calls_in : TypeEnv → CallId → Signature
calls_in s = called_at s.reached.now s.table.now s.specialization.now

-- the types of the results of a right side
abbrev pub results_in : SideTypes → Option (List DataType)
results_in (Single o) = singly (option_map view_type o)
results_in (Several o) = option_map row_in o >>= all_some
