-- The shared part of the specializations of a node, and what it settles of their types.
-- This file mirrors code (src/shared.rt); no definition of the language stands on it.
use Rattle.std.specs.Prelude.{◌≡◌, ℕ, ℤ, Bool, true, ◌&&◌, ◌||◌, ◌==◌, nat_le, Some, List}
use Rattle.std.specs.Prelude.{length, slice_get, is_none}
use Rattle.std.specs.List.{All, list_all, zip}
use Rattle.std.specs.Ordering.{int_eq}
use Rattle.lb_static.specs.Arithmetic.{is_int}
use Rattle.lb_static.specs.StaticValues.{natural}
use Rattle.lb_static.specs.declared.reachable.Reached.{Reached}
use Rattle.lb_static.specs.declared.resolved.ResolvedNode.{ResolvedNode}
use Rattle.lb_static.specs.declared.resolved.ResolvedStatement.{ResolvedStatement}
use Rattle.lb_static.specs.declared.table.Specialization.{Specialization}
use Rattle.lb_static.specs.declared.table.SpecializationId.{SpecializationId}
use Rattle.lb_static.specs.declared.table.Table.{Table}
use Rattle.lb_check.specs.TermTypes.{Context, context_of, is_resolved_statement_typed}
use Rattle.lb_check.specs.declared.shared.SharedPart.{SharedPart}

-- whether a shared value stands for a static value: it is the value, or both are an `int` and the
-- shared one is negative
abbrev pub is_value_shared : ℤ → ℤ → Bool
is_value_shared shared value =
    int_eq shared value || (is_none (natural shared) && (is_int shared && is_int value))

-- whether a shared callee stands for a callee: it is the callee, or the number of no specialization
abbrev pub is_callee_shared : Table → SpecializationId → SpecializationId → Bool
is_callee_shared t shared callee =
    (shared.0 == callee.0) || nat_le (length t.specializations.items) shared.0

-- whether two lists are of one length, and `f` holds of their items, place by place
abbrev pub all_paired : {A B : Type 0} → (A → B → Bool) → List A → List B → Bool
all_paired f xs ys = list_all (λ p. f p.0 p.1) (zip xs ys) && (length xs == length ys)

-- whether a shared part stands for specialization `s` of its node
abbrev pub is_part_shared : Table → Specialization → Specialization → Bool
is_part_shared t shared s =
    (shared.node.0 == s.node.0)
    && (all_paired is_value_shared shared.statics.items s.statics.items
    && all_paired (is_callee_shared t) shared.callees.items s.callees.items)

-- each statement that is settled keeps the rules of types
abbrev pub AreSettled : Context → List Bool → List ResolvedStatement → Type 0
AreSettled ctx settled body =
    (k : ℕ) (st : ResolvedStatement) → slice_get settled k ≡ Some true → slice_get body k ≡ Some st
    → is_resolved_statement_typed ctx st ≡ true

-- the settled statements of a node keep the rules of types by its shared part
abbrev pub IsJudgedPart : Reached → Table → SharedPart → Type 0
IsJudgedPart r t p =
    (n : ResolvedNode) → slice_get r.nodes.items p.part.node.0 ≡ Some n →
    AreSettled (context_of r t n p.part) p.settled.items n.body.items

abbrev pub AreJudgedParts : Reached → Table → List SharedPart → Type 0
AreJudgedParts r t ps = All (IsJudgedPart r t) ps
