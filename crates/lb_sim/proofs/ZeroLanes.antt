-- Words that are 0 in each lane, and the row of them that a lane shows.
use Rattle.std.proofs.Common.{◌≡◌, ℕ, ◌+◌, ◌<◌, List, [], ◌∷◌, ◌++◌, ℤ, pos, get_or, length, map}
use Rattle.std.proofs.Common.{replicate, ap, sym, subst, ◌∙◌, inl, inr, arith}
use Rattle.std.proofs.lemmas.Bool.{cases_lt}
use Rattle.std.proofs.lemmas.List.{get_or-replicate, get_or_append_left, get_or_push, length_push}
use Rattle.lb_syntax.specs.declared.tree.Kind.{Kind}
use Rattle.lb_lanes.specs.Kernels.{lane_of}
use Rattle.lb_lanes.specs.Planes.{on}
use Rattle.lb_lanes.proofs.OnPlanes.{on-zero}
use Rattle.lb_machine.specs.Meaning.{lane_at}
use Rattle.lb_sim.specs.InputRows.{AreZero, lane_row, truth_columns, number_columns, zero_of}
use Rattle.lb_sim.proofs.InputColumns.{row_zero}

-- one word more is 0 in each lane
pub zero_more :
    (xs ys : List (List ℤ)) (x : List ℤ) → ys ≡ xs ++ x ∷ [] → AreZero xs →
    ((i : ℕ) → i < 64 → lane_of x i ≡ pos 0) → AreZero ys
zero_more xs ys x same zero here =
    subst AreZero (sym same)
    (λ w i lw li.
    elim (cases_lt w (length xs)) [
      | inl below ↦
          ap (λ l. lane_of l i) (get_or_append_left xs (x ∷ []) [] w below) ∙ zero w i below li
      | inr above ↦
          let last : length xs ≡ w = omega (arith, above, lw, length_push xs x) in
          ap (λ l. lane_of l i) (get_or_push xs x [] w last) ∙ here i li
    ])

-- the row of a lane is 0 and false
pub row_of_zero :
    (kinds : List Kind) (planes : List ℕ) (words : List (List ℤ)) (i : ℕ) → i < 64 →
    planes ≡ replicate (length (truth_columns 0 kinds)) 0 → AreZero words →
    length words ≡ length (number_columns 0 kinds) →
    lane_row kinds planes words i ≡ map zero_of kinds
row_of_zero kinds planes words i li zero_planes zero long =
    row_zero (lane_at planes words i) kinds 0 0 0
    (λ b l.
    let e : 0 + b ≡ b = omega arith in
    ap (λ k. on (get_or planes k 0) i) e
    ∙ ap (λ xs. on (get_or xs b 0) i) zero_planes
    ∙ ap (λ p. on p i) (get_or-replicate (length (truth_columns 0 kinds)) b 0 0 l)
    ∙ on-zero i)
    (λ c l.
    let e : 0 + c ≡ c = omega arith in
    ap (λ k. lane_of (get_or words k []) i) e ∙ zero c i (omega (arith, l, long)) li)
