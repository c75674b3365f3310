-- Groups that are found one after the other.
use Rattle.std.proofs.Common.{ℕ, ◌≡◌, ◌+◌, ◌-◌, ◌≤◌, List, [], ◌∷◌, ◌++◌, drop, sym, ap, ◌∙◌, subst}
use Rattle.std.proofs.Common.{arith}
use Rattle.std.proofs.lemmas.List.{drop-drop}
use Rattle.lb_trace.specs.Groups.{AllGroups, IsGroup, width_of}
use Rattle.lb_trace.specs.declared.groups.Group.{Group}
use Rattle.lb_trace.specs.declared.header.Column.{Column}

-- groups are those of the first `n` columns
abbrev pub Covers : List Group → List Column → ℕ → Type 0
Covers [] columns n = n ≡ 0
Covers (group ∷ groups) columns n =
    IsGroup group columns × (width_of group ≤ n)
    × Covers groups (drop (width_of group) columns) (n - width_of group)

pub covers-more : (groups : List Group) (columns : List Column) (n : ℕ) (group : Group)
    → Covers groups columns n → IsGroup group (drop n columns)
    → Covers (groups ++ group ∷ []) columns (n + width_of group)
covers-more [] columns n group none is = (
  subst (λ k. IsGroup group (drop k columns)) none is,
  omega arith,
  omega (arith, none),
)
covers-more (g ∷ groups) columns n group covers is =
    let w : ℕ = width_of g in
    let left : w + (n - w) ≡ n = omega (arith, covers.1) in
    let next : n - w + width_of group ≡ n + width_of group - w = omega (arith, covers.1) in (
      covers.0,
      omega (arith, covers.1),
      subst (λ k. Covers (groups ++ group ∷ []) (drop w columns) k) next
          (covers-more groups (drop w columns) (n - w) group covers.2
          (subst (IsGroup group)
          (ap (λ k. drop k columns) (sym left) ∙ sym (drop-drop (n - w) w columns)) is)),
    )

pub covers-all : (groups : List Group) (columns : List Column) (n : ℕ) → Covers groups columns n
    → AllGroups groups columns
covers-all [] columns n covers = tt
covers-all (g ∷ groups) columns n covers =
    (covers.0, covers-all groups (drop (width_of g) columns) (n - width_of g) covers.2)
