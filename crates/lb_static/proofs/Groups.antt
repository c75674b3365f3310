-- The declarations of groups, group by group.
use Rattle.std.proofs.Common.{◌≡◌, ℕ, ◌+◌, ◌<◌, List, ◌++◌, length, drop, get_or, ap, sym, ◌∙◌}
use Rattle.std.proofs.lemmas.List.{drop_more}
use Rattle.lb_syntax.specs.declared.tree.Declarations.{Declarations}
use Rattle.lb_syntax.specs.Grammar.{declarations, declared}
use Rattle.lb_syntax.specs.SourceView.{view_group, view_groups}

pub groups_next : (gs : List Declarations) (i : ℕ) (g : Declarations) → i < length gs
    → g ≡ get_or gs i g
    → declared (view_groups (drop i gs)) ≡ declarations (view_group g)
    ++ declared (view_groups (drop (i + 1) gs))
groups_next gs i g below is =
    ap (λ l. declared (view_groups l)) (drop_more gs i g below)
    ∙ ap (λ h. declarations (view_group h) ++ declared (view_groups (drop (i + 1) gs))) (sym is)
