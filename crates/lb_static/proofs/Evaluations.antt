-- The values of the static expressions of a node, one after another.
use Rattle.std.proofs.Common.{◌≡◌, ℕ, ◌+◌, ℤ, true, List, [], ◌∷◌, length}
use Rattle.std.proofs.Common.{map, Option, Some, None, option_map, refl, ap, sym, ◌∙◌}
use Rattle.std.proofs.Common.{subst}
use Rattle.std.proofs.lemmas.List.{length-map}
use Rattle.std.specs.Prelude.{nat_le}
use Rattle.std.specs.List.{list_all}
use Rattle.lb_syntax.specs.Lists.{all_some}
use Rattle.lb_syntax.specs.Tree.{Name}
use Rattle.lb_syntax.proofs.TruthValues.{and_first}
use Rattle.lb_static.specs.Specialized.{part_value, part_values}
use Rattle.lb_static.specs.ResolvedNodes.{counts_of}
use Rattle.lb_static.specs.ResolvedTerms.{is_declared_within, is_sampling_within}
use Rattle.lb_static.specs.declared.resolved.ResolvedNode.{ResolvedNode}
use Rattle.lb_static.specs.declared.resolved.StaticPart.{StaticPart}
use Rattle.lb_static.proofs.Growth.{all_on}

-- ## As many values as expressions

pub some_each : {A : Type 0} (os : List (Option A)) (vs : List A) → all_some os ≡ Some vs
    → map (λ v. Some v) vs ≡ os
some_each [] [] e = refl
some_each [] (v ∷ vs) e = absurd cc
some_each (None ∷ os) vs e = absurd cc
some_each {A = A} (Some x ∷ os) vs e = by (all_some os) (λ xs h. some_each os xs h) e
  where
    by : (o : Option (List A)) → ((xs : List A) → o ≡ Some xs → map (λ v. Some v) xs ≡ os)
        → option_map (λ xs. x ∷ xs) o ≡ Some vs
        → map (λ v. Some v) vs ≡ Some x ∷ os
    by None h g = absurd cc
    by (Some xs) h g =
        let same : x ∷ xs ≡ vs = cc in
        subst (λ l. map (λ v. Some v) l ≡ Some x ∷ os) same (ap (λ l. Some x ∷ l) (h xs refl))

pub as_many_values : (given : Name → Option ℤ) (ps : List StaticPart) (vs : List ℤ)
    → part_values given ps ≡ Some vs → length vs ≡ length ps
as_many_values given ps vs e =
    sym (length-map vs (λ v. Some v)) ∙ ap length (some_each (map (part_value given) ps) vs e)
    ∙ length-map ps (part_value given)

-- the sizes of each variable are within the static expressions
pub sizes_stand : (n : ResolvedNode) (count : ℕ) → count ≡ length n.statics.items
    → list_all (is_declared_within (counts_of n)) n.variables.items ≡ true
    → list_all (λ v. nat_le (v.first_size.0 + v.sizes) count) n.variables.items ≡ true
sizes_stand n count e h =
    subst (λ k. list_all (λ v. nat_le (v.first_size.0 + v.sizes) k) n.variables.items ≡ true)
    (sym e)
    (all_on (is_declared_within (counts_of n))
    (λ v. nat_le (v.first_size.0 + v.sizes) (length n.statics.items)) n.variables.items
    (λ v g. and_first (nat_le (v.first_size.0 + v.sizes) (length n.statics.items))
    (is_sampling_within (counts_of n) v.clock) g) h)
