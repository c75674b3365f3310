-- The types of the variables of a node by the values of its static expressions: they are those of
-- the definitions.
use Rattle.std.proofs.Common.{◌≡◌, ℕ, ℤ, List, [], ◌∷◌, length, take, drop, map, Option, Some, None}
use Rattle.std.proofs.Common.{option_map, refl, ap, sym, ◌∙◌, arith}
use Rattle.std.specs.Prelude.{reverse}
use Rattle.std.proofs.lemmas.List.{take-map, drop-map}
use Rattle.lb_syntax.specs.Lists.{◌>>=◌, all_some, zip2}
use Rattle.lb_syntax.specs.declared.tree.Kind.{Kind}
use Rattle.lb_syntax.specs.Tree.{Name, Static}
use Rattle.lb_static.specs.DataTypes.{DataType, variable_type}
use Rattle.lb_static.specs.Instances.{Program, Instance, static_value, static_count}
use Rattle.lb_static.specs.ResolvedTerms.{declaration_of}
use Rattle.lb_static.specs.StaticValues.{natural}
use Rattle.lb_static.specs.StoredTypes.{declared_type, naturals}
use Rattle.lb_static.specs.declared.resolved.Variable.{Variable}
use Rattle.lb_static.proofs.Options.{all_some-map-reverse}

-- a function `h` after `g` on texts is `h` on the values that `g` gives them
each_value : {A B C : Type 0} (g : A → Option B) (h : B → Option C) (ts : List A) (vs : List B)
    → map Some vs ≡ map g ts → map (λ s. g s >>= h) ts ≡ map h vs
each_value g h [] [] e = refl
each_value g h [] (v ∷ vs) e = absurd cc
each_value g h (t ∷ ts) [] e = absurd cc
each_value g h (t ∷ ts) (v ∷ vs) e =
    let first : Some v ≡ g t = cc in
    let rest : map Some vs ≡ map g ts = cc in
    ap (λ o. (o >>= h) ∷ map (λ s. g s >>= h) ts) (sym first)
    ∙ ap (λ l. h v ∷ l) (each_value g h ts vs rest)

part_values : {A B : Type 0} (g : A → Option B) (first count : ℕ) (ts : List A) (vs : List B)
    → map Some vs ≡ map g ts
    → map Some (take count (drop first vs)) ≡ map g (take count (drop first ts))
part_values g first count ts vs e =
    sym (take-map Some count (drop first vs))
    ∙ ap (take count) (sym (drop-map Some first vs)) ∙ ap (λ l. take count (drop first l)) e
    ∙ ap (take count) (drop-map g first ts) ∙ take-map g count (drop first ts)

abbrev type_with : Kind → List ℕ → DataType
type_with k ns = record { kind = k; sizes = ns }

module _ (P : Program) (here : Instance) (texts : List Static) (values : List ℤ)
    (valued : map Some values ≡ map (static_value P here) texts) where
  -- the type of a variable by the values is that of the definitions
  pub declared_is : (names : List Name) (x : Name) (v : Variable)
      → variable_type P here (declaration_of names texts x v) ≡ declared_type values v
  declared_is names x v =
      let ss = take v.sizes (drop v.first_size.0 texts) in
      let vs = take v.sizes (drop v.first_size.0 values) in
      ap (option_map (type_with v.kind)) (all_some-map-reverse (static_count P here) ss
      ∙ ap (λ os. option_map reverse (all_some os))
      (each_value (static_value P here) natural ss vs
      (part_values (static_value P here) v.first_size.0 v.sizes texts values valued)))
      ∙ by (naturals vs)
    where
      by : (o : Option (List ℕ)) → option_map (type_with v.kind) (option_map reverse o)
          ≡ option_map (λ ns. type_with v.kind (reverse ns)) o
      by None = refl
      by (Some ns) = refl

  -- the types of variables by the values are those of the definitions
  pub types_are : (all names : List Name) (vs : List Variable) → length names ≡ length vs
      → map (declared_type values) vs
      ≡ map (variable_type P here) (zip2 (declaration_of all texts) names vs)
  types_are all [] [] same = refl
  types_are all [] (v ∷ vs) same = absurd (omega (arith, same))
  types_are all (x ∷ xs) [] same = absurd (omega (arith, same))
  types_are all (x ∷ xs) (v ∷ vs) same =
      let others : length xs ≡ length vs = omega arith in
      ap (λ o. o ∷ map (declared_type values) vs) (sym (declared_is all x v))
      ∙ ap (λ l. variable_type P here (declaration_of all texts x v) ∷ l)
      (types_are all xs vs others)
