-- The types of the inputs and outputs of the node under test, where instantiation refuses nothing.
use Rattle.std.proofs.Common.{◌≡◌, ℕ, Bool, true, false, List, [], ◌∷◌, ◌++◌, map, Option, Some}
use Rattle.std.proofs.Common.{None, option_map, refl, ap, sym, ◌∙◌}
use Rattle.std.specs.Prelude.{◌&&◌, nat_le, is_some, reverse}
use Rattle.std.specs.List.{list_all, flat_map}
use Rattle.std.proofs.lemmas.List.Folds.{list_all-append}
use Rattle.std.proofs.lemmas.List.{append_assoc}
use Rattle.lb_syntax.specs.Lists.{all_some, listed, or_else, holds}
use Rattle.lb_syntax.specs.Refusals.{Refusal, E5, E6, E12, unless}
use Rattle.lb_syntax.specs.Tree.{Static, Declaration}
use Rattle.lb_syntax.proofs.TruthValues.{and_first, and_second}
use Rattle.lb_static.specs.Instances.{Program, Instance, Root, Observer, children, instances}
use Rattle.lb_static.specs.Instances.{instances_from, instance_at, static_count}
use Rattle.lb_static.specs.Parts.{declared_sizes, node_sizes}
use Rattle.lb_static.specs.DataTypes.{variables, variable_type}
use Rattle.lb_static.specs.Instantiation.{has_values, is_between, is_in_range, may_enter}
use Rattle.lb_static.specs.Instantiation.{instantiation_refusal}
use Rattle.lb_static.proofs.Options.{all_some-map-reverse}

-- ## The first instance

unrefused : (a b d : Bool) (o : Option Refusal)
    → or_else (or_else (unless a E12) (or_else (unless b E5) (unless d E6))) o ≡ None → d ≡ true
unrefused true true true o e = refl
unrefused true true false o e = absurd cc
unrefused true false d o e = absurd cc
unrefused false b d o e = absurd cc

root_in_range : (P : Program) (here : Instance) → instance_at P Root ≡ Some here
    → instantiation_refusal P 0 (instances P) ≡ None → is_in_range P here ≡ true
root_in_range P here is instantiated =
    unrefused (may_enter P 0 here) (has_values P here) (is_in_range P here)
    (instantiation_refusal P 1 (flat_map (instances_from P 64) (children P here)
    ++ listed (instances_from P 65) (instance_at P Observer)))
    (ap (λ o. instantiation_refusal P 0
    (listed (instances_from P 65) o ++ listed (instances_from P 65) (instance_at P Observer)))
    (sym is) ∙ instantiated)

-- ## Types

abbrev pub all_or_none : {A : Type 0} → Option A → Option (List A) → Option (List A)
all_or_none None p = None
all_or_none (Some x) p = option_map (λ xs. x ∷ xs) p

present : {A : Type 0} (o : Option A) (p : Option (List A)) → is_some o ≡ true → is_some p ≡ true
    → is_some (all_or_none o p) ≡ true
present None p f g = absurd cc
present (Some x) None f g = absurd cc
present (Some x) (Some xs) f g = refl

pub all_some-cons : {A : Type 0} (o : Option A) (os : List (Option A))
    → all_some (o ∷ os) ≡ all_or_none o (all_some os)
all_some-cons None os = refl
all_some-cons (Some x) os = refl

-- if `f` has a value where `p` passes, it has one on each item of a list whose items all pass
pub all_present : {A B : Type 0} (f : A → Option B) (p : A → Bool)
    → ((a : A) → p a ≡ true → is_some (f a) ≡ true) → (xs : List A) → list_all p xs ≡ true
    → is_some (all_some (map f xs)) ≡ true
all_present f p each [] e = refl
all_present f p each (x ∷ xs) e =
    ap is_some (all_some-cons (f x) (map f xs))
    ∙ present (f x) (all_some (map f xs)) (each x (and_first (p x) (list_all p xs) e))
    (all_present f p each xs (and_second (p x) (list_all p xs) e))

between_some : (o : Option ℕ) → holds (λ n. nat_le 1 n && nat_le n 4096) o ≡ true → is_some o ≡ true
between_some None e = absurd cc
between_some (Some n) e = refl

counted : (P : Program) (here : Instance) (ss : List Static)
    → list_all (is_between P here 1 4096) ss ≡ true
    → is_some (all_some (map (static_count P here) ss)) ≡ true
counted P here ss e = all_present (static_count P here) (is_between P here 1 4096)
    (λ s f. between_some (static_count P here s) f) ss e

mapped_some : {A B : Type 0} (f : A → B) (o : Option A) → is_some (option_map f o) ≡ is_some o
mapped_some f None = refl
mapped_some f (Some x) = refl

-- the sizes of a declaration are in range
abbrev is_sized : Program → Instance → Declaration → Bool
is_sized P here d = list_all (is_between P here 1 4096) d.sizes

has_type : (P : Program) (here : Instance) (d : Declaration) → is_sized P here d ≡ true
    → is_some (variable_type P here d) ≡ true
has_type P here d e =
    mapped_some (λ ns. record { kind = d.kind; sizes = ns })
    (all_some (map (static_count P here) (reverse d.sizes)))
    ∙ ap is_some (all_some-map-reverse (static_count P here) d.sizes)
    ∙ mapped_some reverse (all_some (map (static_count P here) d.sizes)) ∙ counted P here d.sizes e

sized : (P : Program) (here : Instance) (ds : List Declaration)
    → list_all (is_between P here 1 4096) (flat_map (λ d. d.sizes) ds)
    ≡ list_all (is_sized P here) ds
sized P here [] = refl
sized P here (d ∷ ds) =
    list_all-append (is_between P here 1 4096) d.sizes (flat_map (λ d. d.sizes) ds)
    ∙ ap (λ b. is_sized P here d && b) (sized P here ds)

-- the inputs and outputs of the node under test have types
pub root_has_types : (P : Program) (here : Instance) → instance_at P Root ≡ Some here
    → instantiation_refusal P 0 (instances P) ≡ None
    → is_some (all_some (map (variable_type P here) (here.node.inputs ++ here.node.outputs))) ≡ true
root_has_types P here is instantiated =
    let n = here.node in
    let between = is_between P here 1 4096 in
    let all = and_first (list_all between (node_sizes n)) _
    (root_in_range P here is instantiated) in
    let declared = and_first (list_all between (declared_sizes n)) _
    (sym (list_all-append between (declared_sizes n) _) ∙ all) in
    let of_variables = sym (sized P here (variables n)) ∙ declared in
    let of_interface = and_first (list_all (is_sized P here) (n.inputs ++ n.outputs)) _
    (sym (list_all-append (is_sized P here) (n.inputs ++ n.outputs) n.locals)
    ∙ ap (list_all (is_sized P here)) (append_assoc n.inputs n.outputs n.locals) ∙ of_variables) in
    all_present (variable_type P here) (is_sized P here) (has_type P here) (n.inputs ++ n.outputs)
    of_interface
