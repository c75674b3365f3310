-- The variables of an instance, their types and their scalar elements.
-- Source: Lustre V6 reference manual, types and arrays. The order and the names of scalar elements
-- are this project's rule.
use Rattle.std.specs.Prelude.{ℕ, ◌*◌, nat_eq, Bool, true, false, ◌&&◌, Option, option_map, List, []}
use Rattle.std.specs.Prelude.{◌∷◌, ◌++◌, map, reverse, flat_map, codes, sum_by}
use Rattle.std.specs.Fmt.{decimal}
use Rattle.std.specs.List.{range_with_len}
use Rattle.lb_syntax.specs.Lists.{all_some, either_or, listed}
use Rattle.lb_syntax.specs.declared.tree.Kind.{Kind}
use Rattle.lb_syntax.specs.declared.tree.Kind.TheVariants.{Int as Int_kind, Bool as Bool_kind}
use Rattle.lb_syntax.specs.Tree.{Name, Declaration, Node}
use Rattle.lb_static.specs.Signature.{Elements, kinds_of}
use Rattle.lb_static.specs.Instances.{Program, Instance, Root, instance_at, static_count}

-- ## Types

-- a type: a kind and the sizes of an array of it, the outermost first; a scalar has none
pub record DataType : Type 0 where
  pub kind : Kind
  pub sizes : List ℕ

abbrev pub int : DataType
int = record { kind = Int_kind; sizes = [] }

abbrev pub truth : DataType
truth = record { kind = Bool_kind; sizes = [] }

abbrev pub is_kind : Kind → Kind → Bool
is_kind Int_kind Int_kind = true
is_kind Bool_kind Bool_kind = true
is_kind _ _ = false

abbrev pub same_sizes : List ℕ → List ℕ → Bool
same_sizes [] [] = true
same_sizes (n ∷ ns) (m ∷ ms) = nat_eq n m && same_sizes ns ms
same_sizes _ _ = false

abbrev pub is_type : DataType → DataType → Bool
is_type s t = is_kind s.kind t.kind && same_sizes s.sizes t.sizes

abbrev pub are_types : List DataType → List DataType → Bool
are_types [] [] = true
are_types (s ∷ ss) (t ∷ ts) = is_type s t && are_types ss ts
are_types _ _ = false

-- ## Scalar elements

abbrev pub product : List ℕ → ℕ
product [] = 1
product (n ∷ ns) = n * product ns

-- the number of scalar elements of a type
abbrev pub element_count : DataType → ℕ
element_count t = product t.sizes

-- the number of scalar elements of some types together
abbrev pub total : List DataType → ℕ
total ts = sum_by element_count ts

-- `[i]`
abbrev pub index_text : ℕ → Name
index_text i = codes "[" ++ (decimal i ++ codes "]")

-- the names of scalar elements, the first index slowest: `x`, `a[0]`, `m[1][2]`
abbrev pub element_names : Name → List ℕ → List Name
element_names x [] = x ∷ []
element_names x (n ∷ ns) = flat_map (λ i. element_names (x ++ index_text i) ns) (range_with_len 0 n)

-- ## Variables

-- inputs, outputs and locals, in this order
abbrev pub variables : Node → List Declaration
variables n = n.inputs ++ (n.outputs ++ n.locals)

-- the type of a variable, where its sizes have values
abbrev pub variable_type : Program → Instance → Declaration → Option DataType
variable_type P here d =
    let sizes = all_some (map (static_count P here) (reverse d.sizes)) in
    option_map (λ ns. record { kind = d.kind; sizes = ns }) sizes

-- the number of scalar elements of a variable
abbrev pub width : Program → Instance → Declaration → ℕ
width P here d = either_or (option_map element_count (variable_type P here d)) 0

-- the types of a node's inputs and of its outputs
abbrev pub input_types : Program → Instance → Option (List DataType)
input_types P n = all_some (map (variable_type P n) n.node.inputs)

abbrev pub output_types : Program → Instance → Option (List DataType)
output_types P n = all_some (map (variable_type P n) n.node.outputs)

-- ## The signature

-- the names and kinds of the scalar elements of a variable
abbrev pub scalar_elements : Program → Instance → Declaration → Elements
scalar_elements P here d =
    listed (λ t. map (λ x. (x, t.kind)) (element_names d.name t.sizes)) (variable_type P here d)

-- the scalar input elements of the node under test, in order
abbrev pub signature : Program → Elements
signature P =
    listed (λ root. flat_map (scalar_elements P root) root.node.inputs) (instance_at P Root)

-- the kinds of the cells of an instant of a trace, in the order of the signature
abbrev pub input_kinds : Program → List Kind
input_kinds P = kinds_of (signature P)
