-- The types of the inputs and outputs of an instance are those of the definitions.
use Rattle.std.proofs.Common.{◌≡◌, ℕ, ◌+◌, ◌≤◌, ℤ, Bool, true, false, List, [], ◌∷◌, ◌++◌, length}
use Rattle.std.proofs.Common.{take, map, Option, Some, None, option_map, refl, ap, sym, ◌∙◌}
use Rattle.std.proofs.Common.{arith, length-append}
use Rattle.std.specs.Prelude.{nat_le, not, is_some}
use Rattle.std.specs.List.{list_all}
use Rattle.std.proofs.lemmas.Bool.Decides.{nat_tests}
use Rattle.std.proofs.lemmas.List.{length-map, length-take-le, take-map, take_at}
use Rattle.std.proofs.lemmas.List.{append_assoc}
use Rattle.std.proofs.lemmas.List.Folds.{list_all-map}
use Rattle.lb_syntax.specs.Lists.{◌>>=◌, all_some, where_true, zip2}
use Rattle.lb_syntax.specs.Tree.{Name, Static, Node, Declaration}
use Rattle.lb_static.specs.Instances.{Program, Instance, static_value}
use Rattle.lb_static.specs.Interfaces.{InterfaceView, has_no_clock, interface_variables}
use Rattle.lb_static.specs.Interfaces.{interface_under}
use Rattle.lb_static.specs.Parts.{variable_names}
use Rattle.lb_static.specs.ResolvedNodes.{IsResolved, node_of, statics_of}
use Rattle.lb_static.specs.ResolvedTerms.{declaration_of, sampling_of}
use Rattle.lb_static.specs.DataTypes.{DataType, variables, variable_type}
use Rattle.lb_static.specs.StoredTypes.{view_type, declared_type, declared_types}
use Rattle.lb_static.specs.Instantiation.{is_base_clocked, has_plain_clocks}
use Rattle.lb_static.specs.declared.resolved.ResolvedNode.{ResolvedNode}
use Rattle.lb_static.specs.declared.resolved.Sampling.{Sampling}
use Rattle.lb_static.specs.declared.resolved.Variable.{Variable}
use Rattle.lb_static.specs.declared.data_type.DataType as stored
use Rattle.lb_static.proofs.DeclaredTypes.{types_are}
use Rattle.lb_static.proofs.Options.{length-all_some}

-- there are at least as many types as inputs
pub inputs_fit : (n : ResolvedNode) (statics : List ℤ) (vs : List Variable)
    (data_types : List stored.DataType) → Some vs ≡ interface_variables n
    → declared_types statics vs ≡ Some (map view_type data_types) → n.inputs ≤ length data_types
inputs_fit n statics vs data_types found there =
    by (nat_le (n.inputs + n.outputs) (length n.variables.items)) refl found
  where
    by : (b : Bool) → nat_le (n.inputs + n.outputs) (length n.variables.items) ≡ b
        → Some vs ≡ where_true b (take (n.inputs + n.outputs) n.variables.items)
        → n.inputs ≤ length data_types
    by false e f = absurd cc
    by true e f =
        let same : vs ≡ take (n.inputs + n.outputs) n.variables.items = cc in
        let within : n.inputs + n.outputs ≤ length n.variables.items = grind (arith, nat_tests) in
        let a = length-all_some (map (declared_type statics) vs) (map view_type data_types) there in
        let b = length-map vs (declared_type statics) in
        let d = length-map data_types view_type in
        let f : length vs ≡ n.inputs + n.outputs =
        ap length same ∙ length-take-le (n.inputs + n.outputs) n.variables.items within in
        omega arith

-- ## Clocks

clocks_are : (P : Program) (texts : List Static) (all names : List Name) (vs : List Variable)
    → length names ≡ length vs
    → map has_no_clock vs ≡ map (is_base_clocked P) (zip2 (declaration_of all texts) names vs)
clocks_are P texts all [] [] same = refl
clocks_are P texts all [] (v ∷ vs) same = absurd (omega (arith, same))
clocks_are P texts all (x ∷ xs) [] same = absurd (omega (arith, same))
clocks_are P texts all (x ∷ xs) (v ∷ vs) same =
    let others : length xs ≡ length vs = omega arith in
    ap (λ b. not b ∷ map has_no_clock vs) (by v.clock)
    ∙ ap (λ l. is_base_clocked P (declaration_of all texts x v) ∷ l)
    (clocks_are P texts all xs vs others)
  where
    by : (o : Option Sampling) → is_some o ≡ is_some (option_map (sampling_of all) o)
    by None = refl
    by (Some s) = refl

-- ## The inputs and outputs of a node with values

-- an instance has the node `n` and the values `statics` of its static expressions
pub record Stands (P : Program) (names : List Name) (here : Instance) (n : ResolvedNode)
    (statics : List ℤ) : Type 0 where
  pub node : node_of n ≡ here.node
  pub resolved : IsResolved names n
  pub values : map Some statics ≡ map (static_value P here) (statics_of n)

abbrev pub face_by : Node → ℕ → Bool → Option (List DataType) → Option InterfaceView
face_by node inputs plain o =
    option_map (λ ss. record { node = node; inputs = inputs; data_types = ss; is_plain = plain }) o

-- the interface of an instance by the definitions
abbrev pub face_of : Program → Instance → Option InterfaceView
face_of P here = face_by here.node (length here.node.inputs) (has_plain_clocks P here)
    (all_some (map (variable_type P here) (here.node.inputs ++ here.node.outputs)))

abbrev interface_of : Node → List Declaration
interface_of n = n.inputs ++ n.outputs

-- the inputs and outputs of a node are the first of its variables
interface_is : (n : Node) → take (length n.inputs + length n.outputs) (variables n) ≡ interface_of n
interface_is n =
    ap (take (length n.inputs + length n.outputs)) (sym (append_assoc n.inputs n.outputs n.locals))
    ∙ take_at (n.inputs ++ n.outputs) n.locals (length n.inputs + length n.outputs)
    (length-append n.inputs n.outputs)

pub face_is : (P : Program) (names : List Name) (here : Instance) (n : ResolvedNode)
    (statics : List ℤ) → Stands P names here n statics → interface_under n statics ≡ face_of P here
face_is P names here n statics s =
    let node = node_of n in
    let vs = n.variables.items in
    let k = n.inputs + n.outputs in
    let all = variable_names node in
    let texts = statics_of n in
    let count : k ≡ length node.inputs + length node.outputs =
    omega (arith, s.resolved.inputs, s.resolved.outputs) in
    let many : length (variables node) ≡ length node.inputs + length (node.outputs ++ node.locals) =
    length-append node.inputs (node.outputs ++ node.locals) in
    let more : length (node.outputs ++ node.locals) ≡ length node.outputs + length node.locals =
    length-append node.outputs node.locals in
    let long : length all ≡ length vs =
    length-map (variables node) (λ d. d.name) ∙ sym s.resolved.as_many in
    let within : k ≤ length vs = omega (arith, s.resolved.as_many) in
    let fits : nat_le k (length vs) ≡ true = grind (arith, nat_tests) in
    let data_types : map (declared_type statics) (take k vs)
    ≡ map (variable_type P here) (interface_of node) =
    sym (take-map (declared_type statics) k vs)
    ∙ ap (take k) (types_are P here texts statics s.values all all vs long
    ∙ ap (map (variable_type P here)) s.resolved.declared)
    ∙ take-map (variable_type P here) k (variables node)
    ∙ ap (λ j. map (variable_type P here) (take j (variables node))) count
    ∙ ap (map (variable_type P here)) (interface_is node) in
    let clocks : list_all has_no_clock (take k vs)
    ≡ list_all (is_base_clocked P) (interface_of node) =
    sym (list_all-map (λ b. b) has_no_clock (take k vs))
    ∙ ap (list_all (λ b. b)) (sym (take-map has_no_clock k vs)
    ∙ ap (take k) (clocks_are P texts all all vs long
    ∙ ap (map (is_base_clocked P)) s.resolved.declared)
    ∙ take-map (is_base_clocked P) k (variables node)
    ∙ ap (λ j. map (is_base_clocked P) (take j (variables node))) count
    ∙ ap (map (is_base_clocked P)) (interface_is node))
    ∙ list_all-map (λ b. b) (is_base_clocked P) (interface_of node) in
    ap (λ b. where_true b (take k vs) >>= λ vs. face_by node n.inputs (list_all has_no_clock vs)
    (declared_types statics vs)) fits
    ∙ ap (λ l. face_by node n.inputs (list_all has_no_clock (take k vs)) (all_some l)) data_types
    ∙ ap (λ b. face_by node n.inputs b (all_some (map (variable_type P here) (interface_of node))))
    clocks
    ∙ ap (λ i. face_by node i (list_all (is_base_clocked P) (interface_of node))
    (all_some (map (variable_type P here) (interface_of node)))) s.resolved.inputs
    ∙ ap (λ m. face_by m (length m.inputs) (list_all (is_base_clocked P) (interface_of m))
    (all_some (map (variable_type P here) (interface_of m)))) s.node
