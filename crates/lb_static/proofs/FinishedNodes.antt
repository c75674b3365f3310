-- A node that is resolved as a whole stands for its tree.
use Rattle.std.proofs.Common.{◌≡◌, ℕ, ◌+◌, true, List, [], ◌∷◌, ◌++◌, length, map, refl, ap, sym}
use Rattle.std.proofs.Common.{subst, ◌∙◌, length-append}
use Rattle.std.specs.Prelude.{flat_map, Vec}
use Rattle.std.specs.declared.alloc.Global.{Global}
use Rattle.std.specs.List.{list_all}
use Rattle.std.proofs.lemmas.Grind.{flat_map-append}
use Rattle.std.proofs.lemmas.List.{length-map, map-append, append_assoc}
use Rattle.lb_syntax.specs.Grammar.{Group, declared}
use Rattle.lb_syntax.specs.Lists.{zip2}
use Rattle.lb_syntax.specs.SourceView.{view_group, view_groups, view_node, view_source}
use Rattle.lb_syntax.specs.SourceView.{view_statement}
use Rattle.lb_syntax.specs.Tree.{Name, Static, Declaration, Node, Source, Statement}
use Rattle.lb_syntax.specs.declared.tree.Declarations.{Declarations}
use Rattle.lb_syntax.specs.declared.tree.Node as written
use Rattle.lb_syntax.specs.declared.tree.Source as written_source
use Rattle.lb_static.specs.Instances.{node_sites}
use Rattle.lb_static.specs.NameFaults.{IsNameFault}
use Rattle.lb_static.specs.NodeNames.{node_in}
use Rattle.lb_static.specs.NodeProgress.{Progress, texts, texts_in, counts_in, counts_kept}
use Rattle.lb_static.specs.NodeProgress.{nameless, after_groups, after_node, declaration_fits}
use Rattle.lb_static.specs.NodeProgress.{StatementsStand}
use Rattle.lb_static.specs.NodeProgress.{declaration_told, statement_told}
use Rattle.lb_static.specs.Parts.{among, right_side, variable_names}
use Rattle.lb_static.specs.Progressed.{progress, IsFinished}
use Rattle.lb_static.specs.ResolvedNodes.{texts_of, counts_of, statics_of, node_of}
use Rattle.lb_static.specs.ResolvedNodes.{IsResolved}
use Rattle.lb_static.specs.ResolvedTerms.{statement_of, declaration_of, site_of}
use Rattle.lb_static.specs.ResolvedTerms.{is_statement_within, is_statement_unhidden}
use Rattle.lb_static.specs.ResolvedTerms.{is_declared_within, is_site_within}
use Rattle.lb_static.specs.DataTypes.{variables}
use Rattle.lb_static.specs.SharedParts.{with_parts}
use Rattle.lb_static.specs.StaticParts.{Part, group_parts, node_static_parts, part_of, parts_of}
use Rattle.lb_static.specs.declared.error.StaticError.{StaticError}
use Rattle.lb_static.specs.declared.node_builder.NodeBuilder.{NodeBuilder}
use Rattle.lb_static.specs.declared.node_scope.NodeScope.{NodeScope}
use Rattle.lb_static.specs.declared.resolved.ResolvedNode.{ResolvedNode}
use Rattle.lb_static.specs.declared.resolved.ResolvedStatement.{ResolvedStatement}
use Rattle.lb_static.specs.declared.resolved.Variable.{Variable}
use Rattle.lb_static.proofs.Lists.{map_map}
use Rattle.lb_static.proofs.SharedParts.{kept_twice}

-- ## The progress of a node

-- the progress at the start: nothing is resolved
abbrev pub at_start : Source → written.Node → Progress
at_start source n = record
    { source = source; node = view_node n; declared = []; parts = []; calls = [] }

-- the progress at the end: all of the node is resolved
abbrev pub at_end : Source → written.Node → Progress
at_end source n = record {
  source = source;
  node = view_node n;
  declared = map nameless (variables (view_node n));
  parts = with_parts [] (node_static_parts n);
  calls = node_sites (view_node n);
}

-- the progress of a builder with nothing resolved is `at_start` of its source and its node
pub started : (node_scope : NodeScope) (s : Progress) (source : written_source.Source)
    (n : written.Node)
    → s ≡ record {
      source = view_source node_scope.source.now;
      node = node_in node_scope;
      declared =
          [];
      parts = [];
      calls = [];
    } → node_scope.source.now ≡ source → node_scope.tree.now ≡ n
    → s ≡ at_start (view_source source) n
started node_scope s source n e a b = e
    ∙ (λ j. record {
      source =
          view_source (a j);
      node = view_node (b j);
      declared = [];
      parts = [];
      calls = [];
    })

pub groups_after : (s t u : Progress) (gs hs : List Declarations) → s ≡ t → gs ≡ hs
    → u ≡ after_groups s (view_groups gs) → u ≡ after_groups t (view_groups hs)
groups_after s t u gs hs a b e = e ∙ (λ j. after_groups (a j) (view_groups (b j)))

pub groups_fit : (s t : Progress) (gs hs : List Declarations) → s ≡ t → gs ≡ hs
    → list_all (declaration_fits s) (declared (view_groups gs)) ≡ true
    → list_all (declaration_fits t) (declared (view_groups hs)) ≡ true
groups_fit s t gs hs a b e =
    (λ j. list_all (declaration_fits (sym a j)) (declared (view_groups (sym b j)))) ∙ e

pub groups_refused : (f : StaticError) (s t : Progress) (gs hs : List Declarations) → s ≡ t
    → gs ≡ hs
    → IsNameFault f (list_all (declaration_told f s) (declared (view_groups gs)))
    → IsNameFault f (list_all (declaration_told f t) (declared (view_groups hs)))
groups_refused f s t gs hs a b h =
    let same : list_all (declaration_told f s) (declared (view_groups gs))
    ≡ list_all (declaration_told f t) (declared (view_groups hs)) =
    λ j. list_all (declaration_told f (a j)) (declared (view_groups (b j))) in
    subst (IsNameFault f) same h

pub body_refused : (f : StaticError) (s t : Progress) (xs ys : List Statement) → s ≡ t → xs ≡ ys
    → IsNameFault f (list_all (statement_told f s) xs)
    → IsNameFault f (list_all (statement_told f t) ys)
body_refused f s t xs ys a b h =
    let same : list_all (statement_told f s) xs ≡ list_all (statement_told f t) ys =
    λ j. list_all (statement_told f (a j)) (b j) in
    subst (IsNameFault f) same h

-- the number of variables after the inputs and after the outputs, where there was none before
module _ (n : written.Node) (s t : Progress) (none : s.declared ≡ []) where
  abbrev inputs : List Declaration
  inputs = map nameless (declared (view_groups n.inputs.items))

  abbrev outputs : List Declaration
  outputs = map nameless (declared (view_groups n.outputs.items))

  pub inputs_counted : t ≡ after_groups s (view_groups n.inputs.items)
      → length t.declared ≡ length (view_node n).inputs
  inputs_counted e =
      ap (λ u. length u.declared) e ∙ ap (λ l. length (l ++ inputs)) none
      ∙ length-map (view_node n).inputs nameless

  pub outputs_counted : t ≡ after_groups (after_groups s (view_groups n.inputs.items))
      (view_groups n.outputs.items)
      → length t.declared ≡ length (view_node n).inputs + length (view_node n).outputs
  outputs_counted e =
      let a = length-map (view_node n).inputs nameless in
      let b = length-map (view_node n).outputs nameless in
      ap (λ u. length u.declared) e ∙ ap (λ l. length ((l ++ inputs) ++ outputs)) none
      ∙ length-append inputs outputs ∙ (λ j. a j + b j)

module _ (source : Source) (n : written.Node) where
  abbrev ins : List Group
  ins = view_groups n.inputs.items

  abbrev outs : List Group
  outs = view_groups n.outputs.items

  abbrev locals : List Group
  locals = view_groups n.locals.items

  abbrev body : List Statement
  body = map view_statement n.body.items

  abbrev start : Progress
  start = at_start source n

  abbrev body_parts : List Part
  body_parts = flat_map (λ s. parts_of (λ x. among x (variable_names (view_node n))) (right_side s))
      body

  declared_all : (map nameless (declared ins) ++ map nameless (declared outs))
      ++ map nameless (declared locals) ≡ map nameless (variables (view_node n))
  declared_all =
      append_assoc (map nameless (declared ins)) (map nameless (declared outs))
      (map nameless (declared locals))
      ∙ ap (λ l. map nameless (declared ins) ++ l)
      (sym (map-append nameless (declared outs) (declared locals)))
      ∙ sym (map-append nameless (declared ins) (declared outs ++ declared locals))

  groups_all : (flat_map group_parts ins ++ flat_map group_parts outs)
      ++ flat_map group_parts locals
      ≡ flat_map group_parts (view_groups (n.inputs.items ++ (n.outputs.items ++ n.locals.items)))
  groups_all =
      append_assoc (flat_map group_parts ins) (flat_map group_parts outs)
      (flat_map group_parts locals)
      ∙ ap (λ l. flat_map group_parts ins ++ l) (sym (flat_map-append group_parts outs locals))
      ∙ sym (flat_map-append group_parts ins (outs ++ locals))
      ∙ ap (λ l. flat_map group_parts (ins ++ l))
      (sym (map-append view_group n.outputs.items n.locals.items))
      ∙ ap (flat_map group_parts)
      (sym (map-append view_group n.inputs.items (n.outputs.items ++ n.locals.items)))

  parts_all : with_parts (with_parts (with_parts (with_parts [] (flat_map group_parts ins))
      (flat_map group_parts outs)) (flat_map group_parts locals)) body_parts
      ≡ with_parts [] (node_static_parts n)
  parts_all =
      let i = flat_map group_parts ins in
      let o = flat_map group_parts outs in
      let l = flat_map group_parts locals in
      ap (λ ps. with_parts (with_parts ps l) body_parts) (kept_twice [] i o)
      ∙ ap (λ ps. with_parts ps body_parts) (kept_twice [] (i ++ o) l)
      ∙ kept_twice [] ((i ++ o) ++ l) body_parts
      ∙ ap (λ ps. with_parts [] (ps ++ body_parts)) groups_all

  pub all_found : after_node start n ≡ at_end source n
  all_found =
      λ j. record {
        source = source;
        node = view_node n;
        declared = declared_all j;
        parts = parts_all j;
        calls = node_sites (view_node n);
      }

-- ## A node that is resolved

-- the declarations from variables, with the names put back
with_names : (names : List Name) (statics : List Static) (vs : List Variable)
    (ds : List Declaration) → map (declaration_of names statics []) vs ≡ map nameless ds
    → zip2 (declaration_of names statics) (map (λ d. d.name) ds) vs ≡ ds
with_names names statics [] [] e = refl
with_names names statics [] (d ∷ ds) e = absurd cc
with_names names statics (v ∷ vs) [] e = absurd cc
with_names names statics (v ∷ vs) (d ∷ ds) e =
    let h : declaration_of names statics [] v ≡ nameless d = cc in
    let g : map (declaration_of names statics []) vs ≡ map nameless ds = cc in
    let one : declaration_of names statics d.name v ≡ d =
    λ j. record {
      name = d.name;
      kind =
          (h j).kind;
      sizes = (h j).sizes;
      clock = (h j).clock;
    } in
    ap (λ x. x ∷ zip2 (declaration_of names statics) (map (λ y. y.name) ds) vs) one
    ∙ ap (λ l. d ∷ l) (with_names names statics vs ds g)

module _ (f : NodeBuilder) (source : written_source.Source) (n : written.Node) (inputs outputs : ℕ)
    (body : Vec ResolvedStatement Global) (r : ResolvedNode)
    (all : progress f ≡ at_end (view_source source) n) (done : IsFinished f n inputs outputs body r)
  where
    abbrev N : Node
    N = view_node n

    abbrev names : List Name
    names = map (λ m. m.name) (view_source source).nodes

    same_node : node_in f.node_scope ≡ node_of r
    same_node = ap (λ s. s.node) all ∙ ap view_node (sym done.tree_is)

    same_statics : texts_in f.statics.parts.items ≡ statics_of r
    same_statics = ap texts_in (sym done.statics)

    as_many : length r.variables.items ≡ length (variables (node_of r))
    as_many =
        ap length done.variables
        ∙ sym (length-map f.variables.items
        (declaration_of (variable_names (node_in f.node_scope)) (texts_in f.statics.parts.items) []))
        ∙ ap (λ s. length s.declared) all ∙ length-map (variables N) nameless
        ∙ ap (λ m. length (variables (view_node m))) (sym done.tree_is)

    declared_are : zip2 (declaration_of (variable_names (node_of r)) (statics_of r))
        (variable_names (node_of r)) r.variables.items ≡ variables (node_of r)
    declared_are =
        with_names (variable_names (node_of r)) (statics_of r) r.variables.items
        (variables (node_of r))
        (ap (map (declaration_of (variable_names (node_of r)) (statics_of r) [])) done.variables
        ∙ (λ j. map (declaration_of (variable_names (sym same_node j)) (sym same_statics j) [])
        f.variables.items)
        ∙ ap (λ s. s.declared) all
        ∙ ap (λ m. map nameless (variables (view_node m))) (sym done.tree_is))

    calls_are : map (site_of names (statics_of r)) r.calls.items ≡ node_sites (node_of r)
    calls_are =
        ap (map (site_of names (statics_of r))) done.calls
        ∙ (λ j. map (site_of (map (λ (m : Node). m.name) ((sym all j).source.nodes))
        (sym same_statics j)) f.calls.items)
        ∙ ap (λ s. s.calls) all ∙ ap (λ m. node_sites (view_node m)) (sym done.tree_is)

    statics_are : map part_of r.statics.items ≡ with_parts [] (node_static_parts r.tree.now)
    statics_are = ap (map part_of) done.statics ∙ ap (λ s. s.parts) all
        ∙ ap (λ w. with_parts [] (node_static_parts w)) (sym done.tree_is)

    same_texts : texts (progress f) ≡ texts_of r
    same_texts =
        let statics = map_map part_of (λ p. p.1) f.statics.parts.items ∙ same_statics in
        let calls = ap (λ s. s.calls) all ∙ ap (λ m. node_sites (view_node m)) (sym done.tree_is) in
        λ j. record {
          variables =
              variable_names (same_node j);
          statics = statics j;
          calls = calls j;
        }

    same_variables : length (variable_names (node_in f.node_scope)) ≡ length r.variables.items
    same_variables =
        ap (λ m. length (variable_names m)) same_node
        ∙ length-map (variables (node_of r)) (λ d. d.name) ∙ sym as_many

    same_counts : counts_kept f.node_scope f.statics.parts.items f.calls.items ≡ counts_of r
    same_counts =
        λ j. record {
          variables = same_variables j;
          statics = length (sym done.statics j);
          calls = length (sym done.calls j);
        }

    -- the numbers of variables, static expressions and calls
    same_counts_in : counts_in (texts (progress f)) ≡ counts_of r
    same_counts_in =
        let statics = length-map (map part_of f.statics.parts.items) (λ p. p.1)
        ∙ length-map f.statics.parts.items part_of in
        let calls =
        length-map f.calls.items
        (site_of (map (λ (m : Node). m.name) (view_source f.node_scope.source.now).nodes)
        (texts_in f.statics.parts.items)) in
        (λ j. record {
          variables = length (variable_names (node_in f.node_scope));
          statics =
              statics j;
          calls = calls j;
        }) ∙ same_counts

    nodes_are : length f.node_scope.source.now.nodes.items ≡ length names
    nodes_are =
        sym (length-map f.node_scope.source.now.nodes.items view_node)
        ∙ ap (λ s. length s.source.nodes) all
        ∙ sym (length-map (view_source source).nodes (λ m. m.name))

    calls_within : list_all (is_site_within (length names) (counts_of r)) r.calls.items ≡ true
    calls_within =
        (λ j. list_all (is_site_within (sym nodes_are j) (sym same_counts j)) (done.calls j))
        ∙ f.sound.calls_within

    declared_within : list_all (is_declared_within (counts_of r)) r.variables.items ≡ true
    declared_within = (λ j. list_all (is_declared_within (sym same_counts j)) (done.variables j))
        ∙ f.sound.declared_within

    pub resolved : StatementsStand (progress f) N.body body.items → inputs ≡ length N.inputs
        → outputs ≡ length N.outputs → IsResolved names r
    resolved stand ins outs = record {
      inputs = done.inputs_are ∙ ins ∙ ap (λ m. length (view_node m).inputs) (sym done.tree_is);
      outputs = done.outputs_are ∙ outs ∙ ap (λ m. length (view_node m).outputs) (sym done.tree_is);
      declared = declared_are;
      as_many = as_many;
      body = (λ j. map (statement_of (sym same_texts j)) (done.body_is j)) ∙ stand.0
          ∙ ap (λ m. (view_node m).body) (sym done.tree_is);
      calls = calls_are;
      statics = statics_are;
      unhidden = (λ j. list_all (is_statement_unhidden (sym same_texts j)) (done.body_is j))
          ∙ stand.2;
      declared_within = declared_within;
      body_within = (λ j. list_all (is_statement_within (sym same_counts_in j)) (done.body_is j))
          ∙ stand.1;
      calls_within = calls_within;
    }
