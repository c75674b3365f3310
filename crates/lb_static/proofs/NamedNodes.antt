-- Each name of a node has a meaning where its declarations and its statements pass.
use Rattle.std.proofs.Common.{◌≡◌, Bool, true, false, List, [], ◌∷◌, ◌++◌, Option, None, Some, map}
use Rattle.std.proofs.Common.{option_map, refl, ap, sym, ◌∙◌}
use Rattle.std.specs.Prelude.{◌&&◌, flat_map}
use Rattle.std.specs.List.{list_all}
use Rattle.std.proofs.lemmas.List.Folds.{list_all-append}
use Rattle.std.proofs.Math.Bool.{and_assoc}
use Rattle.std.proofs.lemmas.Bool.{and_from, and_left, and_right}
use Rattle.lb_syntax.specs.Lists.{some_of}
use Rattle.lb_syntax.specs.Tree.{Name, Node, Declaration, Sampling, Static, Expr}
use Rattle.lb_syntax.proofs.TruthValues.{both_ways, and_first, and_second}
use Rattle.lb_static.specs.Instances.{Program, node_sites}
use Rattle.lb_static.specs.CountedNames.{NameUse, Declares, Statics, Values, Variables}
use Rattle.lb_static.specs.CountedNames.{are_once, counted, every, is_callable_where}
use Rattle.lb_static.specs.CountedNames.{is_named_where, means_where}
use Rattle.lb_static.specs.NameFaults.{IsNameFault, is_told}
use Rattle.lb_static.specs.Names.{are_distinct, is_known, is_named, is_static_name, is_variable}
use Rattle.lb_static.specs.NodeNames.{static_passes_where, statics_pass_where}
use Rattle.lb_static.specs.NodeProgress.{Progress, program_of, clock_fits_where}
use Rattle.lb_static.specs.NodeProgress.{declaration_fits, declaration_fits_where, declaration_told}
use Rattle.lb_static.specs.NodeProgress.{node_fits, node_told, statement_fits}
use Rattle.lb_static.specs.NodeProgress.{statement_fits_where, statement_told}
use Rattle.lb_static.specs.Parts.{left_names, node_parts, own_names, own_sizes, own_indexes}
use Rattle.lb_static.specs.Parts.{own_arguments, own_clock_names, node_names, node_statics}
use Rattle.lb_static.specs.Parts.{node_static_names, declared_names, declared_sizes, static_names}
use Rattle.lb_static.specs.Parts.{clock_names}
use Rattle.lb_static.specs.DataTypes.{variables}
use Rattle.lb_static.specs.declared.error.StaticError.{StaticError}
use Rattle.lb_static.proofs.Faults.{fault_within}
use Rattle.lb_static.proofs.NodeNameRules.{all_and, body_is, own}
use Rattle.lb_static.proofs.TestedItems.{all_flat}

-- ## Tests

-- the parts of the rule of names, in the order of the rule and in that of the code
arranged : (c k s t d e l : Bool)
    → (c && (k && ((s && t) && ((d && e) && l)))) ≡ ((s && d) && (l && ((k && (e && t)) && c)))
arranged c k s t d e l =
    both_ways _ _
    (λ h.
    let c' = and_first c _ h in
    let h' = and_second c _ h in
    let k' = and_first k _ h' in
    let g = and_second k _ h' in
    let st = and_first (s && t) _ g in
    let del = and_second (s && t) _ g in
    let de = and_first (d && e) l del in
    and_from (s && d) _ (and_from s d (and_first s t st) (and_first d e de))
    (and_from l _ (and_second (d && e) l del)
    (and_from (k && (e && t)) c
    (and_from k (e && t) k' (and_from e t (and_second d e de) (and_second s t st)))
    c')))
    (λ h.
    let sd = and_first (s && d) _ h in
    let g = and_second (s && d) _ h in
    let l' = and_first l _ g in
    let ketc = and_second l _ g in
    let ket = and_first (k && (e && t)) c ketc in
    let et = and_second k (e && t) ket in
    and_from c _ (and_second (k && (e && t)) c ketc)
    (and_from k _ (and_first k (e && t) ket)
    (and_from (s && t) _ (and_from s t (and_first s d sd) (and_second e t et))
    (and_from (d && e) l (and_from d e (and_second s d sd) (and_first e t et)) l'))))

-- ## The parts of a node, one after the other

module _ (counts : NameUse → Name → Bool) (here : Progress) (n : Node) where
  abbrev fit : List Declaration → Bool
  fit = list_all (declaration_fits_where counts here)

  abbrev statements_fit : Bool
  statements_fit = list_all (statement_fits_where counts here) n.body

  declarations_are : fit (variables n) ≡ (fit n.inputs && (fit n.outputs && fit n.locals))
  declarations_are =
      list_all-append (declaration_fits_where counts here) n.inputs (n.outputs ++ n.locals)
      ∙ ap (λ b. fit n.inputs && b)
      (list_all-append (declaration_fits_where counts here) n.outputs n.locals)

module _ (here : Progress) (n : Node) where
  abbrev fit_all : List Declaration → Bool
  fit_all = list_all (declaration_fits here)

  pub all_fit : fit_all n.inputs ≡ true → fit_all n.outputs ≡ true → fit_all n.locals ≡ true
      → list_all (statement_fits here) n.body ≡ true → node_fits here n ≡ true
  all_fit ins outs locals body =
      and_from _ _ (declarations_are every here n
      ∙ and_from _ _ ins (and_from _ _ outs locals)) body

module _ (here : Progress) (n : Node) (f : StaticError) where
  abbrev told : List Declaration → Bool
  told = list_all (declaration_told f here)

  declarations_fault : (b : Bool) → (b ≡ false → told (variables n) ≡ false)
      → IsNameFault f b → IsNameFault f (node_told f here n)
  declarations_fault b within h =
      fault_within f _ _ h (λ e. and_left _ (statements_fit (is_told f) here n) (within e))

  pub inputs_fault : IsNameFault f (told n.inputs) → IsNameFault f (node_told f here n)
  inputs_fault h = declarations_fault _
      (λ e. declarations_are (is_told f) here n ∙ and_left _ _ e) h

  pub outputs_fault : IsNameFault f (told n.outputs) → IsNameFault f (node_told f here n)
  outputs_fault h =
      declarations_fault _ (λ e. declarations_are (is_told f) here n
      ∙ and_right (told n.inputs) _ (and_left _ (told n.locals) e)) h

  pub locals_fault : IsNameFault f (told n.locals) → IsNameFault f (node_told f here n)
  locals_fault h =
      declarations_fault _ (λ e. declarations_are (is_told f) here n
      ∙ and_right (told n.inputs) _ (and_right (told n.outputs) _ e)) h

  pub body_fault : IsNameFault f (list_all (statement_told f here) n.body)
      → IsNameFault f (node_told f here n)
  body_fault h = fault_within f _ _ h (λ e. and_right (told (variables n)) _ e)

-- ## The rule of names

module _ (counts : NameUse → Name → Bool) (here : Progress) where
  abbrev P : Program
  P = program_of here

  abbrev n : Node
  n = here.node

  abbrev left : Name → Bool
  left = counted (counts Variables) (is_variable P n)

  abbrev clock_name : Declaration → Option Name
  clock_name d = option_map (λ s. s.variable) d.clock

  one_more : (c : Option Sampling) (rest : List (Option Name))
      → list_all left (some_of (option_map (λ s. s.variable) c ∷ rest))
      ≡ (clock_fits_where counts here c && list_all left (some_of rest))
  one_more None rest = refl
  one_more (Some c) rest = refl

  clocks_fit : (ds : List Declaration)
      → list_all left (some_of (map clock_name ds))
      ≡ list_all (λ d. clock_fits_where counts here d.clock) ds
  clocks_fit [] = refl
  clocks_fit (d ∷ ds) = one_more d.clock (map clock_name ds)
      ∙ ap (λ b. clock_fits_where counts here d.clock && b) (clocks_fit ds)

  abbrev in_parts : (Expr → Bool) → Bool
  in_parts p = list_all p (node_parts n)

  abbrev known : Name → Bool
  known = counted (counts Values) (is_known P n)

  abbrev passing : List Static → Bool
  passing = statics_pass_where counts P n

  -- the names in the expressions themselves
  own_is : list_all (own counts P n) (node_parts n)
      ≡ (in_parts (λ e. list_all known (own_names e))
      && (in_parts (λ e. list_all left (own_clock_names e))
      && (in_parts (λ e. passing (own_sizes e))
      && (in_parts (λ e. passing (own_indexes e)) && in_parts (λ e. passing (own_arguments e))))))
  own_is =
      all_and (λ e. list_all known (own_names e))
      (λ e. list_all left (own_clock_names e)
      && (passing (own_sizes e) && (passing (own_indexes e) && passing (own_arguments e))))
      (node_parts n)
      ∙ ap (λ b. in_parts (λ e. list_all known (own_names e)) && b)
      (all_and (λ e. list_all left (own_clock_names e))
      (λ e. passing (own_sizes e) && (passing (own_indexes e) && passing (own_arguments e)))
      (node_parts n)
      ∙ ap (λ b. in_parts (λ e. list_all left (own_clock_names e)) && b)
      (all_and (λ e. passing (own_sizes e))
      (λ e. passing (own_indexes e) && passing (own_arguments e)) (node_parts n)
      ∙ ap (λ b. in_parts (λ e. passing (own_sizes e)) && b)
      (all_and (λ e. passing (own_indexes e)) (λ e. passing (own_arguments e)) (node_parts n))))

  -- the names in static expressions
  statics_are : list_all (counted (counts Statics) (is_static_name P n)) (node_static_names n)
      ≡ (list_all (λ d. passing d.sizes) (variables n)
      && (in_parts (λ e. passing (own_sizes e))
      && (in_parts (λ e. passing (own_indexes e)) && in_parts (λ e. passing (own_arguments e)))))
  statics_are =
      let sizes = flat_map own_sizes (node_parts n) in
      let indexes = flat_map own_indexes (node_parts n) in
      let arguments = flat_map own_arguments (node_parts n) in
      let test = static_passes_where counts P n in
      all_flat (counted (counts Statics) (is_static_name P n)) static_names (node_statics n)
      ∙ list_all-append test (declared_sizes n ++ sizes) (indexes ++ arguments)
      ∙ ap (λ b. b && list_all test (indexes ++ arguments))
      (list_all-append test (declared_sizes n) sizes)
      ∙ ap (λ b. (list_all test (declared_sizes n) && list_all test sizes) && b)
      (list_all-append test indexes arguments)
      ∙ and_assoc (list_all test (declared_sizes n)) (list_all test sizes) _
      ∙ ap (λ b. b && (list_all test sizes && (list_all test indexes && list_all test arguments)))
      (all_flat test (λ (d : Declaration). d.sizes) (variables n))
      ∙ ap (λ b. list_all (λ (d : Declaration). passing d.sizes) (variables n)
      && (b && (list_all test indexes && list_all test arguments)))
      (all_flat test own_sizes (node_parts n))
      ∙ ap (λ b. list_all (λ (d : Declaration). passing d.sizes) (variables n)
      && (in_parts (λ e. passing (own_sizes e)) && (b && list_all test arguments)))
      (all_flat test own_indexes (node_parts n))
      ∙ ap (λ b. list_all (λ (d : Declaration). passing d.sizes) (variables n)
      && (in_parts (λ e. passing (own_sizes e)) && (in_parts (λ e. passing (own_indexes e)) && b)))
      (all_flat test own_arguments (node_parts n))

  -- the names of clocks, and left names
  variables_are : list_all left (clock_names n ++ flat_map left_names n.body)
      ≡ ((list_all (λ d. clock_fits_where counts here d.clock) (variables n)
      && in_parts (λ e. list_all left (own_clock_names e)))
      && list_all left (flat_map left_names n.body))
  variables_are =
      let test = left in
      let declared = some_of (map clock_name (variables n)) in
      let clocks = flat_map own_clock_names (node_parts n) in
      let lefts = flat_map left_names n.body in
      list_all-append test (clock_names n) lefts
      ∙ ap (λ b. b && list_all test lefts) (list_all-append test declared clocks)
      ∙ ap (λ b. (b && list_all test clocks) && list_all test lefts) (clocks_fit (variables n))
      ∙ ap (λ b. (list_all (λ (d : Declaration). clock_fits_where counts here d.clock) (variables n)
      && b) && list_all test lefts) (all_flat test own_clock_names (node_parts n))

  abbrev declarations_fit : Bool
  declarations_fit = list_all (declaration_fits_where counts here) (variables n)

  abbrev body_fits : Bool
  body_fits = list_all (statement_fits_where counts here) n.body

  means_is : means_where counts P n ≡ (declarations_fit && body_fits)
  means_is =
      let c = list_all (is_callable_where counts P) (node_sites n) in
      let k = in_parts (λ e. list_all known (own_names e)) in
      let s = list_all (λ (d : Declaration). passing d.sizes) (variables n) in
      let t = in_parts (λ e. passing (own_sizes e))
      && (in_parts (λ e. passing (own_indexes e))
      && in_parts (λ e. passing (own_arguments e))) in
      let d = list_all (λ (d : Declaration). clock_fits_where counts here d.clock) (variables n) in
      let e = in_parts (λ e. list_all left (own_clock_names e)) in
      let l = list_all left (flat_map left_names n.body) in
      let names = list_all known (node_names n) in
      let statics = list_all (counted (counts Statics) (is_static_name P n))
      (node_static_names n) in
      let clocks = list_all left (clock_names n ++ flat_map left_names n.body) in
      ap (λ b. c && (b && (statics && clocks))) (all_flat known own_names (node_parts n))
      ∙ ap (λ b. c && (k && (b && clocks))) statics_are
      ∙ ap (λ b. c && (k && ((s && t) && b))) variables_are
      ∙ arranged c k s t d e l
      ∙ ap (λ b. b && (l && ((k && (e && t)) && c)))
      (sym (all_and (λ (d : Declaration). passing d.sizes)
      (λ (d : Declaration). clock_fits_where counts here d.clock) (variables n)))
      ∙ ap (λ b. declarations_fit && (l && (b && c))) (sym own_is)
      ∙ ap (λ b. declarations_fit && b) (sym (body_is counts P n n.body))

-- ## A node that is named

pub all_named : (here : Progress) → are_distinct (declared_names here.node) ≡ true
    → node_fits here here.node ≡ true → is_named (program_of here) here.node ≡ true
all_named here once fit = and_from _ _ once (means_is every here ∙ fit)

pub node_fault : (here : Progress) (f : StaticError) → IsNameFault f (node_told f here here.node)
    → IsNameFault f (is_named_where (is_told f) (program_of here) here.node)
node_fault here f h = fault_within f _ _ h
    (λ e. and_right (are_once (is_told f Declares) (declared_names here.node)) _
    (means_is (is_told f) here ∙ e))
