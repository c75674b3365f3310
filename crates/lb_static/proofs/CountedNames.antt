-- A program that keeps the rule of names keeps it where only some names count.
use Rattle.std.proofs.Common.{◌≡◌, Bool, true, false, List, [], ◌∷◌, refl, sym, ◌∙◌}
use Rattle.std.specs.Prelude.{not, is_some}
use Rattle.std.specs.List.{list_all}
use Rattle.std.proofs.lemmas.Bool.{and_from, or_right}
use Rattle.lb_syntax.specs.Tree.{Name, Node, Constant}
use Rattle.lb_syntax.proofs.TruthValues.{and_first, and_second}
use Rattle.lb_static.specs.CountedNames.{NameUse, Calls, Declares, Statics, Values, Variables}
use Rattle.lb_static.specs.CountedNames.{are_once, counted, is_callable_where, is_named_where}
use Rattle.lb_static.specs.CountedNames.{keeps_names_where, starts_where}
use Rattle.lb_static.specs.Instances.{Program, node_named, node_sites}
use Rattle.lb_static.specs.Names.{are_distinct, global_names, is_callable, is_constant, is_known}
use Rattle.lb_static.specs.Names.{is_named, is_static_name, is_variable, keeps_names}
use Rattle.lb_static.specs.Names.{reached_constants, reached_nodes, start_names, starts}
use Rattle.lb_static.specs.Parts.{among, declared_names, node_names}
use Rattle.lb_static.specs.Parts.{node_static_names, static_names}
use Rattle.lb_static.proofs.CalledNodes.{all_map, refuted}
use Rattle.lb_static.proofs.Growth.{all_on}

counted_true : (counts test : Name → Bool) (x : Name) → test x ≡ true
    → counted counts test x ≡ true
counted_true counts test x e = or_right (not (counts x)) (test x) e

all_counted : (counts test : Name → Bool) (xs : List Name) → list_all test xs ≡ true
    → list_all (counted counts test) xs ≡ true
all_counted counts test xs e = all_on test (counted counts test) xs (counted_true counts test) e

once_true : (counts : Name → Bool) (xs : List Name) → are_distinct xs ≡ true
    → are_once counts xs ≡ true
once_true counts [] e = refl
once_true counts (x ∷ xs) e =
    and_from (counted counts (λ y. not (among y xs)) x) (are_once counts xs)
    (counted_true counts (λ y. not (among y xs)) x
    (and_first (not (among x xs)) (are_distinct xs) e))
    (once_true counts xs (and_second (not (among x xs)) (are_distinct xs) e))

module _ (counts : NameUse → Name → Bool) where
  named_true : (P : Program) (n : Node) → is_named P n ≡ true → is_named_where counts P n ≡ true
  named_true P n e =
      let rest = and_second (are_distinct (declared_names n)) _ e in
      let more = and_second (list_all (is_callable P) (node_sites n)) _ rest in
      let last = and_second (list_all (is_known P n) (node_names n)) _ more in
      and_from (are_once (counts Declares) (declared_names n)) _
      (once_true (counts Declares) (declared_names n)
      (and_first (are_distinct (declared_names n)) _ e))
      (and_from (list_all (is_callable_where counts P) (node_sites n)) _
      (all_on (is_callable P) (is_callable_where counts P) (node_sites n)
      (λ s f. or_right (not (counts Calls s.callee)) (is_callable P s) f)
      (and_first (list_all (is_callable P) (node_sites n)) _ rest))
      (and_from (list_all (counted (counts Values) (is_known P n)) (node_names n)) _
      (all_counted (counts Values) (is_known P n) (node_names n)
      (and_first (list_all (is_known P n) (node_names n)) _ more))
      (and_from (list_all (counted (counts Statics) (is_static_name P n)) (node_static_names n)) _
      (all_counted (counts Statics) (is_static_name P n) (node_static_names n)
      (and_first (list_all (is_static_name P n) (node_static_names n)) _ last))
      (all_counted (counts Variables) (is_variable P n) _
      (and_second (list_all (is_static_name P n) (node_static_names n)) _ last)))))

  kept_true : (P : Program) → keeps_names P ≡ true → keeps_names_where counts P ≡ true
  kept_true P e =
      let rest = and_second (are_distinct (global_names P)) _ e in
      let more = and_second (list_all is_some (starts P)) _ rest in
      let test : Constant → Bool = λ c. list_all (is_constant P) (static_names c.value) in
      and_from (are_once (counts Declares) (global_names P)) _
      (once_true (counts Declares) (global_names P) (and_first (are_distinct (global_names P)) _ e))
      (and_from (starts_where counts P) _
      (all_counted (counts Calls) (λ x. is_some (node_named P x)) (start_names P)
      (sym (all_map is_some (node_named P) (start_names P))
      ∙ and_first (list_all is_some (starts P)) _ rest))
      (and_from (list_all (is_named_where counts P) (reached_nodes P)) _
      (all_on (is_named P) (is_named_where counts P) (reached_nodes P) (named_true P)
      (and_first (list_all (is_named P) (reached_nodes P)) _ more))
      (all_on test (λ c. list_all (counted (counts Statics) (is_constant P)) (static_names c.value))
      (reached_constants P)
      (λ c. all_counted (counts Statics) (is_constant P) (static_names c.value))
      (and_second (list_all (is_named P) (reached_nodes P)) _ more))))

  -- a program in which a name that counts breaks the rule of names breaks the rule
  pub rule_broken : (P : Program) → keeps_names_where counts P ≡ false → keeps_names P ≡ false
  rule_broken P e = refuted (keeps_names_where counts P) (keeps_names P) (kept_true P) e
