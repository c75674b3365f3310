-- The meaning of a part of a node stays when more of the node is resolved.
use Rattle.std.proofs.Common.{◌≡◌, ℕ, ◌+◌, ◌<◌, ◌≤◌, Bool, true, false, cond, List, [], ◌∷◌, ◌++◌}
use Rattle.std.proofs.Common.{length, take, drop, map, Option, Some, None, option_map, refl, ap}
use Rattle.std.proofs.Common.{sym, subst, ◌∙◌, arith, length-append, length-drop, ◌-◌}
use Rattle.std.specs.Prelude.{◌&&◌, nat_lt, nat_le, is_some, slice_get, Result, Ok, Err, IfOk}
use Rattle.std.specs.Prelude.{OnErr}
use Rattle.std.specs.List.{list_all}
use Rattle.std.proofs.lemmas.Bool.Decides.{nat_tests}
use Rattle.std.proofs.lemmas.List.{append-nil, map-append, length-map, drop-append-le}
use Rattle.std.proofs.lemmas.List.{take-append-le}
use Rattle.std.proofs.lemmas.Bool.{ltb-true, leb-true, and_from}
use Rattle.lb_syntax.specs.Lists.{either_or}
use Rattle.lb_syntax.specs.SourceView.{view_source}
use Rattle.lb_syntax.specs.Tree as tree
use Rattle.lb_syntax.specs.Tree.{Name, Static, Whole}
use Rattle.lb_syntax.proofs.ListPlaces.{get_before}
use Rattle.lb_syntax.proofs.TruthValues.{and_first, and_second}
use Rattle.lb_static.specs.Instances.{Site}
use Rattle.lb_static.specs.NodeProgress.{counts_in, counts_kept, texts_in, kept, grown}
use Rattle.lb_static.specs.NodeProgress.{with_variable, IsKept}
use Rattle.lb_static.specs.ResolvedTerms.{Texts, Counts, static_of, static_at, statics_at, site_at}
use Rattle.lb_static.specs.ResolvedTerms.{no_site, named_value, call_expr, iterate_expr, name_at}
use Rattle.lb_static.specs.ResolvedTerms.{sampling_of, declaration_of, site_of, expr_of, row_of}
use Rattle.lb_static.specs.ResolvedTerms.{are_statics, is_within, are_within, is_declared_within}
use Rattle.lb_static.specs.ResolvedTerms.{is_site_within, is_sampling_within, is_count_within}
use Rattle.lb_static.specs.ResolvedTerms.{is_no_variable, is_unhidden, are_unhidden}
use Rattle.lb_static.specs.NodeNames.{node_in}
use Rattle.lb_static.specs.Parts.{variable_names}
use Rattle.lb_static.specs.SharedParts.{held, with_part, with_static}
use Rattle.lb_static.specs.StaticParts.{part_of}
use Rattle.lb_static.specs.declared.node_scope.NodeScope.{NodeScope}
use Rattle.lb_static.specs.declared.resolved.CallId.{CallId}
use Rattle.lb_static.specs.declared.resolved.StaticPart.{StaticPart}
use Rattle.lb_static.specs.declared.resolved.CallSite.{CallSite}
use Rattle.lb_static.specs.declared.resolved.StaticId.{StaticId}
use Rattle.lb_static.specs.declared.resolved.Variable.{Variable as Declared}
use Rattle.lb_static.specs.declared.resolved.Term.{Term, Literal, Truth, Variable, Value, Group'}
use Rattle.lb_static.specs.declared.resolved.Term.{Unary', Binary', If', Arrow', Fby', Pre'}
use Rattle.lb_static.specs.declared.resolved.Term.{Current', When', Replicate', Index', Slice'}
use Rattle.lb_static.specs.declared.resolved.Term.{Join', Array', AtMostOne', Nor', Call'}
use Rattle.lb_static.specs.declared.resolved.Term.{IterateNode', IterateSymbol', Row_of-Term}
use Rattle.lb_static.specs.declared.resolved.Term.{end_of-Term, more_of-Term}
use Rattle.lb_static.proofs.Lists.{map_map}
use Rattle.lb_static.proofs.SharedParts.{statics_kept}

-- ## Lists with more at the end

below_more : (i m k : ℕ) → nat_lt i m ≡ true → nat_lt i (m + k) ≡ true
below_more i m k e = let less : i < m = grind (arith, nat_tests) in grind (arith, nat_tests)

upto_more : (i m k : ℕ) → nat_le i m ≡ true → nat_le i (m + k) ≡ true
upto_more i m k e = let less : i ≤ m = grind (arith, nat_tests) in grind (arith, nat_tests)

pub same_on : {A B : Type 0} (p : A → Bool) (f g : A → B) (xs : List A)
    → ((x : A) → p x ≡ true → f x ≡ g x) → list_all p xs ≡ true → map f xs ≡ map g xs
same_on p f g [] h e = refl
same_on p f g (x ∷ xs) h e =
    ap (λ y. y ∷ map f xs) (h x (and_first _ (list_all p xs) e))
    ∙ ap (λ l. g x ∷ l) (same_on p f g xs h (and_second (p x) _ e))

pub all_on : {A : Type 0} (p q : A → Bool) (xs : List A) → ((x : A) → p x ≡ true → q x ≡ true)
    → list_all p xs ≡ true → list_all q xs ≡ true
all_on p q [] h e = refl
all_on p q (x ∷ xs) h e =
    and_from _ _ (h x (and_first _ (list_all p xs) e)) (all_on p q xs h (and_second (p x) _ e))

-- a list whose items pass `p` and `u` passes `q`, if each item that passes both does
pub both_on : {A : Type 0} (p u q : A → Bool) (xs : List A)
    → ((x : A) → p x ≡ true → u x ≡ true → q x ≡ true) → list_all p xs ≡ true → list_all u xs ≡ true
    → list_all q xs ≡ true
both_on p u q [] h e g = refl
both_on p u q (x ∷ xs) h e g =
    and_from _ _ (h x (and_first _ (list_all p xs) e) (and_first _ (list_all u xs) g))
    (both_on p u q xs h (and_second (p x) _ e) (and_second (u x) _ g))

-- ## Static expressions

module _ (S X : List Static) where
  pub static_stays : (i : StaticId) → nat_lt i.0 (length S) ≡ true
      → static_at (S ++ X) i ≡ static_at S i
  static_stays i e = ap (λ o. either_or o (Whole 0)) (get_before S X i.0 (ltb-true _ _ e))

  pub statics_stay : (i : StaticId) (count : ℕ) → nat_le (i.0 + count) (length S) ≡ true
      → statics_at (S ++ X) i count ≡ statics_at S i count
  statics_stay i count e =
      let most : i.0 + count ≤ length S = leb-true _ _ e in
      let first : i.0 ≤ length S = omega arith in
      let long : length (drop i.0 S) ≡ length S - i.0 = length-drop i.0 S in
      let rest : count ≤ length (drop i.0 S) = omega arith in
      ap (take count) (drop-append-le i.0 S X first) ∙ take-append-le count (drop i.0 S) X rest

  pub count_stays : (o : Option StaticId) (n : Counts) → n.statics ≡ length S
      → is_count_within n o ≡ true → option_map (static_at (S ++ X)) o ≡ option_map (static_at S) o
  count_stays None n m e = refl
  count_stays (Some i) n m e = ap Some (static_stays i (ap (nat_lt i.0) (sym m) ∙ e))

  pub declaration_stays : (names : List Name) (x : Name) (v : Declared) (n : Counts)
      → n.statics ≡ length S → is_declared_within n v ≡ true
      → declaration_of names (S ++ X) x v ≡ declaration_of names S x v
  declaration_stays names x v n m e =
      ap (λ (l : List Static). record
      { name = x; kind = v.kind; sizes = l; clock = option_map (sampling_of names) v.clock })
      (statics_stay v.first_size v.sizes
      (ap (nat_le (v.first_size.0 + v.sizes)) (sym m)
      ∙ and_first (are_statics n v.first_size v.sizes) _ e))

  pub site_stays : (nodes : List Name) (s : CallSite) (n : Counts) (count : ℕ)
      → n.statics ≡ length S → is_site_within count n s ≡ true
      → site_of nodes (S ++ X) s ≡ site_of nodes S s
  site_stays nodes s n count m e =
      let f = and_second (nat_lt s.callee.0 count) _ e in
      let g = and_first (are_statics n s.first_argument s.arguments) _ f in
      let h = and_second (are_statics n s.first_argument s.arguments) _ f in
      let callee = either_or (slice_get nodes s.callee.0) [] in
      ap (λ (l : List Static). record
      { callee = callee; arguments = l; count = option_map (static_at (S ++ X)) s.count })
      (statics_stay s.first_argument s.arguments
      (ap (nat_le (s.first_argument.0 + s.arguments)) (sym m) ∙ g))
      ∙ ap (λ (o : Option Static). record
      { callee = callee; arguments = statics_at S s.first_argument s.arguments; count = o })
      (count_stays s.count n m h)

-- ## Numbers within range

module _ (n m : Counts) (k l : ℕ) (variables : m.variables ≡ n.variables)
    (statics : m.statics ≡ n.statics + k) (calls : m.calls ≡ n.calls + l) where
  variable_still : (x : ℕ) → nat_lt x n.variables ≡ true → nat_lt x m.variables ≡ true
  variable_still x e = ap (nat_lt x) variables ∙ e

  pub static_still : (i : ℕ) → nat_lt i n.statics ≡ true → nat_lt i m.statics ≡ true
  static_still i e = ap (nat_lt i) statics ∙ below_more i n.statics k e

  statics_still : (i : ℕ) → nat_le i n.statics ≡ true → nat_le i m.statics ≡ true
  statics_still i e = ap (nat_le i) statics ∙ upto_more i n.statics k e

  pub call_still : (c : ℕ) → nat_lt c n.calls ≡ true → nat_lt c m.calls ≡ true
  call_still c e = ap (nat_lt c) calls ∙ below_more c n.calls l e

  pub declared_still : (v : Declared) → is_declared_within n v ≡ true
      → is_declared_within m v ≡ true
  declared_still v e =
      and_from _ _ (statics_still (v.first_size.0 + v.sizes)
      (and_first (are_statics n v.first_size v.sizes) _ e))
      (by v.clock (and_second (are_statics n v.first_size v.sizes) _ e))
    where
      by : (o : _) → is_sampling_within n o ≡ true → is_sampling_within m o ≡ true
      by None e = refl
      by (Some s) e = variable_still s.variable.0 e

  pub site_still : (nodes : ℕ) (s : CallSite) → is_site_within nodes n s ≡ true
      → is_site_within nodes m s ≡ true
  site_still nodes s e =
      let f = and_second (nat_lt s.callee.0 nodes) _ e in
      and_from _ _ (and_first (nat_lt s.callee.0 nodes) _ e)
      (and_from _ _ (statics_still (s.first_argument.0 + s.arguments)
      (and_first (are_statics n s.first_argument s.arguments) _ f))
      (by s.count (and_second (are_statics n s.first_argument s.arguments) _ f)))
    where
      by : (o : _) → is_count_within n o ≡ true → is_count_within m o ≡ true
      by None e = refl
      by (Some i) e = static_still i.0 e

  two_still : (a b c d : Bool) → (a ≡ true → c ≡ true) → (b ≡ true → d ≡ true) → (a && b) ≡ true
      → (c && d) ≡ true
  two_still a b c d f g e = and_from c d (f (and_first a b e)) (g (and_second a b e))

  mutual
    pub still_within : (t : Term) → is_within n t ≡ true → is_within m t ≡ true
    still_within (Literal x) e = refl
    still_within (Truth b) e = refl
    still_within (Variable x) e = variable_still x.0 e
    still_within (Value i) e = static_still i.0 e
    still_within (Group' p a) e = still_within a e
    still_within (Unary' op p a) e = still_within a e
    still_within (Binary' op p a q b) e = two_still _ _ _ _ (still_within a) (still_within b) e
    still_within (If' p c q a r b) e =
        two_still _ _ _ _ (still_within c) (two_still _ _ _ _ (still_within a) (still_within b)) e
    still_within (Arrow' p a q b) e = two_still _ _ _ _ (still_within a) (still_within b) e
    still_within (Fby' p a q b) e = two_still _ _ _ _ (still_within a) (still_within b) e
    still_within (Pre' p a) e = still_within a e
    still_within (Current' p a) e = still_within a e
    still_within (When' p a x sign) e = two_still _ _ _ _ (variable_still x.0) (still_within a) e
    still_within (Replicate' p a i) e = two_still _ _ _ _ (static_still i.0) (still_within a) e
    still_within (Index' p a i) e = two_still _ _ _ _ (static_still i.0) (still_within a) e
    still_within (Slice' p a i j) e =
        two_still _ _ _ _ (static_still i.0) (two_still _ _ _ _ (static_still j.0) (still_within a))
        e
    still_within (Join' p a q b) e = two_still _ _ _ _ (still_within a) (still_within b) e
    still_within (Array' arity all) e = are_still_within all e
    still_within (AtMostOne' arity all) e = are_still_within all e
    still_within (Nor' arity all) e = are_still_within all e
    still_within (Call' c arity all) e = two_still _ _ _ _ (call_still c.0) (are_still_within all) e
    still_within (IterateNode' it c arity all) e =
        two_still _ _ _ _ (call_still c.0) (are_still_within all) e
    still_within (IterateSymbol' it op i arity all) e =
        two_still _ _ _ _ (static_still i.0) (are_still_within all) e

    are_still_within : {s : _} (row : Row_of-Term s) → are_within n row ≡ true
        → are_within m row ≡ true
    are_still_within end_of-Term e = refl
    are_still_within (more_of-Term a rest) e =
        two_still _ _ _ _ (still_within a) (are_still_within rest) e

-- ## Terms

pub same_two : {A B C : Type 0} (f : A → B → C) (x z : A) (y w : B) → x ≡ z → y ≡ w → f x y ≡ f z w
same_two f x z y w e g = ap (λ v. f v y) e ∙ ap (f z) g

same_when : {A B C : Type 0} (f : A → B → C) (x z : A) (y w : B) (p q : Bool) → (p ≡ true → x ≡ z)
    → (q ≡ true → y ≡ w) → (p && q) ≡ true → f x y ≡ f z w
same_when f x z y w p q e g h = same_two f x z y w (e (and_first p q h)) (g (and_second p q h))

three_when : {A B C D : Type 0} (f : A → B → C → D) (x x' : A) (y y' : B) (z z' : C) (p q r : Bool)
    → (p ≡ true → x ≡ x') → (q ≡ true → y ≡ y') → (r ≡ true → z ≡ z')
    → (p && (q && r)) ≡ true → f x y z ≡ f x' y' z'
three_when f x x' y y' z z' p q r e g h all =
    ap (λ v. f v y z) (e (and_first p (q && r) all))
    ∙ same_when (f x') y y' z z' q r g h (and_second p (q && r) all)

module _ (t : Texts) (X : List Static) (Y : List Site) where
  abbrev pub later : Texts
  later = record { variables = t.variables; statics = t.statics ++ X; calls = t.calls ++ Y }

  pub call_stays : (c : CallId) → nat_lt c.0 (length t.calls) ≡ true
      → site_at (t.calls ++ Y) c ≡ site_at t.calls c
  call_stays c e = ap (λ o. either_or o no_site) (get_before t.calls Y c.0 (ltb-true _ _ e))

  mutual
    pub expr_stays : (a : Term) → is_within (counts_in t) a ≡ true → expr_of later a ≡ expr_of t a
    expr_stays (Literal x) e = refl
    expr_stays (Truth b) e = refl
    expr_stays (Variable x) e = refl
    expr_stays (Value i) e = ap named_value (static_stays t.statics X i e)
    expr_stays (Group' p a) e = ap tree.Group (expr_stays a e)
    expr_stays (Unary' op p a) e = ap (tree.Unary op) (expr_stays a e)
    expr_stays (Binary' op p a q b) e =
        same_when (tree.Binary op) _ _ _ _ _ _ (expr_stays a) (expr_stays b) e
    expr_stays (If' p c q a r b) e =
        three_when tree.If _ _ _ _ _ _ _ _ _ (expr_stays c) (expr_stays a) (expr_stays b) e
    expr_stays (Arrow' p a q b) e = same_when tree.Arrow _ _ _ _ _ _ (expr_stays a) (expr_stays b) e
    expr_stays (Fby' p a q b) e = same_when tree.Fby _ _ _ _ _ _ (expr_stays a) (expr_stays b) e
    expr_stays (Pre' p a) e = ap tree.Pre (expr_stays a e)
    expr_stays (Current' p a) e = ap tree.Current (expr_stays a e)
    expr_stays (When' p a x sign) e = ap (λ z. tree.When z (name_at t.variables x) sign)
        (expr_stays a (and_second (nat_lt x.0 (length t.variables)) _ e))
    expr_stays (Replicate' p a i) e =
        same_when (λ n z. tree.Replicate z n) _ _ _ _ _ _ (static_stays t.statics X i)
        (expr_stays a) e
    expr_stays (Index' p a i) e =
        same_when (λ n z. tree.Index z n) _ _ _ _ _ _ (static_stays t.statics X i) (expr_stays a) e
    expr_stays (Slice' p a i j) e =
        three_when (λ x y z. tree.Slice z x y) _ _ _ _ _ _ _ _ _ (static_stays t.statics X i)
        (static_stays t.statics X j) (expr_stays a) e
    expr_stays (Join' p a q b) e = same_when tree.Join _ _ _ _ _ _ (expr_stays a) (expr_stays b) e
    expr_stays (Array' arity all) e = ap tree.Array (row_stays all e)
    expr_stays (AtMostOne' arity all) e = ap tree.AtMostOne (row_stays all e)
    expr_stays (Nor' arity all) e = ap tree.Nor (row_stays all e)
    expr_stays (Call' c arity all) e =
        same_when call_expr _ _ _ _ _ _ (call_stays c) (row_stays all) e
    expr_stays (IterateNode' it c arity all) e =
        same_when (iterate_expr it) _ _ _ _ _ _ (call_stays c) (row_stays all) e
    expr_stays (IterateSymbol' it op i arity all) e =
        same_when (tree.Iterate it (tree.Symbol op)) _ _ _ _ _ _ (static_stays t.statics X i)
        (row_stays all) e

    row_stays : {s : _} (row : Row_of-Term s) → are_within (counts_in t) row ≡ true
        → row_of later row ≡ row_of t row
    row_stays end_of-Term e = refl
    row_stays (more_of-Term a rest) e =
        same_when tree.Cons _ _ _ _ _ _ (expr_stays a) (row_stays rest) e

  -- the term behind the number of a static expression is within range
  after_static : (i : StaticId) (a : Term)
      → (nat_lt i.0 (length t.statics) && is_within (counts_in t) a) ≡ true
      → is_within (counts_in t) a ≡ true
  after_static i a e = and_second (nat_lt i.0 (length t.statics)) _ e

  mutual
    -- more static expressions and calls hide no name
    pub unhidden_stays : (a : Term) → is_within (counts_in t) a ≡ true
        → is_unhidden later a ≡ is_unhidden t a
    unhidden_stays (Literal x) e = refl
    unhidden_stays (Truth b) e = refl
    unhidden_stays (Variable x) e = refl
    unhidden_stays (Value i) e = ap (is_no_variable t.variables) (static_stays t.statics X i e)
    unhidden_stays (Group' p a) e = unhidden_stays a e
    unhidden_stays (Unary' op p a) e = unhidden_stays a e
    unhidden_stays (Binary' op p a q b) e =
        same_when (λ x y. x && y) _ _ _ _ _ _ (unhidden_stays a) (unhidden_stays b) e
    unhidden_stays (If' p c q a r b) e = three_when (λ x y z. x && (y && z)) _ _ _ _ _ _ _ _ _
        (unhidden_stays c) (unhidden_stays a) (unhidden_stays b) e
    unhidden_stays (Arrow' p a q b) e =
        same_when (λ x y. x && y) _ _ _ _ _ _ (unhidden_stays a) (unhidden_stays b) e
    unhidden_stays (Fby' p a q b) e =
        same_when (λ x y. x && y) _ _ _ _ _ _ (unhidden_stays a) (unhidden_stays b) e
    unhidden_stays (Pre' p a) e = unhidden_stays a e
    unhidden_stays (Current' p a) e = unhidden_stays a e
    unhidden_stays (When' p a x sign) e =
        unhidden_stays a (and_second (nat_lt x.0 (length t.variables)) _ e)
    unhidden_stays (Replicate' p a i) e = unhidden_stays a (after_static i a e)
    unhidden_stays (Index' p a i) e = unhidden_stays a (after_static i a e)
    unhidden_stays (Slice' p a i j) e =
        unhidden_stays a (after_static j a (and_second (nat_lt i.0 (length t.statics)) _ e))
    unhidden_stays (Join' p a q b) e =
        same_when (λ x y. x && y) _ _ _ _ _ _ (unhidden_stays a) (unhidden_stays b) e
    unhidden_stays (Array' arity all) e = row_unhidden_stays all e
    unhidden_stays (AtMostOne' arity all) e = row_unhidden_stays all e
    unhidden_stays (Nor' arity all) e = row_unhidden_stays all e
    unhidden_stays (Call' c arity all) e =
        row_unhidden_stays all (and_second (nat_lt c.0 (length t.calls)) _ e)
    unhidden_stays (IterateNode' it c arity all) e =
        row_unhidden_stays all (and_second (nat_lt c.0 (length t.calls)) _ e)
    unhidden_stays (IterateSymbol' it op i arity all) e =
        row_unhidden_stays all (and_second (nat_lt i.0 (length t.statics)) _ e)

    row_unhidden_stays : {s : _} (row : Row_of-Term s) → are_within (counts_in t) row ≡ true
        → are_unhidden later row ≡ are_unhidden t row
    row_unhidden_stays end_of-Term e = refl
    row_unhidden_stays (more_of-Term a rest) e =
        same_when (λ x y. x && y) _ _ _ _ _ _ (unhidden_stays a) (row_unhidden_stays rest) e

-- ## The progress that is kept

-- the progress that is kept with one more static expression
module _ (n : NodeScope) (parts more : List StaticPart) (calls : List CallSite)
    (variables : List Declared) (x : StaticPart)
    (kept_now : IsKept n parts calls variables) (added : more ≡ parts ++ x ∷ []) where
  longer : length more ≡ length parts + 1
  longer = ap length added ∙ length-append parts (x ∷ [])

  more_texts : texts_in more ≡ texts_in parts ++ static_of x.text ∷ []
  more_texts = ap texts_in added ∙ map-append (λ p. static_of p.text) parts (x ∷ [])

  kept_longer : IsKept n more calls variables
  kept_longer = record {
    declared_within = all_on _ _ variables
        (declared_still (counts_kept n parts calls) (counts_kept n more calls) 1 0 refl longer
        (sym (plus_zero (length calls)))) kept_now.declared_within;
    calls_within = all_on _ _ calls
        (site_still (counts_kept n parts calls) (counts_kept n more calls) 1 0 refl longer
        (sym (plus_zero (length calls))) (length n.source.now.nodes.items)) kept_now.calls_within;
  }
    where
      plus_zero : (k : ℕ) → k + 0 ≡ k
      plus_zero k = omega arith

  grown_longer : map part_of more ≡ with_part (map part_of parts) (part_of x)
      → kept n more calls variables ≡ grown (kept n parts calls variables) (part_of x ∷ []) []
  grown_longer found =
      let names = variable_names (node_in n) in
      let nodes : List Name = map (λ m. m.name) (view_source n.source.now).nodes in
      let T = static_of x.text ∷ [] in
      let long : length parts ≡ length (texts_in parts) =
      sym (length-map parts (λ p. static_of p.text)) in
      let declared : map (declaration_of names (texts_in more) []) variables
      ≡ map (declaration_of names (texts_in parts) []) variables =
      ap (λ l. map (declaration_of names l []) variables) more_texts
      ∙ same_on (is_declared_within (counts_kept n parts calls)) _ _ variables
      (λ v e. declaration_stays (texts_in parts) T names [] v (counts_kept n parts calls) long e)
      kept_now.declared_within in
      let called : map (site_of nodes (texts_in more)) calls
      ≡ map (site_of nodes (texts_in parts)) calls ++ [] =
      ap (λ l. map (site_of nodes l) calls) more_texts
      ∙ same_on (is_site_within (length n.source.now.nodes.items) (counts_kept n parts calls)) _ _
      calls
      (λ s e. site_stays (texts_in parts) T nodes s (counts_kept n parts calls)
      (length n.source.now.nodes.items) long e) kept_now.calls_within
      ∙ sym (append-nil _) in
      λ i. record {
        source = view_source n.source.now;
        node =
            node_in n;
        declared = declared i;
        parts = found i;
        calls = called i;
      }

-- the progress that is kept where a static expression is equal to one that is there
grown_same : (n : NodeScope) (parts more : List StaticPart) (calls : List CallSite)
    (variables : List Declared) (x : StaticPart) → more ≡ parts
    → map part_of more ≡ with_part (map part_of parts) (part_of x)
    → kept n more calls variables ≡ grown (kept n parts calls variables) (part_of x ∷ []) []
grown_same n parts more calls variables x same found =
    let names = variable_names (node_in n) in
    let nodes : List Name = map (λ m. m.name) (view_source n.source.now).nodes in
    let called : map (site_of nodes (texts_in more)) calls
    ≡ map (site_of nodes (texts_in parts)) calls ++ [] =
    ap (λ l. map (site_of nodes (texts_in l)) calls) same ∙ sym (append-nil _) in
    λ i. record {
      source = view_source n.source.now;
      node = node_in n;
      declared = map (declaration_of names (texts_in (same i)) []) variables;
      parts = found i;
      calls = called i;
    }

pub grown_static : (n : NodeScope) (parts more : List StaticPart) (calls : List CallSite)
    (variables : List Declared) (x : StaticPart) → IsKept n parts calls variables
    → more ≡ with_static parts x
    → kept n more calls variables ≡ grown (kept n parts calls variables) (part_of x ∷ []) []
grown_static n parts more calls variables x h e =
    by (is_some (held (map part_of parts) (part_of x))) e
    (ap (map part_of) e ∙ statics_kept parts x)
  where
    by : (b : Bool) → more ≡ cond b parts (parts ++ x ∷ [])
        → map part_of more ≡ with_part (map part_of parts) (part_of x)
        → kept n more calls variables ≡ grown (kept n parts calls variables) (part_of x ∷ []) []
    by true same found = grown_same n parts more calls variables x same found
    by false added found = grown_longer n parts more calls variables x h added found

kept_static : (n : NodeScope) (parts more : List StaticPart) (calls : List CallSite)
    (variables : List Declared) (x : StaticPart) → IsKept n parts calls variables
    → more ≡ with_static parts x → IsKept n more calls variables
kept_static n parts more calls variables x h e =
    by (is_some (held (map part_of parts) (part_of x))) e
  where
    by : (b : Bool) → more ≡ cond b parts (parts ++ x ∷ []) → IsKept n more calls variables
    by true same = subst (λ l. IsKept n l calls variables) (sym same) h
    by false added = kept_longer n parts more calls variables x h added

-- the texts of the static expressions of `parts`
pub texts_are : (parts : List StaticPart) → map (λ p. p.1) (map part_of parts) ≡ texts_in parts
texts_are parts = map_map part_of (λ p. p.1) parts

pub grown_call : (n : NodeScope) (parts : List StaticPart) (calls more : List CallSite)
    (variables : List Declared) (x : CallSite) → more ≡ calls ++ x ∷ []
    → kept n parts more variables
    ≡ grown (kept n parts calls variables) []
    (site_of (map (λ m. m.name) (view_source n.source.now).nodes)
    (map (λ p. p.1) (map part_of parts)) x ∷ [])
grown_call n parts calls more variables x added =
    let nodes : List Name = map (λ m. m.name) (view_source n.source.now).nodes in
    let called : map (site_of nodes (texts_in parts)) more
    ≡ map (site_of nodes (texts_in parts)) calls
    ++ site_of nodes (map (λ p. p.1) (map part_of parts)) x ∷ [] =
    ap (map (site_of nodes (texts_in parts))) added
    ∙ map-append (site_of nodes (texts_in parts)) calls (x ∷ [])
    ∙ ap (λ l. map (site_of nodes (texts_in parts)) calls ++ site_of nodes l x ∷ [])
    (sym (texts_are parts)) in
    λ i. record {
      source = view_source n.source.now;
      node = node_in n;
      declared = map (declaration_of (variable_names (node_in n)) (texts_in parts) []) variables;
      parts = map part_of parts;
      calls = called i;
    }

pub one_more_variable : (n : NodeScope) (parts : List StaticPart) (calls : List CallSite)
    (variables more : List Declared) (x : Declared) → more ≡ variables ++ x ∷ []
    → kept n parts calls more
    ≡ with_variable (kept n parts calls variables)
    (declaration_of (variable_names (node_in n)) (map (λ p. p.1) (map part_of parts)) [] x)
one_more_variable n parts calls variables more x added =
    let nodes : List Name = map (λ m. m.name) (view_source n.source.now).nodes in
    let names = variable_names (node_in n) in
    let f = declaration_of names (texts_in parts) [] in
    let declared : map f more ≡ map f variables
    ++ declaration_of names (map (λ p. p.1) (map part_of parts)) [] x ∷ [] =
    ap (map f) added ∙ map-append f variables (x ∷ [])
    ∙ ap (λ l. map f variables ++ declaration_of names l [] x ∷ []) (sym (texts_are parts)) in
    λ i. record {
      source = view_source n.source.now;
      node = node_in n;
      declared = declared i;
      parts = map part_of parts;
      calls = map (site_of nodes (texts_in parts)) calls;
    }

-- the kept state stays lawful after a push that may fail
pub kept_pushed : {A B : Type 0} (n : NodeScope) (parts more : List StaticPart)
    (calls : List CallSite) (variables : List Declared) (x : StaticPart) (r : Result A B)
    → IsKept n parts calls variables → IfOk r (λ _. more ≡ with_static parts x)
    → OnErr r (more ≡ parts) → IsKept n more calls variables
kept_pushed n parts more calls variables x (Ok y) h ok err =
    kept_static n parts more calls variables x h ok
kept_pushed n parts more calls variables x (Err f) h ok err =
    subst (λ l. IsKept n l calls variables) (sym err) h
