-- The tests of the code on the names of a node are the rule of names.
use Rattle.std.proofs.Common.{◌≡◌, Bool, true, false, List, [], ◌∷◌, ◌++◌, None, Some, refl, ap}
use Rattle.std.proofs.Common.{sym, ◌∙◌}
use Rattle.std.specs.Prelude.{◌&&◌, flat_map}
use Rattle.std.specs.List.{list_all}
use Rattle.std.proofs.lemmas.List.Folds.{list_all-append}
use Rattle.lb_syntax.specs.Tree.{Name, Node, Statement, Equation, Assertion, Node_named, Symbol}
use Rattle.lb_syntax.specs.Tree.{Expr, Static}
use Rattle.lb_syntax.specs.Tree.{Literal, Truth, Variable, Group, Unary, Binary, If, Arrow, Fby}
use Rattle.lb_syntax.specs.Tree.{Pre, Current, When, Replicate, Index, Slice, Join, Array}
use Rattle.lb_syntax.specs.Tree.{AtMostOne, Nor, Call, Iterate, Exprs, Nil, Cons}
use Rattle.lb_static.specs.Instances.{Program, Site, sites, sites_in, statement_sites}
use Rattle.lb_static.specs.CountedNames.{NameUse, Values, Variables, counted}
use Rattle.lb_static.specs.CountedNames.{is_callable_where}
use Rattle.lb_static.specs.Names.{is_known, is_variable}
use Rattle.lb_static.specs.NodeNames.{passes_where, all_pass_where, static_passes_where}
use Rattle.lb_static.specs.NodeNames.{statics_pass_where, statement_passes_where}
use Rattle.lb_static.specs.Parts.{parts, parts_in, right_side, left_names, own_names, own_sizes}
use Rattle.lb_static.specs.Parts.{own_indexes, own_arguments, own_clock_names}

-- ## Tests

one : (b : Bool) → b ≡ ((((b && true) && true) && true) && true)
one true = refl
one false = refl

swap : (a b c d : Bool) → ((a && c) && (b && d)) ≡ ((a && b) && (c && d))
swap true true c d = refl
swap true false true d = refl
swap true false false d = refl
swap false b c d = refl

first_of : (v a c : Bool) → (v && (a && c)) ≡ ((((v && true) && true) && a) && c)
first_of true a c = refl
first_of false a c = refl

two_of : (v w a c : Bool) → (v && (w && (a && c))) ≡ ((((v && (w && true)) && true) && a) && c)
two_of true true a c = refl
two_of true false a c = refl
two_of false w a c = refl

call_of : (k s a c : Bool) → ((k && s) && (a && c)) ≡ ((s && a) && (k && c))
call_of true true a c = refl
call_of true false a c = refl
call_of false true true c = refl
call_of false true false c = refl
call_of false false a c = refl

sized_of : (v k s a c : Bool)
    → (v && ((k && s) && (a && c))) ≡ ((((v && true) && s) && a) && (k && c))
sized_of true k s a c = call_of k s a c
sized_of false k s a c = refl

pub all_and : {A : Type 0} (p q : A → Bool) (xs : List A)
    → list_all (λ x. p x && q x) xs ≡ (list_all p xs && list_all q xs)
all_and p q [] = refl
all_and p q (x ∷ xs) = ap (λ b. (p x && q x) && b) (all_and p q xs)
    ∙ swap (p x) (list_all p xs) (q x) (list_all q xs)

module _ (counts : NameUse → Name → Bool) (P : Program) (n : Node) where
  abbrev pub known : Name → Bool
  known = counted (counts Values) (is_known P n)

  abbrev pub is_left : Name → Bool
  is_left = counted (counts Variables) (is_variable P n)

  abbrev one_static : Static → Bool
  one_static = static_passes_where counts P n

  abbrev all_static : List Static → Bool
  all_static = statics_pass_where counts P n

  abbrev passes : Expr → Bool
  passes = passes_where counts P n

  abbrev all_pass : Exprs → Bool
  all_pass = all_pass_where counts P n

  abbrev statement_passes : Statement → Bool
  statement_passes = statement_passes_where counts P n

  abbrev pub callable : Site → Bool
  callable = is_callable_where counts P

  -- the names in an expression itself pass
  abbrev pub own : Expr → Bool
  own e =
      list_all known (own_names e)
      && (list_all is_left (own_clock_names e)
      && (all_static (own_sizes e)
      && (all_static (own_indexes e) && all_static (own_arguments e))))

  abbrev pub called : List Site → Bool
  called = list_all callable

  joined : (a b : Bool) (xs ys : List Expr) (e f : Expr) → a ≡ (list_all own xs && called (sites e))
      → b ≡ (list_all own ys && called (sites f))
      → (a && b) ≡ (list_all own (xs ++ ys) && called (sites e ++ sites f))
  joined a b xs ys e f g h =
      ap (λ x. x && b) g ∙ ap (λ x. (list_all own xs && called (sites e)) && x) h
      ∙ swap (list_all own xs) (list_all own ys) (called (sites e)) (called (sites f))
      ∙ ap (λ x. x && (called (sites e) && called (sites f))) (sym (list_all-append own xs ys))
      ∙ ap (λ x. list_all own (xs ++ ys) && x)
      (sym (list_all-append callable (sites e) (sites f)))

  mutual
    passes_is : (e : Expr) → passes e ≡ (list_all own (parts e) && called (sites e))
    passes_is (Literal m) = refl
    passes_is (Truth b) = refl
    passes_is (Variable x) = one (known x)
    passes_is (Group a) = passes_is a
    passes_is (Unary op a) = passes_is a
    passes_is (Binary op a b) = joined _ _ (parts a) (parts b) a b (passes_is a) (passes_is b)
    passes_is (If c a b) =
        ap (λ x. x && (passes a && passes b)) (passes_is c)
        ∙ ap (λ x. (list_all own (parts c) && called (sites c)) && x)
        (joined _ _ (parts a) (parts b) a b (passes_is a) (passes_is b))
        ∙ swap (list_all own (parts c)) (list_all own (parts a ++ parts b)) (called (sites c))
        (called (sites a ++ sites b))
        ∙ ap (λ x. x && (called (sites c) && called (sites a ++ sites b)))
        (sym (list_all-append own (parts c) (parts a ++ parts b)))
        ∙ ap (λ x. list_all own (parts c ++ (parts a ++ parts b)) && x)
        (sym (list_all-append callable (sites c) (sites a ++ sites b)))
    passes_is (Arrow a b) = joined _ _ (parts a) (parts b) a b (passes_is a) (passes_is b)
    passes_is (Fby a b) = joined _ _ (parts a) (parts b) a b (passes_is a) (passes_is b)
    passes_is (Pre a) = passes_is a
    passes_is (Current a) = passes_is a
    passes_is (When a x sign) = ap (λ b. is_left x && b) (passes_is a)
        ∙ first_of (is_left x) (list_all own (parts a)) (called (sites a))
    passes_is (Replicate a s) = ap (λ b. one_static s && b) (passes_is a)
        ∙ first_of (one_static s) (list_all own (parts a)) (called (sites a))
    passes_is (Index a s) = ap (λ b. one_static s && b) (passes_is a)
        ∙ first_of (one_static s) (list_all own (parts a)) (called (sites a))
    passes_is (Slice a s t) =
        ap (λ b. one_static s && (one_static t && b)) (passes_is a)
        ∙ two_of (one_static s) (one_static t) (list_all own (parts a))
        (called (sites a))
    passes_is (Join a b) = joined _ _ (parts a) (parts b) a b (passes_is a) (passes_is b)
    passes_is (Array es) = all_pass_is es
    passes_is (AtMostOne es) = all_pass_is es
    passes_is (Nor es) = all_pass_is es
    passes_is (Call f statics es) =
        let k = callable (record { callee = f; arguments = statics; count = None }) in
        ap (λ b. (k && all_static statics) && b) (all_pass_is es)
        ∙ call_of k (all_static statics) (list_all own (parts_in es)) (called (sites_in es))
    passes_is (Iterate it (Node_named f statics) s es) =
        let k = callable (record { callee = f; arguments = statics; count = Some s }) in
        ap (λ b. one_static s && ((k && all_static statics) && b)) (all_pass_is es)
        ∙ sized_of (one_static s) k (all_static statics) (list_all own (parts_in es))
        (called (sites_in es))
    passes_is (Iterate it (Symbol op) s es) =
        ap (λ b. one_static s && b) (all_pass_is es)
        ∙ first_of (one_static s) (list_all own (parts_in es)) (called (sites_in es))

    all_pass_is : (es : Exprs)
        → all_pass es ≡ (list_all own (parts_in es) && called (sites_in es))
    all_pass_is Nil = refl
    all_pass_is (Cons e es) =
        ap (λ x. x && all_pass es) (passes_is e)
        ∙ ap (λ x. (list_all own (parts e) && called (sites e)) && x) (all_pass_is es)
        ∙ swap (list_all own (parts e)) (list_all own (parts_in es)) (called (sites e))
        (called (sites_in es))
        ∙ ap (λ x. x && (called (sites e) && called (sites_in es)))
        (sym (list_all-append own (parts e) (parts_in es)))
        ∙ ap (λ x. list_all own (parts e ++ parts_in es) && x)
        (sym (list_all-append callable (sites e) (sites_in es)))

  statement_is : (s : Statement)
      → statement_passes s
      ≡ (list_all is_left (left_names s)
      && (list_all own (parts (right_side s)) && called (statement_sites s)))
  statement_is (Equation lefts e) = ap (λ b. list_all is_left lefts && b) (passes_is e)
  statement_is (Assertion e) = passes_is e

  pub body_is : (body : List Statement) → list_all (statement_passes) body
      ≡ (list_all is_left (flat_map left_names body)
      && (list_all own (flat_map (λ s. parts (right_side s)) body)
      && called (flat_map statement_sites body)))
  body_is [] = refl
  body_is (s ∷ body) =
      let v = list_all is_left in
      let xs = parts (right_side s) in
      let ys = flat_map (λ t. parts (right_side t)) body in
      let cs = statement_sites s in
      let ds = flat_map statement_sites body in
      ap (λ b. b && list_all (statement_passes) body) (statement_is s)
      ∙ ap (λ b. (v (left_names s) && (list_all own xs && called cs)) && b) (body_is body)
      ∙ swap (v (left_names s)) (v (flat_map left_names body)) (list_all own xs && called cs)
      (list_all own ys && called ds)
      ∙ ap (λ b. b && ((list_all own xs && called cs) && (list_all own ys && called ds)))
      (sym (list_all-append is_left (left_names s) (flat_map left_names body)))
      ∙ ap (λ b. v (left_names s ++ flat_map left_names body) && b)
      (swap (list_all own xs) (list_all own ys) (called cs) (called ds)
      ∙ ap (λ b. b && (called cs && called ds)) (sym (list_all-append own xs ys))
      ∙ ap (λ b. list_all own (xs ++ ys) && b) (sym (list_all-append callable cs ds)))
