-- The calls in the text of a node by their numbers: the occurrence of a call stands at the number
-- of its site, and is the first that has this number.
use Rattle.lb_check.proofs.Words
use Words.{◌≡◌, inl, inr, ℕ, suc, ◌+◌, ◌<◌, Bool, true, false, cond, Option, Some, None, List, []}
use Words.{◌∷◌, ◌++◌, length, flat_map, refl, ap, sym, subst, ◌∙◌, arith, ◌&&◌, nat_eq, is_some}
use Words.{find, slice_get, nat_tests, and-false, and_from, Every, In, Node_named, Symbol, Expr}
use Words.{Group, Unary, Binary, If, Arrow, Fby, Pre, Current, When, Replicate, Index, Slice, Join}
use Words.{Array, AtMostOne, Nor, Call, Iterate, Exprs, Nil, Cons, Node, Statement, Equation}
use Words.{Assertion, Program, Site, call_site, sites, sites_in, node_named, node_sites}
use Words.{numbered_sites, statement_sites, right_side, Clock, clock_of, clock_or, declared_clock}
use Words.{is_site, Occurrence, at, call_count, call_clocks, occurrences, occurrences_in}
use Words.{occurrences_each, statement_clock, right_sides, node_occurrences}
use Rattle.std.{specs.Option.option_or, proofs.lemmas.List.Folds.find-append}
use Rattle.{lb_syntax.specs.Tree.{Literal, Truth, Variable}, lb_check.proofs.lists.Members.in_first}
use Rattle.lb_check.proofs.lists.Members.{in_second, Every-at, Every-map, Every-append, Every-both}
use Rattle.lb_check.proofs.programs.InstancePaths.{numbered_from, numbered_stand}

-- ## The call that an expression is

-- the site of a call or an iterated node
abbrev pub own_site : Expr → Option Site
own_site (Call f statics es) = Some (call_site f statics)
own_site (Iterate it (Node_named f statics) m es) =
    Some (record { callee = f; arguments = statics; count = Some m })
own_site e = None

pub site_test : (e : Expr) → is_site e ≡ is_some (own_site e)
site_test (Iterate it (Node_named f statics) m es) = refl
site_test (Iterate it (Symbol op) m es) = refl
site_test e = refl

pub site_of_call : (e : Expr) → is_site e ≡ true → (s : Site) × (own_site e ≡ Some s)
site_of_call e is =
    let there : is_some (own_site e) ≡ true = sym (site_test e) ∙ is in grind arith

pub call_of_site : (e : Expr) (s : Site) → own_site e ≡ Some s → is_site e ≡ true
call_of_site e s is = site_test e ∙ ap is_some is

pub no_call : (e : Expr) → own_site e ≡ None → is_site e ≡ false
no_call e is = site_test e ∙ ap is_some is

-- ## Numbered sites

pub numbered_append : (n : ℕ) (ss ts : List Site) →
    numbered_sites n (ss ++ ts) ≡ numbered_sites n ss ++ numbered_sites (n + length ss) ts
numbered_append n [] ts =
    let e : n ≡ n + 0 = omega arith in ap (λ m. numbered_sites m ts) e
numbered_append n (s ∷ ss) ts =
    let e : suc n + length ss ≡ n + suc (length ss) = omega arith in
    ap (λ zs. (n, s) ∷ zs)
    (numbered_append (suc n) ss ts ∙ ap (λ m. numbered_sites (suc n) ss ++ numbered_sites m ts) e)

pub numbered_below : (n : ℕ) (ss : List Site) (c : ℕ) (s : Site) →
    In (c, s) (numbered_sites n ss) → c < n + length ss
numbered_below n [] c s i = absurd i
numbered_below n (t ∷ ss) c s (inl e) =
    let same : n ≡ c = ap (λ (u : ℕ × Site). u.0) e in omega (arith, same)
numbered_below n (t ∷ ss) c s (inr i) =
    let later = numbered_below (suc n) ss c s i in omega (arith, later)

-- ## The first item that is found

module _ {A : Type 0} (test : A → Bool) where
  pub find_first : (xs ys : List A) (x : A) → find test xs ≡ Some x → find test (xs ++ ys) ≡ Some x
  find_first xs ys x e = find-append test xs ys ∙ ap (λ o. option_or o (find test ys)) e

  pub find_later :
      (xs ys : List A) → Every (λ x. test x ≡ false) xs →
      find test (xs ++ ys) ≡ find test ys
  find_later [] ys h = refl
  find_later (z ∷ xs) ys h =
      ap (λ b. cond b (Some z) (find test (xs ++ ys))) h.0 ∙ find_later xs ys h.1

  pub find_here : (x : A) (xs : List A) → test x ≡ true → find test (x ∷ xs) ≡ Some x
  find_here x xs e = ap (λ b. cond b (Some x) (find test xs)) e

  pub find_next : (x : A) (xs : List A) → test x ≡ false → find test (x ∷ xs) ≡ find test xs
  find_next x xs e = ap (λ b. cond b (Some x) (find test xs)) e

-- ## The calls of some occurrences

abbrev pub is_numbered : ℕ → Occurrence → Bool
is_numbered call o = nat_eq o.calls_before call && is_site o.expr

is_own : (o : Occurrence) → is_site o.expr ≡ true → is_numbered o.calls_before o ≡ true
is_own o e =
    let same : nat_eq o.calls_before o.calls_before ≡ true = grind (arith, nat_tests) in
    and_from _ _ same e

other_number : (call : ℕ) (o : Occurrence) → nat_eq o.calls_before call ≡ false →
    is_numbered call o ≡ false
other_number call o e = ap (λ b. b && is_site o.expr) e

not_call : (call : ℕ) (o : Occurrence) → is_site o.expr ≡ false → is_numbered call o ≡ false
not_call call o e =
    ap (λ b. nat_eq o.calls_before call && b) e ∙ and-false (nat_eq o.calls_before call)

-- the calls of some occurrences are among these sites, counted from n, and each is the first that
-- has its number
pub record AreCalls (n : ℕ) (os : List Occurrence) (ss : List Site) : Type 0 where
  pub stand :
      Every (λ o. (s : Site) → own_site o.expr ≡ Some s →
      In (o.calls_before, s) (numbered_sites n ss)) os
  pub found : Every (λ o. is_site o.expr ≡ true → find (is_numbered o.calls_before) os ≡ Some o) os

none : {n : ℕ} {ss : List Site} → AreCalls n [] ss
none = record { stand = tt; found = tt }

-- an expression that is no call, before others, adds no call
part : {n : ℕ} {o : Occurrence} {os : List Occurrence} {ss : List Site} →
    own_site o.expr ≡ None → AreCalls n os ss → AreCalls n (o ∷ os) ss
part {n} {o} {os} {ss} e h = record {
  stand = (λ s is. absurd (two s is), h.stand);
  found = (
    λ is. absurd (never is),
    Every-map _ _ (λ x f is. find_next (is_numbered x.calls_before) o os
        (not_call x.calls_before o (no_call o.expr e)) ∙ f is) os h.found,
  );
}
  where
    two : (s : Site) → own_site o.expr ≡ Some s → ⊥
    two s is = let both : None ≡ Some s = sym e ∙ is in absurd cc

    never : is_site o.expr ≡ true → ⊥
    never is = let both : false ≡ true = sym (no_call o.expr e) ∙ is in absurd cc

-- a call before calls with later numbers is the first of them
call :
    {n : ℕ} {k : Clock} {e : Expr} {s : Site} {os : List Occurrence} {ss : List Site} →
    own_site e ≡ Some s → AreCalls (n + 1) os ss → AreCalls n (at k n e ∷ os) (s ∷ ss)
call {n} {k} {e} {s} {os} {ss} is h = record {
  stand = (
    λ t other. inl (ap (λ u. (n, u)) (same t other)),
    Every-map _ _ (λ x f t own. inr (subst (λ m. In (x.calls_before, t) (numbered_sites m ss))
        next (f t own))) os h.stand,
  );
  found = (
    λ own. find_here (is_numbered n) (at k n e) os (is_own (at k n e) own),
    Every-map _ _ (λ x f own. find_next (is_numbered x.calls_before) (at k n e) os
        (other_number x.calls_before (at k n e) (further x f.0 own)) ∙ f.1 own)
        os (Every-both _ _ os h.stand h.found),
  );
}
  where
    next : n + 1 ≡ suc n
    next = omega arith

    same : (t : Site) → own_site e ≡ Some t → s ≡ t
    same t other = let both : Some s ≡ Some t = sym is ∙ other in cc

    further : (x : Occurrence) →
        ((t : Site) → own_site x.expr ≡ Some t →
        In (x.calls_before, t) (numbered_sites (n + 1) ss)) →
        is_site x.expr ≡ true → nat_eq n x.calls_before ≡ false
    further x f own =
        let t = site_of_call x.expr own in
        let above = numbered_from (n + 1) ss x.calls_before t.0 (f t.0 t.1) in
        grind (arith, nat_tests)

-- the calls of two texts, one after the other, are those of both
joined :
    {n : ℕ} {os ps : List Occurrence} {ss ts : List Site} →
    AreCalls n os ss → AreCalls (n + length ss) ps ts → AreCalls n (os ++ ps) (ss ++ ts)
joined {n} {os} {ps} {ss} {ts} g h = record {
  stand =
      Every-append _ os ps
      (Every-map _ _ (λ x f s own. among x.calls_before s
      (in_first (x.calls_before, s) (numbered_sites n ss) (numbered_sites (n + length ss) ts)
      (f s own))) os g.stand)
      (Every-map _ _ (λ x f s own. among x.calls_before s
      (in_second (x.calls_before, s) (numbered_sites n ss) (numbered_sites (n + length ss) ts)
      (f s own))) ps h.stand);
  found =
      Every-append _ os ps
      (Every-map _ _ (λ x f own. find_first (is_numbered x.calls_before) os ps x (f own)) os
      g.found)
      (Every-map _ _ (λ x f own. find_later (is_numbered x.calls_before) os ps
      (Every-map _ _ (λ y before. earlier x y f.0 own before) os g.stand) ∙ f.1 own)
      ps (Every-both _ _ ps h.stand h.found));
}
  where
    among : (c : ℕ) (s : Site) →
        In (c, s) (numbered_sites n ss ++ numbered_sites (n + length ss) ts) →
        In (c, s) (numbered_sites n (ss ++ ts))
    among c s i = subst (λ zs. In (c, s) zs) (sym (numbered_append n ss ts)) i

    earlier : (x y : Occurrence) →
        ((s : Site) → own_site x.expr ≡ Some s →
        In (x.calls_before, s) (numbered_sites (n + length ss) ts)) →
        is_site x.expr ≡ true →
        ((s : Site) → own_site y.expr ≡ Some s → In (y.calls_before, s) (numbered_sites n ss)) →
        is_numbered x.calls_before y ≡ false
    earlier x y f own before = by (own_site y.expr) refl
      where
        by : (o : Option Site) → own_site y.expr ≡ o → is_numbered x.calls_before y ≡ false
        by None e = not_call x.calls_before y (no_call y.expr e)
        by (Some t) e =
            let s = site_of_call x.expr own in
            let above = numbered_from (n + length ss) ts x.calls_before s.0 (f s.0 s.1) in
            let below = numbered_below n ss y.calls_before t (before t e) in
            let other : nat_eq y.calls_before x.calls_before ≡ false = grind (arith, nat_tests) in
            other_number x.calls_before y other

-- ## The calls of a text

module _ (P : Program) (here : Node) where
  abbrev HasCalls : Clock → ℕ → Expr → Type 0
  HasCalls k n e = AreCalls n (occurrences P here k n e) (sites e)

  mutual
    pub calls_of : (k : Clock) (n : ℕ) (e : Expr) → HasCalls k n e
    calls_of k n (Literal m) = part refl none
    calls_of k n (Truth b) = part refl none
    calls_of k n (Variable x) = part refl none
    calls_of k n (Group a) = calls_of k n a
    calls_of k n (Unary op a) = part refl (calls_of k n a)
    calls_of k n (Binary op a b) =
        part refl (joined (calls_of k n a) (calls_of k (n + call_count a) b))
    calls_of k n (If c a b) =
        let na = n + call_count c in
        part refl (joined (calls_of k n c)
        (joined (calls_of k na a) (calls_of k (na + call_count a) b)))
    calls_of k n (Arrow a b) = part refl (joined (calls_of k n a) (calls_of k (n + call_count a) b))
    calls_of k n (Fby a b) = part refl (joined (calls_of k n a) (calls_of k (n + call_count a) b))
    calls_of k n (Pre a) = part refl (calls_of k n a)
    calls_of k n (When a x sign) = part refl (calls_of (declared_clock here x) n a)
    calls_of k n (Current a) = part refl (calls_of (clock_or (clock_of P here a)) n a)
    calls_of k n (Replicate a m) = part refl (calls_of k n a)
    calls_of k n (Index a i) = part refl (calls_of k n a)
    calls_of k n (Slice a i j) = part refl (calls_of k n a)
    calls_of k n (Join a b) = part refl (joined (calls_of k n a) (calls_of k (n + call_count a) b))
    calls_of k n (Array es) = part refl (calls_in k n es)
    calls_of k n (AtMostOne es) = part refl (calls_in k n es)
    calls_of k n (Nor es) = part refl (calls_in k n es)
    calls_of k n (Call f statics es) =
        call refl (calls_each (call_clocks k (node_named P f) es) (n + 1) es)
    calls_of k n (Iterate it (Node_named f statics) m es) = call refl (calls_in k (n + 1) es)
    calls_of k n (Iterate it (Symbol op) m es) = part refl (calls_in k n es)

    pub calls_in : (k : Clock) (n : ℕ) (es : Exprs) →
        AreCalls n (occurrences_in P here k n es) (sites_in es)
    calls_in k n Nil = none
    calls_in k n (Cons e es) = joined (calls_of k n e) (calls_in k (n + call_count e) es)

    pub calls_each : (ks : List Clock) (n : ℕ) (es : Exprs) →
        AreCalls n (occurrences_each P here ks n es) (sites_in es)
    calls_each ks n Nil = none
    calls_each [] n (Cons e es) = none
    calls_each (k ∷ ks) n (Cons e es) =
        joined (calls_of k n e) (calls_each ks (n + call_count e) es)

  -- the occurrences of the right sides of some statements
  abbrev pub body_occurrences : ℕ → List Statement → List Occurrence
  body_occurrences n ss =
      flat_map (λ r. occurrences P here r.clock r.calls_before r.expr) (right_sides P here n ss)

  pub statement_calls : (n : ℕ) (s : Statement) →
      AreCalls n (occurrences P here (statement_clock P here s) n (right_side s))
      (statement_sites s)
  statement_calls n (Equation lefts e) = calls_of (statement_clock P here (Equation lefts e)) n e
  statement_calls n (Assertion e) = calls_of (statement_clock P here (Assertion e)) n e

  pub body_calls : (n : ℕ) (ss : List Statement) →
      AreCalls n (body_occurrences n ss) (flat_map statement_sites ss)
  body_calls n [] = none
  body_calls n (s ∷ rest) =
      joined (statement_calls n s) (body_calls (n + length (statement_sites s)) rest)

  pub node_calls : AreCalls 0 (node_occurrences P here) (node_sites here)
  node_calls = body_calls 0 here.body

  -- a call stands at the number of its site
  pub site_is :
      (o : Occurrence) (s : Site) → In o (node_occurrences P here) → own_site o.expr ≡ Some s →
      slice_get (node_sites here) o.calls_before ≡ Some s
  site_is o s i e =
      let stands = Every-at (λ o. (s : Site) → own_site o.expr ≡ Some s →
      In (o.calls_before, s) (numbered_sites 0 (node_sites here))) (node_occurrences P here) o
      node_calls.stand i s e in
      Every-at (λ u. slice_get (node_sites here) u.0 ≡ Some u.1)
      (numbered_sites 0 (node_sites here)) (o.calls_before, s)
      (numbered_stand P (node_sites here)) stands
