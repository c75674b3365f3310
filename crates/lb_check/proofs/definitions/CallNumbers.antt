-- The numbers of the calls in the text of a node, and the left variables of each.
use Rattle.lb_check.proofs.Words
use Words.{Assertion, Bool, Clock, Equation, Every, Expr, Exprs, Group, In, Iterate, List, Name}
use Words.{Node, Node_named, None, Occurrence, Option, Program, Site, Some, Statement, Symbol, []}
use Words.{and-false, and_first, and_from, and_second, ap, arith, at, call_at, cond, eqb-true}
use Words.{false, find, inl, inr, is_site, left_names, lefts_at, length, listed, nat_eq, nat_tests}
use Words.{node_occurrences, numbered_sites, occurrences, occurrences_in, refl, right_side}
use Words.{right_sides, same_Some, same_number, sites, sites_in, statement_clock, statement_sites}
use Words.{statements, sym, true, ungrouped, ℕ, ◌&&◌, ◌+◌, ◌<◌, ◌∙◌, ◌∷◌, ◌≡◌, ◌≤◌, ◌⊎◌}
use Rattle.lb_check.proofs.lists.Members.{Every-at, Every-both, Every-map, to_pieces}
use Rattle.lb_check.proofs.programs.InstancePaths.{find_in, numbered_from}
use Rattle.lb_check.proofs.programs.OccurrenceSites.{AreCalls, calls_in, calls_of, find_here}
use Rattle.lb_check.proofs.programs.OccurrenceSites.{find_next, node_calls, numbered_below}
use Rattle.lb_check.proofs.programs.OccurrenceSites.{own_site, site_of_call, statement_calls}
use Rattle.lb_check.specs.{Clocks.Base, Needs.is_right_side}
use Rattle.{lb_static.proofs.TestedItems.found_passes, std.proofs.Common.zip}

-- The call of a number in the text of a node, and the left variables of the equation whose whole
-- right side is this call.

-- an item that `find` returns is in the list and passes the test
pub found_in : {A : Type 0} (test : A → Bool) (xs : List A) (x : A) → find test xs ≡ Some x →
    In x xs × (test x ≡ true)
found_in test xs x e = (find_in test xs x e, found_passes test xs x e)

zip_second : {A B : Type 0} (xs : List A) (ys : List B) (t : A × B) → In t (zip xs ys) → In t.1 ys
zip_second {A = A} {B = B} (x ∷ xs) (y ∷ ys) t (inl e) = inl (ap (λ (u : A × B). u.1) e)
zip_second (x ∷ xs) (y ∷ ys) t (inr i) = inr (zip_second xs ys t i)
zip_second _ _ t i = absurd i

-- ## Expressions in parentheses

module _ (P : Program) (here : Node) where
  -- an expression is the first of its occurrences
  pub leads : (k : Clock) (n : ℕ) (e : Expr) → In (at k n (ungrouped e)) (occurrences P here k n e)
  leads k n (Group a) = leads k n a
  leads k n (Iterate it (Node_named f statics) m es) = inl refl
  leads k n (Iterate it (Symbol op) m es) = inl refl
  leads k n e = inl refl

  -- ## The call of a number

  pub call_of :
      (o : Occurrence) → In o (node_occurrences P here) → is_site o.expr ≡ true →
      call_at P here o.calls_before ≡ Some o
  call_of o i is =
      Every-at (λ o. is_site o.expr ≡ true → call_at P here o.calls_before ≡ Some o)
      (node_occurrences P here) o ((node_calls P here).found) i is

  -- ## Right sides that are calls

  abbrev numbered_statements : ℕ → List Statement → List (Statement × Occurrence)
  numbered_statements n ss = zip ss (right_sides P here n ss)

  -- a statement with its right side, on its clock
  pub record IsOwnRight (t : Statement × Occurrence) : Type 0 where
    pub clock : t.1.clock ≡ statement_clock P here t.0
    pub expr : t.1.expr ≡ right_side t.0

  own_rights : (n : ℕ) (ss : List Statement) → Every IsOwnRight (numbered_statements n ss)
  own_rights n [] = tt
  own_rights n (s ∷ ss) =
      (record { clock = refl; expr = refl }, own_rights (n + length (statement_sites s)) ss)

  -- a statement of the node has its own right side, on its own clock
  pub own_right : (t : Statement × Occurrence) → In t (statements P here) → IsOwnRight t
  own_right t i = Every-at IsOwnRight (statements P here) t (own_rights 0 here.body) i

  numbers_from : (n : ℕ) (ss : List Statement) →
      Every (λ t. n ≤ t.1.calls_before) (numbered_statements n ss)
  numbers_from n [] = tt
  numbers_from n (s ∷ ss) = (
    omega arith,
    Every-map (λ t. n + length (statement_sites s) ≤ t.1.calls_before)
        (λ t. n ≤ t.1.calls_before) (λ t le. omega (arith, le))
        (numbered_statements (n + length (statement_sites s)) ss)
        (numbers_from (n + length (statement_sites s)) ss),
  )

  has_site : (e : Expr) → is_site (ungrouped e) ≡ true → 0 < length (sites e)
  has_site e is =
      let s = site_of_call (ungrouped e) is in
      let stands = Every-at _ (occurrences P here Base 0 e) (at Base 0 (ungrouped e))
      (calls_of P here Base 0 e).stand (leads Base 0 e) s.0 s.1 in
      let below = numbered_below 0 (sites e) 0 s.0 stands in
      omega (arith, below)

  pub statement_has_site : (s : Statement) → is_site (ungrouped (right_side s)) ≡ true →
      0 < length (statement_sites s)
  statement_has_site (Equation lefts e) is = has_site e is
  statement_has_site (Assertion e) is = has_site e is

  -- a call behind those of a statement is not its right side
  not_right : (n : ℕ) (s : Statement) (call : ℕ) → n + length (statement_sites s) ≤ call →
      (nat_eq n call && is_site (ungrouped (right_side s))) ≡ false
  not_right n s call le = grind (arith, nat_tests, statement_has_site s, and-false)

  right_found : (n : ℕ) (ss : List Statement) →
      Every (λ t. is_site (ungrouped t.1.expr) ≡ true →
      find (λ u. is_right_side t.1.calls_before u.1) (numbered_statements n ss) ≡ Some t)
      (numbered_statements n ss)
  right_found n [] = tt
  right_found n (s ∷ ss) =
      let first : Statement × Occurrence = (s, at (statement_clock P here s) n (right_side s)) in
      let rest = numbered_statements (n + length (statement_sites s)) ss in (
        λ is. find_here (λ u. is_right_side n u.1) first rest (and_from _ _ (same_number n) is),
        Every-map _ _
            (λ t h is. find_next (λ u. is_right_side t.1.calls_before u.1) first rest
            (not_right n s t.1.calls_before h.0)
            ∙ h.1 is) rest
            (Every-both _ _ rest (numbers_from (n + length (statement_sites s)) ss)
            (right_found (n + length (statement_sites s)) ss)),
      )

  -- the left variables of a call that is the whole right side of a statement are those of the
  -- statement
  pub lefts_of :
      (t : Statement × Occurrence) → In t (statements P here) →
      is_site (ungrouped t.1.expr) ≡ true → lefts_at P here t.1.calls_before ≡ left_names t.0
  lefts_of t i is =
      ap (listed (λ s. left_names s.0))
      (Every-at (λ t. is_site (ungrouped t.1.expr) ≡ true →
      find (λ u. is_right_side t.1.calls_before u.1) (statements P here) ≡ Some t)
      (statements P here) t (right_found 0 here.body) i is)

  -- the right side of a statement is among the occurrences
  pub right_in :
      (t : Statement × Occurrence) → In t (statements P here) →
      In (at t.1.clock t.1.calls_before (ungrouped t.1.expr)) (node_occurrences P here)
  right_in t i =
      to_pieces (λ r. occurrences P here r.clock r.calls_before r.expr)
      (at t.1.clock t.1.calls_before (ungrouped t.1.expr)) t.1 (right_sides P here 0 here.body)
      (zip_second here.body (right_sides P here 0 here.body) t i)
      (leads t.1.clock t.1.calls_before t.1.expr)

  -- a call is the whole right side of a statement
  pub record IsRightSide (o : Occurrence) : Type 0 where
    pub statement : Statement × Occurrence
    pub stands : In statement (statements P here)
    pub own : IsOwnRight statement
    pub is : at statement.1.clock statement.1.calls_before (ungrouped statement.1.expr) ≡ o

  -- the left variables of a call are those of the statement whose whole right side it is; a call
  -- that is no whole right side has none
  pub lefts_are :
      (o : Occurrence) → In o (node_occurrences P here) → is_site o.expr ≡ true →
      ((r : IsRightSide o) × (lefts_at P here o.calls_before ≡ left_names r.statement.0))
      ⊎ (lefts_at P here o.calls_before ≡ [])
  lefts_are o i is = by (find (λ s. is_right_side o.calls_before s.1) (statements P here)) refl
    where
      by : (f : Option (Statement × Occurrence)) →
          find (λ s. is_right_side o.calls_before s.1) (statements P here) ≡ f →
          ((r : IsRightSide o) × (lefts_at P here o.calls_before ≡ left_names r.statement.0))
          ⊎ (lefts_at P here o.calls_before ≡ [])
      by None e = inr (ap (listed (λ s. left_names s.0)) e)
      by (Some t) e =
          let there = found_in (λ s. is_right_side o.calls_before s.1) (statements P here) t e in
          let number = eqb-true t.1.calls_before o.calls_before
          (and_first (nat_eq t.1.calls_before o.calls_before) _ there.1) in
          let call = and_second (nat_eq t.1.calls_before o.calls_before) _ there.1 in
          let right = at t.1.clock t.1.calls_before (ungrouped t.1.expr) in
          let one = call_of right (right_in t there.0) call in
          let same = same_Some right o
          (sym one ∙ (ap (call_at P here) number ∙ call_of o i is)) in
          inl (
            record {
              statement = t;
              stands = there.0;
              own = own_right t there.0;
              is = same;
            },
            ap (listed (λ s. left_names s.0)) e,
          )

-- The left variables of the call of a number, statement by statement.

-- the calls among occurrences have numbers from `n` on
abbrev pub AreFrom : ℕ → List Occurrence → Type 0
AreFrom n os = Every (λ o. is_site o.expr ≡ true → n ≤ o.calls_before) os

-- the calls among occurrences have numbers below `n`
abbrev pub AreBelow : ℕ → List Occurrence → Type 0
AreBelow n os = Every (λ o. is_site o.expr ≡ true → o.calls_before < n) os

pub from_calls : (n : ℕ) (os : List Occurrence) (ss : List Site) → AreCalls n os ss → AreFrom n os
from_calls n os ss h =
    Every-map
    (λ o. (s : Site) → own_site o.expr ≡ Some s → In (o.calls_before, s) (numbered_sites n ss))
    (λ o. is_site o.expr ≡ true → n ≤ o.calls_before)
    (λ o f is. let s = site_of_call o.expr is in
    numbered_from n ss o.calls_before s.0 (f s.0 s.1)) os h.stand

below_calls : (n : ℕ) (os : List Occurrence) (ss : List Site) → AreCalls n os ss →
    AreBelow (n + length ss) os
below_calls n os ss h =
    Every-map
    (λ o. (s : Site) → own_site o.expr ≡ Some s → In (o.calls_before, s) (numbered_sites n ss))
    (λ o. is_site o.expr ≡ true → o.calls_before < n + length ss)
    (λ o f is. let s = site_of_call o.expr is in
    numbered_below n ss o.calls_before s.0 (f s.0 s.1)) os h.stand

module _ (P : Program) (here : Node) where
  pub row_from : (k : Clock) (n : ℕ) (es : Exprs) → AreFrom n (occurrences_in P here k n es)
  row_from k n es =
      from_calls n (occurrences_in P here k n es) (sites_in es) (calls_in P here k n es)

  -- the calls of a statement have numbers below those of the statements behind it
  pub statement_below : (n : ℕ) (s : Statement) →
      AreBelow (n + length (statement_sites s))
      (occurrences P here (statement_clock P here s) n (right_side s))
  statement_below n s =
      below_calls n (occurrences P here (statement_clock P here s) n (right_side s))
      (statement_sites s) (statement_calls P here n s)

  -- ## Left variables

  abbrev numbered : ℕ → List Statement → List (Statement × Occurrence)
  numbered n ss = zip ss (right_sides P here n ss)

  -- the left variables of the call with a number, among statements that are numbered from `n` on
  abbrev pub lefts_among : ℕ → List Statement → ℕ → List Name
  lefts_among n ss call =
      listed (λ s. left_names s.0)
      (find (λ s. is_right_side call s.1) (zip ss (right_sides P here n ss)))

  -- the left variables of the call with a number, where the statement with number `n` has `lefts`
  -- and `e`
  abbrev pub own_lefts : ℕ → Expr → List Name → ℕ → List Name
  own_lefts n e lefts call = cond (nat_eq n call && is_site (ungrouped e)) lefts []

  none_right : (call n : ℕ) (ss : List Statement) → call < n →
      find (λ s. is_right_side call s.1) (zip ss (right_sides P here n ss)) ≡ None
  none_right call n [] lt = refl
  none_right call n (s ∷ ss) lt =
      let first : Statement × Occurrence = (s, at (statement_clock P here s) n (right_side s)) in
      let other : nat_eq n call ≡ false = grind (arith, nat_tests) in
      find_next (λ s. is_right_side call s.1) first
      (numbered (n + length (statement_sites s)) ss)
      (ap (λ b. b && is_site (ungrouped (right_side s))) other)
      ∙ none_right call (n + length (statement_sites s)) ss (omega arith)

  -- the left variables of a call within the first statement are those of this statement
  pub first_lefts : (n : ℕ) (s : Statement) (ss : List Statement) (call : ℕ) →
      call < n + length (statement_sites s) →
      own_lefts n (right_side s) (left_names s) call ≡ lefts_among n (s ∷ ss) call
  first_lefts n s ss call lt = grind (arith, none_right call (n + length (statement_sites s)) ss lt)

  -- the left variables of a call within a later statement are those among the later ones
  pub later_lefts : (n : ℕ) (s : Statement) (ss : List Statement) (call : ℕ) →
      n + length (statement_sites s) ≤ call →
      lefts_among (n + length (statement_sites s)) ss call ≡ lefts_among n (s ∷ ss) call
  later_lefts n s ss call le =
      let first : Statement × Occurrence = (s, at (statement_clock P here s) n (right_side s)) in
      let rest = numbered (n + length (statement_sites s)) ss in
      sym (ap (listed (λ s. left_names s.0))
      (find_next (λ s. is_right_side call s.1) first rest
      (not_right P here n s call le)))

  -- the left variables of a call that is a whole right side, and below of all else
  pub own_is : (n : ℕ) (e : Expr) (lefts : List Name) → is_site (ungrouped e) ≡ true →
      own_lefts n e lefts n ≡ lefts
  own_is n e lefts is =
      let own : nat_eq n n ≡ true = grind (arith, nat_tests) in
      ap (λ b. cond (b && is_site (ungrouped e)) lefts []) own ∙ ap (λ b. cond b lefts []) is

  pub no_own : (n : ℕ) (e : Expr) (lefts : List Name) (call : ℕ) →
      is_site (ungrouped e) ≡ false → [] ≡ own_lefts n e lefts call
  no_own n e lefts call is =
      sym (ap (λ b. cond (nat_eq n call && b) lefts []) is
      ∙ ap (λ b. cond b lefts []) (and-false (nat_eq n call)))

  pub no_more : (n : ℕ) (e : Expr) (lefts : List Name) (call : ℕ) → n + 1 ≤ call →
      [] ≡ own_lefts n e lefts call
  no_more n e lefts call le =
      let other : nat_eq n call ≡ false = grind (arith, nat_tests) in
      sym (ap (λ b. cond (b && is_site (ungrouped e)) lefts []) other)
