-- The calls among the occurrences of a node whose types are right are numbered one after another.
use Rattle.lb_check.proofs.Words
use Words.{◌≡◌, ℕ, zero, suc, ◌+◌, Bool, true, Option, Some, None, List, [], ◌∷◌, map, refl, ap}
use Words.{sym, ◌∙◌, subst, arith, ◌&&◌, filter, is_some, nat_eq, slice_get, list_all, nat_tests}
use Words.{and_from, In, some_of, Node, and_first, and_second, variables, Program, Instance, Site}
use Words.{node_sites, numbered_sites, in_filter, place_in, call_at, is_site, Occurrence}
use Words.{node_occurrences, is_clock_typed, is_typed, cond, option_map}
use Rattle.lb_check.proofs.{definitions.CallNumbers.found_in, lists.ListPairs.cons_same}
use Rattle.lb_check.proofs.programs.OccurrenceSites.{own_site, site_test}
use Rattle.lb_check.proofs.programs.SiteOccurrences.{own_call, calls_among, AreCallsOf, body_calls}

abbrev pub is_call : Occurrence → Bool
is_call o = is_site o.expr

abbrev pub calls_in : List Occurrence → List Occurrence
calls_in os = filter is_call os

-- whether calls are numbered from `n` on
abbrev pub counted_from : ℕ → List Occurrence → Bool
counted_from n [] = true
counted_from n (o ∷ os) = nat_eq o.calls_before n && counted_from (suc n) os

counted_at : (n : ℕ) (xs : List Occurrence) (i : ℕ) (o : Occurrence) → counted_from n xs ≡ true →
    slice_get xs i ≡ Some o → o.calls_before ≡ n + i
counted_at n [] i o h e = absurd cc
counted_at n (x ∷ xs) zero o h e =
    let same : x ≡ o = cc in
    let here = and_first (nat_eq x.calls_before n) _ h in
    let number : x.calls_before ≡ n + 0 = grind (arith, nat_tests) in
    sym (ap (λ z. z.calls_before) same) ∙ number
counted_at n (x ∷ xs) (suc i) o h e =
    let later = counted_at (suc n) xs i o (and_second (nat_eq x.calls_before n) _ h) e in
    omega (arith, later)

-- the calls of numbered sites are numbered from the same number on
numbered_counted :
    (n : ℕ) (os : List Occurrence) (ss : List Site) → AreCallsOf n os ss →
    counted_from n (calls_in os) ≡ true
numbered_counted n [] ss e = refl
numbered_counted n (o ∷ os) ss e =
    by (own_site o.expr) (site_test o.expr) ss e (λ m ts h. numbered_counted m os ts h)
  where
    by : (z : Option Site) → is_site o.expr ≡ is_some z → (ss : List Site) →
        some_of (option_map {U = ℕ × Site} (λ s. (o.calls_before, s)) z ∷ map own_call os)
        ≡ numbered_sites n ss →
        ((m : ℕ) (ts : List Site) → AreCallsOf m os ts → counted_from m (calls_in os) ≡ true) →
        counted_from n (cond (is_site o.expr) (o ∷ calls_in os) (calls_in os)) ≡ true
    by None is ss e later =
        ap (λ b. counted_from n (cond b (o ∷ calls_in os) (calls_in os))) is ∙ later n ss e
    by (Some s) is [] e later = absurd cc
    by (Some s) is (t ∷ ts) e later =
        let both = cons_same {A = ℕ × Site} (o.calls_before, s) (n, t) (calls_among os)
        (numbered_sites (suc n) ts) e in
        let number : o.calls_before ≡ n = ap (λ (c : ℕ × Site). c.0) both.0 in
        let own : nat_eq o.calls_before n ≡ true = grind (arith, nat_tests) in
        ap (λ b. counted_from n (cond b (o ∷ calls_in os) (calls_in os))) is
        ∙ and_from (nat_eq o.calls_before n) _ own (later (suc n) ts both.1)

-- the calls of a node of which an instance keeps the rules of types are numbered from 0 on
pub node_counted :
    (P : Program) (here : Instance) → is_typed P here ≡ true →
    counted_from 0 (calls_in (node_occurrences P here.node)) ≡ true
node_counted P here e =
    numbered_counted 0 (node_occurrences P here.node) (node_sites here.node)
    (body_calls P here 0 here.node.body
    (and_second (list_all (is_clock_typed P here) (variables here.node)) _ e))

-- the call with number `i` is item `i` of the calls of its node
pub call_placed : (P : Program) (n : Node) →
    counted_from 0 (calls_in (node_occurrences P n)) ≡ true → (i : ℕ) (o : Occurrence) →
    call_at P n i ≡ Some o →
    In o (node_occurrences P n) × (is_site o.expr ≡ true)
    × (slice_get (calls_in (node_occurrences P n)) i ≡ Some o)
call_placed P n counted i o e =
    let os = node_occurrences P n in
    let f = found_in (λ o. nat_eq o.calls_before i && is_site o.expr) os o e in
    let own = and_first (nat_eq o.calls_before i) (is_site o.expr) f.1 in
    let is = and_second (nat_eq o.calls_before i) (is_site o.expr) f.1 in
    let p = place_in (calls_in os) o (in_filter is_call os o f.0 is) in
    let number = counted_at 0 (calls_in os) p.0 o counted p.1 in
    let same : p.0 ≡ i = grind (arith, nat_tests) in
    (f.0, is, subst (λ j. slice_get (calls_in os) j ≡ Some o) same p.1)
