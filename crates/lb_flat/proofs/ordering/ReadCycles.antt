-- Reads one after another, the cycles that they close, and what these are certificates of.
use Rattle.lb_flat.proofs.Words
use Words.{cases_eq, get_or-set_same, get_or-set_other, same_Some, Every, FlatProgram, Leads}
use Words.{reads_it, by_way, IsReadCycle, In, Every-at, IsOrderingOf, FlatEquation, Chain, one_read}
use Words.{more_reads, equation_reads, Ready, slice_get, Program, program_elements, NeedsAt}
use Words.{IsCertificate, static_refusal, HasReads, IsExpansionOf, ◌≡◌, ℕ, zero, suc, ◌<◌, ◌≤◌}
use Words.{Option, Some, None, List, [], ◌∷◌, ◌++◌, length, drop, get_or, set, refl, sym, ap, subst}
use Words.{◌∙◌, arith, ⊎_elim, length-append, length-set, ◌⊎◌, inl, inr, ◌≢◌, true, false}
use Words.{if◌then◌else◌, Element, Needs}
use Rattle.{std.proofs.{Common.eqb, lemmas.Bool.Decides.eqb_tells}, lb_check.specs.Needs.Reaches}
use Rattle.std.proofs.lemmas.List.{get_or_default, get_or_push, get_or_append_left}
use Rattle.lb_check.specs.Needs.{at_once, through, IsCyclic, IsCausal}
use Rattle.{lb_check.proofs.programs.AcceptedElements.number_is, lb_flat.specs.Reading.AreLinked}
use Rattle.lb_flat.proofs.lists.Lists.{Every-append, Every-drop, Every-map}

-- Reads one after another, the paths that they make, and where a path closes.

-- where `j` leads to a temporary `e`, and `e` leads to `i`, `j` leads to `i`
pub leads_on :
    (f : FlatProgram) (j e i : ℕ) → Leads f e i → f.variables ≤ e → Leads f j e → Leads f j i
leads_on f j e _ (reads_it q is_in reads) le more = by_way q e is_in reads le more
leads_on f j e _ (by_way q g is_in reads high rest) le more =
    by_way q g is_in reads high (leads_on f j e g rest le more)

-- ## Paths

-- a path to `at`: each number is linked to the next, and the last one to `at`
abbrev pub IsPath : (ℕ → ℕ → Type 0) → ℕ → List ℕ → Type 0
IsPath R at [] = Unit {0}
IsPath R at (i ∷ is) = AreLinked R at (i ∷ is)

module _ (R : ℕ → ℕ → Type 0) where
  path_rest : (at i : ℕ) (is : List ℕ) → AreLinked R at (i ∷ is) → IsPath R at is
  path_rest at i [] h = tt
  path_rest at i (j ∷ is) h = h.1

  path_drop : (at k : ℕ) (is : List ℕ) → IsPath R at is → IsPath R at (drop k is)
  path_drop at zero is h = h
  path_drop at (suc k) [] h = tt
  path_drop at (suc k) (i ∷ is) h = path_drop at k is (path_rest at i is h)

  linked_more :
      (at next i : ℕ) (is : List ℕ) → AreLinked R at (i ∷ is) → R at next →
      AreLinked R next (i ∷ (is ++ at ∷ []))
  linked_more at next i [] h r = (h, r)
  linked_more at next i (j ∷ is) h r = (h.0, linked_more at next j is h.1 r)

  -- a path grows by one link at its end
  pub path_more :
      (at next : ℕ) (is : List ℕ) → IsPath R at is → R at next → IsPath R next (is ++ at ∷ [])
  path_more at next [] h r = r
  path_more at next (i ∷ is) h r = linked_more at next i is h r

  linked_path : (at : ℕ) (is : List ℕ) → 0 < length is → IsPath R at is → AreLinked R at is
  linked_path at [] lt h = absurd (omega arith)
  linked_path at (i ∷ is) lt h = h

  -- where `at` is on the path at place `k`, the path from `k` on is a cycle
  pub path_closes :
      (at k : ℕ) (is : List ℕ) → IsPath R at is → k < length is → get_or is k 0 ≡ at →
      AreLinked R (get_or (drop k is) 0 0) (drop k is)
  path_closes at k is h lt e =
      subst (λ i. AreLinked R i (drop k is)) (sym (first_is k is ∙ e))
      (linked_path at (drop k is) (some_dropped k is lt) (path_drop at k is h))
    where
      first_is : (k : ℕ) (is : List ℕ) → get_or (drop k is) 0 0 ≡ get_or is k 0
      first_is zero is = refl
      first_is (suc k) [] = refl
      first_is (suc k) (i ∷ is) = first_is k is

      some_dropped : (k : ℕ) (is : List ℕ) → k < length is → 0 < length (drop k is)
      some_dropped zero is lt = lt
      some_dropped (suc k) [] lt = absurd (omega arith)
      some_dropped (suc k) (i ∷ is) lt = some_dropped k is (omega arith)

-- ## Places on a path

-- the place that a table notes for a number is its place on the path
abbrev pub AreNoted : List (Option ℕ) → List ℕ → Type 0
AreNoted places is =
    (i k : ℕ) → get_or places i None ≡ Some k → (k < length is) × (get_or is k 0 ≡ i)

-- the number of elements that have no place yet
abbrev pub unnoted : List (Option ℕ) → ℕ
unnoted [] = 0
unnoted (None ∷ places) = suc (unnoted places)
unnoted (Some k ∷ places) = unnoted places

pub unnoted_less :
    (places : List (Option ℕ)) (i k : ℕ) → i < length places → get_or places i None ≡ None →
    suc (unnoted (set places i (Some k))) ≡ unnoted places
unnoted_less [] i k lt e = absurd (omega arith)
unnoted_less (None ∷ places) zero k lt e = refl
unnoted_less (Some l ∷ places) zero k lt e = absurd (cc)
unnoted_less (None ∷ places) (suc i) k lt e = ap suc (unnoted_less places i k (omega arith) e)
unnoted_less (Some l ∷ places) (suc i) k lt e = unnoted_less places i k (omega arith) e

-- a path with one more number at its end, whose place is noted
pub noted_more :
    (places : List (Option ℕ)) (is : List ℕ) (i : ℕ) → i < length places → AreNoted places is →
    AreNoted (set places i (Some (length is))) (is ++ i ∷ [])
noted_more places is i lt noted j k h =
    ⊎_elim
    (λ (same : j ≡ i).
    let here : Some (length is) ≡ Some k =
    sym (get_or-set_same places i (Some (length is)) None lt)
    ∙ ap (λ m. get_or (set places i (Some (length is))) m None) (sym same) ∙ h in
    let last : length is ≡ k = same_Some (length is) k here in (
      omega (arith, last, length-append is (i ∷ [])),
      get_or_push is i 0 k last ∙ sym same,
    ))
    (λ (other : j ≡ i → ⊥).
    let old = noted j k
    (sym (get_or-set_other places i j (Some (length is)) None other) ∙ h) in (
      omega (arith, old.0, length-append is (i ∷ [])),
      get_or_append_left is (i ∷ []) 0 k old.0 ∙ old.1,
    ))
    (cases_eq j i)

no_place : (o : Option ℕ) → ((k : ℕ) → o ≡ Some k → ⊥) → o ≡ None
no_place None f = refl
no_place (Some k) f = absurd (f k refl)

-- ## A cycle

module _ (f : FlatProgram) where
  -- an element reads another
  abbrev pub Reads : ℕ → ℕ → Type 0
  Reads i j = Leads f j i

  -- a path to the element `at` of a variable, along elements of variables, with its places noted
  pub record IsWay (is : List ℕ) (places : List (Option ℕ)) (at : ℕ) : Type 0 where
    pub path : IsPath Reads at is
    pub below : Every (λ i. i < f.variables) is
    pub is_variable : at < f.variables
    pub as_many : length places ≡ f.variables
    pub noted : AreNoted places is

  module _ (is : List ℕ) (places : List (Option ℕ)) (at : ℕ) (w : IsWay is places at) where
    -- where `at` has a place `k`, the path from `k` on is a cycle
    pub way_closes : (k : ℕ) → get_or places at None ≡ Some k → IsReadCycle f (drop k is)
    way_closes k e =
        let here = w.noted at k e in (
          Every-drop (λ i. i < f.variables) k is w.below,
          path_closes Reads at k is w.path here.0 here.1,
        )

    pub way_place : (k : ℕ) → get_or places at None ≡ Some k → k < length is
    way_place k e = (w.noted at k e).0

    pub way_less :
        get_or places at None ≡ None → (k : ℕ) →
        unnoted (set places at (Some k)) < unnoted places
    way_less e k =
        let lt = w.is_variable in
        let many = w.as_many in
        omega (arith, unnoted_less places at k (omega arith) e)

    -- the place that is found for `at` in the table
    found_at : (found : Option ℕ) → found ≡ get_or places at found → get_or places at None ≡ found
    found_at found same =
        let lt = w.is_variable in
        let many = w.as_many in
        get_or_default places at None found (omega arith) ∙ sym same

    pub way_noted :
        (found : Option ℕ) → found ≡ get_or places at found → (k : ℕ) → found ≡ Some k →
        get_or places at None ≡ Some k
    way_noted found same k e = found_at found same ∙ e

    pub way_free :
        (found : Option ℕ) → found ≡ get_or places at found →
        ((k : ℕ) → found ≡ Some k → ⊥) → get_or places at None ≡ None
    way_free found same none = found_at found same ∙ no_place found none

    pub way_more :
        (next : ℕ) → Leads f next at → next < f.variables →
        IsWay (is ++ at ∷ []) (set places at (Some (length is))) next
    way_more next leads lt = record {
      path = path_more Reads at next is w.path leads;
      below = Every-append (λ i. i < f.variables) is (at ∷ []) w.below (w.is_variable, tt);
      is_variable = lt;
      as_many = length-set places at (Some (length is)) ∙ w.as_many;
      noted =
          let many = w.as_many in
          let variable = w.is_variable in
          noted_more places is at (omega arith) w.noted;
    }

-- If the equations of a flat program can be put in order, no element reads itself.

-- ## Turns

-- `eqb i j` is true and the numbers are equal, or it is false and they differ
abbrev pub AreCompared : ℕ → ℕ → Type 0
AreCompared i j = ((eqb i j ≡ true) × (i ≡ j)) ⊎ ((eqb i j ≡ false) × (i ≢ j))

-- the number of equations before the first that gives the element `i`
pub turn : List FlatEquation → ℕ → ℕ
turn [] i = 0
turn (q ∷ Q) i = if eqb q.element i then 0 else suc (turn Q i)

at_turn : (q : FlatEquation) (Q : List FlatEquation) (i : ℕ) → q.element ≡ i → turn (q ∷ Q) i ≡ 0
unfolding turn
at_turn q Q i e = first (eqb_tells q.element i)
  where
    first : AreCompared q.element i → turn (q ∷ Q) i ≡ 0
    first (inl h) = ap (λ b. if b then 0 else suc (turn Q i)) h.0
    first (inr h) = absurd (h.1 e)

later_turn :
    (q : FlatEquation) (Q : List FlatEquation) (i : ℕ) → q.element ≢ i →
    turn (q ∷ Q) i ≡ suc (turn Q i)
unfolding turn
later_turn q Q i e = later (eqb_tells q.element i)
  where
    later : AreCompared q.element i → turn (q ∷ Q) i ≡ suc (turn Q i)
    later (inl h) = absurd (e h.1)
    later (inr h) = ap (λ b. if b then 0 else suc (turn Q i)) h.0

module _ (size : ℕ) where
  -- in an order, no equation gives an element that is done
  pub new_later :
      (done : List ℕ) (Q : List FlatEquation) → Ready size done Q → (q : FlatEquation) → In q Q →
      In q.element done → ⊥
  new_later done [] ready q i d = absurd i
  new_later done (p ∷ Q) ready q (inl e) d =
      ready.0.is_new (subst (λ p. In p.element done) (sym e) d)
  new_later done (p ∷ Q) ready q (inr i) d = new_later (p.element ∷ done) Q ready.1 q i (inr d)

  -- an equation reads only what is done, or what is given before its own element
  turns :
      (done : List ℕ) (Q : List FlatEquation) → Ready size done Q → (q : FlatEquation) → In q Q →
      Every (λ i. In i done ⊎ (turn Q i < turn Q q.element)) (equation_reads q)
  turns done [] ready q i = absurd i
  turns done (p ∷ Q) ready q (inl e) =
      Every-map (λ i. In i done) (λ i. In i done ⊎ (turn (p ∷ Q) i < turn (p ∷ Q) q.element))
      (λ i d. inl d) (equation_reads q)
      (subst (λ p. Every (λ i. In i done) (equation_reads p)) e ready.0.reads_done)
  turns done (p ∷ Q) ready q (inr j) =
      Every-map (λ i. In i (p.element ∷ done) ⊎ (turn Q i < turn Q q.element))
      (λ i. In i done ⊎ (turn (p ∷ Q) i < turn (p ∷ Q) q.element)) next (equation_reads q)
      (turns (p.element ∷ done) Q ready.1 q j)
    where
      own : turn (p ∷ Q) q.element ≡ suc (turn Q q.element)
      own =
          later_turn p Q q.element
          (λ e. new_later (p.element ∷ done) Q ready.1 q j (inl e))

      step :
          (i : ℕ) → turn Q i < turn Q q.element → AreCompared p.element i →
          turn (p ∷ Q) i < turn (p ∷ Q) q.element
      step i lt (inl h) = let e = at_turn p Q i h.1 in omega (arith, e, own)
      step i lt (inr h) = let e = later_turn p Q i h.1 in omega (arith, e, own)

      next :
          (i : ℕ) → In i (p.element ∷ done) ⊎ (turn Q i < turn Q q.element) →
          In i done ⊎ (turn (p ∷ Q) i < turn (p ∷ Q) q.element)
      next i (inl (inl e)) = let f = at_turn p Q i e in inr (omega (arith, f, own))
      next i (inl (inr d)) = inl d
      next i (inr lt) = inr (step i lt (eqb_tells p.element i))

  -- in an order, an equation reads only elements that are given before its own
  reads_before :
      (Q : List FlatEquation) → Ready size [] Q → (q : FlatEquation) → In q Q →
      Every (λ i. turn Q i < turn Q q.element) (equation_reads q)
  reads_before Q ready q i =
      Every-map (λ i. In i [] ⊎ (turn Q i < turn Q q.element))
      (λ i. turn Q i < turn Q q.element) later (equation_reads q) (turns [] Q ready q i)
    where
      later : (i : ℕ) → In i [] ⊎ (turn Q i < turn Q q.element) → turn Q i < turn Q q.element
      later i (inl none) = absurd none
      later i (inr lt) = lt

-- ## Chains

module _ (f : FlatProgram) (Q : List FlatEquation) (ordering : IsOrderingOf f.equations Q)
    (ready : Ready f.size [] Q) where
  -- where a chain leads from j to i, j has its turn before i
  pub chain_before : (j i : ℕ) → Chain f j i → turn Q j < turn Q i
  chain_before j _ (one_read q is own) =
      Every-at (λ i. turn Q i < turn Q q.element) (equation_reads q) j
      (reads_before f.size Q ready q (ordering.there q is)) own
  chain_before j _ (more_reads q e is own rest) =
      let first = Every-at (λ i. turn Q i < turn Q q.element) (equation_reads q) e
      (reads_before f.size Q ready q (ordering.there q is)) own in
      let later = chain_before j e rest in
      omega (arith, first, later)

  -- if the equations are in an order, no element reads itself
  pub no_cycle : (i : ℕ) → Chain f i i → ⊥
  no_cycle i c = let lt = chain_before i i c in absurd (omega (arith, lt))

-- A cycle of reads is a certificate where reading is needing, and a certificate is a cycle.

-- numbers below n that are linked by R are linked by S, where R implies S below n
linked_by :
    (R S : ℕ → ℕ → Type 0) (n first : ℕ) (is : List ℕ) →
    ((i j : ℕ) → i < n → j < n → R i j → S i j) → first < n → Every (λ i. i < n) is →
    AreLinked R first is → AreLinked S first is
linked_by R S n first [] f lt below h = h
linked_by R S n first (i ∷ []) f lt below h = f i first below.0 lt h
linked_by R S n first (i ∷ (j ∷ is)) f lt below h = (
  f i j below.0 below.1.0 h.0,
  linked_by R S n first (j ∷ is) f lt below.1 h.1,
)

-- a cycle of reads is a certificate, if a variable that leads to another is a need of it
pub certificate_of :
    (P : Program) (f : FlatProgram) (is : List ℕ) →
    ((i j : ℕ) → i < f.variables → j < f.variables → Leads f j i → NeedsAt P i j) →
    IsReadCycle f is → IsCertificate P is
certificate_of P f [] needs h = h.1
certificate_of P f (i ∷ is) needs h =
    linked_by (λ i j. Leads f j i) (NeedsAt P) f.variables i (i ∷ is) needs h.0.0 h.0 h.1

-- ## Needs one after another

-- the element with number i reaches the element with number j
record ReachesAt (P : Program) (i j : ℕ) : Type 0 where
  one : Element
  other : Element
  is_one : slice_get (program_elements P) i ≡ Some one
  is_other : slice_get (program_elements P) j ≡ Some other
  reaches : Reaches P other one

linked_reach :
    (P : Program) (first i : ℕ) (is : List ℕ) → AreLinked (NeedsAt P) first (i ∷ is) →
    ReachesAt P i first
linked_reach P first i [] h = record {
  one = h.one;
  other = h.other;
  is_one = h.is_one;
  is_other = h.is_other;
  reaches = at_once h.one h.needs;
}
linked_reach P first i (j ∷ is) h =
    let g = linked_reach P first j is h.1 in
    let same : g.one ≡ h.0.other = same_Some g.one h.0.other (sym g.is_one ∙ h.0.is_other) in
    record {
      one = h.0.one;
      other = g.other;
      is_one = h.0.is_one;
      is_other = g.is_other;
      reaches = through h.0.one h.0.other h.0.needs (subst (Reaches P g.other) same g.reaches);
    }

-- if there is a certificate, some element reaches itself
pub cyclic_of : (P : Program) (is : List ℕ) → IsCertificate P is → IsCyclic P
cyclic_of P [] h = absurd h
cyclic_of P (i ∷ is) h =
    let r = linked_reach P i i is h in
    let same : r.other ≡ r.one = same_Some r.other r.one (sym r.is_other ∙ r.is_one) in
    (r.one, subst (λ y. Reaches P y r.one) same r.reaches)

-- The reads of a flat program and the needs of its program: if the equations have an order in which
-- they can be computed, the program is causal, and a cycle of reads is a cycle of needs.

-- two chains, joined, are a chain
pub chained : (f : FlatProgram) (j m i : ℕ) → Chain f j m → Chain f m i → Chain f j i
chained f j m _ a (one_read q is own) = more_reads q m is own a
chained f j m _ a (more_reads q e is own rest) = more_reads q e is own (chained f j m e a rest)

-- an element of an accepted program has one number
pub one_number :
    (P : Program) → static_refusal P ≡ None → (i m : ℕ) (x : Element) →
    slice_get (program_elements P) i ≡ Some x → slice_get (program_elements P) m ≡ Some x → i ≡ m
one_number P accepted i m x e g =
    same_Some i m (sym (number_is P accepted i x e) ∙ number_is P accepted m x g)

module _ (P : Program) (accepted : static_refusal P ≡ None) (f : FlatProgram)
    (reads : (x y : Element) → Needs P x y → HasReads P f x y) where
  -- an element that reaches another reads it
  reaches_read : (y x : Element) → Reaches P y x → HasReads P f x y
  reaches_read y _ (at_once x n) = reads x y n
  reaches_read y _ (through x z n rest) =
      let a = reads x z n in
      let b = reaches_read y z rest in
      let same : b.one ≡ a.other = one_number P accepted b.one a.other z b.is_one a.is_other in
      record {
        one = a.one;
        other = b.other;
        is_one = a.is_one;
        is_other = b.is_other;
        chain = chained f b.other a.other a.one (subst (Chain f b.other) same b.chain) a.chain;
      }

  -- an element that reaches itself reads itself
  pub cycle_read : (x : Element) → Reaches P x x → (i : ℕ) × Chain f i i
  cycle_read x r =
      let h = reaches_read x x r in
      let same : h.other ≡ h.one = one_number P accepted h.other h.one x h.is_other h.is_one in
      (h.one, subst (λ m. Chain f m h.one) same h.chain)

module _ (P : Program) (f : FlatProgram) (e : IsExpansionOf P f) where
  -- if the equations have an order in which they can be computed, the program is causal
  pub expansion_causal :
      (Q : List FlatEquation) → IsOrderingOf f.equations Q → Ready f.size [] Q → IsCausal P
  expansion_causal Q ordering ready x reaches =
      let loop = cycle_read P e.flat.accepted f e.reads x reaches in
      no_cycle f Q ordering ready loop.0 loop.1

  -- a cycle of elements of variables that read one another is a certificate
  pub expansion_certified : (is : List ℕ) → IsReadCycle f is → IsCertificate P is
  expansion_certified is cycle = certificate_of P f is e.needs cycle
