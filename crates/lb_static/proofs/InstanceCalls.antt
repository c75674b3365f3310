-- The instances below an instance, call by call and index by index.
use Rattle.std.proofs.Common.{◌≡◌, ℕ, suc, zero, ◌+◌, ◌-◌, ◌<◌, ◌≤◌, ℤ, List, [], ◌∷◌, ◌++◌, map}
use Rattle.std.proofs.Common.{length, take, drop, get_or, Option, Some, None, refl, ap, sym, ◌∙◌}
use Rattle.std.proofs.Common.{subst, arith}
use Rattle.std.specs.Prelude.{flat_map}
use Rattle.std.specs.List.{range_with_len}
use Rattle.std.proofs.lemmas.Grind.{flat_map-append}
use Rattle.std.proofs.lemmas.List.{append-nil, length-append, take_more, append_assoc}
use Rattle.std.proofs.lemmas.List.FromFn.{map-range_with_len_more}
use Rattle.lb_syntax.specs.Lists.{or_else}
use Rattle.lb_syntax.specs.Refusals.{Refusal}
use Rattle.lb_static.specs.Instances.{Program, Instance, Path, Child, Site, instances_from}
use Rattle.lb_static.specs.Instances.{site_instances, numbered_sites, node_sites, children}
use Rattle.lb_static.specs.InstanceTable.{instance_of}
use Rattle.lb_static.specs.ResolvedNodes.{node_of}
use Rattle.lb_static.specs.Instantiation.{instance_refusal, instantiation_refusal}
use Rattle.lb_static.specs.Instantiated.{IsRefusal, AreEntered}
use Rattle.lb_static.specs.declared.error.StaticError.{StaticError}
use Rattle.lb_static.specs.declared.error.StaticError.TheVariants as error
use Rattle.lb_static.specs.declared.resolved.ResolvedNode.{ResolvedNode}

-- ## Refusals of instances one after another

pub refusal_first : (o q : Option Refusal) (e : StaticError) → IsRefusal o e
    → IsRefusal (or_else o q) e
refusal_first o q error.Memory h = tt
refusal_first o q (error.Name x) h = h
refusal_first o q (error.Recursion x) h = h
refusal_first o q (error.Root x) h = h
refusal_first o q (error.Value x) h = ap (λ p. or_else p q) h
refusal_first o q (error.Range x) h = ap (λ p. or_else p q) h
refusal_first o q (error.Instances x) h = ap (λ p. or_else p q) h

pub refusal_second : (o q : Option Refusal) (e : StaticError) → o ≡ None → IsRefusal q e
    → IsRefusal (or_else o q) e
refusal_second o q e n h = subst (λ p. IsRefusal (or_else p q) e) (sym n) h

or_else_assoc : (a b c : Option Refusal) → or_else (or_else a b) c ≡ or_else a (or_else b c)
or_else_assoc None b c = refl
or_else_assoc (Some x) b c = refl

instances_append : (P : Program) (k : ℕ) (xs ys : List Instance)
    → instantiation_refusal P k (xs ++ ys)
    ≡ or_else (instantiation_refusal P k xs) (instantiation_refusal P (k + length xs) ys)
instances_append P k [] ys =
    let e : k ≡ k + 0 = omega arith in ap (λ m. instantiation_refusal P m ys) e
instances_append P k (x ∷ xs) ys =
    let e : suc k + length xs ≡ k + suc (length xs) = omega arith in
    ap (or_else (instance_refusal P k x))
    (instances_append P (suc k) xs ys
    ∙ ap (λ m. or_else (instantiation_refusal P (suc k) xs) (instantiation_refusal P m ys)) e)
    ∙ sym (or_else_assoc (instance_refusal P k x) (instantiation_refusal P (suc k) xs)
    (instantiation_refusal P (k + suc (length xs)) ys))

module _ (P : Program) where
  pub entered_none : (k : ℕ) → AreEntered P k [] k
  entered_none k = record { kept = refl; count = omega arith }

  pub entered_more : (k : ℕ) (xs ys : List Instance) (m l : ℕ) → AreEntered P k xs m
      → AreEntered P m ys l → AreEntered P k (xs ++ ys) l
  entered_more k xs ys m l a b = record {
    kept =
        instances_append P k xs ys
        ∙ ap (λ o. or_else o (instantiation_refusal P (k + length xs) ys)) a.kept
        ∙ ap (λ i. instantiation_refusal P i ys) (sym a.count) ∙ b.kept;
    count =
        let f = a.count in
        let g = b.count in
        let h = length-append xs ys in
        omega arith;
  }

  -- a refusal of `ys`, entered after `xs`, is the refusal of the whole list
  pub refused_later : (k : ℕ) (xs ys zs : List Instance) (m : ℕ) (e : StaticError)
      → AreEntered P k xs m → IsRefusal (instantiation_refusal P m ys) e
      → IsRefusal (instantiation_refusal P k (xs ++ (ys ++ zs))) e
  refused_later k xs ys zs m e a h =
      subst (λ o. IsRefusal o e) (sym (instances_append P k xs (ys ++ zs)))
      (refusal_second (instantiation_refusal P k xs)
      (instantiation_refusal P (k + length xs) (ys ++ zs)) e a.kept
      (subst (λ i. IsRefusal (instantiation_refusal P i (ys ++ zs)) e) a.count
      (subst (λ o. IsRefusal o e) (sym (instances_append P m ys zs))
      (refusal_first (instantiation_refusal P m ys) (instantiation_refusal P (m + length ys) zs) e
      h))))

-- ## Lists

split_at : {A : Type 0} (xs : List A) (i : ℕ) (d : A) → i < length xs
    → xs ≡ take i xs ++ get_or xs i d ∷ drop (suc i) xs
split_at [] i d h = absurd (omega arith)
split_at (x ∷ xs) zero d h = refl
split_at (x ∷ xs) (suc i) d h = ap (λ l. x ∷ l) (split_at xs i d (omega arith))

take_past : {A : Type 0} (xs : List A) (i : ℕ) → length xs ≤ i → take i xs ≡ xs
take_past [] zero h = refl
take_past [] (suc i) h = refl
take_past (x ∷ xs) zero h = absurd (omega arith)
take_past (x ∷ xs) (suc i) h = ap (λ l. x ∷ l) (take_past xs i (omega arith))

-- a node has as many numbered calls as calls
numbered_length : (n : ℕ) (ss : List Site) → length (numbered_sites n ss) ≡ length ss
numbered_length n [] = refl
numbered_length n (s ∷ ss) = ap suc (numbered_length (suc n) ss)

numbered_at : (n : ℕ) (ss : List Site) (i : ℕ) (d : Site) → i < length ss
    → get_or (numbered_sites n ss) i (n + i, d) ≡ (n + i, get_or ss i d)
numbered_at n [] i d h = absurd (omega arith)
numbered_at n (s ∷ ss) zero d h = let e : n ≡ n + 0 = omega arith in ap (λ (k : ℕ). (k, s)) e
numbered_at n (s ∷ ss) (suc i) d h =
    let e : suc n + i ≡ n + suc i = omega arith in
    ap (λ (k : ℕ). get_or (numbered_sites (suc n) ss) i (k, d)) (sym e)
    ∙ numbered_at (suc n) ss i d (omega arith) ∙ ap (λ (k : ℕ). (k, get_or ss i d)) e

ranged_from : {A : Type 0} (h : ℕ → A) (a n i : ℕ) → i < n
    → (rest : List A) × (map h (range_with_len a n) ≡ map h (range_with_len a i) ++ h (a + i)
    ∷ rest)
ranged_from h a zero i l = absurd (omega arith)
ranged_from h a (suc n) zero l = let e : a ≡ a
    + 0 = omega arith in (
      map h (range_with_len (a + 1) n),
      ap
          (λ (k : ℕ). h k ∷ map h (range_with_len (a + 1) n)) e,
    )
ranged_from h a (suc n) (suc i) l =
    let e : (a + 1) + i ≡ a + suc i = omega arith in
    let r = ranged_from h (a + 1) n i (omega arith) in
    (r.0, ap (λ l. h a ∷ l) (r.1 ∙ ap (λ (k : ℕ). map h (range_with_len (a + 1) i) ++ h k ∷ r.0) e))

ranged : {A : Type 0} (h : ℕ → A) (n i : ℕ) → i < n
    → (rest : List A) × (map h (range_with_len 0 n) ≡ map h (range_with_len 0 i) ++ h i ∷ rest)
ranged h n i l =
    let e : 0 + i ≡ i = omega arith in
    let r = ranged_from h 0 n i l in
    (r.0, r.1 ∙ ap (λ (k : ℕ). map h (range_with_len 0 i) ++ h k ∷ r.0) e)

-- ## The instances below an instance

module _ (P : Program) (p : Path) (n : ResolvedNode) (values : List ℤ) (level : ℕ) where
  abbrev pub entry : Instance
  entry = instance_of p (node_of n) values

  abbrev pub below : List Instance → List Instance
  below xs = flat_map (instances_from P (65 - level)) xs

  -- the instances below, of the first `c` calls
  abbrev pub of_calls : ℕ → List Instance
  of_calls c = below (flat_map (site_instances P entry)
      (take c (numbered_sites 0 (node_sites (node_of n)))))

  -- the instances below, of the first `i` indexes of a call
  abbrev pub of_indexes : ℕ → ResolvedNode → List ℤ → ℕ → List Instance
  of_indexes call m arguments i = below
      (map (λ index. instance_of (Child p call index) (node_of m) arguments) (range_with_len 0 i))

  abbrev pub called : ℕ → ResolvedNode → List ℤ → ℕ → Instance
  called call m arguments index = instance_of (Child p call index) (node_of m) arguments

  abbrev ss : List Site
  ss = node_sites (node_of n)

  below_append : (xs ys : List Instance) → below (xs ++ ys) ≡ below xs ++ below ys
  below_append xs ys = flat_map-append (instances_from P (65 - level)) xs ys

  pub index_step : (call : ℕ) (m : ResolvedNode) (arguments : List ℤ) (i : ℕ)
      → of_indexes call m arguments (i + 1) ≡ of_indexes call m arguments i
      ++ instances_from P (65 - level) (called call m arguments i)
  index_step call m arguments i =
      let h = called call m arguments in
      let zero_more : 0 + i ≡ i = omega arith in
      ap below (map-range_with_len_more h 0 i i zero_more)
      ∙ below_append (map h (range_with_len 0 i)) (h i ∷ [])
      ∙ ap (λ l. of_indexes call m arguments i ++ l)
      (append-nil (instances_from P (65 - level) (h i)))

  site_at : (c : ℕ) (s : Site) → c < length ss → s ≡ get_or ss c s
      → get_or (numbered_sites 0 ss) c (c, s) ≡ (c, s)
  site_at c s h e =
      let z : 0 + c ≡ c = omega arith in
      let at : get_or (numbered_sites 0 ss) (c) (0 + c, s) ≡ (0 + c, get_or ss c s) =
      numbered_at 0 ss c s h in
      subst (λ (k : ℕ). get_or (numbered_sites 0 ss) c (k, s) ≡ (k, get_or ss c s)) z at
      ∙ ap (λ (t : Site). (c, t)) (sym e)

  pub call_step : (c : ℕ) (s : Site) → c < length ss → s ≡ get_or ss c s
      → of_calls (c + 1) ≡ of_calls c ++ below (site_instances P entry (c, s))
  call_step c s h e =
      let ns = numbered_sites 0 ss in
      let within : c < length ns = omega (arith, numbered_length 0 ss) in
      ap (λ l. below (flat_map (site_instances P entry) l))
      (take_more ns c (c, s) within ∙ ap (λ (t : ℕ × Site). take c ns ++ t ∷ []) (site_at c s h e))
      ∙ ap below (flat_map-append (site_instances P entry) (take c ns) ((c, s) ∷ [])
      ∙ ap (λ l. flat_map (site_instances P entry) (take c ns) ++ l)
      (append-nil (site_instances P entry (c, s))))
      ∙ below_append (flat_map (site_instances P entry) (take c ns)) (site_instances P entry (c, s))

  pub calls_all : (c : ℕ) → length ss ≤ c → of_calls c ≡ below (children P entry)
  calls_all c h =
      let ns = numbered_sites 0 ss in
      let past : length ns ≤ c = omega (arith, numbered_length 0 ss) in
      ap (λ l. below (flat_map (site_instances P entry) l)) (take_past ns c past)

  -- the instances below: of the first `c` calls, of call `c`, and of the later calls
  calls_split : (c : ℕ) (s : Site) → c < length ss → s ≡ get_or ss c s
      → (rest : List Instance)
      × (below (children P entry) ≡ of_calls c ++ (below (site_instances P entry (c, s)) ++ rest))
  calls_split c s h e =
      let ns = numbered_sites 0 ss in
      let g = site_instances P entry in
      let within : c < length ns = omega (arith, numbered_length 0 ss) in
      let after = drop (suc c) ns in (
        below (flat_map g after),
        ap (λ l. below (flat_map g l))
            (split_at ns c (c, s) within
            ∙ ap (λ (t : ℕ × Site). take c ns ++ t ∷ after) (site_at c s h e))
            ∙ ap below (flat_map-append g (take c ns) ((c, s) ∷ after))
            ∙ below_append (flat_map g (take c ns)) (g (c, s) ++ flat_map g after)
            ∙ ap (λ l. of_calls c ++ l) (below_append (g (c, s)) (flat_map g after)),
      )

  -- ## The instance itself

  fuel : level ≤ 65 → 66 - level ≡ suc (65 - level)
  fuel h = omega arith

  pub all_entered : (k after : ℕ) (c m : ℕ) → level ≤ 65 → after ≡ k + 1
      → instance_refusal P k entry ≡ None → length ss ≤ c → AreEntered P after (of_calls c) m
      → AreEntered P k (instances_from P (66 - level) entry) m
  all_entered k after c m low e none past a =
      let one : after ≡ suc k = omega arith in
      let b : AreEntered P (suc k) (below (children P entry)) m =
      subst (λ l. AreEntered P (suc k) l m) (calls_all c past)
      (subst (λ i. AreEntered P i (of_calls c) m) one a) in
      let all : AreEntered P k (entry ∷ below (children P entry)) m = record {
        kept = ap (λ o. or_else o (instantiation_refusal P (suc k) (below (children P entry)))) none
            ∙ b.kept;
        count = let g = b.count in omega arith;
      } in
      subst (λ f. AreEntered P k (instances_from P f entry) m) (sym (fuel low)) all

  pub refused_here : (k : ℕ) (e : StaticError) → level ≤ 65
      → IsRefusal (instance_refusal P k entry) e
      → IsRefusal (instantiation_refusal P k (instances_from P (66 - level) entry)) e
  refused_here k e low h =
      subst (λ f. IsRefusal (instantiation_refusal P k (instances_from P f entry)) e)
      (sym (fuel low))
      (refusal_first (instance_refusal P k entry)
      (instantiation_refusal P (suc k) (below (children P entry))) e h)

  pub refused_below : (k after c : ℕ) (s : Site) (m : ResolvedNode) (arguments : List ℤ)
      (times i before : ℕ) (e : StaticError) → level ≤ 65 → after ≡ k + 1
      → instance_refusal P k entry ≡ None → c < length ss → s ≡ get_or ss c s → i < times
      → site_instances P entry (c, s) ≡ map (called c m arguments) (range_with_len 0 times)
      → AreEntered P after (of_calls c ++ of_indexes c m arguments i) before
      → IsRefusal (instantiation_refusal P before
      (instances_from P (65 - level) (called c m arguments i))) e
      → IsRefusal (instantiation_refusal P k (instances_from P (66 - level) entry)) e
  refused_below k after c s m arguments times i before e low one none within is few same a h =
      let g = called c m arguments in
      let next : after ≡ suc k = omega arith in
      let whole = calls_split c s within is in
      let part = ranged g times i few in
      let here = instances_from P (65 - level) (g i) in
      let rest = below part.0 in
      let site : below (site_instances P entry (c, s)) ≡ of_indexes c m arguments i
      ++ (here ++ rest) =
      ap below (same ∙ part.1) ∙ below_append (map g (range_with_len 0 i)) (g i ∷ part.0) in
      let all : below (children P entry) ≡ (of_calls c ++ of_indexes c m arguments i)
      ++ (here ++ (rest ++ whole.0)) =
      whole.1 ∙ ap (λ l. of_calls c ++ (l ++ whole.0)) site
      ∙ ap (λ l. of_calls c ++ l)
      (append_assoc (of_indexes c m arguments i) (here ++ rest) whole.0
      ∙ ap (λ l. of_indexes c m arguments i ++ l) (append_assoc here rest whole.0))
      ∙ sym (append_assoc (of_calls c) (of_indexes c m arguments i) (here ++ (rest ++ whole.0))) in
      let later = refused_later P after (of_calls c ++ of_indexes c m arguments i) here
      (rest ++ whole.0) before e a h in
      let under : IsRefusal (instantiation_refusal P (suc k) (below (children P entry))) e =
      subst (λ l. IsRefusal (instantiation_refusal P (suc k) l) e) (sym all)
      (subst (λ j. IsRefusal (instantiation_refusal P j
      ((of_calls c ++ of_indexes c m arguments i) ++ (here ++ (rest ++ whole.0)))) e) next later) in
      subst (λ f. IsRefusal (instantiation_refusal P k (instances_from P f entry)) e)
      (sym (fuel low))
      (refusal_second (instance_refusal P k entry)
      (instantiation_refusal P (suc k) (below (children P entry))) e none under)
