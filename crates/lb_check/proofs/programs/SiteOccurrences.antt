-- The calls in the text of an instance: their occurrences, their instances, and what passes to
-- these.
use Rattle.lb_check.proofs.Words
use Words.{Call, Child, Every, Expr, IfSome, In, Instance, Iterate, List, Node, Node_named, None}
use Words.{Observer, Occurrence, Option, Program, Root, Site, Some, Statement, Static, [], all_in}
use Words.{all_some, and_first, and_second, ap, ap₂, arith, callee_of, check_refusal, children}
use Words.{either_or, flat_map, in_map, instance_at, instance_count, instances, instances_from}
use Words.{is_clock_typed, is_some, is_statement_typed, is_typed, list_all, listed, map, node_named}
use Words.{node_occurrences, node_parts, node_sites, node_sizes, numbered_sites, option_map}
use Words.{range_with_len, refl, same_Some, site_instances, slice_get, some_of, statement_sites}
use Words.{static_refusal, static_value, subst, suc, sym, true, variables, zero, zip, ℕ, ℤ, ◌&&◌}
use Words.{◌++◌, ◌+◌, ◌<◌, ◌>>=◌, ◌∙◌, ◌∷◌, ◌≡◌}
use Rattle.lb_check.proofs.clocking.NamedClocks.{count_of, if_some}
use Rattle.lb_check.proofs.{definitions.BrokenRules.instantiation_kept, lists.Members.Every-append}
use Rattle.lb_check.proofs.lists.Members.{Every-at, Every-both, Every-first, Every-found}
use Rattle.lb_check.proofs.lists.Members.{Every-from, Every-map, Every-of_pieces, Every-of_range}
use Rattle.lb_check.proofs.lists.Members.{Every-piece, Every-second, in_second, some_in, to_pieces}
use Rattle.lb_check.proofs.programs.{AcceptedRules.{typed, valued}, InstancePaths.child_in}
use Rattle.lb_check.proofs.programs.InstancePaths.{kept_children, numbered_in}
use Rattle.lb_check.proofs.programs.OccurrenceParts.{node_occurrence_parts, of_body}
use Rattle.lb_check.proofs.programs.OccurrenceSites.{body_occurrences, numbered_append, own_site}
use Rattle.lb_check.proofs.{programs.OccurrenceSites.site_is, typing.OperandTypes.one}
use Rattle.lb_static.{proofs.Members.from_all, specs.Parts.{node_indexes, node_statics}}
use Rattle.lb_static.specs.Parts.{own_arguments}

-- In an accepted program each call in the text of an instance is an occurrence, at the number of
-- its site.

-- the number and the site of a call
abbrev pub own_call : Occurrence → Option (ℕ × Site)
own_call o = option_map (λ s. (o.calls_before, s)) (own_site o.expr)

abbrev pub calls_among : List Occurrence → List (ℕ × Site)
calls_among os = some_of (map own_call os)

-- the calls of some occurrences are these sites, counted from n
abbrev pub AreCallsOf : ℕ → List Occurrence → List Site → Type 0
AreCallsOf n os ss = calls_among os ≡ numbered_sites n ss

-- the same option before both lists of options
one_before : {A : Type 0} (x : Option A) (xs ys : List (Option A)) (zs : List A) →
    some_of xs ≡ some_of ys ++ zs → some_of (x ∷ xs) ≡ some_of (x ∷ ys) ++ zs
one_before None xs ys zs e = e
one_before (Some v) xs ys zs e = ap (λ l. v ∷ l) e

calls_append : (os os' : List Occurrence) →
    calls_among (os ++ os') ≡ calls_among os ++ calls_among os'
calls_append [] os' = refl
calls_append (o ∷ os) os' =
    one_before (own_call o) (map own_call (os ++ os')) (map own_call os) (calls_among os')
    (calls_append os os')

first_call :
    (n : ℕ) (s : Site) (os : List Occurrence) (ss : List Site) → AreCallsOf (n + 1) os ss →
    (n, s) ∷ calls_among os ≡ numbered_sites n (s ∷ ss)
first_call n s os ss h =
    let next : n + 1 ≡ suc n = omega arith in
    ap (λ cs. (n, s) ∷ cs) (h ∙ ap (λ m. numbered_sites m ss) next)

-- the calls of some occurrences after an expression with number n that has this site, or none
abbrev with_own : ℕ → List Occurrence → Option Site → List (ℕ × Site)
with_own n os s = some_of (option_map (λ s. (n, s)) s ∷ map own_call os)

-- the calls in statements whose types are right are their sites
pub body_calls :
    (P : Program) (here : Instance) (n : ℕ) (ss : List Statement) →
    list_all (is_statement_typed P here) ss ≡ true →
    AreCallsOf n (body_occurrences P here.node n ss) (flat_map statement_sites ss)
body_calls P here n ss e =
    of_body P here (λ n os es ss. AreCallsOf n os ss) (λ n. refl)
    (λ k n e os es ss is h. ap (with_own n os) is ∙ h)
    (λ k n e s os es ss is h. ap (with_own n os) is ∙ first_call n s os ss h)
    (λ n os ps es fs ss ts h g. calls_append os ps ∙ ap₂ (λ xs ys. xs ++ ys) h g
    ∙ sym (numbered_append n ss ts)) n ss e

-- the occurrence of the call with number `n` and site `s`
pub record IsCallAt (P : Program) (here : Instance) (n : ℕ) (s : Site) : Type 0 where
  pub occurrence : Occurrence
  pub stands : In occurrence (node_occurrences P here.node)
  pub number : occurrence.calls_before ≡ n
  pub site : own_site occurrence.expr ≡ Some s

-- each numbered call in the text of an instance whose types are right is an occurrence
pub call_occurs :
    (P : Program) (here : Instance) → is_typed P here ≡ true → (n : ℕ) (s : Site) →
    In (n, s) (numbered_sites 0 (node_sites here.node)) → IsCallAt P here n s
call_occurs P here typed n s numbered =
    let all = body_calls P here 0 here.node.body
    (and_second (list_all (is_clock_typed P here) (variables here.node)) _ typed) in
    let found = some_in own_call (node_occurrences P here.node) (n, s)
    (subst (λ cs. In (n, s) cs) (sym all) numbered) in
    by found.0 found.1 (own_site found.0.expr) refl found.2
  where
    by : (o : Occurrence) → In o (node_occurrences P here.node) → (z : Option Site) →
        own_site o.expr ≡ z →
        option_map {U = ℕ × Site} (λ s. (o.calls_before, s)) z ≡ Some (n, s) →
        IsCallAt P here n s
    by o i None is e = absurd cc
    by o i (Some t) is e =
        let same = same_Some (o.calls_before, t) (n, s) e in
        record {
          occurrence = o;
          stands = i;
          number = ap (λ (u : ℕ × Site). u.0) same;
          site = is ∙ ap (λ (u : ℕ × Site). Some u.1) same;
        }

-- each call in the text of an instance of an accepted program is an occurrence, at its number
pub site_occurs :
    (P : Program) → check_refusal P ≡ None → (here : Instance) → In here (instances P) → (n : ℕ)
    (s : Site) → slice_get (node_sites here.node) n ≡ Some s → IsCallAt P here n s
site_occurs P checked here stands n s e =
    let number : 0 + n ≡ n = omega arith in
    call_occurs P here (typed P checked here stands) n s
    (subst (λ m. In (m, s) (numbered_sites 0 (node_sites here.node))) number
    (numbered_in P (node_sites here.node) 0 n s e))

-- A property of the starts of a program that passes from an instance to those of each call in its
-- text holds of all instances.

module _ (P : Program) (Q : Instance → Type 0) where
  -- `Q` passes from an instance to the instances of each call in its text
  abbrev pub Passes : Instance → Type 0
  Passes here =
      (o : Occurrence) (s : Site) (i : ℕ) (c : Instance) → In o (node_occurrences P here.node) →
      own_site o.expr ≡ Some s → i < either_or (instance_count P here s.count) 0 →
      callee_of P here s o.calls_before i ≡ Some c → Q c

  site_have :
      (here : Instance) → Passes here → (s : ℕ × Site) →
      IsCallAt P here s.0 s.1 → Every Q (site_instances P here s)
  site_have here passes s call =
      Every-found Q (callee_of P here s.1 s.0)
      (listed (range_with_len 0) (instance_count P here s.1.count))
      (by (instance_count P here s.1.count) refl)
    where
      one : (i : ℕ) → i < either_or (instance_count P here s.1.count) 0 → (c : Instance) →
          callee_of P here s.1 s.0 i ≡ Some c → Q c
      one i lt c gives =
          passes call.occurrence s.1 i c call.stands call.site lt
          (subst (λ n. callee_of P here s.1 n i ≡ Some c) (sym call.number) gives)

      by : (n : Option ℕ) → instance_count P here s.1.count ≡ n →
          Every (λ i. IfSome (callee_of P here s.1 s.0 i) Q) (listed (range_with_len 0) n)
      by None is = tt
      by (Some m) is =
          Every-of_range (λ i. IfSome (callee_of P here s.1 s.0 i) Q) 0 m
          (λ i lt.
          let none : i ≡ 0 + i = omega arith in
          let within : i < either_or (instance_count P here s.1.count) 0 =
          subst (λ n. i < either_or n 0) (sym is) lt in
          subst (λ i. IfSome (callee_of P here s.1 s.0 i) Q) none
          (if_some Q (callee_of P here s.1 s.0 i) (λ c e. one i within c e)))

  children_have :
      (here : Instance) → is_typed P here ≡ true → Passes here → Every Q (children P here)
  children_have here typed passes =
      Every-of_pieces Q (site_instances P here) (numbered_sites 0 (node_sites here.node))
      (Every-from (λ (s : ℕ × Site). Every Q (site_instances P here s))
      (numbered_sites 0 (node_sites here.node))
      (λ s i. site_have here passes s (call_occurs P here typed s.0 s.1 i)))

  -- an instance keeps the rules of types, and passes `Q` on where `Q` holds of it
  abbrev pub IsPassed : Instance → Type 0
  IsPassed c = (is_typed P c ≡ true) × (Q c → Passes c)

  all_from : (n : ℕ) (c : Instance) → Every IsPassed (instances_from P n c) → Q c →
      Every Q (instances_from P n c)
  all_from zero c passed q = tt
  all_from (suc n) c passed q = (
    q,
    Every-of_pieces Q (instances_from P n) (children P c)
        (Every-map _ (λ d. Every Q (instances_from P n d)) (λ d z. all_from n d z.0 z.1)
        (children P c)
        (Every-both (λ d. Every IsPassed (instances_from P n d)) Q (children P c)
        (Every-piece IsPassed (instances_from P n) (children P c) passed.1)
        (children_have c passed.0.0 (passed.0.1 q)))),
  )

  from_start :
      (o : Option Instance) → ((c : Instance) → o ≡ Some c → Q c) →
      Every IsPassed (listed (instances_from P 65) o) →
      Every Q (listed (instances_from P 65) o)
  from_start None top passed = tt
  from_start (Some c) top passed = all_from 65 c passed (top c refl)

  -- `Q` holds of all instances
  pub inherited :
      Every IsPassed (instances P) → ((c : Instance) → instance_at P Root ≡ Some c → Q c) →
      ((c : Instance) → instance_at P Observer ≡ Some c → Q c) → Every Q (instances P)
  inherited passed root observer =
      let of_root = listed (instances_from P 65) (instance_at P Root) in
      let of_observer = listed (instances_from P 65) (instance_at P Observer) in
      Every-append Q of_root of_observer
      (from_start (instance_at P Root) root (Every-first IsPassed of_root of_observer passed))
      (from_start (instance_at P Observer) observer
      (Every-second IsPassed of_root of_observer passed))

-- In an accepted program each call in the text of an instance has its instances, as many as its
-- count says: each is of the node that the call names, and stands below the instance.

-- all results are there, where each is
all_there :
    {A B : Type 0} (f : A → Option B) (xs : List A) → list_all (λ x. is_some (f x)) xs ≡ true →
    (ys : List B) × (all_some (map f xs) ≡ Some ys)
all_there f [] e = ([], refl)
all_there {A = A} {B = B} f (x ∷ xs) e = by (f x) (all_there f xs) e
  where
    more : (y : B) (o : Option (List B)) → (ys : List B) × (o ≡ Some ys) →
        (zs : List B) × (option_map (λ ys. y ∷ ys) o ≡ Some zs)
    more y o h = (y ∷ h.0, ap (option_map (λ ys. y ∷ ys)) h.1)

    by : (o : Option B) →
        (list_all (λ x. is_some (f x)) xs ≡ true → (ys : List B) × (all_some (map f xs) ≡ Some ys))
        → (is_some o && list_all (λ x. is_some (f x)) xs) ≡ true →
        (zs : List B) × (all_some (o ∷ map f xs) ≡ Some zs)
    by None rest e = absurd cc
    by (Some y) rest e = more y (all_some (map f xs)) (rest e)

own_are : (e : Expr) (s : Site) → own_site e ≡ Some s → own_arguments e ≡ s.arguments
own_are (Call f statics es) s e = ap (λ (t : Site). t.arguments) (same_Some _ s e)
own_are (Iterate it (Node_named f statics) m es) s e =
    ap (λ (t : Site). t.arguments) (same_Some _ s e)
own_are _ s e = absurd cc

-- instance `i` of the call with number `n` and site `s`, which is of node `callee`
pub record IsInstanceOf (P : Program) (here : Instance) (s : Site) (n i : ℕ) (callee : Node) :
    Type 0 where
  pub instance : Instance
  pub is : callee_of P here s n i ≡ Some instance
  pub node : instance.node ≡ callee
  pub path : instance.path ≡ Child here.path n i
  pub stands : In instance (instances P)

module _ (P : Program) (accepted : static_refusal P ≡ None) (checked : check_refusal P ≡ None)
    (here : Instance) (stands : In here (instances P)) where
  -- an occurrence is a part of the node
  pub part_of_node : (o : Occurrence) → In o (node_occurrences P here.node) →
      In o.expr (node_parts here.node)
  part_of_node o i =
      subst (λ es. In o.expr es) (node_occurrence_parts P here (typed P checked here stands))
      (in_map (λ o. o.expr) (node_occurrences P here.node) o i)

  -- the static arguments of a call have values
  arguments_there :
      (o : Occurrence) (s : Site) → In o (node_occurrences P here.node) →
      own_site o.expr ≡ Some s →
      (values : List ℤ) × (all_some (map (static_value P here) s.arguments) ≡ Some values)
  arguments_there o s i e =
      all_there (static_value P here) s.arguments
      (from_all (λ x. is_some (static_value P here x)) s.arguments
      (λ x on. all_in (λ x. is_some (static_value P here x)) (node_statics here.node) x
      (and_first _ _ (valued P accepted here stands).values) (static_there x on)))
    where
      static_there : (x : Static) → In x s.arguments → In x (node_statics here.node)
      static_there x on =
          in_second x (node_sizes here.node)
          (node_indexes here.node ++ flat_map own_arguments (node_parts here.node))
          (in_second x (node_indexes here.node) (flat_map own_arguments (node_parts here.node))
          (to_pieces own_arguments x o.expr (node_parts here.node) (part_of_node o i)
          (subst (λ xs. In x xs) (sym (own_are o.expr s e)) on)))

  counted : (o : Option ℕ) (i : ℕ) → i < either_or o 0 → (n : ℕ) × (o ≡ Some n) × (i < n)
  counted None i lt = absurd (omega (arith, lt))
  counted (Some n) i lt = (n, refl, lt)

  -- a call has an instance at each of its indexes
  pub instance_there :
      (o : Occurrence) (s : Site) (callee : Node) (i : ℕ) → In o (node_occurrences P here.node) →
      own_site o.expr ≡ Some s → node_named P s.callee ≡ Some callee → i < count_of P here s →
      IsInstanceOf P here s o.calls_before i callee
  instance_there o s callee i on e named lt =
      let values = arguments_there o s on e in
      let c : Instance = record {
        path = Child here.path o.calls_before i;
        node = callee;
        values = zip callee.parameters values.0;
      } in
      let gives : callee_of P here s o.calls_before i ≡ Some c =
      ap₂ (λ (m : Option Node) (vs : Option (List ℤ)).
      m >>= λ node. vs >>= λ values.
      Some (record {
        path = Child here.path o.calls_before i;
        node = node;
        values = zip node.parameters values;
      })) named values.1 in
      let count = counted (instance_count P here s.count) i lt in
      let child = child_in P here o.calls_before i count.0 s c
      (site_is P here.node o s on e) count.1 count.2 gives in
      record {
        instance = c;
        is = gives;
        node = refl;
        path = refl;
        stands =
            Every-at (λ d. In d (instances P)) (children P here) c
            (kept_children P (instantiation_kept P accepted) here stands) child;
      }
