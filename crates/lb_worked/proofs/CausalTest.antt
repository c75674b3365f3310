-- Tests of causality: an order in which each element comes after all that it needs, and a cycle of
-- elements that each need the next.
use Rattle.std.proofs.Common.{◌≡◌, ℕ, zero, suc, ◌<◌, inl, inr, Bool, true, ◌&&◌, ◌||◌, not, nat_lt}
use Rattle.std.proofs.Common.{if◌then◌else◌, List, [], ◌∷◌, length, map, Some, refl, subst, arith}
use Rattle.std.specs.List.{list_all, list_any}
use Rattle.std.proofs.lemmas.Bool.{and_parts, ltb-true}
use Rattle.lb_syntax.specs.Lists.{Every, In}
use Rattle.lb_syntax.specs.Refusals.{E13}
use Rattle.lb_syntax.specs.Tree.{Name}
use Rattle.lb_static.specs.Instances.{Program, Path, Root, Observer, Child}
use Rattle.lb_check.specs.Needs.{Element, Definition, definitions, Needs, Reaches, at_once, through}
use Rattle.lb_check.specs.Needs.{IsCausal, IsCyclic}
use Rattle.lb_check.specs.Acceptance.{refusal, IsAccepted, IsFirst}
use Rattle.lb_worked.proofs.Tests.{Test, holds, fails, so, both, each, one_or_other, is_none}
use Rattle.lb_worked.proofs.Tests.{equal_nats, equal_names}

-- ## The same element

pub child_equal :
    (p q : Path) (c d i j : ℕ) → (c ≡ d) × ((i ≡ j) × (p ≡ q)) → Child p c i ≡ Child q d j
child_equal p q c d i j e =
    let call : c ≡ d = e.0 in let index : i ≡ j = e.1.0 in let path : p ≡ q = e.1.1 in cc

abbrev equal_paths : (p q : Path) → Test (p ≡ q)
equal_paths Root Root = holds refl
equal_paths Observer Observer = holds refl
equal_paths (Child p c i) (Child q d j) =
    so (child_equal p q c d i j) (both (equal_nats c d) (both (equal_nats i j) (equal_paths p q)))
equal_paths p q = fails

abbrev made : Path → Name → ℕ → Element
made p x i = record { path = p; variable = x; index = i }

made_equal :
    (p q : Path) (x y : Name) (i j : ℕ) → i ≡ j → x ≡ y → p ≡ q → made p x i ≡ made q y j
made_equal p q x y i j a b r = rw (a, b, r)

pub element_equal :
    (x y : Element) →
    (x.index ≡ y.index) × ((x.variable ≡ y.variable) × (x.path ≡ y.path)) → x ≡ y
element_equal x y e =
    made_equal x.path y.path x.variable y.variable x.index y.index e.0 e.1.0 e.1.1

abbrev equal_elements : (x y : Element) → Test (x ≡ y)
equal_elements x y =
    so (element_equal x y)
    (both (equal_nats x.index y.index)
    (both (equal_names x.variable y.variable) (equal_paths x.path y.path)))

abbrev is_element : Element → Element → Bool
is_element x y = (equal_elements x y).passed

-- ## An order

one_of :
    {A : Type 0} (f : A → Bool) (x : A) (xs : List A) → list_all f xs ≡ true → In x xs →
    f x ≡ true
one_of f x [] h i = absurd i
one_of f x (y ∷ ys) h (inl e) = subst (λ z. f z ≡ true) e (and_parts (f y) (list_all f ys) h).0
one_of f x (y ∷ ys) h (inr i) = one_of f x ys (and_parts (f y) (list_all f ys) h).1 i

module _ (rank : Element → ℕ) where
  -- the element of the definition `d` has a higher rank than all that it needs
  abbrev stands_above : Definition → Bool
  stands_above d = list_all (λ y. nat_lt (rank y) (rank d.element)) d.needed

  abbrev is_ranked : List Definition → Bool
  is_ranked ds = list_all stands_above ds

module _ (P : Program) (rank : Element → ℕ) (h : is_ranked rank (definitions P) ≡ true) where
  below : (x y : Element) → Needs P x y → rank y < rank x
  below x y n =
      let d = n.by in
      let above = one_of (stands_above rank) d (definitions P) h n.stands in
      let less = one_of (λ y. nat_lt (rank y) (rank d.element)) y d.needed above n.names in
      subst (λ z. rank y < rank z) n.is_of (ltb-true (rank y) (rank d.element) less)

  far_below : (y x : Element) → Reaches P y x → rank y < rank x
  far_below y _ (at_once x n) = below x y n
  far_below y _ (through x z n r) =
      let near = below x z n in let far = far_below y z r in omega (arith, near, far)

  -- if every element has a higher rank than all that it needs, none reaches itself
  pub ranked_causal : IsCausal P
  ranked_causal x r = let lt = far_below x x r in absurd (omega (arith, lt))

-- the rank of an element in a list, the newest first: the oldest has 1, one that is missing 0
abbrev place : List Element → Element → ℕ
place [] x = 0
place (y ∷ ys) x = if is_element x y then suc (length ys) else place ys x

abbrev is_done : List Element → Element → Bool
is_done done x = list_any (is_element x) done

-- all that the element `x` needs is in `done`
abbrev is_ready : List Definition → List Element → Element → Bool
is_ready ds done x =
    list_all (λ d. not (is_element x d.element) || list_all (is_done done) d.needed) ds

-- `done`, with each element of a list put in front of it that is ready at its turn
abbrev taken : List Definition → List Element → List Element → List Element
taken ds [] done = done
taken ds (x ∷ xs) done =
    let new = not (is_done done x) && is_ready ds done x in
    taken ds xs (if new then x ∷ done else done)

-- the elements that n rounds put in order, the last one first: each comes after all that it needs
abbrev sorted : ℕ → List Definition → List Element
sorted zero ds = []
sorted (suc n) ds = taken ds (map (λ d. d.element) ds) (sorted n ds)

-- a test of causality: passed if eight rounds find an order
abbrev causal : (P : Program) → Test (IsCausal P)
causal P =
    let rank = place (sorted 8 (definitions P)) in
    record { passed = is_ranked rank (definitions P); shows = ranked_causal P rank }

-- ## A cycle

abbrev member : (x : Element) (ys : List Element) → Test (In x ys)
member x [] = fails
member x (y ∷ ys) = one_or_other inl inr (equal_elements y x) (member x ys)

-- one of the definitions `ds` is that of `x`, and needs `y`
abbrev Defines : Element → Element → List Definition → Type 0
Defines x y ds = (d : Definition) × In d ds × (d.element ≡ x) × In y d.needed

module _ (x y : Element) where
  pub by_first :
      (d : Definition) (ds : List Definition) → (d.element ≡ x) × In y d.needed →
      Defines x y (d ∷ ds)
  by_first d ds e = (d, inl refl, e.0, e.1)

  pub by_later : (d : Definition) (ds : List Definition) → Defines x y ds → Defines x y (d ∷ ds)
  by_later d ds f = (f.0, inr f.1, f.2, f.3)

  abbrev defines : (ds : List Definition) → Test (Defines x y ds)
  defines [] = fails
  defines (d ∷ ds) =
      one_or_other (by_first d ds) (by_later d ds)
      (both (equal_elements d.element x) (member y d.needed)) (defines ds)

module _ (P : Program) where
  abbrev needing : (x y : Element) → Test (Needs P x y)
  needing x y =
      so (λ f. record { by = f.0; stands = f.1; is_of = f.2; names = f.3 })
      (defines x y (definitions P))

  -- a test that `x` reaches `y` by a list: `x` needs its first, each its next, and its last `y`
  abbrev reaching : (y x : Element) → List Element → Test (Reaches P y x)
  reaching y x [] = so (at_once x) (needing x y)
  reaching y x (z ∷ zs) =
      so (λ r. through x z r.0 r.1) (both (needing x z) (reaching y z zs))

  abbrev cyclic : List Element → Test (IsCyclic P)
  cyclic [] = fails
  cyclic (x ∷ xs) = so (λ r. (x, r)) (reaching x x xs)

  -- ## Acceptance

  -- a test that `P` keeps every rule, and that no element of it needs itself
  abbrev pub accepted : Test (IsAccepted P)
  accepted =
      so (λ e. record { rules = e.0; causal = e.1 }) (both (is_none (refusal P)) (causal P))

  -- a test that `P` keeps every rule but causality, which the cycle `xs` breaks
  abbrev pub refused_by : List Element → Test (IsFirst P (Some E13))
  refused_by xs = both (is_none (refusal P)) (cyclic xs)

abbrev pub all_accepted : (Ps : List Program) → Test (Every IsAccepted Ps)
all_accepted Ps = each IsAccepted accepted Ps
