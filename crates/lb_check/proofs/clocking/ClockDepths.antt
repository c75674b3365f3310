-- The depths of the declared clocks of a node.
use Rattle.lb_check.proofs.Words
use Words.{AreDepths, Bool, Clock, Counts, Declaration, HasDepth, IsCircle, IsKnown, IsResolved}
use Words.{LeadsTo, List, Name, Node, None, On, Option, ResolvedNode, Sampling, Some, Static}
use Words.{Variable, [], all_from, among, and-false, and-true, and_first, and_second, ap}
use Words.{append_assoc, ap₂, are_declared_clocks, are_distinct, are_statics, arith, awaited}
use Words.{bytes_eq, bytes_eq-Decides, clock_within, counts_of, declaration_of, depth, drop}
use Words.{drop_more, either_or, false, get_or, inl, inr, is_clocked_by, is_declared_within}
use Words.{is_some, item_at, length, length-append, length-drop, length-map, length-take, list_all}
use Words.{map, min, name_at, named, nat_lt, nat_tests, node_of, not-true, option_map, refl}
use Words.{sampled, sampling_of, set, slice_get, slice_get-get_or, slice_get_within, statics_of}
use Words.{subst, suc, sym, take, take-append_seam, true, variable_clock, variable_names, variables}
use Words.{waits_below, zero, zip2, ℕ, ◌&&◌, ◌++◌, ◌+◌, ◌-◌, ◌<◌, ◌>>=◌, ◌∙◌, ◌∷◌, ◌≡◌, ◌≤◌, ◌⊎◌}
use Rattle.lb_check.proofs.lists.{ListPairs.one_fails, Members.{not_among, unequal}}
use Rattle.lb_check.specs.ClockDepths.{AreAwaited, depth_within}
use Rattle.{lb_syntax.proofs.ListPlaces.set_here, std.proofs.Common.below_more}
use Rattle.std.proofs.Math.ListN.{length-set}

-- The depth of a declared clock is the number of steps from its variable to one that waits for
-- none.

-- the variable that the one at place `x` waits for is read from its clock
awaited_at : (vs : List Variable) (x : ℕ) (v : Variable) → x < length vs
    → awaited vs x ≡ option_map (λ s. s.variable.0) (get_or vs x v).clock
awaited_at vs x v lt =
    ap (λ o. o >>= λ v. option_map (λ s. s.variable.0) v.clock) (slice_get-get_or vs x v lt)

pub awaits : (vs : List Variable) (x : ℕ) (v : Variable) (s : Sampling) → x < length vs →
    (get_or vs x v).clock ≡ Some s
    → awaited vs x ≡ Some s.variable.0
awaits vs x v s lt e = awaited_at vs x v lt ∙ ap (option_map (λ s. s.variable.0)) e

pub awaits_none : (vs : List Variable) (x : ℕ) (v : Variable) → x < length vs →
    (get_or vs x v).clock ≡ None → awaited vs x ≡ None
awaits_none vs x v lt e = awaited_at vs x v lt ∙ ap (option_map (λ s. s.variable.0)) e

-- a depth that is known is right, and at most the number of variables
pub known_depth : (vs : List Variable) (depths : List (Option ℕ)) (x d : ℕ) (o : Option ℕ) →
    AreDepths vs depths → x < length vs
    → get_or depths x o ≡ Some d → HasDepth vs d x × d ≤ length vs
known_depth vs depths x d o known lt e =
    let below : x < length depths = subst (λ n. x < n) (sym known.as_many) lt in
    let at = slice_get-get_or depths x o below ∙ ap Some e in
    (known.right x d at, known.small x d at)

-- ## Steps

pub no_step : (vs : List Variable) (x : ℕ) → LeadsTo vs 0 x x
unfolding LeadsTo
no_step vs x = refl

leads_more : (vs : List Variable) (k x y z : ℕ) → LeadsTo vs k x y → awaited vs y ≡ Some z →
    LeadsTo vs (suc k) x z
unfolding LeadsTo
leads_more vs zero x y z l e = (z, subst (λ w. awaited vs w ≡ Some z) (sym l) e, refl)
leads_more vs (suc k) x y z l e = (l.0, l.1, leads_more vs k l.0 y z l.2 e)

pub step_more : (vs : List Variable) (k x y z : ℕ) → LeadsTo vs k x y → awaited vs y ≡ Some z →
    LeadsTo vs (k + 1) x z
step_more vs k x y z l e = let same : suc k ≡ k + 1 = omega arith in
    subst (λ m. LeadsTo vs m x z) same (leads_more vs k x y z l e)

-- ## Depths

stands_top : (vs : List Variable) (x : ℕ) → awaited vs x ≡ None → HasDepth vs 0 x
unfolding HasDepth
stands_top vs x e = e

pub stands_below : (vs : List Variable) (k x y d : ℕ) → LeadsTo vs k x y → HasDepth vs d y →
    HasDepth vs (k + d) x
unfolding LeadsTo HasDepth
stands_below vs zero x y d l s = let same : d ≡ 0 + d = omega arith in
    subst (λ m. HasDepth vs m x) same (subst (HasDepth vs d) (sym l) s)
stands_below vs (suc k) x y d l s =
    let same : suc (k + d) ≡ suc k + d = omega arith in
    subst (λ m. HasDepth vs m x) same (l.0, l.1, stands_below vs k l.0 y d l.2 s)

pub stands_here : (vs : List Variable) (k x y : ℕ) → LeadsTo vs k x y → awaited vs y ≡ None →
    HasDepth vs k x
stands_here vs k x y l e =
    let same : k + 0 ≡ k = omega arith in
    subst (λ m. HasDepth vs m x) same (stands_below vs k x y 0 l (stands_top vs y e))

-- a clock of depth `d` has no depth within `n`, where `n` is at most `d`
pub no_depth : (vs : List Variable) (n x d : ℕ) → HasDepth vs d x → n ≤ d →
    depth_within n vs x ≡ None
unfolding HasDepth depth_within
no_depth vs zero x d s le = refl
no_depth vs (suc n) x zero s le = absurd (omega arith)
no_depth vs (suc n) x (suc d) s le =
    rw (s.1) (ap (option_map suc) (no_depth vs n s.0 d s.2 (omega arith)))

pub its_depth : (vs : List Variable) (n x d : ℕ) → HasDepth vs d x → d < n →
    depth_within n vs x ≡ Some d
unfolding HasDepth depth_within
its_depth vs zero x d s lt = absurd (omega arith)
its_depth vs (suc n) x zero s lt = rw s refl
its_depth vs (suc n) x (suc d) s lt =
    rw (s.1) (ap (option_map suc) (its_depth vs n s.0 d s.2 (omega arith)))

-- a variable from which `k` steps lead on has no depth within `k`
pub no_end : (vs : List Variable) (k x y : ℕ) → LeadsTo vs k x y → depth_within k vs x ≡ None
unfolding LeadsTo depth_within
no_end vs zero x y l = refl
no_end vs (suc k) x y l = rw (l.1) (ap (option_map suc) (no_end vs k l.0 y l.2))

-- ## Noted depths

set_get : {A : Type 0} (xs : List A) (i j : ℕ) (a b : A) → slice_get (set xs i a) j ≡ Some b →
    ((i ≡ j) × (a ≡ b)) ⊎ (slice_get xs j ≡ Some b)
set_get [] i j a b e = absurd cc
set_get (x ∷ xs) zero zero a b e = inl (refl, cc)
set_get (x ∷ xs) zero (suc j) a b e = inr e
set_get (x ∷ xs) (suc i) zero a b e = inr e
set_get (x ∷ xs) (suc i) (suc j) a b e =
    elim (set_get xs i j a b e) [ inl s ↦ inl (ap suc s.0, s.1) | inr s ↦ inr s ]

set_keeps : {A : Type 0} (xs : List A) (i j : ℕ) (a b : A) → slice_get xs j ≡ Some b →
    ((i ≡ j) × (slice_get (set xs i a) j ≡ Some a)) ⊎ (slice_get (set xs i a) j ≡ Some b)
set_keeps [] i j a b e = absurd cc
set_keeps (x ∷ xs) zero zero a b e = inl (refl, refl)
set_keeps (x ∷ xs) zero (suc j) a b e = inr e
set_keeps (x ∷ xs) (suc i) zero a b e = inr e
set_keeps (x ∷ xs) (suc i) (suc j) a b e =
    elim (set_keeps xs i j a b e) [ inl s ↦ inl (ap suc s.0, s.1) | inr s ↦ inr s ]

pub still_known : (depths : List (Option ℕ)) (x d y : ℕ) → IsKnown depths y →
    IsKnown (set depths x (Some d)) y
still_known depths x d y k =
    elim (set_keeps depths x y (Some d) (Some k.0) k.1) [ inl s ↦ (d, s.1) | inr s ↦ (k.0, s) ]

pub first_known : (depths : List (Option ℕ)) (x d first : ℕ) (A : Type 0) → x < length depths →
    (A × (x ≡ first)) ⊎ IsKnown depths first
    → IsKnown (set depths x (Some d)) first
first_known depths x d first A lt (inl e) =
    subst (IsKnown (set depths x (Some d))) e.1 (d, set_here depths x (Some d) lt)
first_known depths x d first A lt (inr k) = still_known depths x d first k

known_some : (depths : List (Option ℕ)) (x : ℕ) (o : Option ℕ) → slice_get depths x ≡ Some o
    → is_some o ≡ true → IsKnown depths x
known_some depths x None at e = absurd cc
known_some depths x (Some d) at e = (d, at)

-- the depth of the first variable is known, where that of the variable at hand is
pub first_noted : (depths : List (Option ℕ)) (x first : ℕ) (o : Option ℕ) (A : Type 0) →
    x < length depths → is_some (get_or depths x o) ≡ true
    → (A × (x ≡ first)) ⊎ IsKnown depths first → IsKnown depths first
first_noted depths x first o A lt e (inl p) =
    subst (IsKnown depths) p.1
    (known_some depths x (get_or depths x o) (slice_get-get_or depths x o lt) e)
first_noted depths x first o A lt e (inr k) = k

pub more_depths : (vs : List Variable) (depths : List (Option ℕ)) (x d : ℕ) → AreDepths vs depths →
    HasDepth vs d x → d ≤ length vs
    → AreDepths vs (set depths x (Some d))
more_depths vs depths x d known stands small = record {
  as_many = simp length-set known.as_many;
  right = λ y e h. elim (set_get depths x y (Some d) (Some e) h) [
    | inl s ↦ let same : d ≡ e = cc in
        subst (λ z. HasDepth vs e z) s.0 (subst (λ m. HasDepth vs m x) same stands)
    | inr s ↦ known.right y e s
  ];
  small = λ y e h. elim (set_get depths x y (Some d) (Some e) h) [
    | inl s ↦ let same : d ≡ e = cc in omega arith
    | inr s ↦ known.small y e s
  ];
}

-- the depths up to place `k` are known, once that of the variable at place `k` is noted
pub noted_step : (vs : List Variable) (before was now : List (Option ℕ)) (k n : ℕ) →
    AreDepths vs before → was ≡ before → n ≡ length before
    → AreDepths vs now → IsKnown now k → ((x : ℕ) → IsKnown was x → IsKnown now x) →
    ((x : ℕ) → x < k → IsKnown before x)
    → AreDepths vs (take n (now ++ drop (length now) before))
    × ((x : ℕ) → x < k + 1 → IsKnown (take n (now ++ drop (length now) before)) x)
noted_step vs before was now k n old same len known here kept all =
    let as_long : n ≡ length now = len ∙ old.as_many ∙ sym known.as_many in
    let whole : now ≡ take n (now ++ drop (length now) before) =
    sym (ap (λ m. take m (now ++ drop (length now) before)) as_long
    ∙ take-append_seam now (drop (length now) before)) in
    let P : List (Option ℕ) → Type 0 =
    λ all. AreDepths vs all × ((x : ℕ) → x < k + 1 → IsKnown all x) in
    subst P whole (
      known,
      below_more (IsKnown now) k
          (λ x lt. kept x (subst (λ w. IsKnown w x) (sym same) (all x lt))) here,
    )

-- the clock of an awaited variable is one step less deep
pub waits_deeper : (vs : List Variable) (depth above x y : ℕ) → HasDepth vs (depth - above) x →
    above < depth + 1 → awaited vs x ≡ Some y
    → HasDepth vs (depth - (above + 1)) y
unfolding HasDepth
waits_deeper vs depth above x y s lt e = by (depth - above) refl s
  where
    by : (d : ℕ) → d ≡ depth - above → HasDepth vs d x → HasDepth vs (depth - (above + 1)) y
    by zero is s = absurd cc
    by (suc d) is s =
        let same : s.0 ≡ y = cc in
        let less : d ≡ depth - (above + 1) = omega arith in
        subst (λ m. HasDepth vs m y) less (subst (HasDepth vs d) same s.2)

pub ruleset steps = (no_step, no_end)

-- The declared clocks of a node are as deep as the code finds from the numbers of its variables.

-- ## A place and its name

pub get_name : (ds : List Declaration) (i : ℕ) (d : Declaration) → slice_get ds i ≡ Some d →
    slice_get (map (λ d. d.name) ds) i ≡ Some d.name
get_name [] i d e = absurd cc
get_name (c ∷ ds) zero d e = let same : c ≡ d = cc in ap (λ z. Some z.name) same
get_name (c ∷ ds) (suc i) d e = get_name ds i d e

-- the declaration at a place is the one found by its name
pub found_at : (ds : List Declaration) (i : ℕ) (d : Declaration) →
    are_distinct (map (λ d. d.name) ds) ≡ true → slice_get ds i ≡ Some d
    → named (λ d. d.name) d.name ds ≡ Some d
found_at [] i d u e = absurd cc
found_at (c ∷ ds) zero d u e =
    let same : c ≡ d = cc in
    let z = (bytes_eq-Decides d.name d.name).1 refl in
    subst (λ (w : Declaration). named (λ d. d.name) d.name (w ∷ ds) ≡ Some d) (sym same) (rw z refl)
found_at (c ∷ ds) (suc i) d u e =
    let a = not-true _ (and_first _ _ u) in
    let no = not_among c.name (map (λ d. d.name) ds) i d.name a (get_name ds i d e) in
    rw no (found_at ds i d (and_second _ _ u) e)

-- ## The declarations of variables

pub zip_at : {A B C : Type 0} (f : A → B → C) (xs : List A) (ys : List B) (i : ℕ) (x : A) (y : B) →
    slice_get xs i ≡ Some x → slice_get ys i ≡ Some y
    → slice_get (zip2 f xs ys) i ≡ Some (f x y)
zip_at f [] ys i x y e h = absurd cc
zip_at f (a ∷ xs) [] i x y e h = absurd cc
zip_at f (a ∷ xs) (b ∷ ys) zero x y e h =
    let p : a ≡ x = cc in let q : b ≡ y = cc in ap Some (ap (λ z. f z b) p ∙ ap (f x) q)
zip_at f (a ∷ xs) (b ∷ ys) (suc i) x y e h = zip_at f xs ys i x y e h

deeper : (o : Option Clock) (x : Name) (sign : Bool) →
    option_map depth (o >>= λ k. Some (On k x sign)) ≡ option_map suc (option_map depth o)
deeper None x sign = refl
deeper (Some k) x sign = refl

-- ## Variables among the first

pub among_first : (names : List Name) (k y : ℕ) (x : Name) → are_distinct names ≡ true →
    slice_get names y ≡ Some x → among x (take k names) ≡ nat_lt y k
among_first [] k y x u e = absurd cc
among_first (n ∷ names) zero y x u e = grind (arith, nat_tests)
among_first (n ∷ names) (suc k) zero x u e =
    let same : n ≡ x = cc in
    let z : bytes_eq x n ≡ true = (bytes_eq-Decides x n).1 (sym same) in
    rw z (grind (arith, nat_tests))
among_first (n ∷ names) (suc k) (suc y) x u e =
    let a = not-true _ (and_first _ _ u) in
    let no : bytes_eq x n ≡ false = unequal n x (not_among n names y x a e) in
    let next = among_first names k y x (and_second _ _ u) e in
    let shift : nat_lt y k ≡ nat_lt (suc y) (suc k) = grind (arith, nat_tests) in
    rw no (next ∙ shift)

pub zip_split : {A B C : Type 0} (f : A → B → C) (xs : List A) (ys : List B)
    (firsts lasts : List C) → zip2 f xs ys ≡ firsts ++ lasts
    → (firsts ≡ zip2 f (take (length firsts) xs) (take (length firsts) ys))
    × (lasts ≡ zip2 f (drop (length firsts) xs) (drop (length firsts) ys))
zip_split f xs ys [] lasts e = (refl, sym e)
zip_split f [] ys (a ∷ firsts) lasts e = absurd cc
zip_split f (x ∷ xs) [] (a ∷ firsts) lasts e = absurd cc
zip_split f (x ∷ xs) (y ∷ ys) (a ∷ firsts) lasts e =
    let head : f x y ≡ a = cc in
    let rest : zip2 f xs ys ≡ firsts ++ lasts = cc in
    let next = zip_split f xs ys firsts lasts rest in
    (ap (λ z. z ∷ firsts) (sym head) ∙ ap (λ l. f x y ∷ l) next.0, next.1)

-- pairs pass `f` exactly where their second items pass `h`, if that is so of each pair whose second
-- item passes `known`
pub zip_all : {A B C : Type 0} (g : A → B → C) (f : C → Bool) (h known : B → Bool) →
    ((x : A) (y : B) → known y ≡ true → f (g x y) ≡ h y) → (xs : List A) (ys : List B) →
    length xs ≡ length ys → list_all known ys ≡ true → list_all f (zip2 g xs ys) ≡ list_all h ys
zip_all g f h known each [] [] len w = refl
zip_all g f h known each (x ∷ xs) [] len w = absurd (omega (arith, len))
zip_all g f h known each [] (y ∷ ys) len w = absurd (omega (arith, len))
zip_all g f h known each (x ∷ xs) (y ∷ ys) len w =
    ap₂ (λ b c. b && c) (each x y (and_first (known y) _ w))
    (zip_all g f h known each xs ys (omega (arith, len)) (and_second (known y) _ w))

module _ (names : List Name) (statics : List Static) (vs : List Variable) (ds : List Declaration)
    (declared : zip2 (declaration_of names statics) names vs ≡ ds)
    (as_many : length vs ≡ length names)
    (all_names : map (λ d. d.name) ds ≡ names) (distinct : are_distinct names ≡ true)
    (there : AreAwaited vs) where
  -- the declaration at the place of a variable is that of the variable
  pub at_place : (i : ℕ) (x : Name) (v : Variable) → slice_get names i ≡ Some x →
      slice_get vs i ≡ Some v → slice_get ds i ≡ Some (declaration_of names statics x v)
  at_place i x v e h = subst (λ l. slice_get l i ≡ Some (declaration_of names statics x v)) declared
      (zip_at (declaration_of names statics) names vs i x v e h)

  pub at_name : (i : ℕ) (d : Declaration) → slice_get ds i ≡ Some d →
      named (λ d. d.name) d.name ds ≡ Some d
  at_name i d e = found_at ds i d (subst (λ l. are_distinct l ≡ true) (sym all_names) distinct) e

  -- the depth of the clock of a declaration within one step more, from the depths within `m` steps
  depth_step : (m i : ℕ) (x : Name) (v : Variable) (o : Option Sampling) → v.clock ≡ o →
      slice_get vs i ≡ Some v
      → ((j : ℕ) (y : Name) (w : Variable) → slice_get names j ≡ Some y → slice_get vs j ≡ Some w
      → option_map depth (clock_within m ds (declaration_of names statics y w)) ≡ depth_within m vs
      j)
      → option_map depth (clock_within (suc m) ds (declaration_of names statics x v)) ≡ depth_within
      (suc m) vs i
  unfolding depth_within
  depth_step m i x v None is h next = rw (h, is) refl
  depth_step m i x v (Some s) is h next =
      let y = s.variable.0 in
      let aw : awaited vs i ≡ Some y = rw (h, is) refl in
      let lt : y < length vs = there i y aw in
      let less : y < length names = omega arith in
      let w = item_at vs y lt in
      let z = item_at names y less in
      let decl = declaration_of names statics z.0 w.0 in
      let here : named (λ d. d.name) (name_at names s.variable) ds ≡ Some decl =
      ap (λ o. named (λ d. d.name) (either_or o []) ds) z.1
      ∙ at_name y decl (at_place y z.0 w.0 z.1 w.1) in
      rw aw
      (ap
      (λ o. option_map depth (sampled (clock_within m ds) ds
      (option_map (sampling_of names) o))) is
      ∙ ap
      (λ o. option_map depth (o >>= λ v. clock_within m ds v >>= λ k. Some
      (On k (name_at names s.variable) s.sign))) here
      ∙ deeper (clock_within m ds decl) (name_at names s.variable) s.sign
      ∙ ap (option_map suc) (next y z.0 w.0 z.1 w.1))

  depth_at : (m i : ℕ) (x : Name) (v : Variable) → slice_get names i ≡ Some x →
      slice_get vs i ≡ Some v
      → option_map depth (clock_within m ds (declaration_of names statics x v)) ≡ depth_within m vs
      i
  unfolding depth_within
  depth_at zero i x v e h = refl
  depth_at (suc m) i x v e h = depth_step m i x v v.clock refl h (depth_at m)

  -- the depth of the declared clock of the variable at place `i` is the one that the code finds
  pub place_depth : (i : ℕ) (x : Name) → i < length vs → slice_get names i ≡ Some x
      → option_map depth (named (λ d. d.name) x ds >>= clock_within (suc (length ds)) ds) ≡
      depth_within (suc (length ds)) vs i
  place_depth i x lt e =
      let v = item_at vs i lt in
      let decl = declaration_of names statics x v.0 in
      ap (λ o. option_map depth (o >>= clock_within (suc (length ds)) ds))
      (at_name i decl (at_place i x v.0 e v.1))
      ∙ depth_at (suc (length ds)) i x v.0 e v.1

  pub clocked_one : (k : ℕ) (allowed : List Declaration) (x : Name) (v : Variable)
      (o : Option Sampling) → v.clock ≡ o → map (λ d. d.name) allowed ≡ take k names
      → waits_below (length names) v ≡ true →
      is_clocked_by allowed (declaration_of names statics x v) ≡ waits_below k v
  clocked_one k allowed x v None is first w = rw is refl
  clocked_one k allowed x v (Some s) is first w =
      let lt : nat_lt s.variable.0 (length names) ≡ true = rw is at w in
      let less : s.variable.0 < length names = grind (arith, nat_tests) in
      let z = item_at names s.variable.0 less in
      let found : among (name_at names s.variable)
      (map (λ d. d.name) allowed) ≡ nat_lt s.variable.0 k =
      ap (λ o. among (either_or o []) (map (λ d. d.name) allowed)) z.1 ∙ ap (among z.0) first
      ∙ among_first names k s.variable.0 z.0 distinct z.1 in
      rw is (ap (λ b. b && true) found ∙ and-true (nat_lt s.variable.0 k))

  clocked_list : (k : ℕ) (allowed : List Declaration) (xs : List Name) (us : List Variable) →
      length xs ≡ length us → map (λ d. d.name) allowed ≡ take k names
      → list_all (waits_below (length names)) us ≡ true
      → list_all (is_clocked_by allowed) (zip2 (declaration_of names statics) xs us) ≡ list_all
      (waits_below k) us
  clocked_list k allowed xs us len first w =
      zip_all (declaration_of names statics) (is_clocked_by allowed) (waits_below k)
      (waits_below (length names)) (λ x v w. clocked_one k allowed x v v.clock refl first w) xs us
      len w

pub waits_next : (k : ℕ) (vs : List Variable) (i : ℕ) (d : Variable) → i < length vs
    → list_all (waits_below k) (drop i vs) ≡ waits_below k (get_or vs i d)
    && list_all (waits_below k) (drop (i + 1) vs)
waits_next k vs i d lt = ap (list_all (waits_below k)) (drop_more vs i d lt)

-- ## Nodes

pub first_names : (xs ys : List Declaration) →
    take (length xs) (map (λ d. d.name) (xs ++ ys)) ≡ map (λ d. d.name) xs
first_names [] ys = refl
first_names (x ∷ xs) ys = ap (λ l. x.name ∷ l) (first_names xs ys)

pub all_taken : {A : Type 0} (f : A → Bool) (k : ℕ) (xs : List A) → list_all f xs ≡ true →
    list_all f (take k xs) ≡ true
all_taken f zero xs e = refl
all_taken f (suc k) [] e = refl
all_taken f (suc k) (x ∷ xs) e = rw (and_first (f x) _ e) (all_taken f k xs (and_second _ _ e))

all_dropped : {A : Type 0} (f : A → Bool) (k : ℕ) (xs : List A) → list_all f xs ≡ true →
    list_all f (drop k xs) ≡ true
all_dropped f zero xs e = e
all_dropped f (suc k) [] e = refl
all_dropped f (suc k) (x ∷ xs) e = all_dropped f k xs (and_second _ _ e)

pub same_taken : {A B : Type 0} (k : ℕ) (xs : List A) (ys : List B) → length xs ≡ length ys →
    length (take k xs) ≡ length (take k ys)
same_taken k xs ys e = length-take k xs ∙ ap (min k) e ∙ sym (length-take k ys)

pub same_dropped : {A B : Type 0} (k : ℕ) (xs : List A) (ys : List B) → length xs ≡ length ys →
    length (drop k xs) ≡ length (drop k ys)
same_dropped k xs ys e = length-drop k xs ∙ ap (λ n. n - k) e ∙ sym (length-drop k ys)

-- each variable that is waited for is one of the node
within_one : (n : Counts) (v : Variable) (o : Option Sampling) → v.clock ≡ o →
    is_declared_within n v ≡ true → waits_below n.variables v ≡ true
within_one n v None is e = rw is refl
within_one n v (Some s) is e =
    let here = and_second (are_statics n v.first_size v.sizes) _ e in
    rw is (rw is at here)

pub within_all : (n : Counts) (vs : List Variable) → list_all (is_declared_within n) vs ≡ true →
    list_all (waits_below n.variables) vs ≡ true
within_all n [] e = refl
within_all n (v ∷ vs) e =
    rw (within_one n v v.clock refl (and_first _ _ e)) (within_all n vs (and_second _ _ e))

waits_there : (k : ℕ) (vs : List Variable) (x y : ℕ) → list_all (waits_below k) vs ≡ true →
    awaited vs x ≡ Some y → y < k
waits_there k [] x y w e = absurd cc
waits_there k (v ∷ vs) zero y w e = by v.clock refl
  where
    by : (o : Option Sampling) → v.clock ≡ o → y < k
    by None is = let none : awaited (v ∷ vs) 0 ≡ None = rw is refl in absurd cc
    by (Some s) is =
        let some : awaited (v ∷ vs) 0 ≡ Some s.variable.0 = rw is refl in
        let same : s.variable.0 ≡ y = cc in
        let lt : nat_lt s.variable.0 k ≡ true =
        rw is at (and_first (waits_below k v) (list_all (waits_below k) vs) w) in
        subst (λ z. z < k) same (grind (arith, nat_tests))
waits_there k (v ∷ vs) (suc x) y w e = waits_there k vs x y (and_second _ _ w) e

-- ## Variables of a test

pub all_awaited : (vs : List Variable) → list_all (waits_below (length vs)) vs ≡ true →
    AreAwaited vs
all_awaited vs w x y h = waits_there (length vs) vs x y w h

-- ## Resolved nodes

pub are_awaited : (names : List Name) (r : ResolvedNode) → IsResolved names r →
    AreAwaited r.variables.items
are_awaited names r e x y h =
    waits_there _ r.variables.items x y
    (within_all (counts_of r) r.variables.items e.declared_within) h

pub is_some_map : {A B : Type 0} (f : A → B) (o : Option A) → is_some o ≡ is_some (option_map f o)
is_some_map f None = refl
is_some_map f (Some a) = refl

module _ (nodes : List Name) (r : ResolvedNode) (e : IsResolved nodes r)
    (distinct : are_distinct (variable_names (node_of r)) ≡ true) where
  n : Node
  n = node_of r

  abbrev names_here : List Name
  names_here = variable_names (node_of r)

  abbrev vs_here : List Variable
  vs_here = r.variables.items

  pub as_many_names : length r.variables.items ≡ length (variable_names (node_of r))
  as_many_names = simp length-map e.as_many

  pub within_names : list_all (waits_below (length names_here)) vs_here ≡ true
  within_names = subst (λ k. list_all (waits_below k) vs_here ≡ true) as_many_names
      (within_all (counts_of r) r.variables.items e.declared_within)

  -- the inputs and outputs are the declarations of the first variables, each of which waits for a
  -- variable of the node, if it waits for one
  pub parameters_are :
      ((node_of r).inputs ++ (node_of r).outputs
      ≡ zip2 (declaration_of names_here (statics_of r)) (take (r.inputs + r.outputs) names_here)
      (take (r.inputs + r.outputs) vs_here))
      × (length (take (r.inputs + r.outputs) names_here)
      ≡ length (take (r.inputs + r.outputs) vs_here))
      × (list_all (waits_below (length names_here)) (take (r.inputs + r.outputs) vs_here) ≡ true)
  parameters_are =
      let f = declaration_of names_here (statics_of r) in
      let split = zip_split f names_here vs_here ((node_of r).inputs ++ (node_of r).outputs)
      (node_of r).locals (e.declared
      ∙ sym (append_assoc (node_of r).inputs (node_of r).outputs (node_of r).locals)) in
      let size : length ((node_of r).inputs ++ (node_of r).outputs) ≡ r.inputs + r.outputs =
      omega (arith, length-append (node_of r).inputs (node_of r).outputs, e.inputs, e.outputs) in (
        split.0 ∙ ap (λ m. zip2 f (take m names_here) (take m vs_here)) size,
        same_taken _ names_here vs_here (sym as_many_names),
        all_taken _ _ vs_here within_names,
      )

  place_is : (i : ℕ) (x : Name) → i < length r.variables.items → slice_get names_here i ≡ Some x
      → option_map depth (variable_clock (node_of r) x) ≡ depth_within
      (length r.variables.items + 1) r.variables.items i
  place_is i x lt h =
      let fuel : suc (length (variables (node_of r))) ≡ length r.variables.items + 1 =
      omega (arith, e.as_many) in
      place_depth names_here (statics_of r) vs_here
      (variables (node_of r)) e.declared as_many_names refl distinct
      (are_awaited nodes r e) i x lt h
      ∙ ap (λ m. depth_within m vs_here i) fuel

  -- a variable has a declared clock exactly where its depth is finite
  pub place_some : (i : ℕ) (x : Name) → i < length r.variables.items
      → slice_get names_here i ≡ Some x
      → is_some (variable_clock (node_of r) x) ≡ is_some
      (depth_within (length r.variables.items + 1) r.variables.items i)
  place_some i x lt h = is_some_map depth (variable_clock (node_of r) x)
      ∙ ap is_some (place_is i x lt h)

  pub inputs_clocked : list_all (is_clocked_by (node_of r).inputs) (node_of r).inputs ≡ list_all
      (waits_below r.inputs) (take r.inputs r.variables.items)
  inputs_clocked =
      let f = declaration_of names_here (statics_of r) in
      let k = length (node_of r).inputs in
      let split = zip_split f names_here vs_here (node_of r).inputs
      ((node_of r).outputs ++ (node_of r).locals) e.declared in
      let firsts : map (λ d. d.name) (node_of r).inputs ≡ take k names_here =
      sym (first_names (node_of r).inputs ((node_of r).outputs ++ (node_of r).locals)) in
      ap (list_all (is_clocked_by (node_of r).inputs)) split.0
      ∙ clocked_list names_here (statics_of r) vs_here
      (variables (node_of r)) e.declared as_many_names refl distinct (are_awaited nodes r e)
      k (node_of r).inputs (take k names_here) (take k vs_here)
      (same_taken k names_here vs_here (sym as_many_names)) firsts
      (all_taken _ k vs_here within_names)
      ∙ ap (λ m. list_all (waits_below m) (take m vs_here)) (sym e.inputs)

  pub outputs_clocked : list_all (is_clocked_by ((node_of r).inputs ++ (node_of r).outputs))
      (node_of r).outputs
      ≡ list_all (waits_below (r.inputs + r.outputs))
      (take r.outputs (drop r.inputs r.variables.items))
  outputs_clocked =
      let f = declaration_of names_here (statics_of r) in
      let k = length (node_of r).inputs in
      let o = length (node_of r).outputs in
      let allowed = (node_of r).inputs ++ (node_of r).outputs in
      let split = zip_split f names_here vs_here (node_of r).inputs
      ((node_of r).outputs ++ (node_of r).locals) e.declared in
      let again = zip_split f (drop k names_here) (drop k vs_here) (node_of r).outputs
      (node_of r).locals (sym split.1) in
      let firsts : map (λ d. d.name) allowed ≡ take (k + o) names_here =
      sym (first_names allowed (node_of r).locals)
      ∙ ap (λ l. take (length allowed) (map (λ d. d.name) l))
      (append_assoc (node_of r).inputs (node_of r).outputs (node_of r).locals)
      ∙ ap (λ m. take m names_here) (length-append (node_of r).inputs (node_of r).outputs) in
      ap (list_all (is_clocked_by allowed)) again.0
      ∙ clocked_list names_here (statics_of r) vs_here
      (variables (node_of r)) e.declared as_many_names refl distinct (are_awaited nodes r e)
      (k + o) allowed (take o (drop k names_here)) (take o (drop k vs_here))
      (same_taken o (drop k names_here) (drop k vs_here)
      (same_dropped k names_here vs_here (sym as_many_names))) firsts
      (all_taken _ o (drop k vs_here) (all_dropped _ k vs_here within_names))
      ∙ ap (λ m. list_all (waits_below (m + o)) (take o (drop m vs_here))) (sym e.inputs)
      ∙ ap (λ m. list_all (waits_below (r.inputs + m)) (take m (drop r.inputs vs_here)))
      (sym e.outputs)

  abbrev kept_by : Bool → Bool
  kept_by b =
      list_all (waits_below r.inputs) (take r.inputs r.variables.items)
      && (list_all (waits_below (r.inputs + r.outputs))
      (take r.outputs (drop r.inputs r.variables.items)) && b)

  clocks_kept : are_declared_clocks (node_of r) ≡ kept_by
      (list_all (λ x. is_some (variable_clock (node_of r) x)) names_here)
  clocks_kept =
      let b = list_all (λ x. is_some (variable_clock (node_of r) x)) names_here in
      ap
      (λ a. a && (list_all (is_clocked_by ((node_of r).inputs ++ (node_of r).outputs))
      (node_of r).outputs && b)) inputs_clocked
      ∙ ap (λ a. list_all (waits_below r.inputs) (take r.inputs r.variables.items) && (a && b))
      outputs_clocked

  pub each_ends : IsCircle r.variables.items None →
      list_all (λ x. is_some (variable_clock (node_of r) x)) names_here ≡ true
  each_ends found = all_from _ names_here (λ i x h.
      let less = slice_get_within names_here i x h in
      let lt : i < length r.variables.items = omega (arith, as_many_names) in
      let known = found.2 i lt in
      let small = found.1.small i known.0 known.1 in
      place_some i x lt h ∙ ap is_some
      (its_depth r.variables.items (length r.variables.items + 1) i known.0
      (found.1.right i known.0 known.1) (omega arith)))

  -- a node breaks the rules where an input or output waits for another variable than it may, or
  -- declared clocks run in a circle
  pub inputs_refused :
      list_all (waits_below r.inputs) (take r.inputs r.variables.items) ≡ false
      → are_declared_clocks (node_of r) ≡ false
  inputs_refused found = clocks_kept ∙ rw found refl

  pub outputs_refused :
      list_all (waits_below (r.inputs + r.outputs))
      (take r.outputs (drop r.inputs r.variables.items)) ≡ false
      → are_declared_clocks (node_of r) ≡ false
  outputs_refused found =
      clocks_kept ∙ rw found (and-false (list_all (waits_below r.inputs)
      (take r.inputs r.variables.items)))

  pub circle_refused : (i : ℕ) (x : Name) → slice_get names_here i ≡ Some x →
      is_some (variable_clock (node_of r) x) ≡ false
      → are_declared_clocks (node_of r) ≡ false
  circle_refused i x at none =
      clocks_kept ∙ rw (one_fails (λ x. is_some (variable_clock (node_of r) x)) names_here i x at
      none) (ap (λ b. list_all (waits_below r.inputs) (take r.inputs r.variables.items) && b)
      (and-false _) ∙ and-false _)

  -- a node keeps the rules where inputs and outputs wait for variables that they may, and no clocks
  -- run in a circle
  pub clocks_accepted :
      list_all (waits_below r.inputs) (take r.inputs r.variables.items) ≡ true
      → list_all (waits_below (r.inputs + r.outputs))
      (take r.outputs (drop r.inputs r.variables.items)) ≡ true
      → IsCircle r.variables.items None → are_declared_clocks (node_of r) ≡ true
  clocks_accepted inputs outputs found = clocks_kept ∙ rw (inputs, outputs) (each_ends found)
