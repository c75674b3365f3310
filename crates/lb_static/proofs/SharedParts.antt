-- The list of static expressions where equal ones are kept once.
use denote.Enum.Bare.{sameb, same_true}
use Rattle.std.proofs.Common.{◌≡◌, ℕ, suc, Bool, true, false, cond, List, [], ◌∷◌, ◌++◌, length}
use Rattle.std.proofs.Common.{map}
use Rattle.std.proofs.Common.{Option, Some, None, is_some, option_map, refl, ap, sym, subst}
use Rattle.std.proofs.Common.{◌∙◌, arith, rules}
use Rattle.std.specs.Prelude.{◌&&◌, ◌||◌, slice_get, nat_eq, Result, Ok, Err}
use Rattle.std.specs.Ordering.{is_eq, nat_cmp}
use Rattle.std.specs.Prelude.{IfOk, OnOk}
use Rattle.std.specs.BTreeMap.{BTreeMap, get}
use Rattle.std.specs.List.{list_all, list_any}
use Rattle.std.specs.Str.{bytes_eq}
use Rattle.std.proofs.lemmas.Bool.Decides.{nat_tests}
use Rattle.std.proofs.lemmas.List.{append-nil, append_assoc, length-map, map-append}
use Rattle.std.proofs.lemmas.List.Folds.{list_all-append, list_any-append}
use Rattle.std.proofs.lemmas.Map.Keys.{any_passes_from_place}
use Rattle.std.proofs.lemmas.Slice.Eq.{bytes_eq-Decides}
use Rattle.std.proofs.Math.Bool.{and_assoc, and-true, or_assoc, or-false}
use Rattle.lb_syntax.specs.Lists.{◌>>=◌, either_or, holds, or_else}
use Rattle.lb_syntax.specs.Tree.{Name, Static, Whole, Named, Negated, Combined, Grouped}
use Rattle.lb_syntax.specs.contracts.tree.BinaryOperator.{the_type}
use Rattle.lb_syntax.proofs.ListPlaces.{all_at, get_last}
use Rattle.lb_syntax.proofs.TruthValues.{and_first, and_second}
use Rattle.lb_static.specs.PartKeys.{is_same_static, is_same_purpose, is_same_part, letter_of}
use Rattle.lb_static.specs.PartKeys.{key_of, has_key, static_key, start_key}
use Rattle.lb_static.specs.SharedParts.{first_with, is_held_at, held, place_of, with_part}
use Rattle.lb_static.specs.SharedParts.{with_parts}
use Rattle.lb_static.specs.SharedParts.{with_static, ArePartsPlaced, HasNoNewKey}
use Rattle.lb_static.specs.StaticParts.{Part, Purpose, Size, Index, SliceStart, SliceEnd}
use Rattle.lb_static.specs.StaticParts.{Value, part_of}
use Rattle.lb_static.specs.declared.resolved.StaticId.{StaticId}
use Rattle.lb_static.specs.declared.resolved.StaticPart.{StaticPart}
use Rattle.lb_static.proofs.Scopes.{bytes_eq-symmetric}

-- ## Equality

same_static : (s t : Static) → is_same_static s t ≡ true → s ≡ t
same_static (Whole m) (Whole n) e = let same : m ≡ n = grind (arith, nat_tests) in ap Whole same
same_static (Named x) (Named y) e = ap Named ((bytes_eq-Decides x y).0 e)
same_static (Grouped s) (Grouped t) e = ap Grouped (same_static s t e)
same_static (Negated s) (Negated t) e = ap Negated (same_static s t e)
same_static (Combined op s t) (Combined other u v) e =
    let both = is_same_static s u && is_same_static t v in
    let operands = and_second (sameb the_type op other) both e in
    let o = same_true the_type (search rules) op other
    (and_first (sameb the_type op other) both e) in
    let a = same_static s u (and_first (is_same_static s u) (is_same_static t v) operands) in
    let b = same_static t v (and_second (is_same_static s u) (is_same_static t v) operands) in
    λ j. Combined (o j) (a j) (b j)
same_static _ _ e = absurd cc

same_purpose : (p q : Purpose) → is_same_purpose p q ≡ true → p ≡ q
same_purpose Size Size e = refl
same_purpose Index Index e = refl
same_purpose SliceStart SliceStart e = refl
same_purpose (SliceEnd s) (SliceEnd t) e = ap SliceEnd (same_static s t e)
same_purpose Value Value e = refl
same_purpose _ _ e = absurd cc

same_part : (p q : Part) → is_same_part p q ≡ true → p ≡ q
same_part p q e =
    let purpose = same_purpose p.0 q.0 (and_first (is_same_purpose p.0 q.0) _ e) in
    let static = same_static p.1 q.1 (and_second (is_same_purpose p.0 q.0) _ e) in
    λ j. (purpose j, static j)

-- ## One more static expression

-- the static expression that is found for `q` is `q` itself
held_stands : (ps : List Part) (q : Part) (i : ℕ) → held ps q ≡ Some i → slice_get ps i ≡ Some q
held_stands ps q i e = of_key (key_of q) e
  where
    here : (o : Option Part) (j : ℕ) → slice_get ps j ≡ o
        → cond (holds (λ p. is_same_part p q) o) (Some j) None ≡ Some i → slice_get ps i ≡ Some q
    here None j at e = absurd cc
    here (Some p) j at e = by (is_same_part p q) refl e
      where
        by : (b : Bool) → is_same_part p q ≡ b → cond b (Some j) None ≡ Some i
            → slice_get ps i ≡ Some q
        by true same e =
            let place : j ≡ i = cc in
            ap (slice_get ps) (sym place) ∙ at ∙ ap Some (same_part p q same)
        by false same e = absurd cc

    of_place : (o : Option ℕ)
        → (o >>= λ j. cond (is_held_at ps q j) (Some j) None) ≡ Some i → slice_get ps i ≡ Some q
    of_place None e = absurd cc
    of_place (Some j) e = here (slice_get ps j) j refl e

    of_key : (o : Option ℕ)
        → (o >>= λ k. first_with (has_key k) ps >>= λ j. cond (is_held_at ps q j) (Some j) None)
        ≡ Some i → slice_get ps i ≡ Some q
    of_key None e = absurd cc
    of_key (Some k) e = of_place (first_with (has_key k) ps) e

-- the static expression at `place_of ps q` is `q`, once `q` is kept
pub place_stands : (ps : List Part) (q : Part) → slice_get (with_part ps q) (place_of ps q) ≡ Some q
unfolding with_part place_of
place_stands ps q = by (held ps q) refl
  where
    by : (o : Option ℕ) → held ps q ≡ o
        → slice_get (cond (is_some o) ps (ps ++ q ∷ [])) (either_or o (length ps)) ≡ Some q
    by None e = get_last ps q
    by (Some i) e = held_stands ps q i e

-- the static expressions that are added for `q`: none, or `q`
added : List Part → Part → List Part
added ps q = cond (is_some (held ps q)) [] (q ∷ [])

one_added : (ps : List Part) (q : Part) → with_part ps q ≡ ps ++ added ps q
unfolding with_part added
one_added ps q = by (is_some (held ps q))
  where
    by : (b : Bool) → cond b ps (ps ++ q ∷ []) ≡ ps ++ cond b [] (q ∷ [])
    by true = sym (append-nil ps)
    by false = refl

-- a static expression of a purpose that is never kept once is added
own_added : (ps : List Part) (q : Part) → letter_of q.0 ≡ None → with_part ps q ≡ ps ++ q ∷ []
unfolding with_part
own_added ps q e = by (letter_of q.0) e
  where
    by : (o : Option ℕ) → o ≡ None
        → cond (is_some (option_map (λ k. static_key k q.1) (option_map (start_key q.0) o)
        >>= λ k. first_with (has_key k) ps >>= λ i. cond (is_held_at ps q i) (Some i) None)) ps
        (ps ++ q ∷ []) ≡ ps ++ q ∷ []
    by None e = refl
    by (Some c) e = absurd cc

-- ## Tests

all_part : (f : Part → Bool) (ps : List Part) (q : Part)
    → list_all f (with_part ps q) ≡ (list_all f ps && f q)
unfolding with_part
all_part f ps q = by (held ps q) refl
  where
    there : (b c : Bool) → list_all f ps ≡ b → f q ≡ c → (b ≡ true → c ≡ true) → b ≡ (b && c)
    there true true e g h = refl
    there true false e g h = let n = h refl in absurd cc
    there false c e g h = refl

    by : (o : Option ℕ) → held ps q ≡ o
        → list_all f (cond (is_some o) ps (ps ++ q ∷ [])) ≡ (list_all f ps && f q)
    by None e = list_all-append f ps (q ∷ []) ∙ ap (λ b. list_all f ps && b) (and-true (f q))
    by (Some i) e = there (list_all f ps) (f q) refl refl
        (λ a. all_at f ps i q a (held_stands ps q i e))

any_part : (f : Part → Bool) (ps : List Part) (q : Part)
    → list_any f (with_part ps q) ≡ (list_any f ps || f q)
unfolding with_part
any_part f ps q = by (held ps q) refl
  where
    there : (b c : Bool) → list_any f ps ≡ b → f q ≡ c → (c ≡ true → b ≡ true) → b ≡ (b || c)
    there true c e g h = refl
    there false true e g h = let n = h refl in absurd cc
    there false false e g h = refl

    by : (o : Option ℕ) → held ps q ≡ o
        → list_any f (cond (is_some o) ps (ps ++ q ∷ [])) ≡ (list_any f ps || f q)
    by None e = list_any-append f ps (q ∷ []) ∙ ap (λ b. list_any f ps || b) (or-false (f q))
    by (Some i) e = there (list_any f ps) (f q) refl refl
        (λ a. any_passes_from_place f ps i q (held_stands ps q i e) a)

-- a test passes for all that are kept exactly if it passes for all that were given
pub all_kept : (f : Part → Bool) (ps qs : List Part)
    → list_all f (with_parts ps qs) ≡ (list_all f ps && list_all f qs)
all_kept f ps [] = sym (and-true (list_all f ps))
all_kept f ps (q ∷ qs) =
    all_kept f (with_part ps q) qs ∙ ap (λ b. b && list_all f qs) (all_part f ps q)
    ∙ and_assoc (list_all f ps) (f q) (list_all f qs)

pub any_kept : (f : Part → Bool) (ps qs : List Part)
    → list_any f (with_parts ps qs) ≡ (list_any f ps || list_any f qs)
any_kept f ps [] = sym (or-false (list_any f ps))
any_kept f ps (q ∷ qs) =
    any_kept f (with_part ps q) qs ∙ ap (λ b. b || list_any f qs) (any_part f ps q)
    ∙ or_assoc (list_any f ps) (f q) (list_any f qs)

-- ## More static expressions, one after another

pub kept_twice : (ps P Q : List Part) → with_parts (with_parts ps P) Q ≡ with_parts ps (P ++ Q)
kept_twice ps [] Q = refl
kept_twice ps (p ∷ P) Q = kept_twice (with_part ps p) P Q

-- the static expressions that are added for a list
pub all_added : List Part → List Part → List Part
all_added ps [] = []
all_added ps (q ∷ qs) = added ps q ++ all_added (with_part ps q) qs

pub kept_longer : (ps qs : List Part) → with_parts ps qs ≡ ps ++ all_added ps qs
unfolding all_added
kept_longer ps [] = sym (append-nil ps)
kept_longer ps (q ∷ qs) =
    kept_longer (with_part ps q) qs
    ∙ ap (λ l. l ++ all_added (with_part ps q) qs) (one_added ps q)
    ∙ append_assoc ps (added ps q) (all_added (with_part ps q) qs)

-- static expressions of a purpose that is never kept once are all added
pub own_kept : (purpose : Purpose) (ps : List Part) (ss : List Static) → letter_of purpose ≡ None
    → with_parts ps (map (λ s. (purpose, s)) ss) ≡ ps ++ map (λ s. (purpose, s)) ss
own_kept purpose ps [] e = sym (append-nil ps)
own_kept purpose ps (s ∷ ss) e =
    let tagged : List Part = map (λ t. (purpose, t)) ss in
    ap (λ l. with_parts l tagged) (own_added ps (purpose, s) e)
    ∙ own_kept purpose (ps ++ (purpose, s) ∷ []) ss e
    ∙ append_assoc ps ((purpose, s) ∷ []) tagged

-- ## The static expressions as the code keeps them

pub statics_kept : (ps : List StaticPart) (q : StaticPart)
    → map part_of (with_static ps q) ≡ with_part (map part_of ps) (part_of q)
unfolding with_part
statics_kept ps q = by (is_some (held (map part_of ps) (part_of q)))
  where
    by : (b : Bool) → map part_of (cond b ps (ps ++ q ∷ []))
        ≡ cond b (map part_of ps) (map part_of ps ++ part_of q ∷ [])
    by true = refl
    by false = map-append part_of ps (q ∷ [])

first_more : {A : Type 0} (f : A → Bool) (xs : List A) (y : A)
    → first_with f (xs ++ y ∷ [])
    ≡ or_else (first_with f xs) (cond (f y) (Some (length xs)) None)
first_more f [] y = refl
first_more f (x ∷ xs) y =
    ap (λ o. cond (f x) (Some 0) (option_map suc o)) (first_more f xs y)
    ∙ by (f x) (first_with f xs) (f y)
  where
    long : suc (length xs) ≡ length (x ∷ xs)
    long = omega arith

    last : (b : Bool) → option_map suc (cond b (Some (length xs)) None)
        ≡ cond b (Some (length (x ∷ xs))) None
    last true = ap Some long
    last false = refl

    by : (b : Bool) (o : Option ℕ) (c : Bool)
        → cond b (Some 0) (option_map suc (or_else o (cond c (Some (length xs)) None)))
        ≡ or_else (cond b (Some 0) (option_map suc o)) (cond c (Some (length (x ∷ xs))) None)
    by true o c = refl
    by false None c = last c
    by false (Some i) c = refl

-- the map of places stays right with one more static expression without a new key
pub still_placed : (places : BTreeMap ℕ ℕ) (ps qs : List Part) (q : Part)
    → ArePartsPlaced ps places → HasNoNewKey ps q → qs ≡ ps ++ q ∷ []
    → ArePartsPlaced qs places
still_placed places ps qs q h none more k =
    h k ∙ by (first_with (has_key k) ps) refl (has_key k q) refl
    ∙ sym (ap (first_with (has_key k)) more ∙ first_more (has_key k) ps q)
  where
    by : (o : Option ℕ) → first_with (has_key k) ps ≡ o → (b : Bool) → has_key k q ≡ b
        → o ≡ or_else o (cond b (Some (length ps)) None)
    by (Some i) e b g = refl
    by None e false g = refl
    by None e true g = let there = sym (ap is_some e) ∙ none k g in absurd cc

-- the key that a look-up finds
at_key : (key k : ℕ) → is_eq (nat_cmp key k) ≡ nat_eq k key
at_key key k = grind (arith, nat_tests)

same_key : (k key : ℕ) → nat_eq k key ≡ true → key ≡ k
same_key k key e = grind (arith, nat_tests)

-- the map of places stays right with one more static expression with a new key
pub newly_placed : (before after : BTreeMap ℕ ℕ) (ps qs : List Part) (q : Part) (key place : ℕ)
    → ArePartsPlaced ps before → key_of q ≡ Some key
    → first_with (has_key key) ps ≡ None → place ≡ length ps → qs ≡ ps ++ q ∷ []
    → ((k : ℕ) → get nat_cmp after k
    ≡ cond (is_eq (nat_cmp key k)) (Some place) (get nat_cmp before k))
    → ArePartsPlaced qs after
newly_placed before after ps qs q key place h is fresh last more set k =
    set k ∙ ap (cond (is_eq (nat_cmp key k)) (Some place)) (h k)
    ∙ ap (λ b. cond b (Some place) (first_with (has_key k) ps)) (at_key key k)
    ∙ ap (λ n. cond (nat_eq k key) (Some n) (first_with (has_key k) ps)) last
    ∙ by (nat_eq k key) refl
    ∙ sym (ap (first_with (has_key k)) more ∙ first_more (has_key k) ps q)
  where
    own : has_key k q ≡ nat_eq k key
    own = ap (holds (nat_eq k)) is

    by : (b : Bool) → nat_eq k key ≡ b
        → cond b (Some (length ps)) (first_with (has_key k) ps)
        ≡ or_else (first_with (has_key k) ps) (cond (has_key k q) (Some (length ps)) None)
    by true e =
        let none : first_with (has_key k) ps ≡ None =
        subst (λ l. first_with (has_key l) ps ≡ None) (same_key k key e) fresh in
        let here : has_key k q ≡ true = own ∙ e in
        sym (ap (λ o. or_else o (cond (has_key k q) (Some (length ps)) None)) none
        ∙ ap (λ b. cond b (Some (length ps)) None) here)
    by false e =
        let apart : has_key k q ≡ false = own ∙ e in
        nothing (first_with (has_key k) ps)
        ∙ ap (λ b. or_else (first_with (has_key k) ps) (cond b (Some (length ps)) None))
        (sym apart)
      where
        nothing : (o : Option ℕ) → o ≡ or_else o None
        nothing None = refl
        nothing (Some i) = refl

-- the map of places stays right after a push of one without a new key, which may fail
pub pushed_placed : (places : BTreeMap ℕ ℕ) (ps qs : List StaticPart)
    (q : StaticPart) (added : Bool) → ArePartsPlaced (map part_of ps) places
    → HasNoNewKey (map part_of ps) (part_of q) → qs ≡ cond added (ps ++ q ∷ []) ps
    → ArePartsPlaced (map part_of qs) places
pushed_placed places ps qs q true h none more =
    still_placed places (map part_of ps) (map part_of qs) (part_of q) h none
    (ap (map part_of) more ∙ map-append part_of ps (q ∷ []))
pushed_placed places ps qs q false h none same =
    subst (λ l. ArePartsPlaced (map part_of l) places) (sym same) h

-- ## The search

module _ (ps : List Part) (q : Part) where
  of_place : Option ℕ → Option ℕ
  of_place o = o >>= λ i. cond (is_held_at ps q i) (Some i) None

  of_key : Option ℕ → Option ℕ
  unfolding of_place
  of_key o = o >>= λ k. of_place (first_with (has_key k) ps)

  held_by : held ps q ≡ of_key (key_of q)
  unfolding of_place of_key
  held_by = refl

  pub unkeyed : key_of q ≡ None → held ps q ≡ None
  unfolding of_place of_key
  unkeyed e = held_by ∙ ap of_key e

  pub fresh_key : (k : ℕ) → key_of q ≡ Some k → first_with (has_key k) ps ≡ None
      → held ps q ≡ None
  unfolding of_place of_key
  fresh_key k e none = held_by ∙ ap of_key e ∙ ap of_place none

  pub held_there : (k i : ℕ) → key_of q ≡ Some k
      → first_with (has_key k) ps ≡ Some i → is_held_at ps q i ≡ true → held ps q ≡ Some i
  unfolding of_place of_key
  held_there k i e at here =
      held_by ∙ ap of_key e ∙ ap of_place at ∙ ap (λ b. cond b (Some i) None) here

  pub another_there : (k i : ℕ) → key_of q ≡ Some k
      → first_with (has_key k) ps ≡ Some i → is_held_at ps q i ≡ false → held ps q ≡ None
  unfolding of_place of_key
  another_there k i e at here =
      held_by ∙ ap of_key e ∙ ap of_place at ∙ ap (λ b. cond b (Some i) None) here

-- the place of a static expression that is added is the last one
pub last_place : {A : Type 0} (r : Result StaticId A) (ps : List StaticPart) (q : StaticPart)
    → held (map part_of ps) (part_of q) ≡ None → IfOk r (λ id. id.0 ≡ length ps)
    → IfOk r (λ id. id.0 ≡ place_of (map part_of ps) (part_of q))
unfolding place_of
last_place r ps q e h =
    let last : length ps ≡ place_of (map part_of ps) (part_of q) =
    sym (ap (λ o. either_or o (length (map part_of ps))) e ∙ length-map ps part_of) in
    subst (λ n. IfOk r (λ id. id.0 ≡ n)) last h

pub held_place : (ps : List Part) (q : Part) (i : ℕ) → held ps q ≡ Some i → i ≡ place_of ps q
unfolding place_of
held_place ps q i e = sym (ap (λ o. either_or o (length ps)) e)

pub held_static : (ps : List StaticPart) (q : StaticPart) (i : ℕ)
    → held (map part_of ps) (part_of q) ≡ Some i → ps ≡ with_static ps q
held_static ps q i e = sym (ap (λ o. cond (is_some o) ps (ps ++ q ∷ [])) e)

pub new_static : {A : Type 0} (r : Result StaticId A) (ps after : List StaticPart) (q : StaticPart)
    → held (map part_of ps) (part_of q) ≡ None → OnOk r (after ≡ ps ++ q ∷ [])
    → IfOk r (λ _. after ≡ with_static ps q)
new_static (Ok id) ps after q none h =
    h ∙ sym (ap (λ o. cond (is_some o) ps (ps ++ q ∷ [])) none)
new_static (Err e) ps after q none h = tt

-- a static expression that is a name, on either side
pub same_either_way : (s : Static) (x : Name)
    → is_same_static s (Named x) ≡ is_same_static (Named x) s
same_either_way (Whole n) x = refl
same_either_way (Named y) x = bytes_eq-symmetric y x
same_either_way (Grouped s) x = refl
same_either_way (Negated s) x = refl
same_either_way (Combined op s t) x = refl
