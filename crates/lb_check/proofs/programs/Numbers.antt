-- The numbers of scalar elements: each variable of an instance has as many as it is wide, and all
-- together are the numbers from 0 on, in the order of the elements.
use Rattle.lb_check.proofs.Words
use Words.{◌≡◌, inl, inr, ℕ, zero, suc, ◌+◌, ◌<◌, Bool, true, false, Option, Some, None, List, []}
use Words.{◌∷◌, ◌++◌, flat_map, map, length, refl, ap, ap₂, sym, subst, ◌∙◌, arith, not, slice_get}
use Words.{bytes_eq, range_with_len, length-append, length-map, map-append, bytes_eq-Decides}
use Words.{slice_get_within, same_Some, false_from_ne_true, not-true, Every, In, listed, Name}
use Words.{Declaration, and_first, and_second, or_first, or_second, variables, width, Program}
use Words.{Instance, Path, is_path, instances, are_distinct, among, place_in, in_map}
use Words.{instance_elements, program_elements, numbers_of, Element, elements}
use Rattle.{std.proofs.lemmas.List.FromFn.length-range_with_len, lb_check.specs.Elements.found_from}
use Rattle.lb_check.{specs.Elements.numbers_from, proofs.lists.ListPairs.get_mapped}
use Rattle.lb_check.proofs.lists.Members.{Every-map, Every-both, Every-all, flat_same, Every-at}
use Rattle.lb_check.proofs.lists.Members.{Every-from, AreApart, to_pieces, in_range}
use Rattle.lb_check.proofs.programs.InstancePaths.{is_path-same, same_path, IsAt, all_at}
use Rattle.lb_check.proofs.programs.InstancePaths.{same_instance, instances_apart}

-- ## Ranges and places

range_append : (a m n : ℕ) →
    range_with_len a m ++ range_with_len (a + m) n ≡ range_with_len a (m + n)
range_append a zero n =
    let from : a + 0 ≡ a = omega arith in
    let count : n ≡ 0 + n = omega arith in
    ap₂ range_with_len from count
range_append a (suc m) n =
    let from : a + suc m ≡ (a + 1) + m = omega arith in
    let count : suc (m + n) ≡ suc m + n = omega arith in
    ap (λ b. a ∷ (range_with_len (a + 1) m ++ range_with_len b n)) from
    ∙ (ap (λ is. a ∷ is) (range_append (a + 1) m n) ∙ ap (range_with_len a) count)

-- the items at the places of a list, from place `n` on, are the items of the list
places_from : {A : Type 0} (xs all : List A) (n : ℕ) →
    ((j : ℕ) → slice_get all (n + j) ≡ slice_get xs j) →
    map (slice_get all) (range_with_len n (length xs)) ≡ map (λ x. Some x) xs
places_from [] all n same = refl
places_from (x ∷ xs) all n same =
    let here : n + 0 ≡ n = omega arith in
    ap₂ (λ y ys. y ∷ ys) (sym (ap (slice_get all) here) ∙ same 0)
    (places_from xs all (n + 1)
    (λ j. let next : (n + 1) + j ≡ n + suc j = omega arith in
    ap (slice_get all) next ∙ same (suc j)))

places_are : {A : Type 0} (xs : List A) →
    map (slice_get xs) (range_with_len 0 (length xs)) ≡ map (λ x. Some x) xs
places_are xs = places_from xs xs 0 (λ j. let e : 0 + j ≡ j = omega arith in ap (slice_get xs) e)

pub range_get : (a n i : ℕ) → i < n → slice_get (range_with_len a n) i ≡ Some (a + i)
range_get a zero i lt = absurd (omega arith)
range_get a (suc n) zero lt = let e : a ≡ a + 0 = omega arith in ap (λ j. Some j) e
range_get a (suc n) (suc i) lt =
    let e : (a + 1) + i ≡ a + suc i = omega arith in
    range_get (a + 1) n i (omega arith) ∙ ap (λ j. Some j) e

-- two lists of pieces have the same images, where each piece has the image of the one beside it
pieces_mapped :
    {A B C D : Type 0} (g : B → D) (h : C → D) (f : A → List B) (k : A → List C) (xs : List A) →
    Every (λ x. map g (f x) ≡ map h (k x)) xs → map g (flat_map f xs) ≡ map h (flat_map k xs)
pieces_mapped g h f k [] same = refl
pieces_mapped g h f k (x ∷ xs) same =
    map-append g (f x) (flat_map f xs)
    ∙ (ap₂ (λ ys zs. ys ++ zs) same.0 (pieces_mapped g h f k xs same.1)
    ∙ sym (map-append h (k x) (flat_map k xs)))

-- ## The variables of an instance

not_among : (x : Name) (ds : List Declaration) → among x (map (λ d. d.name) ds) ≡ false →
    Every (λ d. bytes_eq x d.name ≡ false) ds
not_among x [] e = tt
not_among x (d ∷ ds) e =
    (or_first (bytes_eq x d.name) _ e, not_among x ds (or_second (bytes_eq x d.name) _ e))

module _ (P : Program) (here : Instance) where
  pub length_elements : (d : Declaration) → length (elements P here d) ≡ width P here d
  length_elements d =
      length-map (range_with_len 0 (width P here d)) _ ∙ length-range_with_len 0 (width P here d)

  pub numbers_first : (n : ℕ) (d : Declaration) (ds : List Declaration) →
      numbers_from P here n (d ∷ ds) d.name ≡ range_with_len n (width P here d)
  unfolding numbers_from
  numbers_first n d ds = let z = (bytes_eq-Decides d.name d.name).1 refl in rw z refl

  pub numbers_later :
      (n : ℕ) (d : Declaration) (ds : List Declaration) (x : Name) → bytes_eq d.name x ≡ false →
      numbers_from P here n (d ∷ ds) x ≡ numbers_from P here (n + width P here d) ds x
  unfolding numbers_from
  numbers_later n d ds x e = rw e refl

  pub others : (d : Declaration) (ds : List Declaration)
      → are_distinct (map (λ d. d.name) (d ∷ ds)) ≡ true →
      Every (λ e. bytes_eq d.name e.name ≡ false) ds
  others d ds e =
      not_among d.name ds (not-true _ (and_first (not (among d.name (map (λ d. d.name) ds))) _ e))

  pub distinct_rest : (d : Declaration) (ds : List Declaration) →
      are_distinct (map (λ d. d.name) (d ∷ ds)) ≡ true → are_distinct (map (λ d. d.name) ds) ≡ true
  distinct_rest d ds e = and_second (not (among d.name (map (λ d. d.name) ds))) _ e

  -- the numbers of the variables of an instance are those from `n` on
  node_numbers :
      (n : ℕ) (ds : List Declaration) → are_distinct (map (λ d. d.name) ds) ≡ true →
      flat_map (λ d. numbers_from P here n ds d.name) ds
      ≡ range_with_len n (length (flat_map (elements P here) ds))
  node_numbers n [] e = refl
  node_numbers n (d ∷ ds) e =
      let w = width P here d in
      let all = λ (x : Declaration). numbers_from P here n (d ∷ ds) x.name in
      let less = λ (x : Declaration). numbers_from P here (n + w) ds x.name in
      let rest = flat_map (elements P here) ds in
      let same = flat_same all less ds
      (Every-map _ _ (λ x no. numbers_later n d ds x.name no) ds (others d ds e)) in
      let later = same ∙ node_numbers (n + w) ds (distinct_rest d ds e) in
      let count = length-append (elements P here d) rest
      ∙ ap (λ m. m + length rest) (length_elements d) in
      ap₂ (λ xs ys. xs ++ ys) (numbers_first n d ds) later
      ∙ (range_append n w (length rest) ∙ ap (range_with_len n) (sym count))

  -- a variable has as many numbers as it is wide
  node_widths :
      (n : ℕ) (ds : List Declaration) → are_distinct (map (λ d. d.name) ds) ≡ true →
      Every (λ d. length (numbers_from P here n ds d.name) ≡ width P here d) ds
  node_widths n [] e = tt
  node_widths n (d ∷ ds) e = (
    ap length (numbers_first n d ds) ∙ length-range_with_len n (width P here d),
    Every-map _ _ (λ x z. ap length (numbers_later n d ds x.name z.0) ∙ z.1) ds
        (Every-both _ _ ds (others d ds e)
        (node_widths (n + width P here d) ds (distinct_rest d ds e))),
  )

  -- a name that has a number is that of a variable
  pub numbers_some :
      (n : ℕ) (ds : List Declaration) (x : Name) (k i : ℕ) →
      slice_get (numbers_from P here n ds x) k ≡ Some i →
      (d : Declaration) × In d ds × (d.name ≡ x) × (k < width P here d)
  unfolding numbers_from
  numbers_some n [] x k i e = absurd cc
  numbers_some n (d ∷ ds) x k i e =
      by (bytes_eq d.name x) refl (numbers_some (n + width P here d) ds x k i)
    where
      later :
          (d : Declaration) × In d ds × (d.name ≡ x) × (k < width P here d) →
          (f : Declaration) × In f (d ∷ ds) × (f.name ≡ x) × (k < width P here f)
      later h = (h.0, inr h.1, h.2, h.3)

      by : (b : Bool) → bytes_eq d.name x ≡ b →
          (slice_get (numbers_from P here (n + width P here d) ds x) k ≡ Some i →
          (f : Declaration) × In f ds × (f.name ≡ x) × (k < width P here f)) →
          (f : Declaration) × In f (d ∷ ds) × (f.name ≡ x) × (k < width P here f)
      by true is again =
          let same = (bytes_eq-Decides d.name x).0 is in
          let there : slice_get (numbers_from P here n (d ∷ ds) d.name) k ≡ Some i =
          ap (λ y. slice_get (numbers_from P here n (d ∷ ds) y) k) same ∙ e in
          let got : slice_get (range_with_len n (width P here d)) k ≡ Some i =
          ap (λ ns. slice_get ns k) (sym (numbers_first n d ds)) ∙ there in
          let below = slice_get_within (range_with_len n (width P here d)) k i got in
          let count = length-range_with_len n (width P here d) in
          (d, inl refl, same, omega (arith, below, count))
      by false is again =
          later (again (ap (λ ns. slice_get ns k) (sym (numbers_later n d ds x is)) ∙ e))

-- ## All instances

module _ (P : Program) where
  pub found_first : (n : ℕ) (c : Instance) (is : List Instance) →
      found_from P n (c ∷ is) c.path ≡ Some (n, c)
  unfolding found_from
  found_first n c is = let z = is_path-same c.path in rw z refl

  pub found_later :
      (n : ℕ) (c : Instance) (is : List Instance) (p : Path) → is_path c.path p ≡ false →
      found_from P n (c ∷ is) p ≡ found_from P (n + length (instance_elements P c)) is p
  unfolding found_from
  found_later n c is p e = rw e refl

  found_among :
      (n : ℕ) (is : List Instance) (here : Instance) → Every (IsAt P) is → In here is →
      (m : ℕ) × (found_from P n is here.path ≡ Some (m, here))
  found_among n [] here at i = absurd i
  found_among n (c ∷ is) here at i =
      by (is_path c.path here.path) refl i
      (found_among (n + length (instance_elements P c)) is here at.1)
    where
      by : (b : Bool) → is_path c.path here.path ≡ b → In here (c ∷ is) →
          (In here is → (m : ℕ)
          × (found_from P (n + length (instance_elements P c)) is here.path ≡ Some (m, here))) →
          (m : ℕ) × (found_from P n (c ∷ is) here.path ≡ Some (m, here))
      by true e j again =
          let path = same_path c.path here.path e in
          let same = same_instance P c here at.0 (Every-at (IsAt P) (c ∷ is) here at j) path in (
            n,
            ap (found_from P n (c ∷ is)) (sym path)
                ∙ (found_first n c is ∙ ap (λ d. Some (n, d)) same),
          )
      by false e (inl same) again =
          let z = is_path-same here.path in
          let w : is_path c.path here.path ≡ true =
          subst (λ d. is_path d.path here.path ≡ true) (sym same) z in
          absurd cc
      by false e (inr j) again =
          let k = again j in
          (k.0, found_later n c is here.path e ∙ k.1)

  pub found_at : (here : Instance) → In here (instances P) →
      (m : ℕ) × (found_from P 0 (instances P) here.path ≡ Some (m, here))
  found_at here i = found_among 0 (instances P) here (all_at P) i

  pub found_some :
      (n : ℕ) (is : List Instance) (p : Path) (m : ℕ) (here : Instance) →
      found_from P n is p ≡ Some (m, here) → In here is × (here.path ≡ p)
  unfolding found_from
  found_some n [] p m here e = absurd cc
  found_some n (c ∷ is) p m here e =
      by (is_path c.path p) refl (found_some (n + length (instance_elements P c)) is p m here)
    where
      by : (b : Bool) → is_path c.path p ≡ b →
          (found_from P (n + length (instance_elements P c)) is p ≡ Some (m, here) →
          In here is × (here.path ≡ p)) →
          In here (c ∷ is) × (here.path ≡ p)
      by true at again =
          let path = same_path c.path p at in
          let found : Some (n, c) ≡ Some (m, here) =
          sym (found_first n c is) ∙ (ap (found_from P n (c ∷ is)) path ∙ e) in
          let same = ap (λ (s : ℕ × Instance). s.1) (same_Some (n, c) (m, here) found) in
          (inl same, ap (λ (d : Instance). d.path) (sym same) ∙ path)
      by false at again =
          let k = again (sym (found_later n c is p at) ∙ e) in
          (inr k.0, k.1)

  pub numbers_at :
      (m : ℕ) (here : Instance) (x : Name) →
      found_from P 0 (instances P) here.path ≡ Some (m, here) →
      numbers_of P here.path x ≡ numbers_from P here m (variables here.node) x
  numbers_at m here x e = rw e refl

  module _ (distinct :
      Every (λ c. are_distinct (map (λ d. d.name) (variables c.node)) ≡ true) (instances P)) where
    abbrev own_numbers : Instance → List ℕ
    own_numbers c = flat_map (λ d. numbers_of P c.path d.name) (variables c.node)

    own_are :
        (m : ℕ) (c : Instance) → found_from P 0 (instances P) c.path ≡ Some (m, c) →
        are_distinct (map (λ d. d.name) (variables c.node)) ≡ true →
        own_numbers c ≡ range_with_len m (length (instance_elements P c))
    own_are m c found apart =
        flat_same _ (λ d. numbers_from P c m (variables c.node) d.name) (variables c.node)
        (Every-all _ (λ d. numbers_at m c d.name found) (variables c.node))
        ∙ node_numbers P c m (variables c.node) apart

    numbers_walk_from :
        (n : ℕ) (is : List Instance) → AreApart is → Every (IsAt P) is →
        Every (λ c. are_distinct (map (λ d. d.name) (variables c.node)) ≡ true) is →
        ((c : Instance) → In c is →
        found_from P 0 (instances P) c.path ≡ found_from P n is c.path) →
        flat_map own_numbers is ≡ range_with_len n (length (flat_map (instance_elements P) is))
    numbers_walk_from n [] apart at names same = refl
    numbers_walk_from n (c ∷ is) apart at names same =
        let own = instance_elements P c in
        let rest = flat_map (instance_elements P) is in
        let first = own_are n c (same c (inl refl) ∙ found_first n c is) names.0 in
        let later = numbers_walk_from (n + length own) is apart.1 at.1 names.1
        (λ d i. same d (inr i) ∙ found_later n c is d.path (differs d i)) in
        ap₂ (λ xs ys. xs ++ ys) first later
        ∙ (range_append n (length own) (length rest)
        ∙ ap (range_with_len n) (sym (length-append own rest)))
      where
        differs : (d : Instance) → In d is → is_path c.path d.path ≡ false
        differs d i =
            false_from_ne_true (is_path c.path d.path)
            (λ e.
            let path = same_path c.path d.path e in
            let equal = same_instance P c d at.0 (Every-at (IsAt P) is d at.1 i) path in
            apart.0 (subst (λ x. In x is) (sym equal) i))

    -- the numbers of all variables, in the order of instantiation, are those from 0 on
    pub numbers_walk :
        flat_map own_numbers (instances P) ≡ range_with_len 0 (length (program_elements P))
    unfolding program_elements
    numbers_walk =
        numbers_walk_from 0 (instances P) (instances_apart P) (all_at P) distinct (λ c i. refl)

    abbrev IsApart : Instance → Type 0
    IsApart c = are_distinct (map (λ d. d.name) (variables c.node)) ≡ true

    abbrev IsWide : Instance → Declaration → Type 0
    IsWide here d = length (numbers_of P here.path d.name) ≡ width P here d

    widths_at :
        (m : ℕ) (here : Instance) → found_from P 0 (instances P) here.path ≡ Some (m, here) →
        IsApart here → Every (IsWide here) (variables here.node)
    widths_at m here found apart =
        Every-map (λ d. length (numbers_from P here m (variables here.node) d.name) ≡ width P here d)
        (IsWide here) (λ d e. ap length (numbers_at m here d.name found) ∙ e) (variables here.node)
        (node_widths P here m (variables here.node) apart)

    -- each variable of an instance has as many numbers as it is wide
    pub numbers_width :
        (here : Instance) → In here (instances P) →
        Every (λ d. length (numbers_of P here.path d.name) ≡ width P here d) (variables here.node)
    numbers_width here i =
        let found = found_at here i in
        widths_at found.0 here found.1 (Every-at IsApart (instances P) here distinct i)

    -- ## The number of an element

    abbrev pub number_at : Element → Option ℕ
    number_at x = slice_get (numbers_of P x.path x.variable) x.index

    own_numbered :
        (here : Instance) → In here (instances P) →
        map number_at (instance_elements P here) ≡ map (λ i. Some i) (own_numbers here)
    own_numbered here i =
        pieces_mapped number_at (λ i. Some i) (elements P here)
        (λ d. numbers_of P here.path d.name) (variables here.node)
        (Every-map _ _ of_one (variables here.node) (numbers_width here i))
      where
        of_one : (d : Declaration) → length (numbers_of P here.path d.name) ≡ width P here d →
            map number_at (elements P here d) ≡ map (λ i. Some i) (numbers_of P here.path d.name)
        of_one d e =
            let ns = numbers_of P here.path d.name in
            map_map (range_with_len 0 (width P here d))
            ∙ (ap (λ w. map (slice_get ns) (range_with_len 0 w)) (sym e) ∙ places_are ns)
          where
            map_map : (ks : List ℕ) →
                map number_at (map (λ k. record { path = here.path; variable = d.name; index = k })
                ks)
                ≡ map (slice_get (numbers_of P here.path d.name)) ks
            map_map [] = refl
            map_map (k ∷ ks) = ap (λ zs. slice_get (numbers_of P here.path d.name) k ∷ zs)
                (map_map ks)

    numbered : map number_at (program_elements P)
        ≡ map (λ i. Some i) (range_with_len 0 (length (program_elements P)))
    unfolding program_elements
    numbered =
        pieces_mapped number_at (λ i. Some i) (instance_elements P) own_numbers (instances P)
        (Every-from _ (instances P) own_numbered)
        ∙ ap (map (λ i. Some i)) numbers_walk

    -- the number of an element is its place among all elements
    pub number_is :
        (i : ℕ) (x : Element) → slice_get (program_elements P) i ≡ Some x →
        slice_get (numbers_of P x.path x.variable) x.index ≡ Some i
    number_is i x e =
        let below = slice_get_within (program_elements P) i x e in
        let one = get_mapped number_at (program_elements P) i x e in
        let there = range_get 0 (length (program_elements P)) i below in
        let other = get_mapped (λ j. Some j) (range_with_len 0 (length (program_elements P))) i
        (0 + i) there in
        let same = same_Some (number_at x) (Some (0 + i))
        (sym one ∙ (ap (λ xs. slice_get xs i) numbered ∙ other)) in
        let number : 0 + i ≡ i = omega arith in
        same ∙ ap (λ j. Some j) number

    abbrev wanted : Path → Name → ℕ → Element
    wanted p x k = record { path = p; variable = x; index = k }

    -- an element that has a number stands at that place among all elements
    pub number_of :
        (p : Path) (x : Name) (k i : ℕ) → slice_get (numbers_of P p x) k ≡ Some i →
        slice_get (program_elements P) i ≡ Some (record { path = p; variable = x; index = k })
    unfolding program_elements
    number_of p x k i e = by (found_from P 0 (instances P) p) refl e
      where
        placed : In (wanted p x k) (program_elements P) →
            slice_get (program_elements P) i ≡ Some (wanted p x k)
        placed h =
            let at = place_in (program_elements P) (wanted p x k) h in
            let same = same_Some at.0 i (sym (number_is at.0 (wanted p x k) at.1) ∙ e) in
            ap (slice_get (program_elements P)) (sym same) ∙ at.1

        element_in : (here : Instance) (d : Declaration) → In here (instances P) →
            here.path ≡ p → In d (variables here.node) → d.name ≡ x → k < width P here d →
            In (wanted p x k) (program_elements P)
        element_in here d i path j name below =
            let number : 0 + k ≡ k = omega arith in
            let ranged = subst (λ m. In m (range_with_len 0 (width P here d))) number
            (in_range 0 (width P here d) k below) in
            let made = in_map (λ m. record { path = here.path; variable = d.name; index = m })
            (range_with_len 0 (width P here d)) k ranged in
            let equal = ap₂ (λ q y. record { path = q; variable = y; index = k }) path name in
            to_pieces (instance_elements P) (wanted p x k) here (instances P) i
            (to_pieces (elements P here) (wanted p x k) d (variables here.node) j
            (subst (λ z. In z (elements P here d)) equal made))

        by : (o : Option (ℕ × Instance)) → found_from P 0 (instances P) p ≡ o →
            slice_get (listed (λ s. numbers_from P s.1 s.0 (variables s.1.node) x) o) k ≡ Some i →
            slice_get (program_elements P) i ≡ Some (wanted p x k)
        by None found got = absurd cc
        by (Some s) found got =
            let there = found_some 0 (instances P) p s.0 s.1 found in
            let d = numbers_some P s.1 s.0 (variables s.1.node) x k i got in
            placed (element_in s.1 d.0 there.0 there.1 d.1 d.2 d.3)
