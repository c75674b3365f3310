-- What the found elements of an expression come from, along the equations that the small words of
-- expansion emit on a clock: the elements of variables that each needs.
use Rattle.lb_expand.proofs.Words
use Words.{And, ApplyBinary, ApplyUnary, BinaryOperator, Boolean, Choose, Constant, Element}
use Words.{Emitted, Every, FlatClock, FlatEquation, In, List, Not, Operation, Or, State, [], add}
use Words.{ap, append-nil, arith, both, chained, chosen_by, clock_reads, copies, drop}
use Words.{emit_at_most_one, emit_nor, equation_reads, false, flat_map, inl, inr, itself, joined}
use Words.{length, map, negated, numbered, numbers, push, reads, refl, subst, suc, sym, take, twice}
use Words.{zero, zip2, ℕ, ◌++◌, ◌∷◌, ◌≡◌, ◌⊎◌}
use Rattle.lb_expand.proofs.lists.Lists.{SomeOf, some_first, some_second, some_split}
use Rattle.lb_flat.proofs.lists.Lists.{Every-append, Every-first, Every-second}
use Rattle.{lb_syntax.specs.Lists.heads, std.proofs.lemmas.List.map-id}

-- ## Two lists side by side

abbrev pub Pairs : {A B : Type 0} → (A → B → Type 0) → List A → List B → Type 0
Pairs R [] [] = Unit {0}
Pairs R (x ∷ xs) (y ∷ ys) = R x y × Pairs R xs ys
Pairs R xs ys = ⊥

module _ {A B : Type 0} (R : A → B → Type 0) where
  pub pairs-append :
      (xs : List A) (ys : List B) (us : List A) (vs : List B) → Pairs R xs ys → Pairs R us vs →
      Pairs R (xs ++ us) (ys ++ vs)
  pairs-append [] [] us vs h g = g
  pairs-append (x ∷ xs) (y ∷ ys) us vs h g = (h.0, pairs-append xs ys us vs h.1 g)
  pairs-append _ _ us vs h g = absurd h

  pub pairs-take : (n : ℕ) (xs : List A) (ys : List B) → Pairs R xs ys →
      Pairs R (take n xs) (take n ys)
  pairs-take zero xs ys h = tt
  pairs-take (suc n) [] [] h = tt
  pairs-take (suc n) (x ∷ xs) (y ∷ ys) h = (h.0, pairs-take n xs ys h.1)
  pairs-take (suc n) _ _ h = absurd h

  pub pairs-drop : (n : ℕ) (xs : List A) (ys : List B) → Pairs R xs ys →
      Pairs R (drop n xs) (drop n ys)
  pairs-drop zero xs ys h = h
  pairs-drop (suc n) [] [] h = tt
  pairs-drop (suc n) (x ∷ xs) (y ∷ ys) h = pairs-drop n xs ys h.1
  pairs-drop (suc n) _ _ h = absurd h

  pub pairs-copies : (n : ℕ) (xs : List A) (ys : List B) → Pairs R xs ys →
      Pairs R (copies n xs) (copies n ys)
  pairs-copies zero xs ys h = tt
  pairs-copies (suc n) xs ys h =
      pairs-append xs ys (copies n xs) (copies n ys) h (pairs-copies n xs ys h)

  pub pairs-joined : (xss : List (List A)) (yss : List (List B)) → Pairs (Pairs R) xss yss →
      Pairs R (joined xss) (joined yss)
  pairs-joined [] [] h = tt
  pairs-joined (xs ∷ xss) (ys ∷ yss) h =
      pairs-append xs ys (joined xss) (joined yss) h.0 (pairs-joined xss yss h.1)
  pairs-joined _ _ h = absurd h

  pub pairs-count : (xs : List A) (ys : List B) → Pairs R xs ys → length xs ≡ length ys
  pairs-count [] [] h = refl
  pairs-count (x ∷ xs) (y ∷ ys) h = ap suc (pairs-count xs ys h.1)
  pairs-count _ _ h = absurd h

  pub pairs-pieces :
      {C : Type 0} (f : C → List A) (g : C → List B) → (cs : List C) →
      Every (λ c. Pairs R (f c) (g c)) cs → Pairs R (flat_map f cs) (flat_map g cs)
  pairs-pieces f g [] h = tt
  pairs-pieces f g (c ∷ cs) h =
      pairs-append (f c) (g c) (flat_map f cs) (flat_map g cs) h.0 (pairs-pieces f g cs h.1)

-- ## What elements come from

-- what follows from each of two facts follows from either
pub either : {A B C : Type 0} → (A → C) → (B → C) → A ⊎ B → C
either f g (inl a) = f a
either f g (inr b) = g b

-- where an element of a count is `Left`, so is the count before, an operand or an element read by
-- the clock, since the three elements of a step come from those
counted_back :
    {A I T R K J L M : Type 0} → (J → (A ⊎ (I ⊎ ⊥)) ⊎ K) → (L → (T ⊎ (J ⊎ ⊥)) ⊎ K) →
    (M → (A ⊎ (I ⊎ ⊥)) ⊎ K) → (L ⊎ (M ⊎ R)) ⊎ K → (T ⊎ (A ⊎ (I ⊎ R))) ⊎ K
counted_back a b c g = grind (arith, a, b, c)

-- where a count begins with a constant, which is `Left` by its clock alone, an operand is left
none_back : {I K R : Type 0} → (I → ⊥ ⊎ K) → (I ⊎ (I ⊎ R)) ⊎ K → R ⊎ K
none_back a g = grind (arith, a)

-- `fby` is `Left` where its initial value is, since a memory is so by its clock alone
first_back : {I J K Y : Type 0} → (I → Y ⊎ K) → (J → ⊥ ⊎ K) → (I ⊎ (J ⊎ ⊥)) ⊎ K → Y ⊎ K
first_back a b g = grind (arith, a, b)

-- where `Under t` holds of an element, it holds of all that the element comes from; an element that
-- is `Left` comes from another one that is `Left`
module _ (IsAt : Element → ℕ → Type 0) (Under : ℕ → ℕ → Type 0) (Left : ℕ → Type 0) where
  -- `Q` holds of a number of an element of a variable
  abbrev pub Has : (ℕ → Type 0) → Element → Type 0
  Has Q y = (i : ℕ) × IsAt y i × Q i

  -- the element of an equation comes from what the equation reads
  pub record Meets (q : FlatEquation) : Type 0 where
    pub there : (t : ℕ) → Under t q.element → Every (Under t) (equation_reads q)
    pub back : Left q.element → SomeOf Left (equation_reads q)

  abbrev pub AllMeet : List FlatEquation → Type 0
  AllMeet qs = Every Meets qs

  -- element `i` comes from the elements `is`, or is `Left` by what its clock reads
  pub record Comes (k : FlatClock) (i : ℕ) (is : List ℕ) : Type 0 where
    pub there : (t : ℕ) → Under t i → Every (Under t) is
    pub back : Left i → SomeOf Left is ⊎ SomeOf Left (clock_reads k)

  -- element `i` comes from the elements `ys` of variables
  pub record Link (k : FlatClock) (i : ℕ) (ys : List Element) : Type 0 where
    pub there : (t : ℕ) → Under t i → Every (Has (Under t)) ys
    pub back : Left i → SomeOf (Has Left) ys ⊎ SomeOf Left (clock_reads k)

  -- the elements `is` together come from the elements `ys` of variables
  pub record Links (k : FlatClock) (is : List ℕ) (ys : List Element) : Type 0 where
    pub there : (t : ℕ) → Every (Under t) is → Every (Has (Under t)) ys
    pub back : SomeOf Left is → SomeOf (Has Left) ys ⊎ SomeOf Left (clock_reads k)

  -- a new element comes from what its operation reads, and from its clock
  pub record New (k : FlatClock) (i : ℕ) (o : Operation) : Type 0 where
    pub comes : Comes k i (reads o)
    pub clock : (t : ℕ) → Under t i → Every (Under t) (clock_reads k)

  -- each of the elements `is` comes from the elements of variables that it needs
  abbrev pub AreLinks : FlatClock → List ℕ → List (List Element) → Type 0
  AreLinks k is yss = Pairs (Link k) is yss

  -- ## Links together

  pub no_links : (k : FlatClock) → Links k [] []
  no_links k = record { there = λ t h. tt; back = λ h. absurd h }

  pub one_link : (k : FlatClock) (i : ℕ) (ys : List Element) → Link k i ys → Links k (i ∷ []) ys
  one_link k i ys l = record { there = λ t h. l.there t h.0; back = either l.back (λ g. absurd g) }

  pub two_links :
      (k : FlatClock) (is js : List ℕ) (ys zs : List Element) → Links k is ys → Links k js zs →
      Links k (is ++ js) (ys ++ zs)
  two_links k is js ys zs a b = record {
    there = λ t h.
        Every-append (Has (Under t)) ys zs
        (a.there t (Every-first (Under t) is js h)) (b.there t (Every-second (Under t) is js h));
    back = λ h.
        either (λ g. either (λ y. inl (some_first (Has Left) ys zs y)) inr (a.back g))
        (λ g. either (λ z. inl (some_second (Has Left) ys zs z)) inr (b.back g))
        (some_split Left is js h);
  }

  -- an element that comes from linked ones is linked
  pub step :
      (k : FlatClock) (i : ℕ) (is : List ℕ) (ys : List Element) → Comes k i is → Links k is ys →
      Link k i ys
  step k i is ys c l =
      record { there = λ t h. l.there t (c.there t h); back = λ g. either l.back inr (c.back g) }

  -- an element that comes from another comes from what that one comes from
  through :
      (k : FlatClock) (i j : ℕ) (is js : List ℕ) → Comes k i (j ∷ js) → Comes k j is →
      Comes k i (is ++ js)
  through k i j is js c d = record {
    there = λ t h.
        let u = c.there t h in Every-append (Under t) is js (d.there t u.0) u.1;
    back = λ g.
        either (either (λ x. either (λ y. inl (some_first Left is js y)) inr (d.back x))
        (λ y. inl (some_second Left is js y))) inr (c.back g);
  }

  -- all elements of an array together come from all that they need
  pub all_links : (k : FlatClock) (is : List ℕ) (yss : List (List Element)) → AreLinks k is yss →
      Links k is (joined yss)
  all_links k [] [] h = no_links k
  all_links k (i ∷ is) (ys ∷ yss) h =
      two_links k (i ∷ []) is ys (joined yss) (one_link k i ys h.0) (all_links k is yss h.1)
  all_links k _ _ h = absurd h

  -- the numbers of elements of variables come from those elements
  pub variable_links : (k : FlatClock) (is : List ℕ) (ys : List Element) →
      Pairs (λ i y. IsAt y i) is ys → AreLinks k is (itself ys)
  variable_links k [] [] h = tt
  variable_links k (i ∷ is) (y ∷ ys) h = (
    record { there = λ t u. ((i, h.0, u), tt); back = λ g. inl (inl (i, h.0, g)) },
    variable_links k is ys h.1,
  )
  variable_links k _ _ h = absurd h

  -- ## New elements

  new_element : (q : FlatEquation) → Meets q → New q.clock q.element q.operation
  new_element q m = record {
    comes = record {
      there = λ t u. Every-first (Under t) (reads q.operation) (clock_reads q.clock) (m.there t u);
      back = λ g. some_split Left (reads q.operation) (clock_reads q.clock) (m.back g);
    };
    clock = λ t u.
        Every-second (Under t) (reads q.operation) (clock_reads q.clock) (m.there t u);
  }

  numbered_new : (i : ℕ) (k : FlatClock) (os : List Operation) → AllMeet (numbered i k os) →
      Pairs (New k) (numbers i os) os
  numbered_new i k [] h = tt
  numbered_new i k (o ∷ os) h = (
    new_element (record { element = i; clock = k; operation = o }) h.0,
    numbered_new (suc i) k os h.1,
  )

  -- the equations before meet, and what is found are new elements of these operations
  pub record Added (s : State) (k : FlatClock) (r : Emitted) (os : List Operation) : Type 0 where
    pub before : AllMeet s.equations
    pub new : Pairs (New k) r.found os

  pub added : (k : FlatClock) (s : State) (os : List Operation) →
      AllMeet (add k s os).state.equations → Added s k (add k s os) os
  unfolding add
  added k s os h = record {
    before = Every-first Meets s.equations (numbered s.next k os) h;
    new = numbered_new s.next k os
        (Every-second Meets s.equations (numbered s.next k os) h);
  }

  pub record Pushed (s : State) (k : FlatClock) (o : Operation) : Type 0 where
    pub before : AllMeet s.equations
    pub comes : Comes k s.next (reads o)
    pub clock : (t : ℕ) → Under t s.next → Every (Under t) (clock_reads k)

  pub pushed : (k : FlatClock) (s : State) (o : Operation) → AllMeet (push k s o).equations →
      Pushed s k o
  pushed k s o h =
      let new : FlatEquation = record { element = s.next; clock = k; operation = o } in
      let own = new_element new (Every-second Meets s.equations (new ∷ []) h).0 in
      record {
        before = Every-first Meets s.equations (new ∷ []) h;
        comes = own.comes;
        clock = own.clock;
      }

  -- ## Operators on each of some elements

  module _ (k : FlatClock) where
    pub each_one :
        (f : ℕ → Operation) → ((i : ℕ) → reads (f i) ≡ i ∷ []) → (js is : List ℕ)
        (yss : List (List Element)) → Pairs (New k) js (map f is) → AreLinks k is yss →
        AreLinks k js yss
    each_one f e [] [] [] n l = tt
    each_one f e (j ∷ js) (i ∷ is) (ys ∷ yss) n l =
        let comes = subst (Comes k j) (e i) n.0.comes in (
          step k j (i ∷ []) ys comes (one_link k i ys l.0),
          each_one f e js is yss n.1 l.1,
        )
    each_one f e _ _ _ n l = search

    -- an operation on each two of some elements comes from `g` of what both need
    each_pair :
        (f : ℕ → ℕ → Operation) (g : List Element → List Element) →
        ((j i i' : ℕ) (ys zs : List Element) → New k j (f i i') →
        Links k (i ∷ i' ∷ []) (ys ++ zs) → Link k j (g (ys ++ zs))) →
        (js is is' : List ℕ) (yss zss : List (List Element)) →
        Pairs (New k) js (zip2 f is is') → AreLinks k is yss → AreLinks k is' zss →
        AreLinks k js (map g (both yss zss))
    each_pair f g h (j ∷ js) (i ∷ is) (i' ∷ is') (ys ∷ yss) (zs ∷ zss) n l m = (
      h j i i' ys zs n.0
          (two_links k (i ∷ []) (i' ∷ []) ys zs (one_link k i ys l.0) (one_link k i' zs m.0)),
      each_pair f g h js is is' yss zss n.1 l.1 m.1,
    )
    each_pair f g h [] (i ∷ is) (i' ∷ is') yss zss n l m = absurd n
    each_pair f g h [] [] is' [] zss n l m = tt
    each_pair f g h [] (i ∷ is) [] (ys ∷ yss) [] n l m = tt
    each_pair f g h (j ∷ js) [] is' yss zss n l m = absurd n
    each_pair f g h (j ∷ js) (i ∷ is) [] yss zss n l m = absurd n
    each_pair f g h _ _ _ _ _ n l m = search

    pub each_two :
        (f : ℕ → ℕ → Operation) → ((i j : ℕ) → reads (f i j) ≡ i ∷ j ∷ []) →
        (js is is' : List ℕ) (yss zss : List (List Element)) →
        Pairs (New k) js (zip2 f is is') → AreLinks k is yss → AreLinks k is' zss →
        AreLinks k js (both yss zss)
    each_two f e js is is' yss zss n l m =
        subst (AreLinks k js) (map-id (both yss zss))
        (each_pair f (λ ys. ys)
        (λ j i i' ys zs n l. step k j (i ∷ i' ∷ []) (ys ++ zs) (subst (Comes k j) (e i i') n.comes)
        l) js is is' yss zss n l m)

    pub each_choice :
        (cs js is is' : List ℕ) (wss yss zss : List (List Element)) → length cs ≡ 1 →
        Pairs (New k) js (chosen_by cs is is') → AreLinks k cs wss → AreLinks k is yss →
        AreLinks k is' zss → AreLinks k js (map (λ xs. heads wss ++ xs) (both yss zss))
    each_choice (c ∷ cs) js is is' (ws ∷ wss) yss zss one n a l m =
        each_pair (Choose c) (λ xs. ws ++ xs)
        (λ j i i' ys zs n l. step k j (c ∷ i ∷ i' ∷ []) (ws ++ (ys ++ zs)) n.comes
        (two_links k (c ∷ []) (i ∷ i' ∷ []) ws (ys ++ zs) (one_link k c ws a.0) l))
        js is is' yss zss n l m
    each_choice [] js is is' wss yss zss one n a l m = absurd (omega arith)
    each_choice (c ∷ cs) js is is' [] yss zss one n a l m = absurd a

    -- `fby` comes from its initial value
    pub each_first :
        (f : ℕ → ℕ → Operation) → ((i j : ℕ) → reads (f i j) ≡ i ∷ j ∷ []) →
        (js is is' : List ℕ) (yss : List (List Element)) → length is ≡ length is' →
        Pairs (New k) js (zip2 f is is') → AreLinks k is yss → Every (λ i. Comes k i []) is' →
        AreLinks k js yss
    each_first f e [] [] is' [] same n l m = tt
    each_first f e (j ∷ js) (i ∷ is) (i' ∷ is') (ys ∷ yss) same n l m =
        let comes = subst (Comes k j) (e i i') n.0.comes in (
          record {
            there = λ t u. l.0.there t (comes.there t u).0;
            back = λ g. first_back l.0.back m.0.back (comes.back g);
          },
          each_first f e js is is' yss (omega arith) n.1 l.1 m.1,
        )
    each_first f e (j ∷ js) [] is' yss same n l m = absurd n
    each_first f e js (i ∷ is) [] yss same n l m = absurd (omega arith)
    each_first f e _ _ _ _ same n l m = search

    -- a memory comes from its clock alone
    pub memories :
        (f : ℕ → Operation) → ((i : ℕ) → reads (f i) ≡ []) → (js is : List ℕ) →
        Pairs (New k) js (map f is) → Every (λ i. Comes k i []) js
    memories f e [] [] n = tt
    memories f e (j ∷ js) (i ∷ is) n = (subst (Comes k j) (e i) n.0.comes, memories f e js is n.1)
    memories f e _ _ n = absurd n

    pub each_memory :
        (f : ℕ → Operation) → ((i : ℕ) → reads (f i) ≡ []) → (l : FlatClock) (js is : List ℕ)
        (yss : List (List Element)) → Pairs (New k) js (map f is) → AreLinks l is yss →
        AreLinks k js (map (λ xs. []) yss)
    each_memory f e l [] [] [] n a = tt
    each_memory f e l (j ∷ js) (i ∷ is) (ys ∷ yss) n a = (
      step k j [] [] (subst (Comes k j) (e i) n.0.comes) (no_links k),
      each_memory f e l js is yss n.1 a.1,
    )
    each_memory f e l _ _ _ n a = search

    pub each_constant :
        (o : Operation) → reads o ≡ [] → (js : List ℕ) → Pairs (New k) js (o ∷ []) →
        AreLinks k js ([] ∷ [])
    each_constant o e (j ∷ []) n = (step k j [] [] (subst (Comes k j) e n.0.comes) (no_links k), tt)
    each_constant o e _ n = search

    -- ## A clock that is passed

    -- a clock `l` waits for exactly the elements `ps` of variables
    pub record Waits (l : FlatClock) (ps : List Element) : Type 0 where
      pub there : (t : ℕ) → Every (Under t) (clock_reads l) → Every (Has (Under t)) ps
      pub back : SomeOf Left (clock_reads l) → SomeOf (Has Left) ps

    -- a clock waits for `ps`, where it reads an element of each of them, and reads nothing else
    pub passed :
        (l : FlatClock) (ps : List Element) →
        Every (λ y. (i : ℕ) × In i (clock_reads l) × IsAt y i) ps →
        Every (λ i. (y : Element) × In y ps × IsAt y i) (clock_reads l) → Waits l ps
    passed l ps each wanted = record {
      there = λ t u. from ps each t u;
      back = λ g. to (clock_reads l) wanted g;
    }
      where
        at : (t i : ℕ) (is : List ℕ) → Every (Under t) is → In i is → Under t i
        at t i [] u j = absurd j
        at t i (x ∷ is) u (inl e) = subst (Under t) e u.0
        at t i (x ∷ is) u (inr j) = at t i is u.1 j

        from :
            (ys : List Element) → Every (λ y. (i : ℕ) × In i (clock_reads l) × IsAt y i) ys →
            (t : ℕ) → Every (Under t) (clock_reads l) → Every (Has (Under t)) ys
        from [] h t u = tt
        from (y ∷ ys) h t u = ((h.0.0, h.0.2, at t h.0.0 (clock_reads l) u h.0.1), from ys h.1 t u)

        among : (y : Element) (ys : List Element) → In y ys → Has Left y → SomeOf (Has Left) ys
        among y [] j g = absurd j
        among y (z ∷ ys) (inl e) g = inl (subst (Has Left) (sym e) g)
        among y (z ∷ ys) (inr j) g = inr (among y ys j g)

        to :
            (is : List ℕ) → Every (λ i. (y : Element) × In y ps × IsAt y i) is → SomeOf Left is →
            SomeOf (Has Left) ps
        to [] h g = absurd g
        to (i ∷ is) h (inl g) = among h.0.0 ps h.0.1 (i, h.0.2, g)
        to (i ∷ is) h (inr g) = to is h.1 g

    -- `current` comes from its operand and from the variables that the operand's clock waits for
    pub each_latest :
        (f : ℕ → Operation) → ((i : ℕ) → reads (f i) ≡ i ∷ []) → (l : FlatClock)
        (ps : List Element) → Waits l ps → (js is : List ℕ) (yss : List (List Element)) →
        Pairs (New k) js (map f is) → AreLinks l is yss →
        Every (λ i. (t : ℕ) → Under t i → Every (Under t) (clock_reads l)) is →
        AreLinks k js (map (λ xs. ps ++ xs) yss)
    each_latest f e l ps w [] [] [] n a r = tt
    each_latest f e l ps w (j ∷ js) (i ∷ is) (ys ∷ yss) n a r =
        let comes = subst (Comes k j) (e i) n.0.comes in (
          record {
            there = λ t u.
                let v = (comes.there t u).0 in
                Every-append (Has (Under t)) ps ys (w.there t (r.0 t v)) (a.0.there t v);
            back = λ g.
                either (either (λ x. inl (either (some_second (Has Left) ps ys)
                (λ c. some_first (Has Left) ps ys (w.back c)) (a.0.back x)))
                (λ x. absurd x)) inr (comes.back g);
          },
          each_latest f e l ps w js is yss n.1 a.1 r.1,
        )
    each_latest f e l ps w _ _ _ n a r = search

  -- `when` comes from its operand and from the elements `ps` that the clock `l` waits for
  pub each_sample :
      (f : ℕ → Operation) → ((i : ℕ) → reads (f i) ≡ i ∷ []) → (k l m : FlatClock)
      (ps : List Element) → Waits k l ps →
      (SomeOf Left (clock_reads m) → SomeOf Left (clock_reads l)) → (js is : List ℕ)
      (yss : List (List Element)) → Pairs (New l) js (map f is) → AreLinks m is yss →
      AreLinks k js (map (λ xs. ps ++ xs) yss)
  each_sample f e k l m ps w wider [] [] [] n a = tt
  each_sample f e k l m ps w wider (j ∷ js) (i ∷ is) (ys ∷ yss) n a =
      let comes = subst (Comes l j) (e i) n.0.comes in (
        record {
          there = λ t u.
              let v = (comes.there t u).0 in
              Every-append (Has (Under t)) ps ys (w.there t (n.0.clock t u)) (a.0.there t v);
          back = λ g.
              inl (either (either (λ x. either (some_second (Has Left) ps ys)
              (λ c. some_first (Has Left) ps ys (w.back (wider c))) (a.0.back x))
              (λ x. absurd x)) (λ c. some_first (Has Left) ps ys (w.back c)) (comes.back g));
        },
        each_sample f e k l m ps w wider js is yss n.1 a.1,
      )
  each_sample f e k l m ps w wider _ _ _ n a = search

  -- ## `#` and `nor`

  -- the one element that is found comes from the elements `is`
  pub record Gives (k : FlatClock) (s : State) (r : Emitted) (is : List ℕ) : Type 0 where
    pub before : AllMeet s.equations
    pub element : ℕ
    pub is_found : r.found ≡ element ∷ []
    pub comes : Comes k element is

  module _ (k : FlatClock) where
    pub chained_gives :
        (op : BinaryOperator) (s : State) (init : ℕ) (ys : List ℕ) →
        AllMeet (chained k op s init ys).state.equations →
        Gives k s (chained k op s init ys) (init ∷ ys)
    unfolding chained
    chained_gives op s init [] h = record {
      before = h;
      element = init;
      is_found = refl;
      comes = record { there = λ t u. (u, tt); back = λ g. inl (inl g) };
    }
    chained_gives op s init (y ∷ ys) h =
        let r = chained_gives op (push k s (ApplyBinary op init y)) s.next ys h in
        let p = pushed k s (ApplyBinary op init y) r.before in
        record {
          before = p.before;
          element = r.element;
          is_found = r.is_found;
          comes = through k r.element s.next (init ∷ y ∷ []) ys r.comes p.comes;
        }

    -- whether two are true comes from whether two, or one, were true before, and from `is`
    record Counted (s : State) (r : Emitted) (any two : ℕ) (is : List ℕ) : Type 0 where
      before : AllMeet s.equations
      element : ℕ
      is_found : r.found ≡ element ∷ []
      there : (t : ℕ) → Under t element → Every (Under t) (two ∷ is)
      back : Left element → SomeOf Left (two ∷ (any ∷ is)) ⊎ (SomeOf Left (clock_reads k))

    twice_counted :
        (s : State) (any two : ℕ) (is : List ℕ) →
        AllMeet (twice k s any two is).state.equations →
        Counted s (twice k s any two is) any two is
    unfolding twice
    twice_counted s any two [] h = record {
      before = h;
      element = two;
      is_found = refl;
      there = λ t u. (u, tt);
      back = λ g. inl (inl g);
    }
    twice_counted s any two (i ∷ is) h =
        let t = push k s (ApplyBinary And any i) in
        let u = push k t (ApplyBinary Or two s.next) in
        let v = push k u (ApplyBinary Or any i) in
        let r = twice_counted v u.next t.next is h in
        let c = pushed k u (ApplyBinary Or any i) r.before in
        let b = pushed k t (ApplyBinary Or two s.next) c.before in
        let a = pushed k s (ApplyBinary And any i) b.before in
        record {
          before = a.before;
          element = r.element;
          is_found = r.is_found;
          there = λ w g.
              let x = r.there w g in
              let y = b.comes.there w x.0 in
              (y.0, ((a.comes.there w y.1.0).1.0, x.1));
          back = λ g. counted_back a.comes.back b.comes.back c.comes.back (r.back g);
        }

    -- an operator on the one element found
    negated_gives :
        (s : State) (x : Emitted) (is : List ℕ) → (AllMeet x.state.equations → Gives k s x is) →
        AllMeet (negated k x).state.equations → Gives k s (negated k x) is
    negated_gives s x is part h =
        let n = added k x.state (map (ApplyUnary Not) x.found) h in
        let a = part n.before in
        let new = subst (λ js. Pairs (New k) (negated k x).found (map (ApplyUnary Not) js))
        a.is_found n.new in
        let f = single (negated k x).found a.element new in
        record {
          before = a.before;
          element = f.0;
          is_found = f.1;
          comes = subst (Comes k f.0) (append-nil is) (through k f.0 a.element is [] f.2 a.comes);
        }
      where
        single : (js : List ℕ) (i : ℕ) → Pairs (New k) js (ApplyUnary Not i ∷ []) →
            (j : ℕ) × (js ≡ j ∷ []) × Comes k j (i ∷ [])
        single (j ∷ []) i n = (j, refl, n.0.comes)
        single _ i n = search

    -- `nor` comes from its operands
    pub nor_gives :
        (s : State) (is : List ℕ) → AllMeet (emit_nor k s is).state.equations →
        Gives k s (emit_nor k s is) is
    nor_gives s is h =
        let t = push k s (Constant (Boolean false)) in
        negated_gives s (chained k Or t s.next is) is (λ g.
        let r = chained_gives Or t s.next is g in
        let p = pushed k s (Constant (Boolean false)) r.before in
        record {
          before = p.before;
          element = r.element;
          is_found = r.is_found;
          comes = through k r.element s.next [] is r.comes p.comes;
        }) h

    -- the result of at most one comes from its operands
    pub at_most_one_gives :
        (s : State) (is : List ℕ) → AllMeet (emit_at_most_one k s is).state.equations →
        Gives k s (emit_at_most_one k s is) is
    at_most_one_gives s is h =
        let t = push k s (Constant (Boolean false)) in
        negated_gives s (twice k t s.next s.next is) is (λ g.
        let r = twice_counted t s.next s.next is g in
        let p = pushed k s (Constant (Boolean false)) r.before in
        record {
          before = p.before;
          element = r.element;
          is_found = r.is_found;
          comes = record
              { there = λ w u. (r.there w u).1; back = λ u. none_back p.comes.back (r.back u) };
        }) h
