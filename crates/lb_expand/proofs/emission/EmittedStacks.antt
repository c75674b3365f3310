-- Pushes of the code that expands resolved terms, and what its words leave on the stack.
use Rattle.lb_expand.proofs.Words
use Words.{All, All-append, All-drop, All-push, All-take, All-weaker, Bool, Clock, ClockId}
use Words.{ElementId, Emitted, FlatClock, FlatEquation, IsClock, IsWithin, List, Option, [], add}
use Words.{add-sub_cancel_left, ap, append-nil, append_assoc, ap₂, arith, drop, drop-append_seam}
use Words.{drop-map, drop_all, drop_more, equation_of, false, flat_equations, get_or, get_or-drop}
use Words.{get_or-map, keeps, length, length-append, length-drop, length-map, map, map-append, min}
use Words.{nat_le, nat_tests, numbered, numbers, numbers_of, on_top, on_two, onto, operation_of}
use Words.{pushed, reads, refl, slice_range, suc, sym, take, take-append-le, take-append_seam}
use Words.{take-map, true, without, zip2, ℕ, ◌++◌, ◌+◌, ◌-◌, ◌<◌, ◌∙◌, ◌∷◌, ◌≡◌, ◌≤◌}
use Rattle.lb_expand.specs.{Emissions.AreBelow, TermEmissions.added}
use Rattle.lb_flat.specs.declared.equation.{Equation.Equation, Operation.Operation}
use Rattle.lb_flat.specs.declared.equation.Operation.TheVariants.{ApplyBinary, ApplyUnary, Choose}
use Rattle.lb_flat.specs.declared.equation.Operation.TheVariants.{Constant, Copy, FirstThen, Input}
use Rattle.lb_flat.specs.declared.equation.Operation.TheVariants.{Latest, Previous, Sample}
use Rattle.std.proofs.lemmas.List.{get_or-take, length-take, Elements.{All-cons, All-nil}}
use Rattle.lb_flat.specs.Flat as flat

-- The effect of one push of the code that expands.

-- ## Elements below a number

abbrev pub Below : ℕ → List ℕ → Type 0
Below n is = All (λ i. i < n) is

none_below : (n : ℕ) → Below n []
none_below n = All-nil (λ i. i < n)

more_below : (n i : ℕ) (is : List ℕ) → i < n → Below n is → Below n (i ∷ is)
more_below n i is lt h = All-cons (λ i. i < n) i is lt h

pub reads_below : (n m : ℕ) (o : Operation) → AreBelow n o → n ≤ m
    → Below m (reads (operation_of o))
reads_below n m (Input j) h le = none_below m
reads_below n m (Constant v) h le = none_below m
reads_below n m (Copy a) h le = more_below m a.0 [] (omega arith) (none_below m)
reads_below n m (ApplyUnary op a) h le = more_below m a.0 [] (omega arith) (none_below m)
reads_below n m (ApplyBinary op a b) h le =
    let one = more_below m b.0 [] (omega (arith, h.1)) (none_below m) in
    more_below m a.0 (b.0 ∷ []) (omega (arith, h.0)) one
reads_below n m (Choose c a b) h le =
    let one = more_below m b.0 [] (omega (arith, h.2)) (none_below m) in
    let two = more_below m a.0 (b.0 ∷ []) (omega (arith, h.1)) one in
    more_below m c.0 (a.0 ∷ b.0 ∷ []) (omega (arith, h.0)) two
reads_below n m (FirstThen started a b) h le =
    let one = more_below m b.0 [] (omega (arith, h.1)) (none_below m) in
    more_below m a.0 (b.0 ∷ []) (omega (arith, h.0)) one
reads_below n m (Previous v a) h le = none_below m
reads_below n m (Latest v a) h le = more_below m a.0 [] (omega arith) (none_below m)
reads_below n m (Sample a) h le = more_below m a.0 [] (omega arith) (none_below m)

pub keeps_below : (n m : ℕ) (o : Operation) → AreBelow n o → n ≤ m
    → Below m (keeps (operation_of o))
keeps_below n m (Previous v a) h le = more_below m a.0 [] (omega arith) (none_below m)
keeps_below n m _ h le = none_below m

pub below_later : (n m : ℕ) (is : List ℕ) → Below n is → n ≤ m → Below m is
below_later n m is h le = All-weaker (λ i. i < n) (λ i. i < m) (λ i lt. omega arith) is h

-- the numbers of some elements are as many as the elements
pub numbers_many : (xs : List ElementId) → length (numbers_of xs) ≡ length xs
numbers_many xs = length-map xs (λ (a : ElementId). a.0)

-- ## More elements

pub elements_later :
    (n m : ℕ) (xs : List ElementId) → All (λ a. a.0 < n) xs → n ≤ m → All (λ a. a.0 < m) xs
elements_later n m xs h le =
    All-weaker (λ (a : ElementId). a.0 < n) (λ (a : ElementId). a.0 < m) (λ a lt. omega arith) xs h

pub elements_push :
    (n m : ℕ) (xs : List ElementId) (x : ElementId) → All (λ a. a.0 < n) xs → n ≤ m → x.0 < m →
    All (λ a. a.0 < m) (xs ++ x ∷ [])
elements_push n m xs x h le lt =
    All-push (λ (a : ElementId). a.0 < m) xs x (elements_later n m xs h le) lt

pub numbers_push : (xs : List ElementId) (x : ElementId) →
    numbers_of (xs ++ x ∷ []) ≡ numbers_of xs ++ x.0 ∷ []
numbers_push xs x = map-append (λ (a : ElementId). a.0) xs (x ∷ [])

-- The effect of one push of the code that expands resolved terms, and what its words leave on the
-- stack.

-- ## One equation more, under a table of clocks

pub equations_later :
    (cs : List Clock) (n m : ℕ) (qs : List Equation) → All (IsWithin n cs) qs → n ≤ m →
    All (IsWithin m cs) qs
equations_later cs n m qs h le =
    All-weaker (IsWithin n cs) (IsWithin m cs) (λ q w. record {
      element = omega (arith, w.element);
      clock = w.clock;
      operands = below_later n m _ w.operands le;
      memory_operands = below_later n m _ w.memory_operands le;
    }) qs h

pub equation_pushed :
    (cs : List Clock) (n m : ℕ) (qs : List Equation) (a : ElementId) (k : Option ClockId)
    (o : Operation) → All (IsWithin n cs) qs → n ≤ m → a.0 < m → IsClock cs k → AreBelow n o →
    All (IsWithin m cs) (qs ++ record { element = a; clock = k; operation = o } ∷ [])
equation_pushed cs n m qs a k o h le lt clock below =
    All-push (IsWithin m cs) qs _ (equations_later cs n m qs h le) (record {
      element = lt;
      clock = clock;
      operands = reads_below n m o below le;
      memory_operands = keeps_below n m o below le;
    })

pub flat_pushed : (cs : List Clock) (qs : List Equation) (q : Equation) →
    flat_equations cs (qs ++ q ∷ []) ≡ flat_equations cs qs ++ equation_of cs q ∷ []
flat_pushed cs qs q = map-append (equation_of cs) qs (q ∷ [])

-- ## Fewer elements on the stack

pub elements_without : (n from to : ℕ) (xs : List ElementId) → All (λ a. a.0 < n) xs →
    All (λ a. a.0 < n) (take from xs ++ drop to xs)
elements_without n from to xs h =
    let P : ElementId → Type 0 = λ a. a.0 < n in
    All-append P (take from xs) (drop to xs) (All-take P from xs h) (All-drop P to xs h)

pub numbers_without : (from to : ℕ) (xs : List ElementId) →
    numbers_of (take from xs ++ drop to xs)
    ≡ take from (numbers_of xs) ++ drop to (numbers_of xs)
numbers_without from to xs =
    let number : ElementId → ℕ = λ a. a.0 in
    map-append number (take from xs) (drop to xs)
    ∙ sym (ap₂ (λ (is js : List ℕ). is ++ js) (take-map number from xs) (drop-map number to xs))

pub ruleset removes = (elements_without, numbers_without)

-- ## Words on the end of the stack

-- a word leaves what stands below it
pub on_top_onto : (f : Emitted → Emitted) (below : List ℕ) (x : Emitted) →
    on_top (length below) f (onto below x) ≡ onto below (f x)
on_top_onto f below x =
    ap₂ (λ b is. onto b (f (record { state = x.state; found = is })))
    (take-append_seam below x.found) (drop-append_seam below x.found)

pub on_two_onto : (f : List ℕ → Emitted → Emitted) (below xs : List ℕ) (y : Emitted) →
    on_two (length below) (length (below ++ xs)) f (onto (below ++ xs) y) ≡ onto below (f xs y)
on_two_onto f below xs y =
    let all = (below ++ xs) ++ y.found in
    let split : all ≡ below ++ (xs ++ y.found) = append_assoc below xs y.found in
    let first : take (length below) all ≡ below =
    ap (take (length below)) split ∙ take-append_seam below (xs ++ y.found) in
    let rest : drop (length below) all ≡ xs ++ y.found =
    ap (drop (length below)) split ∙ drop-append_seam below (xs ++ y.found) in
    let size : length (below ++ xs) - length below ≡ length xs =
    ap (λ n. n - length below) (length-append below xs)
    ∙ add-sub_cancel_left (length below) (length xs) in
    let second : slice_range all (length below) (length (below ++ xs)) ≡ xs =
    ap₂ (λ (n : ℕ) (is : List ℕ). take n is) size rest ∙ take-append_seam xs y.found in
    let third = drop-append_seam (below ++ xs) y.found in
    ap₂ onto first
    (ap₂ (λ (is js : List ℕ). f is (record { state = y.state; found = js })) second third)

-- `added` pushes the operations of a list one after another
pub added_none : (k : FlatClock) (x : Emitted) → added k [] x ≡ x
unfolding add
added_none k x =
    ap₂ (λ qs is. record {
      state = record x.state { equations = qs };
      found = is;
    }) (append-nil x.state.equations) (append-nil x.found)

pub added_more : (k : FlatClock) (o : flat.Operation) (os : List flat.Operation) (x : Emitted) →
    added k os (pushed k o x) ≡ added k (o ∷ os) x
unfolding add
added_more k o os x =
    let one : FlatEquation = record { element = x.state.next; clock = k; operation = o } in
    cc (
      append_assoc x.state.equations (one ∷ []) (numbered (suc x.state.next) k os),
      append_assoc x.found (x.state.next ∷ []) (numbers (suc x.state.next) os),
    )

-- ## Loops that put elements on the stack

-- pushing the operations `left` gives what pushing `all` gives, and the old stack is still there
pub record IsAdding (k : FlatClock) (old new : Emitted) (left all : List flat.Operation) :
    Type 0 where
  pub below : take (length old.found) new.found ≡ old.found
  pub rest : added k left new ≡ added k all old

still_below : (xs ys : List ℕ) (i : ℕ) → take (length xs) ys ≡ xs →
    take (length xs) (ys ++ i ∷ []) ≡ xs
still_below xs ys i e =
    let n = length ys in
    let taken = length-take (length xs) ys in
    let same = ap (λ (is : List ℕ). length is) e in
    let le : length xs ≤ length ys = grind (arith, taken, same) in
    take-append-le (length xs) ys (i ∷ []) le ∙ e

-- a step of a loop that pushes: after the operation `o`, the operations `rest` are left
pub adding_more :
    (k : FlatClock) (old new next : Emitted) (o : flat.Operation)
    (before rest all : List flat.Operation) → IsAdding k old new before all → before ≡ o ∷ rest →
    next ≡ pushed k o new → IsAdding k old next rest all
adding_more k old new next o before rest all h is e = rw e (record {
  below = still_below _ _ _ h.below;
  rest = added_more k o rest new ∙ ap (λ os. added k os new) (sym is) ∙ h.rest;
})

-- `without` drops the operands, and keeps what was put above them
pub without_operands : (from : ℕ) (below : List ℕ) (x : Emitted) → from ≤ length below →
    without from (length below) (onto below x) ≡ onto (take from below) x
without_operands from below x le =
    cc (take-append-le from below x.found le, drop-append_seam below x.found)

-- at the end of a loop that pushes, the operands are dropped and the new elements stay
pub adding_ends :
    (k : FlatClock) (old new next : Emitted) (from : ℕ) (rest all : List flat.Operation) →
    IsAdding k old new rest all → rest ≡ [] → from ≤ length old.found →
    next ≡ without from (length old.found) new →
    next ≡ onto (take from old.found) (add k old.state all)
adding_ends k old new next from rest all h is le e =
    let end = sym (added_none k new) ∙ ap (λ os. added k os new) (sym is) ∙ h.rest in
    e ∙ ap (without from (length old.found)) end
    ∙ without_operands from old.found (add k old.state all) le

-- the number of an item of a list, and of an item in the lower part of a stack
pub number_at : (xs : List ElementId) (i : ℕ) (d : ElementId) → i < length (numbers_of xs) →
    (get_or xs i d).0 ≡ get_or (numbers_of xs) i 0
number_at xs i d lt =
    let size = length-map xs (λ (a : ElementId). a.0) in
    sym (get_or-map (λ (a : ElementId). a.0) xs i d 0 (omega (arith, size, lt)))

pub below_at : (xs : List ElementId) (ns : List ℕ) (i : ℕ) (d : ElementId) → i < length ns →
    take (length ns) (numbers_of xs) ≡ ns → (get_or xs i d).0 ≡ get_or ns i 0
below_at xs ns i d lt e =
    let taken = length-take (length ns) (numbers_of xs) in
    let same = ap (λ (is : List ℕ). length is) e in
    let within : i < length (numbers_of xs) = grind (arith, taken, same, lt) in
    cc (number_at xs i d within, get_or-take (length ns) (numbers_of xs) i 0 lt)

-- a stack has at least the items that still stand below
pub still_long : (xs olds : List ElementId) →
    take (length (numbers_of olds)) (numbers_of xs) ≡ numbers_of olds → length olds ≤ length xs
still_long xs olds e =
    let taken = length-take (length (numbers_of olds)) (numbers_of xs) in
    let same = ap (λ (is : List ℕ). length is) e in
    grind (arith, taken, same, numbers_many xs, numbers_many olds)

-- `map f` from place i on is `f` of item i, and then `map f` from i + 1 on
pub map_more : (f : ℕ → flat.Operation) (ns : List ℕ) (i d : ℕ) → i < length ns →
    map f (drop i ns) ≡ f (get_or ns i d) ∷ map f (drop (i + 1) ns)
map_more f ns i d lt = ap (map f) (drop_more ns i d lt)

-- `zip2 f` from place i on is `f` of the two items at i, and then `zip2 f` from i + 1 on
pub zip_more :
    (f : ℕ → ℕ → flat.Operation) (xs ys : List ℕ) (i d : ℕ) → i < length xs → i < length ys →
    zip2 f (drop i xs) (drop i ys)
    ≡ f (get_or xs i d) (get_or ys i d) ∷ zip2 f (drop (i + 1) xs) (drop (i + 1) ys)
zip_more f xs ys i d lt more = cc (drop_more xs i d lt, drop_more ys i d more)

no_second : (f : ℕ → ℕ → flat.Operation) (xs : List ℕ) → zip2 f xs [] ≡ []
no_second f [] = refl
no_second f (x ∷ xs) = refl

pub zip_first : (f : ℕ → ℕ → flat.Operation) (xs ys : List ℕ) (i : ℕ) → length xs ≤ i →
    zip2 f (drop i xs) ys ≡ []
zip_first f xs ys i le = ap (λ (is : List ℕ). zip2 f is ys) (drop_all i xs le)

pub zip_second : (f : ℕ → ℕ → flat.Operation) (xs ys : List ℕ) (i : ℕ) → length ys ≤ i →
    zip2 f xs (drop i ys) ≡ []
zip_second f xs ys i le = ap (zip2 f xs) (drop_all i ys le) ∙ no_second f xs

pub zip_done :
    (f : ℕ → ℕ → flat.Operation) (xs ys : List ℕ) (i : ℕ) → min (length xs) (length ys) ≤ i →
    zip2 f (drop i xs) (drop i ys) ≡ []
zip_done f xs ys i h = by (nat_le (length xs) i) refl
  where
    by : (b : Bool) → nat_le (length xs) i ≡ b → zip2 f (drop i xs) (drop i ys) ≡ []
    by true e = zip_first f xs (drop i ys) i (grind (arith, nat_tests))
    by false e = zip_second f (drop i xs) ys i (grind (arith, nat_tests))

-- ## One step of the loops

pub each_step :
    (k j : FlatClock) (f : ℕ → flat.Operation) (old new next : Emitted) (i a : ℕ)
    (o : flat.Operation) (all : List flat.Operation) → i < length old.found →
    IsAdding k old new (map f (drop i old.found)) all → next ≡ pushed j o new → j ≡ k →
    o ≡ f a → a ≡ get_or old.found i 0 →
    IsAdding k old next (map f (drop (i + 1) old.found)) all
each_step k j f old new next i a o all lt h e clock is at =
    let rest = map f (drop (i + 1) old.found) in
    let same : f (get_or old.found i 0) ≡ o = cc in
    adding_more k old new next o _ _ all h (map_more f _ i 0 lt ∙ ap
    (λ (o : flat.Operation). o ∷ rest) same) (e ∙ ap (λ (k : FlatClock). pushed k o new) clock)

pub pairs_step :
    (k j : FlatClock) (f : ℕ → ℕ → flat.Operation) (old new next : Emitted) (xs ys : List ℕ)
    (i a b : ℕ) (o : flat.Operation) (all : List flat.Operation) → i < length xs →
    i < length ys → IsAdding k old new (zip2 f (drop i xs) (drop i ys)) all →
    next ≡ pushed j o new → j ≡ k → o ≡ f a b → a ≡ get_or xs i 0 → b ≡ get_or ys i 0 →
    IsAdding k old next (zip2 f (drop (i + 1) xs) (drop (i + 1) ys)) all
pairs_step k j f old new next xs ys i a b o all lt more h e clock is at bt =
    let rest = zip2 f (drop (i + 1) xs) (drop (i + 1) ys) in
    let same : f (get_or xs i 0) (get_or ys i 0) ≡ o = cc in
    adding_more k old new next o _ _ all h (zip_more f xs ys i 0 lt more ∙ ap
    (λ (o : flat.Operation). o ∷ rest) same) (e ∙ ap (λ (k : FlatClock). pushed k o new) clock)

-- item i of the part from `from` on is item `from + i` of the list
pub part_at : (all : List ℕ) (from middle i : ℕ) → i < middle - from →
    get_or (slice_range all from middle) i 0 ≡ get_or all (from + i) 0
part_at all from middle i lt =
    get_or-take (middle - from) (drop from all) i 0 lt ∙ get_or-drop from all i 0

pub length_of_part : (all : List ℕ) (from middle : ℕ) → middle ≤ length all →
    length (slice_range all from middle) ≡ middle - from
length_of_part all from middle le =
    let a = length-take (middle - from) (drop from all) in
    let b = length-drop from all in
    a ∙ ap (min (middle - from)) b ∙ min_first (middle - from) (length all - from) (omega arith)
  where
    min_first : (m n : ℕ) → m ≤ n → min m n ≡ m
    min_first m n le = grind arith

pub ruleset pushes = (
  equations_later,
  equation_pushed,
  flat_pushed,
  elements_later,
  elements_push,
  numbers_push,
)
