-- Expansion finds as many elements for an expression as the expression has streams in a history
-- that has a stream for each element of a variable.
use Rattle.lb_expand.proofs.Words
use Words.{ApplyBinary, ApplyUnary, Array, ArrayIterator, Arrow, AtMostOne, Binary, BinaryOperator}
use Words.{Call, Child, Choose, Cons, Current, Declaration, Emitted, Expr, Exprs, Fby, Fill}
use Words.{FlatClock, Group, History, If, Index, Instance, Iterate, Join, Layout, List, Literal}
use Words.{Map, Name, Nil, Node_named, None, Nor, Not, On, Operation, Option, Or, Path, Pre}
use Words.{Program, Red, Replicate, Slice, Some, State, Stream, Symbol, Truth, Unary, Variable}
use Words.{When, [], accumulated, add, all_streams, ap, ap₂, argument_streams, arith, call_count}
use Words.{choice, choices, chosen_by, constantly, copies, drop, either_or, emit, emit_all}
use Words.{emit_each, emit_name, emit_symbol, flat_clock, flat_map, gathered, heads_same, iterated}
use Words.{iterator_inputs, joined, joins, keep, last_of, length, length-append, length-map, map}
use Words.{name_value, negated, numbers, option_map, or_fault, part, presence, refl, streams, suc}
use Words.{sym, symbols, tail_of, tails_same, zero, zip2, ℕ, ◌*◌, ◌+◌, ◌-◌, ◌/◌, ◌∙◌, ◌∷◌, ◌≡◌}
use Rattle.lb_check.{proofs.clocking.ClockDepths.{same_dropped, same_taken}, specs.Clocks.Clock}
use Rattle.lb_expand.proofs.emission.EmittedRooms.{chained_one, twice_one}

-- ## Lists of one length

length-zip :
    {A B C D E F : Type 0} (f : A → B → C) (g : D → E → F) (xs : List A) (ys : List B)
    (us : List D) (vs : List E) → length xs ≡ length us → length ys ≡ length vs →
    length (zip2 f xs ys) ≡ length (zip2 g us vs)
length-zip f g [] ys [] vs p q = refl
length-zip f g (x ∷ xs) [] (u ∷ us) [] p q = refl
length-zip f g (x ∷ xs) (y ∷ ys) (u ∷ us) (v ∷ vs) p q =
    ap suc (length-zip f g xs ys us vs (omega arith) (omega arith))
length-zip f g _ _ _ _ p q = absurd (omega arith)

module _ {A B : Type 0} where
  length-copied : (n : ℕ) (xs : List A) (ys : List B) → length xs ≡ length ys →
      length (copies n xs) ≡ length (copies n ys)
  length-copied zero xs ys e = refl
  length-copied (suc n) xs ys e =
      cc (length-append xs (copies n xs), length-copied n xs ys e, length-append ys (copies n ys))

  pub length-joins : (xss : List (List A)) (yss : List (List B)) → map length xss ≡ map length yss →
      length (joined xss) ≡ length (joined yss)
  length-joins [] [] e = refl
  length-joins [] (ys ∷ yss) e = absurd cc
  length-joins (xs ∷ xss) [] e = absurd cc
  length-joins (xs ∷ xss) (ys ∷ yss) e =
      length-append xs (joined xss)
      ∙ ap₂ (λ a b. a + b) (heads_same _ _ _ _ e) (length-joins xss yss (tails_same _ _ _ _ e))
      ∙ sym (length-append ys (joined yss))

  length-parted : (n i : ℕ) (xs : List A) (ys : List B) → length xs ≡ length ys →
      length (part n i xs) ≡ length (part n i ys)
  length-parted n i xs ys e =
      cc (same_taken (length ys / n) (drop ((length ys / n) * i) xs)
      (drop ((length ys / n) * i) ys) (same_dropped ((length ys / n) * i) xs ys e))

  length-parts : (n i : ℕ) (xss : List (List A)) (yss : List (List B)) →
      map length xss ≡ map length yss →
      map length (map (part n i) xss) ≡ map length (map (part n i) yss)
  length-parts n i [] [] e = refl
  length-parts n i [] (ys ∷ yss) e = absurd cc
  length-parts n i (xs ∷ xss) [] e = absurd cc
  length-parts n i (xs ∷ xss) (ys ∷ yss) e =
      ap₂ (λ a b. a ∷ b) (length-parted n i xs ys (heads_same _ _ _ _ e))
      (length-parts n i xss yss (tails_same _ _ _ _ e))

  pub length-pieces :
      {C : Type 0} (f : C → List A) (g : C → List B) → ((c : C) → length (f c) ≡ length (g c)) →
      (cs : List C) → length (flat_map f cs) ≡ length (flat_map g cs)
  length-pieces f g e [] = refl
  length-pieces f g e (c ∷ cs) =
      length-append (f c) (flat_map f cs)
      ∙ ap₂ (λ a b. a + b) (e c) (length-pieces f g e cs)
      ∙ sym (length-append (g c) (flat_map g cs))

  -- what an iterated node gives, and what goes into its instances
  module _ (f : ℕ → Name → List A) (g : ℕ → Name → List B)
      (same : (i : ℕ) (x : Name) → length (f i x) ≡ length (g i x)) where
    length-gathered : (n : ℕ) (outs : List Declaration) →
        length (gathered f n outs) ≡ length (gathered g n outs)
    length-gathered n outs =
        length-pieces _ _ (λ (o : Declaration). length-pieces (λ i. f i o.name) (λ i. g i o.name)
        (λ i. same i o.name) _) outs

    length-last : (n : ℕ) (outs : List Declaration) →
        length (last_of f n outs) ≡ length (last_of g n outs)
    length-last n [] = refl
    length-last n (o ∷ outs) = same (n - 1) o.name

    length-iterated : (n : ℕ) (it : ArrayIterator) (outs : List Declaration) →
        length (iterated f n it outs) ≡ length (iterated g n it outs)
    length-iterated n Map outs = length-gathered n outs
    length-iterated n Red outs = length-last n outs
    length-iterated n Fill outs =
        length-append (last_of f n outs) (gathered f n (tail_of outs))
        ∙ ap₂ (λ a b. a + b) (length-last n outs) (length-gathered n (tail_of outs))
        ∙ sym (length-append (last_of g n outs) (gathered g n (tail_of outs)))

    length-accumulated :
        (outs : List Declaration) (xs : List A) (ys : List B) (i : ℕ) → length xs ≡ length ys →
        length (accumulated f outs xs i) ≡ length (accumulated g outs ys i)
    length-accumulated [] xs ys i e = e
    length-accumulated (o ∷ outs) xs ys zero e = e
    length-accumulated (o ∷ outs) xs ys (suc i) e = same i o.name

    pub length-inputs :
        (n : ℕ) (it : ArrayIterator) (outs : List Declaration) (xss : List (List A))
        (yss : List (List B)) (i : ℕ) → map length xss ≡ map length yss →
        map length (iterator_inputs f n it outs xss i)
        ≡ map length (iterator_inputs g n it outs yss i)
    length-inputs n Map outs xss yss i e = length-parts n i xss yss e
    length-inputs n Red outs [] [] i e = refl
    length-inputs n Red outs (xs ∷ xss) (ys ∷ yss) i e =
        ap₂ (λ a b. a ∷ b) (length-accumulated outs xs ys i (heads_same _ _ _ _ e))
        (length-parts n i xss yss (tails_same _ _ _ _ e))
    length-inputs n Fill outs [] [] i e = refl
    length-inputs n Fill outs (xs ∷ xss) (ys ∷ yss) i e =
        ap (λ a. a ∷ []) (length-accumulated outs xs ys i (heads_same _ _ _ _ e))
    length-inputs n _ outs _ _ i e = absurd cc

-- ## The small words of expansion

pub numbers_count : (n : ℕ) (os : List Operation) → length (numbers n os) ≡ length os
numbers_count n [] = refl
numbers_count n (o ∷ os) = ap suc (numbers_count (suc n) os)

pub add_count : (k : FlatClock) (s : State) (os : List Operation) →
    length (add k s os).found ≡ length os
unfolding add
add_count k s os = numbers_count s.next os

pub keep_count : (x : Emitted) → length (keep x).found ≡ length x.found
unfolding keep
keep_count x = refl

choices_count :
    (cs xs ys : List ℕ) (us vs ws : List Stream) → length cs ≡ length us →
    length xs ≡ length vs → length ys ≡ length ws →
    length (chosen_by cs xs ys) ≡ length (choices us vs ws)
choices_count [] xs ys [] vs ws c p q = refl
choices_count [] xs ys (u ∷ us) vs ws c p q = absurd (omega arith)
choices_count (z ∷ cs) xs ys [] vs ws c p q = absurd (omega arith)
choices_count (z ∷ cs) xs ys (u ∷ us) vs ws c p q = length-zip (Choose z) (choice u) xs ys vs ws p q

negated_count : (k : FlatClock) (x : Emitted) → length (negated k x).found ≡ length x.found
negated_count k x = add_count k _ _ ∙ length-map x.found (ApplyUnary Not)

symbol_count :
    (k : FlatClock) (op : BinaryOperator) (s : State) (it : ArrayIterator)
    (xss : List (List ℕ)) (yss : List (List Stream)) → map length xss ≡ map length yss →
    length (emit_symbol k op s it xss).found ≡ length (symbols it op yss)
symbol_count k op s Map [] [] e = refl
symbol_count k op s Map (x ∷ []) (v ∷ []) e = refl
symbol_count k op s Map (x ∷ (y ∷ [])) (v ∷ (w ∷ [])) e =
    add_count k s _ ∙ length-zip (ApplyBinary op) _ x y v w (heads_same _ _ _ _ e)
    (heads_same _ _ _ _ (tails_same _ _ _ _ e))
symbol_count k op s Map (x ∷ (y ∷ (z ∷ xss))) (v ∷ (w ∷ (u ∷ yss))) e = refl
symbol_count k op s Red [] [] e = refl
symbol_count k op s Red ([] ∷ xss) ([] ∷ yss) e = refl
symbol_count k op s Red ((i ∷ []) ∷ []) ((v ∷ []) ∷ []) e = refl
symbol_count k op s Red ((i ∷ (j ∷ is)) ∷ xss) ((v ∷ (w ∷ vs)) ∷ yss) e = refl
symbol_count k op s Red ((i ∷ []) ∷ (y ∷ [])) ((v ∷ []) ∷ (w ∷ [])) e = chained_one k op s i y
symbol_count k op s Red ((i ∷ []) ∷ (y ∷ (z ∷ xss))) ((v ∷ []) ∷ (w ∷ (u ∷ yss))) e = refl
symbol_count k op s Fill xss yss e = refl
symbol_count k op s _ _ _ e = absurd cc

-- ## Expressions

module _ (Y : Layout) (P : Program) (H : History) (here : Instance)
    (same : (p : Path) (x : Name) → length (Y.places p x) ≡ length (H.columns p x)) where
  added_one : (k : Clock) (s : State) (x : Emitted) (f : ℕ → Operation) (g : Stream → Stream)
      (xss : List Stream) → length x.found ≡ length xss →
      length (add (flat_clock Y here.path k) x.state (map f x.found)).found ≡ length (map g xss)
  added_one k s x f g xss e = add_count _ _ _ ∙ length-map x.found f ∙ e ∙ sym (length-map xss g)

  added_two : (k : Clock) (t : State) (is js : List ℕ) (f : ℕ → ℕ → Operation)
      (g : Stream → Stream → Stream) (xss yss : List Stream) → length is ≡ length xss →
      length js ≡ length yss →
      length (add (flat_clock Y here.path k) t (zip2 f is js)).found ≡ length (zip2 g xss yss)
  added_two k t is js f g xss yss p q = add_count _ t _ ∙ length-zip f g is js xss yss p q

  name_count : (k : Clock) (s : State) (x : Name) (o : Option Declaration) →
      length (emit_name Y P here k s x o).found
      ≡ length (either_or (option_map (λ d. H.columns here.path d.name) o)
      (constantly (or_fault (name_value P here x)) (presence H here.path k) ∷ []))
  name_count k s x None = add_count (flat_clock Y here.path k) s _
  name_count k s x (Some d) = same here.path d.name

  mutual
    unfolding emit joins

    pub as_many : (k : Clock) (n : ℕ) (s : State) (e : Expr) →
        length (emit Y P here k n s e).found ≡ length (streams P H here k n e)
    as_many k n s (Literal m) = add_count _ s _
    as_many k n s (Truth b) = add_count _ s _
    as_many k n s (Variable x) = name_count k s _ _
    as_many k n s (Group a) = as_many k n s a
    as_many k n s (Unary op a) = added_one k s (emit Y P here k n s a) _ _ _ (as_many k n s a)
    as_many k n s (Binary op a b) =
        let x = emit Y P here k n s a in
        let y = emit Y P here k (n + call_count a) x.state b in
        added_two k _ _ _ _ _ _ _ (as_many k n s a) (as_many k (n + call_count a) x.state b)
    as_many k n s (If c a b) =
        let z = emit Y P here k n s c in
        let x = emit Y P here k (n + call_count c) z.state a in
        let y = emit Y P here k (n + call_count c + call_count a) x.state b in
        add_count _ _ _ ∙ choices_count _ _ _ _ _ _ (as_many k n s c)
        (as_many k (n + call_count c) z.state a)
        (as_many k (n + call_count c + call_count a) x.state b)
    as_many k n s (Arrow a b) =
        let x = emit Y P here k n s a in
        let y = emit Y P here k (n + call_count a) x.state b in
        added_two k _ _ _ _ _ _ _ (as_many k n s a) (as_many k (n + call_count a) x.state b)
    as_many k n s (Fby a b) =
        added_two k _ _ _ _ _ _ _ (as_many k n s a)
        (added_one k s _ _ _ _
        (keep_count _ ∙ as_many k (n + call_count a) (emit Y P here k n s a).state b))
    as_many k n s (Pre a) =
        added_one k s (keep (emit Y P here k n s a)) _ _ _ (keep_count _ ∙ as_many k n s a)
    as_many k n s (When a x sign) =
        added_one (On _ x sign) s (emit Y P here _ n s a) _ _ (streams P H here _ n a)
        (as_many _ n s a)
    as_many k n s (Current a) =
        added_one k s (keep (emit Y P here _ n s a)) _ _ (streams P H here _ n a)
        (keep_count _ ∙ as_many _ n s a)
    as_many k n s (Replicate a m) = length-copied _ _ _ (as_many k n s a)
    as_many k n s (Index a i) = same_taken _ _ _ (same_dropped _ _ _ (as_many k n s a))
    as_many k n s (Slice a i j) = same_taken _ _ _ (same_dropped _ _ _ (as_many k n s a))
    as_many k n s (Join a b) =
        let x = emit Y P here k n s a in
        cc (
          length-append x.found (emit Y P here k (n + call_count a) x.state b).found,
          as_many k n s a,
          as_many k (n + call_count a) x.state b,
          length-append (streams P H here k n a) (streams P H here k (n + call_count a) b),
        )
    as_many k n s (Array es) = length-joins _ _ (all_as_many k n s es)
    as_many k n s (AtMostOne es) = (negated_count _ _ ∙ twice_one _ _ _ _ _)
    as_many k n s (Nor es) = (negated_count _ _ ∙ chained_one _ Or _ _ _)
    as_many k n s (Call f statics es) =
        length-pieces
        (λ (o : Declaration). Y.places (Child here.path n 0) o.name) (λ (o : Declaration).
        H.columns (Child here.path n 0) o.name) (λ o. same (Child here.path n 0) o.name) _
    as_many k n s (Iterate it (Node_named f statics) m es) =
        length-iterated (λ i x. Y.places (Child here.path n i) x)
        (λ i x. H.columns (Child here.path n i) x) (λ i x. same (Child here.path n i) x) _ it _
    as_many k n s (Iterate it (Symbol op) m es) = symbol_count _ op _ it _ _ (all_as_many k n s es)

    pub all_as_many : (k : Clock) (n : ℕ) (s : State) (es : Exprs) →
        map length (emit_all Y P here k n s es).found ≡ map length (all_streams P H here k n es)
    all_as_many k n s Nil = refl
    all_as_many k n s (Cons e es) =
        cc (as_many k n s e, all_as_many k (n + call_count e) (emit Y P here k n s e).state es)

    pub each_as_many : (ks : List Clock) (n : ℕ) (s : State) (es : Exprs) →
        map length (emit_each Y P here ks n s es).found
        ≡ map length (argument_streams P H here ks n es)
    each_as_many ks n s Nil = refl
    each_as_many [] n s (Cons e es) = refl
    each_as_many (k ∷ ks) n s (Cons e es) =
        cc (as_many k n s e, each_as_many ks (n + call_count e) (emit Y P here k n s e).state es)
