-- Streams that agree with a history, the small words of expansion, and joined calls.
use Rattle.lb_expand.proofs.Words
use Words.{And, ApplyBinary, ApplyUnary, AreLong, ArrayIterator, Base, BinaryOperator, Bool}
use Words.{Boolean, Call, Child, Choose, Constant, Declaration, Emitted, Every, Expr, Exprs, Fill}
use Words.{FlatClock, FlatEquation, History, Holds, Inputs, Instance, IsCallJoined}
use Words.{IsIteratorJoined, Iterate, Layout, List, Map, Name, Node, Node_named, None, Not}
use Words.{Occurrence, On, Operation, Option, Or, Path, Program, Receives, Red, Scalar, Some, State}
use Words.{Stream, Target, [], accumulated, across, add, all_streams, along, along_two, ap, ap₂}
use Words.{argument_clocks, argument_streams, arith, at_most_one, base_clock, call_clocks}
use Words.{call_copies, chained, choice, choices, chosen_by, column, constantly, copied}
use Words.{declared_clock, drop, emit_at_most_one, emit_nor, emit_symbol, false, flat_clock, fold}
use Words.{gathered, heads_same, held, instants, iterated, iterator_copies, iterator_inputs}
use Words.{last_of, length, length-map, map, map-append, negated, node_named, none_true, number}
use Words.{numbered, numbers, one_scalar, operate, part, presence, push, range_with_len, received}
use Words.{refl, signed, subst, suc, sym, symbols, tail_of, tails_same, take, targets, twice}
use Words.{two_scalars, where_signed, zero, zip2, ℕ, ◌*◌, ◌++◌, ◌+◌, ◌-◌, ◌/◌, ◌<◌, ◌∙◌, ◌∷◌, ◌≡◌}
use Rattle.{lb_check.specs.Clocks.Clock, lb_expand.proofs.emission.EmissionSteps.IsAdding}
use Rattle.lb_expand.proofs.{emission.EmissionSteps.twice_step, lists.Counting.{AllTruths, Count}}
use Rattle.lb_expand.proofs.lists.Counting.{Counted, IsTruth, any_counted, any_step}
use Rattle.lb_expand.proofs.lists.Counting.{at_most_one_counts, more, none_chained, none_yet}
use Rattle.lb_expand.proofs.lists.{Counting.{read_by, two_counted, two_step}, Lists.map-drop}
use Rattle.lb_expand.proofs.lists.Lists.{map-pieces, map-take}
use Rattle.lb_flat.proofs.lists.Lists.{Every-append, Every-first, Every-of_pieces, Every-of_range}
use Rattle.lb_flat.proofs.lists.Lists.{Every-piece, Every-range, Every-second, column_long}
use Rattle.lb_flat.proofs.lists.Lists.{instants_long, map-maps}

-- A statement that streams of a flat program agree with a history, and what the types and the
-- layout give of each occurrence of an expression.

-- a history and the streams of a flat program agree on variables and clocks
pub record Agrees (Y : Layout) (X : Inputs) (H : History) (F : List Stream) : Type 0 where
  pub columns : (p : Path) (x : Name) → H.columns p x ≡ map (column X F) (Y.places p x)
  pub signs : (p : Path) (x : Name) → H.columns p x ≡ map (column X F) (Y.signs p x)
  pub ticks : (p : Path) → H.ticks p ≡ instants X F (Y.runs p)

-- the inputs of an instance are as wide as what they receive
abbrev pub AreAsWide : History → Path → List Declaration → List (List Stream) → Type 0
AreAsWide H p [] [] = Unit {0}
AreAsWide H p (d ∷ ds) (xs ∷ xss) = (length (H.columns p d.name) ≡ length xs) × AreAsWide H p ds xss
AreAsWide H p ds xss = ⊥

-- an instance that `here` calls runs on the flat clock of the call, and its inputs are as wide as
-- the arguments
pub record IsCalleePlaced (Y : Layout) (H : History) (here : Instance) (k : Clock) (p : Path)
    (callee : Node) (args : List (List Stream)) : Type 0 where
  pub runs : Y.runs p ≡ flat_clock Y here.path k
  pub as_wide : AreAsWide H p callee.inputs args

abbrev pub IsCallPlaced :
    Layout → Program → History → Instance → Clock → ℕ → Exprs → Option Node → Type 0
IsCallPlaced Y P H here k n es None = Unit {0}
IsCallPlaced Y P H here k n es (Some callee) =
    IsCalleePlaced Y H here (base_clock k callee) (Child here.path n 0) callee
    (argument_streams P H here (argument_clocks k callee es) (n + 1) es)

abbrev pub IsIteratorPlaced :
    Layout → Program → History → Instance → Clock → ℕ → ArrayIterator → ℕ → Exprs →
    Option Node → Type 0
IsIteratorPlaced Y P H here k n it m es None = Unit {0}
IsIteratorPlaced Y P H here k n it m es (Some callee) =
    let outputs : ℕ → Name → List Stream = λ i x. H.columns (Child here.path n i) x in
    let args = all_streams P H here k (n + 1) es in
    (i : ℕ) → i
    < m → IsCalleePlaced Y H here k (Child here.path n i) callee
    (iterator_inputs outputs m it callee.outputs args i)

-- what an occurrence calls is placed: the instance of a call, or each instance of an iterator
abbrev pub IsPlacedAt : Layout → Program → History → Instance → Clock → ℕ → Expr → Type 0
IsPlacedAt Y P H here k n (Call f statics es) = IsCallPlaced Y P H here k n es (node_named P f)
IsPlacedAt Y P H here k n (Iterate it (Node_named f statics) m es) =
    IsIteratorPlaced Y P H here k n it (number P here m) es (node_named P f)
IsPlacedAt Y P H here k n e = Unit {0}

abbrev pub IsPlaced : Layout → Program → History → Instance → Occurrence → Type 0
IsPlaced Y P H here o = IsPlacedAt Y P H here o.clock o.calls_before o.expr

-- ## Clocks

module _ (Y : Layout) (X : Inputs) (H : History) (F : List Stream) (agrees : Agrees Y X H F)
    (p : Path) where
  signed_flat :
      (c : FlatClock) (sign : Bool) (is : List ℕ) →
      signed (instants X F c) sign (map (column X F) is) ≡ instants X F (where_signed c sign is)
  signed_flat c sign [] = refl
  signed_flat c sign (i ∷ is) = refl

  -- the instants of a clock of an instance are the instants of its flat clock
  pub presence_flat : (k : Clock) → presence H p k ≡ instants X F (flat_clock Y p k)
  presence_flat Base = agrees.ticks p
  presence_flat (On k x sign) =
      ap₂ (λ bs xss. signed bs sign xss) (presence_flat k) (agrees.signs p x)
      ∙ signed_flat (flat_clock Y p k) sign (Y.signs p x)

  pub constantly_flat :
      (k : Clock) (v : Scalar) →
      constantly v (instants X F (flat_clock Y p k)) ∷ [] ≡ constantly v (presence H p k) ∷ []
  constantly_flat k v = ap (λ bs. constantly v bs ∷ []) (sym (presence_flat k))

-- If the equations that the small words of expansion add hold, then so do the equations before, and
-- the elements found have the streams of their operator.

module _ (X : Inputs) (F : List Stream) where
  -- the streams of some elements
  abbrev pub columns : List ℕ → List Stream
  columns is = map (column X F) is

  -- the second operand of `or` and `and` holds truth values
  abbrev pub HasTruths : Operation → Type 0
  HasTruths (ApplyBinary Or a b) = Every IsTruth (column X F b)
  HasTruths (ApplyBinary And a b) = Every IsTruth (column X F b)
  HasTruths o = Unit {0}

  -- an equation holds, and its operands are truth values where they have to be
  abbrev pub IsMet : FlatEquation → Type 0
  IsMet q = Holds X F q × HasTruths q.operation

  abbrev pub AllMet : List FlatEquation → Type 0
  AllMet qs = Every IsMet qs

  -- the equations before hold, the elements found have the streams `xss`, and nothing was copied
  pub record Added (s : State) (r : Emitted) (xss : List Stream) : Type 0 where
    pub before : AllMet s.equations
    pub found : columns r.found ≡ xss
    pub copies : r.state.copies ≡ s.copies

  -- ## New elements

  numbered_found :
      (i : ℕ) (k : FlatClock) (os : List Operation) → AllMet (numbered i k os) →
      columns (numbers i os) ≡ map (operate X F k) os
  numbered_found i k [] h = refl
  numbered_found i k (o ∷ os) h = cc (h.0.0, numbered_found (suc i) k os h.1)

  pub add_sound :
      (k : FlatClock) (s : State) (os : List Operation) →
      AllMet (add k s os).state.equations → Added s (add k s os) (map (operate X F k) os)
  unfolding add
  add_sound k s os h =
      record {
        before = Every-first IsMet s.equations _ h;
        found = numbered_found s.next k os (Every-second IsMet s.equations _ h);
        copies = refl;
      }

  pub record Pushed (k : FlatClock) (s : State) (o : Operation) : Type 0 where
    pub before : AllMet s.equations
    pub new : column X F s.next ≡ operate X F k o
    pub truths : HasTruths o

  pub push_sound :
      (k : FlatClock) (s : State) (o : Operation) → AllMet (push k s o).equations → Pushed k s o
  push_sound k s o h =
      let one : FlatEquation = record { element = s.next; clock = k; operation = o } in
      let met = (Every-second IsMet s.equations (one ∷ []) h).0 in
      record {
        before = Every-first IsMet s.equations (one ∷ []) h;
        new = met.0;
        truths = met.1;
      }

  -- ## Operators on each of some elements

  module _ (k : FlatClock) where
    pub each_one :
        (f : ℕ → Operation) (g : Stream → Stream) →
        ((i : ℕ) → operate X F k (f i) ≡ g (column X F i)) →
        (is : List ℕ) → map (operate X F k) (map f is) ≡ map g (columns is)
    each_one f g e [] = refl
    each_one f g e (i ∷ is) = ap₂ (λ x xs. x ∷ xs) (e i) (each_one f g e is)

    pub each_two :
        (f : ℕ → ℕ → Operation) (g : Stream → Stream → Stream) →
        ((i j : ℕ) → operate X F k (f i j) ≡ g (column X F i) (column X F j)) →
        (is js : List ℕ) →
        map (operate X F k) (zip2 f is js) ≡ zip2 g (columns is) (columns js)
    each_two f g e [] js = refl
    each_two f g e (i ∷ is) [] = refl
    each_two f g e (i ∷ is) (j ∷ js) = ap₂ (λ x xs. x ∷ xs) (e i j) (each_two f g e is js)

    pub each_choice :
        (cs is js : List ℕ) →
        map (operate X F k) (chosen_by cs is js) ≡ choices (columns cs) (columns is) (columns js)
    each_choice [] is js = refl
    each_choice (c ∷ cs) is js = each_two (Choose c) (choice (column X F c)) (λ i j. refl) is js

  -- ## Chains

  pub chained_sound :
      (k : FlatClock) (op : BinaryOperator) (s : State) (init : ℕ) (ys : List ℕ) →
      AllMet (chained k op s init ys).state.equations →
      Added s (chained k op s init ys)
      (fold (along_two (two_scalars op)) (column X F init) (columns ys) ∷ [])
  unfolding chained
  chained_sound k op s init [] h = record { before = h; found = refl; copies = refl }
  chained_sound k op s init (y ∷ ys) h =
      let r = chained_sound k op (push k s (ApplyBinary op init y)) s.next ys h in
      let p = push_sound k s _ r.before in
      record { before = p.before; found = cc (r.found, p.new); copies = r.copies }

  -- each operand of a chain of `or` is a truth value
  chained_truths :
      (k : FlatClock) (s : State) (init : ℕ) (ys : List ℕ) →
      AllMet (chained k Or s init ys).state.equations → AllTruths (columns ys)
  unfolding chained
  chained_truths k s init [] h = tt
  chained_truths k s init (y ∷ ys) h =
      let o = ApplyBinary Or init y in
      let r = chained_sound k Or (push k s o) s.next ys h in
      ((push_sound k s o r.before).truths, chained_truths k (push k s o) s.next ys h)

  -- where the equations behind the small words hold, the equations before them hold
  abbrev pub Earlier : State → State → Type 0
  Earlier s t = AllMet t.equations → AllMet s.equations

  pub earlier : IsAdding Earlier
  earlier = record {
    none = λ s h. h;
    both = λ s t u a b h. a (b h);
    adds = λ k s os h. let r = add_sound k s os h in r.before;
  }

  twice_truths :
      (k : FlatClock) (s : State) (any two : ℕ) (is : List ℕ) →
      AllMet (twice k s any two is).state.equations → AllTruths (columns is)
  unfolding twice
  twice_truths k s any two [] h = tt
  twice_truths k s any two (i ∷ is) h =
      let t = push k s (ApplyBinary And any i) in
      let u = push k t (ApplyBinary Or two s.next) in
      let c = push_sound k u (ApplyBinary Or any i)
      (twice_step Earlier earlier k _ u.next t.next is h) in
      (c.truths, twice_truths k _ u.next t.next is h)

  twice_sound :
      (k : FlatClock) (s : State) (any two : ℕ) (is : List ℕ) (cs : List (Option Count)) →
      AllMet (twice k s any two is).state.equations →
      column X F any ≡ read_by any_counted cs → column X F two ≡ read_by two_counted cs →
      Added s (twice k s any two is)
      (read_by two_counted (fold (zip2 more) cs (columns is)) ∷ [])
  unfolding twice
  twice_sound k s any two [] cs h p q =
      record { before = h; found = ap (λ x. x ∷ []) q; copies = refl }
  twice_sound k s any two (i ∷ is) cs h p q =
      let t = push k s (ApplyBinary And any i) in
      let u = push k t (ApplyBinary Or two s.next) in
      let xs = column X F i in
      let c = push_sound k u (ApplyBinary Or any i)
      (twice_step Earlier earlier k _ u.next t.next is h) in
      let b = push_sound k t (ApplyBinary Or two s.next) c.before in
      let a = push_sound k s (ApplyBinary And any i) b.before in
      let r = twice_sound k _ u.next t.next is (zip2 more cs xs) h
      (c.new ∙ ap (λ ys. along_two (two_scalars Or) ys xs) p ∙ any_step cs xs)
      (b.new
      ∙ ap₂ (along_two (two_scalars Or)) q (a.new ∙ ap (λ ys. along_two (two_scalars And) ys xs) p)
      ∙ two_step cs xs) in
      record { before = a.before; found = r.found; copies = r.copies }

  -- ## `#` and `nor`

  negated_sound :
      (k : FlatClock) (s : State) (r : Emitted) (xs : Stream) →
      (AllMet r.state.equations → Added s r (xs ∷ [])) →
      AllMet (negated k r).state.equations →
      Added s (negated k r) (along (one_scalar Not) xs ∷ [])
  negated_sound k s r xs part h =
      let n = add_sound k r.state (map (ApplyUnary Not) r.found) h in
      let a = part n.before in
      record {
        before = a.before;
        found = n.found ∙ each_one k (ApplyUnary Not) (along (one_scalar Not)) (λ i. refl) r.found
            ∙ ap (map (along (one_scalar Not))) a.found;
        copies = n.copies ∙ a.copies;
      }

  -- the streams of elements are as long as the instants of the clock `k`
  as_long_as :
      AreLong X F → (k : FlatClock) (is : List ℕ) →
      Every (λ xs. length xs ≡ length (instants X F k)) (columns is)
  as_long_as long k [] = tt
  as_long_as long k (i ∷ is) =
      (column_long X F long i ∙ sym (instants_long X F long k), as_long_as long k is)

  pub nor_sound :
      AreLong X F → (k : FlatClock) (s : State) (is : List ℕ) →
      AllMet (emit_nor k s is).state.equations →
      Added s (emit_nor k s is) (across none_true (instants X F k) (columns is) ∷ [])
  nor_sound long k s is h =
      let x = chained k Or _ s.next is in
      let n = negated_sound k _ x _ (chained_sound k Or _ s.next is) h in
      let truths = chained_truths k _ s.next is
      (add_sound k x.state (map (ApplyUnary Not) x.found) h).before in
      let p = push_sound k s (Constant (Boolean false)) n.before in
      record {
        before = p.before;
        found = n.found
            ∙ ap
            (λ ys. along (one_scalar Not) (fold (along_two (two_scalars Or)) ys (columns is)) ∷ [])
            p.new
            ∙ ap (λ ys. ys ∷ [])
            (none_chained (instants X F k) (columns is) (as_long_as long k is) truths);
        copies = n.copies;
      }

  pub at_most_one_sound :
      AreLong X F → (k : FlatClock) (s : State) (is : List ℕ) →
      AllMet (emit_at_most_one k s is).state.equations →
      Added s (emit_at_most_one k s is) (across at_most_one (instants X F k) (columns is) ∷ [])
  at_most_one_sound long k s is h =
      let t = push k s (Constant (Boolean false)) in
      let bs = instants X F k in
      let start = Constant (Boolean false) in
      let x = twice k t s.next s.next is in
      let all = add_sound k x.state (map (ApplyUnary Not) x.found) h in
      let truths = twice_truths k t s.next s.next is all.before in
      let n = negated_sound k t x _ (λ g.
      let p = push_sound k s start (twice_step Earlier earlier k t s.next s.next is g) in
      twice_sound k t s.next s.next is (map (held (Counted 0)) bs) g
      (p.new ∙ none_yet any_counted refl bs)
      (p.new ∙ none_yet two_counted refl bs)) h in
      let p = push_sound k s (Constant (Boolean false)) n.before in
      record {
        before = p.before;
        found = n.found
            ∙ ap (λ ys. ys ∷ []) (at_most_one_counts bs (columns is) (as_long_as long k is) truths);
        copies = n.copies;
      }

  -- ## Iterated symbols

  pub symbol_sound :
      (k : FlatClock) (op : BinaryOperator) (s : State) (it : ArrayIterator)
      (found : List (List ℕ)) → AllMet (emit_symbol k op s it found).state.equations →
      Added s (emit_symbol k op s it found) (symbols it op (map columns found))
  symbol_sound k op s Map (xs ∷ (ys ∷ [])) h =
      let r = add_sound k s (zip2 (ApplyBinary op) xs ys) h in
      record {
        before = r.before;
        found = r.found
            ∙ each_two k (ApplyBinary op) (along_two (two_scalars op)) (λ i j. refl) xs ys;
        copies = r.copies;
      }
  symbol_sound k op s Red ((init ∷ []) ∷ (ys ∷ [])) h = chained_sound k op s init ys h
  symbol_sound k op s it found h = record { before = h; found = refl; copies = refl }

-- The copies of the inputs of instances that are called hold exactly where the calls are joined.

-- ## Copies

module _ (X : Inputs) (F : List Stream) where
  -- the streams of the elements of some targets
  abbrev pub targeted : List Target → List Stream
  targeted ts = map (λ t. column X F t.place) ts

  pub copied_same :
      (ts : List Target) (js : List ℕ) → length ts ≡ length js → AllMet X F (copied ts js) →
      targeted ts ≡ columns X F js
  copied_same [] [] e h = refl
  copied_same [] (j ∷ js) e h = absurd (omega arith)
  copied_same (t ∷ ts) [] e h = absurd (omega arith)
  copied_same (t ∷ ts) (j ∷ js) e h = cc (h.0.0, copied_same ts js (omega arith) h.1)

  pub copied_holds :
      (ts : List Target) (js : List ℕ) → targeted ts ≡ columns X F js →
      AllMet X F (copied ts js)
  copied_holds [] js e = tt
  copied_holds (t ∷ ts) [] e = tt
  copied_holds (t ∷ ts) (j ∷ js) e =
      ((heads_same _ _ _ _ e, tt), copied_holds ts js (tails_same _ _ _ _ e))

  part_natural : (n i : ℕ) (is : List ℕ) → columns X F (part n i is) ≡ part n i (columns X F is)
  part_natural n i is =
      let m = length is / n in
      map-take (column X F) m (drop (m * i) is)
      ∙ ap (take m) (map-drop (column X F) (m * i) is)
      ∙ ap (λ l. take (l / n) (drop ((l / n) * i) (columns X F is)))
      (sym (length-map is (column X F)))

  parts_natural :
      (n i : ℕ) (iss : List (List ℕ)) →
      map (columns X F) (map (part n i) iss) ≡ map (part n i) (map (columns X F) iss)
  parts_natural n i [] = refl
  parts_natural n i (is ∷ iss) = cc (part_natural n i is, parts_natural n i iss)

module _ (Y : Layout) (X : Inputs) (H : History) (F : List Stream) (agrees : Agrees Y X H F) where
  pub targets_flat :
      (n : Node) (p : Path) (x : Name) → H.columns p x ≡ targeted X F (targets Y n p x)
  targets_flat n p x =
      agrees.columns p x ∙ sym (map-maps (λ (t : Target). column X F t.place) (λ i. record
      { place = i; clock = flat_clock Y p (declared_clock n x) }) _)

  -- ## The inputs of one instance

  pub received_sound :
      (callee : Node) (p : Path) (ds : List Declaration) (iss : List (List ℕ)) →
      AreAsWide H p ds (map (columns X F) iss) → AllMet X F (received Y callee p ds iss) →
      Receives H p ds (map (columns X F) iss)
  received_sound callee p [] [] w h = tt
  received_sound callee p [] (is ∷ iss) w h = absurd w
  received_sound callee p (d ∷ ds) [] w h = absurd w
  received_sound callee p (d ∷ ds) (is ∷ iss) w h =
      let ts = targets Y callee p d.name in
      let flat = targets_flat callee p d.name in
      let as_long : length ts ≡ length is =
      sym (length-map ts (λ t. column X F t.place)) ∙ ap length (sym flat) ∙ w.0
      ∙ length-map is (column X F) in (
        flat ∙ copied_same X F ts is as_long (Every-first (IsMet X F) (copied ts is) _ h),
        received_sound callee p ds iss w.1 (Every-second (IsMet X F) (copied ts is) _ h),
      )

  pub received_holds :
      (callee : Node) (p : Path) (ds : List Declaration) (iss : List (List ℕ)) →
      Receives H p ds (map (columns X F) iss) → AllMet X F (received Y callee p ds iss)
  received_holds callee p [] iss h = tt
  received_holds callee p (d ∷ ds) [] h = tt
  received_holds callee p (d ∷ ds) (is ∷ iss) h =
      Every-append (IsMet X F) (copied _ is) (received Y callee p ds iss)
      (copied_holds X F _ is (sym (targets_flat callee p d.name) ∙ h.0))
      (received_holds callee p ds iss h.1)

  -- where the copies hold, an instance that is placed on this clock is joined: it receives `args`
  callee_sound :
      (here : Instance) (k : Clock) (p : Path) (callee : Node) (iss : List (List ℕ))
      (args : List (List Stream)) → map (columns X F) iss ≡ args →
      IsCalleePlaced Y H here k p callee args →
      AllMet X F (received Y callee p callee.inputs iss) →
      (H.ticks p ≡ presence H here.path k) × Receives H p callee.inputs args
  callee_sound here k p callee iss args e w h = (
    agrees.ticks p ∙ ap (instants X F) w.runs ∙ sym (presence_flat Y X H F agrees here.path k),
    subst (Receives H p callee.inputs) e
        (received_sound callee p callee.inputs iss
        (subst (AreAsWide H p callee.inputs) (sym e) w.as_wide) h),
  )

  callee_holds :
      (p : Path) (callee : Node) (iss : List (List ℕ)) (args : List (List Stream)) →
      map (columns X F) iss ≡ args → Receives H p callee.inputs args →
      AllMet X F (received Y callee p callee.inputs iss)
  callee_holds p callee iss args e j =
      received_holds callee p callee.inputs iss (subst (Receives H p callee.inputs) (sym e) j)

  -- ## What goes into instances, and what comes out of them

  accumulated_natural :
      (p : Path) (call : ℕ) (outs : List Declaration) (init : List ℕ) (i : ℕ) →
      columns X F (accumulated (λ i x. Y.places (Child p call i) x) outs init i)
      ≡ accumulated (λ i x. H.columns (Child p call i) x) outs (columns X F init) i
  accumulated_natural p call [] init i = refl
  accumulated_natural p call (o ∷ outs) init zero = refl
  accumulated_natural p call (o ∷ outs) init (suc i) = sym (agrees.columns (Child p call i) o.name)

  inputs_natural :
      (p : Path) (call m : ℕ) (it : ArrayIterator) (outs : List Declaration)
      (iss : List (List ℕ)) (i : ℕ) →
      map (columns X F) (iterator_inputs (λ i x. Y.places (Child p call i) x) m it outs iss i)
      ≡ iterator_inputs (λ i x. H.columns (Child p call i) x) m it outs (map (columns X F) iss) i
  inputs_natural p call m Map outs iss i = parts_natural X F m i iss
  inputs_natural p call m Red outs [] i = refl
  inputs_natural p call m Fill outs [] i = refl
  inputs_natural p call m Red outs (init ∷ iss) i =
      cc (accumulated_natural p call outs init i, parts_natural X F m i iss)
  inputs_natural p call m Fill outs (init ∷ iss) i = cc (accumulated_natural p call outs init i)

  gathered_flat :
      (p : Path) (call n : ℕ) (outs : List Declaration) →
      columns X F (gathered (λ i x. Y.places (Child p call i) x) n outs)
      ≡ gathered (λ i x. H.columns (Child p call i) x) n outs
  gathered_flat p call n outs =
      sym (map-pieces (column X F) _ _ (λ o. map-pieces (column X F) _ _
      (λ i. agrees.columns (Child p call i) o.name) _) outs)

  last_flat :
      (p : Path) (call n : ℕ) (outs : List Declaration) →
      columns X F (last_of (λ i x. Y.places (Child p call i) x) n outs)
      ≡ last_of (λ i x. H.columns (Child p call i) x) n outs
  last_flat p call n [] = refl
  last_flat p call n (o ∷ outs) = sym (agrees.columns (Child p call (n - 1)) o.name)

  pub iterated_flat :
      (p : Path) (call n : ℕ) (it : ArrayIterator) (outs : List Declaration) →
      columns X F (iterated (λ i x. Y.places (Child p call i) x) n it outs)
      ≡ iterated (λ i x. H.columns (Child p call i) x) n it outs
  iterated_flat p call n Map outs = gathered_flat p call n outs
  iterated_flat p call n Red outs = last_flat p call n outs
  iterated_flat p call n Fill outs =
      map-append (column X F) (last_of (λ i x. Y.places (Child p call i) x) n outs)
      (gathered (λ i x. Y.places (Child p call i) x) n (tail_of outs))
      ∙ ap₂ (λ xs ys. xs ++ ys) (last_flat p call n outs) (gathered_flat p call n (tail_of outs))

  -- ## Calls

  module _ (P : Program) (here : Instance) (k : Clock) (n : ℕ) (es : Exprs) where
    pub call_sound :
        (callee : Option Node) (iss : List (List ℕ)) →
        map (columns X F) iss ≡ argument_streams P H here (call_clocks k callee es) (n + 1) es →
        IsCallPlaced Y P H here k n es callee →
        AllMet X F (call_copies Y (Child here.path n 0) callee iss) →
        IsCallJoined P H here k n es callee
    call_sound None iss e w h = tt
    call_sound (Some callee) iss e w h = callee_sound here _ _ _ iss _ e w h

    pub call_holds :
        (callee : Option Node) (iss : List (List ℕ)) →
        map (columns X F) iss ≡ argument_streams P H here (call_clocks k callee es) (n + 1) es →
        IsCallJoined P H here k n es callee →
        AllMet X F (call_copies Y (Child here.path n 0) callee iss)
    call_holds None iss e j = tt
    call_holds (Some callee) iss e j = callee_holds (Child here.path n 0) callee iss _ e j.1

    -- ## Iterators

    module _ (it : ArrayIterator) (m : ℕ) where
      abbrev placed_inputs : Node → List (List ℕ) → ℕ → List (List ℕ)
      placed_inputs callee iss i =
          iterator_inputs (λ i x. Y.places (Child here.path n i) x) m it callee.outputs iss i

      abbrev given_inputs : Node → ℕ → List (List Stream)
      given_inputs callee i =
          iterator_inputs (λ i x. H.columns (Child here.path n i) x) m it callee.outputs
          (all_streams P H here k (n + 1) es) i

      abbrev HoldsAt : Node → List (List ℕ) → ℕ → Type 0
      HoldsAt callee iss i =
          AllMet X F
          (received Y callee (Child here.path n i) callee.inputs (placed_inputs callee iss i))

      abbrev JoinedAt : Node → ℕ → Type 0
      JoinedAt callee i =
          (H.ticks (Child here.path n i) ≡ presence H here.path k)
          × Receives H (Child here.path n i) callee.inputs (given_inputs callee i)

      same_inputs :
          (callee : Node) (iss : List (List ℕ)) →
          map (columns X F) iss ≡ all_streams P H here k (n + 1) es → (i : ℕ) →
          map (columns X F) (placed_inputs callee iss i) ≡ given_inputs callee i
      same_inputs callee iss e i = cc (inputs_natural here.path n m it callee.outputs iss i)

      pub iterator_sound :
          (callee : Option Node) (iss : List (List ℕ)) →
          map (columns X F) iss ≡ all_streams P H here k (n + 1) es →
          IsIteratorPlaced Y P H here k n it m es callee →
          AllMet X F (iterator_copies Y here.path n it m callee iss) →
          IsIteratorJoined P H here k n it m es callee
      iterator_sound None iss e w h = tt
      iterator_sound (Some callee) iss e w h =
          Every-of_range (JoinedAt callee) 0 m (λ i lt.
          subst (JoinedAt callee) (omega arith)
          (callee_sound here k (Child here.path n i) callee (placed_inputs callee iss i) _
          (same_inputs callee iss e i) (w i lt) (at i lt)))
        where
          at : (i : ℕ) → i < m → HoldsAt callee iss i
          at i lt =
              subst (HoldsAt callee iss) (omega arith)
              (Every-range (HoldsAt callee iss) 0 m i
              (Every-piece (IsMet X F) _ (range_with_len 0 m) h) lt)

      pub iterator_holds :
          (callee : Option Node) (iss : List (List ℕ)) →
          map (columns X F) iss ≡ all_streams P H here k (n + 1) es →
          IsIteratorJoined P H here k n it m es callee →
          AllMet X F (iterator_copies Y here.path n it m callee iss)
      iterator_holds None iss e j = tt
      iterator_holds (Some callee) iss e j =
          Every-of_pieces (IsMet X F) _ (range_with_len 0 m)
          (Every-of_range (HoldsAt callee iss) 0 m (λ i lt.
          subst (HoldsAt callee iss) (omega arith)
          (callee_holds (Child here.path n i) callee (placed_inputs callee iss i) _
          (same_inputs callee iss e i) (at i lt).1)))
        where
          at : (i : ℕ) → i < m → JoinedAt callee i
          at i lt = subst (JoinedAt callee) (omega arith) (Every-range (JoinedAt callee) 0 m i j lt)
