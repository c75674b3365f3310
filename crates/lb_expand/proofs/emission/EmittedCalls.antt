-- The words of the code that expand calls and the beginning of a flat program.
use Rattle.lb_expand.proofs.Words
use Words.{ArrayIterator, Bool, Callee, Context, ElementId, Emitted, Fill, FlatClock, FlatEquation}
use Words.{List, Map, None, Option, Reached, Red, ResolvedNode, Some, Start, State, Table, Target}
use Words.{[], accumulator, ap, append-nil, append_assoc, ap₂, arith, call, copied, drop}
use Words.{drop-append_seam, drop-drop, drop_all, drop_min, drop_more, elements_of, false, flat_map}
use Words.{flat_map-append, from_inputs, gathered_at, get_or, get_or-map-range_with_len}
use Words.{get_or-range_with_len, gives, if◌then◌else◌, index_copies, index_outputs, input_targets}
use Words.{is_start, iterate, joins, length, length-append, length-drop, length-map}
use Words.{length-map-range_with_len, length-range_with_len, map, min, min-le_right, nat_le}
use Words.{nat_tests, node_at, numbers_of, on_top, onto, option_map, parameter_targets, part_copies}
use Words.{range_with_len, refl, start_from, start_of, suc, sym, take, take-append_seam, targets_of}
use Words.{true, variable_targets, with_copies, zero, ℕ, ◌*◌, ◌++◌, ◌+◌, ◌-◌, ◌<◌, ◌∙◌, ◌∷◌, ◌≡◌}
use Words.{◌≤◌}
use Rattle.lb_expand.proofs.emission.EmittedStacks.{elements_push, equation_pushed, flat_pushed}
use Rattle.lb_expand.proofs.emission.EmittedStacks.{numbers_many, numbers_push}
use Rattle.lb_expand.specs.EmitTerms.{call_copies, call_outputs, iterator_copies, iterator_outputs}
use Rattle.lb_expand.specs.{EmitWhole.input_of, Frames.copy_of}
use Rattle.lb_expand.specs.declared.expansion.frame.Elements.{Elements}
use Rattle.lb_flat.proofs.lists.Lists.{range_last}
use Rattle.std.proofs.lemmas.List.FromFn.{map-range_with_len_more}
use Rattle.lb_static.specs.declared.table.Instance as row

-- ## Numbers in order

pub range_rest : (a n i : ℕ) → i < n →
    drop i (range_with_len a n) ≡ (a + i) ∷ drop (i + 1) (range_with_len a n)
range_rest a n i lt =
    let size = length-range_with_len a n in
    drop_more (range_with_len a n) i 0 (omega (arith, size, lt))
    ∙ ap (λ k. k ∷ drop (i + 1) (range_with_len a n)) (get_or-range_with_len a n i 0 lt)

pub range_left : (n x : ℕ) → x < n →
    drop x (range_with_len 0 n) ≡ x ∷ drop (x + 1) (range_with_len 0 n)
range_left n x lt =
    let zero_x : 0 + x ≡ x = omega arith in
    range_rest 0 n x lt ∙ ap (λ y. y ∷ drop (x + 1) (range_with_len 0 n)) zero_x

pub range_done : (a n i : ℕ) → n ≤ i → drop i (range_with_len a n) ≡ []
range_done a n i le =
    let size = length-range_with_len a n in
    drop_all i (range_with_len a n) (omega (arith, size, le))

-- ## Elements that come on the stack

-- elements `new` put above `so` on the stack make `so ++ new`
pub putting_more :
    (below so new next : List ℕ) (s : State) (x y : Emitted) → x ≡ onto below (gives s so) →
    y ≡ onto x.found (gives x.state new) → so ++ new ≡ next → y ≡ onto below (gives s next)
putting_more below so new next s x y h e is = cc (append_assoc below so new)

-- `a + i`, put above the i numbers from `a` on, makes the i + 1 numbers from `a` on
pub put_more :
    (below : List ℕ) (s : State) (x y : Emitted) (a i e : ℕ) →
    x ≡ onto below (gives s (range_with_len a i)) → y ≡ onto x.found (gives x.state (e ∷ [])) →
    e ≡ a + i → y ≡ onto below (gives s (range_with_len a (i + 1)))
put_more below s x y a i e h put is =
    putting_more below (range_with_len a i) (e ∷ []) (range_with_len a (i + 1)) s x y h put
    (ap (λ e. range_with_len a i ++ e ∷ []) is ∙ sym (range_last a i))

flat_last : (f : ℕ → List ℕ) (a i : ℕ) →
    flat_map f (range_with_len a i) ++ f (a + i) ≡ flat_map f (range_with_len a (i + 1))
flat_last f a i =
    let so = flat_map f (range_with_len a i) in
    sym (ap (flat_map f) (range_last a i)
    ∙ flat_map-append f (range_with_len a i) ((a + i) ∷ [])
    ∙ ap (λ (ys : List ℕ). so ++ ys) (append-nil (f (a + i))))

-- `f (a + i)`, put above the elements of the i numbers from `a` on, makes those of i + 1 numbers
pub put_flat :
    (below : List ℕ) (s : State) (x y : Emitted) (f : ℕ → List ℕ) (a i j k : ℕ)
    (new : List ℕ) → x ≡ onto below (gives s (flat_map f (range_with_len a i))) →
    y ≡ onto x.found (gives x.state new) → new ≡ f j → j ≡ a + i → k ≡ i + 1 →
    y ≡ onto below (gives s (flat_map f (range_with_len a k)))
put_flat below s x y f a i j k new h put is at last =
    let so = flat_map f (range_with_len a i) in
    putting_more below _ new _ s x y h put (ap (λ (ys : List ℕ). so ++ ys) (is ∙ ap f at)
    ∙ flat_last f a i ∙ ap (λ n. flat_map f (range_with_len a n)) (sym last))

-- with a single instance, gathering over all instances gives the elements of each variable
pub flat_single : (f : ℕ → List ℕ) (g : ℕ → ℕ → List ℕ) (xs : List ℕ) →
    ((x : ℕ) → g 0 x ≡ f x) →
    flat_map (λ x. flat_map (λ i. g i x) (range_with_len 0 1)) xs ≡ flat_map f xs
flat_single f g [] h = refl
flat_single f g (x ∷ xs) h = cc (append-nil (g 0 x), h x, flat_single f g xs h)

-- ## Copies

-- after the copies `one`, the copies `left` give the whole
pub copying_more :
    (s t whole : State) (one left before : List FlatEquation) → t ≡ with_copies s one →
    before ≡ one ++ left → with_copies s before ≡ whole → with_copies t left ≡ whole
copying_more s t whole one left before e is h = cc (append_assoc s.copies one left)

pub copying_ends :
    (s whole : State) (left : List FlatEquation) → left ≡ [] → with_copies s left ≡ whole →
    s ≡ whole
copying_ends s whole left is h =
    sym (ap (with_copies s) is
    ∙ ap (λ (qs : List FlatEquation). record s { copies = qs }) (append-nil s.copies)) ∙ h

copied_more :
    (ts : List Target) (js : List ℕ) (i : ℕ) (t : Target) (j : ℕ) → i < length ts →
    i < length js →
    copied (drop i ts) (drop i js)
    ≡ copy_of (get_or ts i t).clock (get_or ts i t).place (get_or js i j)
    ∷ copied (drop (i + 1) ts) (drop (i + 1) js)
copied_more ts js i t j lt more = ap₂ copied (drop_more ts i t lt) (drop_more js i j more)

-- a step of a loop of copies: after the copy of item i, the copies from i + 1 on are left
pub copy_step :
    (k j : FlatClock) (s t whole : State) (first n i e a : ℕ) (js : List ℕ) → i < n →
    i < length js →
    with_copies s (copied (drop i (targets_of k (range_with_len first n))) (drop i js)) ≡ whole →
    t ≡ with_copies s (copy_of j e a ∷ []) → j ≡ k → e ≡ first + i → a ≡ get_or js i 0 →
    with_copies t (copied (drop (i + 1) (targets_of k (range_with_len first n))) (drop (i + 1) js))
    ≡ whole
copy_step k j s t whole first n i e a js lt more h et clock place at =
    let f : ℕ → Target = λ i. record { place = i; clock = k } in
    let ts = targets_of k (range_with_len first n) in
    let size = length-map-range_with_len f first n in
    let rest = copied (drop (i + 1) ts) (drop (i + 1) js) in
    let target = get_or-map-range_with_len f first n i e (f 0) lt (sym place) in
    let one : FlatEquation = copy_of k e a in
    let step : copied (drop i ts) (drop i js) ≡ one ∷ rest = copied_more ts js i (f 0) 0 (rw size
    lt) more ∙ ap₂ (λ (t : Target) (j : ℕ). copy_of t.clock t.place j ∷ rest) target (sym at) in
    copying_more s t whole (one ∷ []) rest (copied (drop i ts) (drop i js))
    (et ∙ ap (λ (k : FlatClock). with_copies s (copy_of k e a ∷ [])) clock) step h

none_copied : (ts : List Target) → copied ts [] ≡ []
none_copied [] = refl
none_copied (t ∷ ts) = refl

copied_done : (ts : List Target) (js : List ℕ) (i : ℕ) → min (length ts) (length js) ≤ i →
    copied (drop i ts) (drop i js) ≡ []
copied_done ts js i h = by (nat_le (length ts) i) refl
  where
    by : (b : Bool) → nat_le (length ts) i ≡ b → copied (drop i ts) (drop i js) ≡ []
    by true e =
        let le : length ts ≤ i = grind (arith, nat_tests) in
        ap (λ (ts : List Target). copied ts (drop i js)) (drop_all i ts le)
    by false e =
        let le : length js ≤ i = grind (arith, nat_tests) in
        ap (copied (drop i ts)) (drop_all i js le) ∙ none_copied (drop i ts)

-- when a loop of copies is at its end, its state is the whole
pub copy_ends :
    (k : FlatClock) (s whole : State) (first n i : ℕ) (js : List ℕ) → min n (length js) ≤ i →
    with_copies s (copied (drop i (targets_of k (range_with_len first n))) (drop i js)) ≡ whole →
    s ≡ whole
copy_ends k s whole first n i js done h =
    let f : ℕ → Target = λ i. record { place = i; clock = k } in
    let size = length-map-range_with_len f first n in
    copying_ends s whole _ (copied_done _ js i (rw size done)) h

-- copies into `ts ++ us` are copies into `ts`, and then copies of the rest into `us`
pub copied_append : (ts us : List Target) (js : List ℕ) →
    copied (ts ++ us) js ≡ copied ts js ++ copied us (drop (length ts) js)
copied_append [] us js = refl
copied_append (t ∷ ts) us [] = none_copied (t ∷ ts ++ us) ∙ sym (none_copied us)
copied_append (t ∷ ts) us (j ∷ js) = cc (copied_append ts us js)

-- skipping n items behind `at` stops at the end of the list
pub skipped : (at n : ℕ) (all : List ℕ) → at ≤ length all →
    drop (at + min n (length all - at)) all ≡ drop n (drop at all)
skipped at n all le =
    cc (drop-drop (min n (length all - at)) at all, length-drop at all, drop_min n (drop at all))

-- a loop of copies over the items of a list, one after the other
module _ {A : Type 0} (f : A → List Target) where
  -- after item `x`, whose targets are the `n` targets `ts`, the items `xs` are left
  pub items_step :
      (s t whole : State) (x : A) (xs ys : List A) (ts : List Target) (n at to : ℕ)
      (olds news : List ElementId) → ys ≡ x ∷ xs → ts ≡ f x → length (f x) ≡ n →
      at ≤ length olds → news ≡ olds →
      with_copies s (copied (flat_map f ys) (drop at (numbers_of olds))) ≡ whole →
      t ≡ with_copies s (copied ts (drop at (numbers_of news))) →
      to ≡ at + min n (length news - at) →
      (with_copies t (copied (flat_map f xs) (drop to (numbers_of olds))) ≡ whole)
      × (to ≤ length olds)
  items_step s t whole x xs ys ts n at to olds news is targets count within same h et place =
      let all = numbers_of olds in
      let many = numbers_many olds in
      let long = ap (λ (es : List ElementId). length es) same in
      let most = min-le_right n (length news - at) in
      let next : to ≡ at + min n (length all - at) =
      place ∙ ap (λ m. at + min n (m - at)) (long ∙ sym many) in
      let one = copied (f x) (drop at all) in
      let rest : drop to all ≡ drop (length (f x)) (drop at all) =
      ap (λ m. drop m all) next ∙ skipped at n all (omega (arith, within, many))
      ∙ ap (λ n. drop n (drop at all)) (sym count) in (
        copying_more s t whole _ _ _
            (et ∙ ap₂ (λ (ts : List Target) (es : List ElementId).
            with_copies s (copied ts (drop at (numbers_of es)))) targets same)
            (ap (λ (ys : List A). copied (flat_map f ys) (drop at all)) is ∙ copied_append _ _ _
            ∙ ap (λ (is : List ℕ). one ++ copied (flat_map f xs) is) (sym rest)) h,
        omega (arith, place, most, long, within),
      )

  pub items_end :
      (s whole : State) (ys : List A) (js : List ℕ) → ys ≡ [] →
      with_copies s (copied (flat_map f ys) js) ≡ whole → s ≡ whole
  items_end s whole ys js is h =
      copying_ends s whole _ (ap (λ (ys : List A). copied (flat_map f ys) js) is) h

module _ (ctx : Context) (c : ℕ) where
  -- an input has as many targets as elements
  pub target_count : (i x : ℕ) → length (input_targets ctx c i x) ≡ length (ctx.child c i x)
  target_count i x =
      length-map (ctx.child c i x) (λ p. record { place = p; clock = ctx.input c i x })

  -- the place in `all` behind the elements that were copied
  skipped_child : (i x at to m : ℕ) (all : List ℕ) → at ≤ length all →
      to ≡ at + min (length (ctx.child c i x) * m) (length all - at) →
      drop to all ≡ drop (length (input_targets ctx c i x) * m) (drop at all)
  skipped_child i x at to m all within place =
      let n = length (ctx.child c i x) in
      cc (skipped at (n * m) all within, target_count i x)

  pub skipped_one : (i x at to : ℕ) (all : List ℕ) → at ≤ length all →
      to ≡ at + min (length (ctx.child c i x)) (length all - at) →
      drop to all ≡ drop (length (input_targets ctx c i x)) (drop at all)
  skipped_one i x at to all within place =
      cc (skipped at (length (ctx.child c i x)) all within, target_count i x)

  -- a step of the loop over the inputs of an instance at an index that receive parts of arrays
  pub part_step :
      (s t whole : State) (m i a len y x at start to : ℕ) (all : List ℕ) → y < len →
      a + y ≡ x → at ≤ length all →
      with_copies s (part_copies ctx c m i (drop y (range_with_len a len)) (drop at all))
      ≡ whole →
      t ≡ with_copies s (copied (input_targets ctx c i x) (drop start all)) →
      start ≡ at + min (length (ctx.child c i x) * i) (length all - at) →
      to ≡ at + min (length (ctx.child c i x) * m) (length all - at) →
      with_copies t (part_copies ctx c m i (drop (y + 1) (range_with_len a len)) (drop to all))
      ≡ whole
  part_step s t whole m i a len y x at start to all lt ex within h et from after =
      let xs = drop (y + 1) (range_with_len a len) in
      let ts = input_targets ctx c i x in
      let one = skipped_child i x at start i all within from in
      let two = skipped_child i x at to m all within after in
      let split : part_copies ctx c m i (drop y (range_with_len a len)) (drop at all) ≡ copied ts
      (drop start all) ++ part_copies ctx c m i xs (drop to all) = cc (range_rest a len y lt) in
      copying_more s t whole _ _ _ et split h

  pub part_ends :
      (s whole : State) (m i a len y at : ℕ) (all : List ℕ) → len ≤ y →
      with_copies s (part_copies ctx c m i (drop y (range_with_len a len)) (drop at all))
      ≡ whole → s ≡ whole
  part_ends s whole m i a len y at all le h =
      copying_ends s whole _ (ap (λ (is : List ℕ). part_copies ctx c m i is (drop at all))
      (range_done a len y le)) h

  pub next_accumulator : (n : Callee) (i : ℕ) (is : List ℕ) → 0 < i →
      accumulator ctx c n i is ≡ ctx.child c (i - 1) n.inputs
  next_accumulator n zero is lt = absurd (omega (arith, lt))
  next_accumulator n (suc i) is lt =
      let e : suc i - 1 ≡ i = omega arith in ap (λ j. ctx.child c j n.inputs) (sym e)

  -- `red` copies into its accumulator, and then into its inputs for parts of arrays
  pub red_copied :
      (s t u : State) (m i at to : ℕ) (n : Callee) (all : List ℕ) → at ≤ length all →
      t ≡ with_copies s (copied (input_targets ctx c i 0) (accumulator ctx c n i (drop at all))) →
      u ≡ with_copies t (part_copies ctx c m i (range_with_len 1 (n.inputs - 1)) (drop to all)) →
      to ≡ at + min (length (ctx.child c i 0)) (length all - at) →
      u ≡ with_copies s (index_copies ctx c m Red n (drop at all) i)
  red_copied s t u m i at to n all within et eu place =
      let one = copied (input_targets ctx c i 0) (accumulator ctx c n i (drop at all)) in
      let xs = range_with_len 1 (n.inputs - 1) in
      let rest = skipped_one i 0 at to all within place in
      cc (append_assoc s.copies one (part_copies ctx c m i xs
      (drop (length (input_targets ctx c i 0)) (drop at all))))

  -- the outputs of an iterated node, for each iterator
  pub map_outputs : (m first end : ℕ) (it : ArrayIterator) (n : Callee) → it ≡ Map →
      first ≡ n.inputs → end ≡ n.inputs + n.outputs → m ≡ ctx.repeats c →
      gathered_at ctx c m (range_with_len first (end - first))
      ≡ index_outputs ctx c (ctx.repeats c) it n
  map_outputs m first end it n is from to count =
      let size : end - first ≡ n.outputs = omega (arith, from, to) in
      cc

  pub red_outputs : (m k first : ℕ) (is : List ℕ) (it : ArrayIterator) (n : Callee) → it ≡ Red →
      first ≡ n.inputs → k ≡ m - 1 → m ≡ ctx.repeats c → is ≡ ctx.child c k first →
      is ≡ index_outputs ctx c (ctx.repeats c) it n
  red_outputs m k first is it n form from last count same = cc

  pub fill_outputs :
      (m k first end : ℕ) (is : List ℕ) (it : ArrayIterator) (n : Callee) → it ≡ Fill →
      first ≡ n.inputs → end ≡ n.inputs + n.outputs → k ≡ m - 1 → m ≡ ctx.repeats c →
      is ≡ ctx.child c k first →
      is ++ gathered_at ctx c m (range_with_len (first + 1) (end - (first + 1)))
      ≡ index_outputs ctx c (ctx.repeats c) it n
  fill_outputs m k first end is it n form from to last count same =
      let size : end - (first + 1) ≡ n.outputs - 1 = omega (arith, from, to) in
      let next : first + 1 ≡ suc n.inputs = omega (arith, from) in
      cc

  -- a call or an iterated node: its operands are copied and dropped, and its outputs are put
  pub call_done :
      (from : ℕ) (n : Callee) (x y z : Emitted) (t : State) (found : List ℕ) (end : ℕ) →
      ctx.callee c ≡ Some n →
      t ≡ with_copies x.state (copied (flat_map (input_targets ctx c 0)
      (range_with_len 0 n.inputs)) (drop from x.found)) →
      y ≡ gives t (take from found) → found ≡ x.found → end ≡ n.inputs + n.outputs →
      z ≡ onto y.found (gives y.state
      (gathered_at ctx c 1 (range_with_len n.inputs (end - n.inputs)))) →
      z ≡ on_top from (call ctx c) x
  unfolding joins
  call_done from n x y z t found end is et cut same to put =
      let size : end - n.inputs ≡ n.outputs = omega (arith, to) in
      cc (flat_single (ctx.child c 0) (ctx.child c) _ (λ x. refl))

  pub iterate_done :
      (from : ℕ) (it : ArrayIterator) (n : Callee) (x y z : Emitted) (t : State)
      (found : List ℕ) → ctx.callee c ≡ Some n →
      t ≡ with_copies x.state (flat_map (index_copies ctx c (ctx.repeats c) it n
      (drop from x.found)) (range_with_len 0 (ctx.repeats c))) →
      y ≡ gives t (take from found) → found ≡ x.found →
      z ≡ onto y.found (gives y.state (index_outputs ctx c (ctx.repeats c) it n)) →
      z ≡ on_top from (iterate ctx c it) x
  unfolding joins
  iterate_done from it n x y z t found is et cut same put =
      let outs = index_outputs ctx c (ctx.repeats c) it n in
      put ∙ ap (λ (y : Emitted). onto y.found (gives y.state outs)) cut
      ∙ ap₂ (λ (t : State) (is : List ℕ). onto (take from is) (gives t outs)) et same
      ∙ ap (λ (o : Option Callee). onto (take from x.found)
      (joins x.state (iterator_copies ctx c it o (drop from x.found))
      (iterator_outputs ctx c it o))) (sym is)

  -- a call without callee drops its operands
  pub nothing_called : (from : ℕ) (x y : Emitted) → ctx.callee c ≡ None →
      y ≡ gives x.state (take from x.found) → y ≡ on_top from (call ctx c) x
  unfolding joins
  nothing_called from x y is e =
      e ∙ ap₂ (λ (qs : List FlatEquation) (is : List ℕ).
      gives (record x.state { copies = qs }) is) (sym (append-nil x.state.copies))
      (sym (append-nil (take from x.found)))
      ∙ ap (λ (o : Option Callee). onto (take from x.found)
      (joins x.state (call_copies ctx c o (drop from x.found)) (call_outputs ctx c o))) (sym is)

  pub nothing_iterated : (from : ℕ) (it : ArrayIterator) (x y : Emitted) →
      ctx.callee c ≡ None → y ≡ gives x.state (take from x.found) →
      y ≡ on_top from (iterate ctx c it) x
  unfolding joins
  nothing_iterated from it x y is e =
      e ∙ ap₂ (λ (qs : List FlatEquation) (is : List ℕ).
      gives (record x.state { copies = qs }) is) (sym (append-nil x.state.copies))
      (sym (append-nil (take from x.found)))
      ∙ ap (λ (o : Option Callee). onto (take from x.found)
      (joins x.state (iterator_copies ctx c it o (drop from x.found))
      (iterator_outputs ctx c it o))) (sym is)

-- a step of the loop over indices: after the copies of index i, those from i + 1 on are left
pub index_step :
    (s t whole : State) (f : ℕ → List FlatEquation) (i n : ℕ) → i < n →
    with_copies s (flat_map f (drop i (range_with_len 0 n))) ≡ whole → t ≡ with_copies s (f i) →
    with_copies t (flat_map f (drop (i + 1) (range_with_len 0 n))) ≡ whole
index_step s t whole f i n lt h e =
    let rest = drop (i + 1) (range_with_len 0 n) in
    let zero_i : 0 + i ≡ i = omega arith in
    copying_more s t whole (f i) (flat_map f rest) (flat_map f (drop i (range_with_len 0 n))) e
    (ap (flat_map f) (range_rest 0 n i lt ∙ ap (λ i. i ∷ rest) zero_i)) h

pub ruleset puts = (elements_push, numbers_push)

pub ruleset copies = (equation_pushed, flat_pushed)

-- ## Inputs of the trace

from_inputs_append : (j : ℕ) (ts us : List Target) →
    from_inputs j (ts ++ us) ≡ from_inputs j ts ++ from_inputs (j + length ts) us
from_inputs_append j [] us =
    let same : j ≡ j + 0 = omega arith in cc
from_inputs_append j (t ∷ ts) us =
    let next : suc j + length ts ≡ j + suc (length ts) = omega arith in
    cc (from_inputs_append (suc j) ts us)

-- the copies `one`, and then the copies `new`, are the copies `all`
with_more :
    (s t u : State) (one new all : List FlatEquation) → t ≡ with_copies s one →
    u ≡ with_copies t new → one ++ new ≡ all → u ≡ with_copies s all
with_more s t u one new all h e is = cc (append_assoc s.copies one new)

-- a step of the loop over the elements of an input of the trace
pub give_step :
    (k l : FlatClock) (s t u : State) (first i j e m : ℕ) →
    t ≡ with_copies s (from_inputs j (targets_of k (range_with_len first i))) →
    u ≡ with_copies t (input_of l e m ∷ []) → l ≡ k → e ≡ first + i → m ≡ j + i →
    u ≡ with_copies s (from_inputs j (targets_of k (range_with_len first (i + 1))))
give_step k l s t u first i j e m h step clock place number =
    let f : ℕ → Target = λ i. record { place = i; clock = k } in
    let ts = map f (range_with_len first i) in
    let size = length-map-range_with_len f first i in
    let pieces : from_inputs j (targets_of k (range_with_len first (i + 1))) ≡ from_inputs j ts
    ++ input_of k (first + i) (j + i) ∷ [] = ap (from_inputs j)
    (map-range_with_len_more f first i (first + i) refl) ∙ from_inputs_append j _ _ ∙ ap (λ n.
    from_inputs j ts ++ input_of k (first + i) (j + n) ∷ []) size in
    let one = ap (λ (l : FlatClock). input_of l e m) clock
    ∙ ap₂ (λ e m. input_of k e m) place number in
    with_more s t u _ _ _ h step (ap (λ (q : FlatEquation). from_inputs j ts ++ q ∷ []) one ∙ sym
    pieces)

module _ (ctx : Context) where
  -- the targets of x + 1 parameters: those of x parameters, and then those of variable x
  parameters_more : (x : ℕ) →
      parameter_targets ctx (x + 1) ≡ parameter_targets ctx x ++ variable_targets ctx x
  parameters_more x =
      let f = variable_targets ctx in
      let zero_x : 0 + x ≡ x = omega arith in
      cc (range_last 0 x, flat_map-append f (range_with_len 0 x) (x ∷ []), append-nil (f x))

  start_target_count : (x : ℕ) → length (variable_targets ctx x) ≡ length (ctx.places x)
  start_target_count x =
      length-map (ctx.places x) (λ p. record { place = p; clock = ctx.declared x })

  -- the targets of variable `x`, where the code has its elements and its clock
  pub targets_read :
      (x : ℕ) (places : Elements) (k : FlatClock) → elements_of places ≡ ctx.places x →
      k ≡ ctx.declared x →
      (targets_of k (elements_of places) ≡ variable_targets ctx x)
      × (length (variable_targets ctx x) ≡ places.count)
  targets_read x places k is clock = (
    ap₂ targets_of clock is,
    start_target_count x ∙ ap (λ (is : List ℕ). length is) (sym is)
        ∙ length-range_with_len places.first places.count,
  )

  pub parameters_count : (x : ℕ) →
      length (parameter_targets ctx (x + 1))
      ≡ length (parameter_targets ctx x) + length (ctx.places x)
  parameters_count x =
      ap (λ (ts : List Target). length ts) (parameters_more x)
      ∙ length-append (parameter_targets ctx x) (variable_targets ctx x)
      ∙ ap (λ n. length (parameter_targets ctx x) + n) (start_target_count x)

  parameters_grow : (x k : ℕ) →
      length (parameter_targets ctx x) ≤ length (parameter_targets ctx (x + k))
  parameters_grow x zero =
      let same : x ≡ x + 0 = omega arith in
      let e = ap (λ x. length (parameter_targets ctx x)) same in omega (arith, e)
  parameters_grow x (suc k) =
      let same : x + k + 1 ≡ x + suc k = omega arith in
      let e = ap (λ x. length (parameter_targets ctx x)) same in
      omega (arith, e, parameters_count (x + k), parameters_grow x k)

  pub parameters_within : (x inputs : ℕ) → x < inputs →
      length (parameter_targets ctx (x + 1)) ≤ length (parameter_targets ctx inputs)
  parameters_within x inputs lt =
      let same : x + 1 + (inputs - (x + 1)) ≡ inputs = omega (arith, lt) in
      let e = ap (λ x. length (parameter_targets ctx x)) same in
      omega (arith, e, parameters_grow (x + 1) (inputs - (x + 1)))

  pub given_step :
      (s t u : State) (x j : ℕ) (ts : List Target) →
      t ≡ with_copies s (from_inputs 0 (parameter_targets ctx x)) →
      j ≡ length (parameter_targets ctx x) → u ≡ with_copies t (from_inputs j ts) →
      ts ≡ variable_targets ctx x →
      u ≡ with_copies s (from_inputs 0 (parameter_targets ctx (x + 1)))
  given_step s t u x j ts h number step is =
      let so = parameter_targets ctx x in
      let zero_more : length so ≡ 0 + length so = omega arith in
      with_more s t u _ _ _ h step (ap₂ (λ (n : ℕ) (ts : List Target). from_inputs 0 so
      ++ from_inputs n ts) (number ∙ zero_more) is ∙ sym (ap (from_inputs 0) (parameters_more x)
      ∙ from_inputs_append 0 _ _))

-- ## What the observer receives

-- elements that are put on a stack, copied and dropped leave only their copies
pub observed_done :
    (below ps : List ℕ) (from : ℕ) (ts : List Target) (s t u : State) (mid : Emitted) →
    from ≡ length below → mid ≡ onto below (gives s ps) →
    t ≡ with_copies mid.state (copied ts (drop from mid.found)) → u ≡ t →
    u ≡ with_copies s (copied ts ps)
observed_done below ps from ts s t u mid count put copies same = cc (drop-append_seam below ps)

pub observed_gone :
    (below ps found : List ℕ) (from : ℕ) (s : State) (mid : Emitted) → from ≡ length below →
    mid ≡ onto below (gives s ps) → found ≡ take from mid.found → found ≡ below
observed_gone below ps found from s mid count put h = cc (take-append_seam below ps)

-- ## Rows that start

module _ (r : Reached) (t : Table) (b : Bool) where
  start_more :
      (is : List row.Instance) (j : ℕ) (d : row.Instance) → j < length is →
      start_from r t b j (drop j is)
      ≡ (if is_start b (get_or is j d).origin
      then option_map (start_of j) (node_at r t (get_or is j d))
      else start_from r t b (j + 1) (drop (j + 1) is))
  unfolding start_from
  start_more is j d lt =
      let next : suc j ≡ j + 1 = omega arith in
      cc (drop_more is j d lt)

  start_next : (is : List row.Instance) (j : ℕ) (i d : row.Instance) (c : Bool) → j < length is →
      i ≡ get_or is j d → is_start b i.origin ≡ c →
      start_from r t b j (drop j is)
      ≡ (if c then option_map (start_of j) (node_at r t i)
      else start_from r t b (j + 1) (drop (j + 1) is))
  start_next is j i d c lt e h = cc (start_more is j d lt)

  -- a row that starts nothing is passed over
  pub start_passed :
      (is : List row.Instance) (j : ℕ) (i d : row.Instance) (whole : Option Start) →
      j < length is → i ≡ get_or is j d → is_start b i.origin ≡ false →
      start_from r t b j (drop j is) ≡ whole →
      start_from r t b (j + 1) (drop (j + 1) is) ≡ whole
  start_passed is j i d whole lt e h all = sym (start_next is j i d false lt e h) ∙ all

  -- a row that starts gives its node, if the node is found
  pub start_here :
      (is : List row.Instance) (j : ℕ) (i d : row.Instance) (o : Option ResolvedNode)
      (whole : Option Start) → j < length is → i ≡ get_or is j d →
      is_start b i.origin ≡ true → node_at r t i ≡ o → start_from r t b j (drop j is) ≡ whole →
      option_map (start_of j) o ≡ whole
  start_here is j i d o whole lt e h found all = cc (start_next is j i d true lt e h)

  pub start_end : (is : List row.Instance) (j : ℕ) (whole : Option Start) → length is ≤ j →
      start_from r t b j (drop j is) ≡ whole → None ≡ whole
  unfolding start_from
  start_end is j whole le all = cc (drop_all j is le)
