-- What the instances of a call receive and give is the same by the numbers of the callee's
-- variables as by their names. The elements of the operands stand in one list, which is cut by the
-- widths of the inputs.
use Rattle.lb_expand.proofs.Words
use Words.{◌≡◌, ℕ, zero, suc, ◌+◌, ◌-◌, ◌*◌, ◌/◌, ◌<◌, ◌≤◌, Some, List, [], ◌∷◌, ◌++◌, map, length}
use Words.{take, drop, flat_map, refl, sym, ap, ap₂, ◌∙◌, subst, arith, slice_get, range_with_len}
use Words.{mul-div_cancel_left, mul-le-mul_right, drop-append_seam, length-map, length-drop}
use Words.{drop-append-le, ArrayIterator, Map, Red, Fill, joined, part, Name, Declaration, Node}
use Words.{heads_same, tails_same, get_first, get_later, Program, Instance, Path, Child, Site}
use Words.{node_named, declared_clock, accumulated, iterator_inputs, gathered, iterated, outputs_of}
use Words.{count_of, Target, targets, copied, received, call_copies, iterator_copies, Context}
use Words.{input_targets, part_copies, accumulator, index_copies, gathered_at, index_outputs}
use Words.{FlatClock, FlatEquation, Copy, Layout, flat_clock}
use Rattle.lb_expand.proofs.frames.TermPlaces.{IsCallContext}
use Rattle.lb_expand.specs.EmitTerms as terms

-- ## Lists by number

module _ {A D : Type 0} where
  -- a `flat_map` over a range of numbers is one over the items that have these numbers
  pub by_number :
      (f : ℕ → List A) (g : D → List A) (j : ℕ) (ds : List D) →
      ((q : ℕ) (d : D) → slice_get ds q ≡ Some d → f (j + q) ≡ g d) →
      flat_map f (range_with_len j (length ds)) ≡ flat_map g ds
  by_number f g j [] same = refl
  by_number f g j (d ∷ ds) same =
      let first : j + 0 ≡ j = omega arith in
      ap₂ (λ (xs ys : List A). xs ++ ys) (ap f (sym first) ∙ same 0 d refl)
      (by_number f g (j + 1) ds (λ q e at.
      let next : (j + 1) + q ≡ j + suc q = omega arith in ap f next ∙ same (suc q) e at))

  -- functions that agree on each item give the same `flat_map`
  pub each_alike :
      (f g : D → List A) → ((d : D) → f d ≡ g d) → (ds : List D) → flat_map f ds ≡ flat_map g ds
  each_alike f g same [] = refl
  each_alike f g same (d ∷ ds) = cc (same d, each_alike f g same ds)

module _ {A : Type 0} where
  pub range_alike :
      (f g : ℕ → List A) (a n : ℕ) → ((i : ℕ) → i < n → f (a + i) ≡ g (a + i)) →
      flat_map f (range_with_len a n) ≡ flat_map g (range_with_len a n)
  range_alike f g a zero same = refl
  range_alike f g a (suc n) same =
      let first : a + 0 ≡ a = omega arith in
      ap₂ (λ (xs ys : List A). xs ++ ys)
      (subst (λ i. f i ≡ g i) first (same 0 (omega arith)))
      (range_alike f g (a + 1) n (λ i lt.
      let next : a + suc i ≡ (a + 1) + i = omega arith in
      subst (λ j. f j ≡ g j) next (same (suc i) (omega (arith, lt)))))

-- ## Copies

abbrev copy_of : Target → ℕ → FlatEquation
copy_of t j = record { element = t.place; clock = t.clock; operation = Copy j }

pub copied_append :
    (ts us : List Target) (is js : List ℕ) → length ts ≡ length is →
    copied (ts ++ us) (is ++ js) ≡ copied ts is ++ copied us js
copied_append [] us [] js e = refl
copied_append [] us (i ∷ is) js e = absurd (omega (arith, e))
copied_append (t ∷ ts) us [] js e = absurd (omega (arith, e))
copied_append (t ∷ ts) us (i ∷ is) js e = cc (copied_append ts us is js (omega (arith, e)))

-- where `is` has an element for each target, the elements `js` behind it are not copied
pub copied_first :
    (ts : List Target) (is js : List ℕ) → length ts ≤ length is →
    copied ts (is ++ js) ≡ copied ts is
copied_first [] is js le = refl
copied_first (t ∷ ts) [] js le = absurd (omega (arith, le))
copied_first (t ∷ ts) (i ∷ is) js le = cc (copied_first ts is js (omega (arith, le)))

copied_taken :
    (ts : List Target) (n : ℕ) (is : List ℕ) → length ts ≤ n →
    copied ts (take n is) ≡ copied ts is
copied_taken [] n is le = refl
copied_taken (t ∷ ts) zero is le = absurd (omega (arith, le))
copied_taken (t ∷ ts) (suc n) [] le = refl
copied_taken (t ∷ ts) (suc n) (i ∷ is) le = cc (copied_taken ts n is (omega (arith, le)))

copied_end : (qs : List FlatEquation) → qs ++ [] ≡ qs
copied_end [] = refl
copied_end (q ∷ qs) = ap (λ (l : List FlatEquation). q ∷ l) (copied_end qs)

-- `drop n` of `is ++ js` is `js`, where `is` has `n` elements
behind : (n : ℕ) (is js : List ℕ) → length is ≡ n → drop n (is ++ js) ≡ js
behind n is js e = ap (λ m. drop m (is ++ js)) (sym e) ∙ drop-append_seam is js

-- part `i` of an array of `m` parts, each of as many elements as there are targets, is copied
part_copied :
    (ts : List Target) (m i : ℕ) (is rest : List ℕ) → i < m → length is ≡ m * length ts →
    copied ts (drop (length ts * i) (is ++ rest)) ≡ copied ts (part m i is)
part_copied ts m i is rest lt e =
    let w = length ts in
    let own : length is / m ≡ w = ap (λ l. l / m) e ∙ mul-div_cancel_left w (omega (arith, lt)) in
    let within : i + 1 ≤ m = omega (arith, lt) in
    let bound = mul-le-mul_right w within in
    let from = length-drop (w * i) is in
    ap (copied ts) (drop-append-le (w * i) is rest (omega (arith, e, bound)))
    ∙ copied_first ts (drop (w * i) is) rest (omega (arith, e, bound, from))
    ∙ sym (copied_taken ts w (drop (w * i) is) (omega arith))
    ∙ ap (λ q. copied ts (take q (drop (q * i) is))) (sym own)

-- the operands of an iterator of `m` instances are as wide as its inputs ask: an accumulator as
-- wide as its input, and an array `m` times as wide as its input
abbrev pub AreFed : ArrayIterator → ℕ → (inputs operands : List ℕ) → Type 0
AreFed Map m ws ls = ls ≡ map (λ w. m * w) ws
AreFed Red m (w ∷ ws) (l ∷ ls) = (l ≡ w) × (ls ≡ map (λ w. m * w) ws)
AreFed Fill m (w ∷ []) (l ∷ []) = l ≡ w
AreFed it m ws ls = ⊥

-- an iterator with an accumulator has an output for it
abbrev pub HasAccumulator : ArrayIterator → List Declaration → Type 0
HasAccumulator Map outs = Unit {0}
HasAccumulator it (o ∷ outs) = Unit {0}
HasAccumulator it [] = ⊥

module _ (Y : Layout) where
  -- the number of elements of each of these variables
  abbrev pub widths : Path → List Declaration → List ℕ
  widths p ds = map (λ (d : Declaration). length (Y.places p d.name)) ds

  abbrev inputs_at : Node → Path → List Declaration → List Target
  inputs_at callee p ds = flat_map (λ (d : Declaration). targets Y callee p d.name) ds

  abbrev own_targets : FlatClock → List ℕ → List Target
  own_targets k is = map (λ i. record { place = i; clock = k }) is

  pub target_count :
      (callee : Node) (p : Path) (x : Name) →
      length (targets Y callee p x) ≡ length (Y.places p x)
  target_count callee p x =
      length-map (Y.places p x)
      (λ i. let t : Target = record {
        place = i;
        clock = flat_clock Y p (declared_clock callee x);
      } in t)

  -- operands as wide as the inputs are received in one list
  pub received_joined :
      (callee : Node) (p : Path) (ds : List Declaration) (iss : List (List ℕ)) →
      map length iss ≡ widths p ds →
      copied (inputs_at callee p ds) (joined iss) ≡ received Y callee p ds iss
  received_joined callee p [] [] e = refl
  received_joined callee p [] (is ∷ iss) e = cc
  received_joined callee p (d ∷ ds) [] e = cc
  received_joined callee p (d ∷ ds) (is ∷ iss) e =
      copied_append (targets Y callee p d.name) (inputs_at callee p ds) is (joined iss)
      (target_count callee p d.name ∙ sym (heads_same _ _ _ _ e))
      ∙ ap (λ (qs : List FlatEquation). copied (targets Y callee p d.name) is ++ qs)
      (received_joined callee p ds iss (tails_same _ _ _ _ e))

  module _ (P : Program) (here : Instance) (ctx : Context) (c : ℕ) (site : Site)
      (own : IsCallContext Y P here ctx c site) where
    abbrev callee : Node
    callee = own.callee

    abbrev at : ℕ → Path
    at i = Child here.path c i

    -- the targets of input `q` of the instance at index `i`, by number and by name
    input_is :
        (i : ℕ) → i < count_of P here site → (q : ℕ) (d : Declaration) →
        slice_get callee.inputs q ≡ Some d →
        input_targets ctx c i q ≡ targets Y callee (at i) d.name
    input_is i within q d e =
        ap₂ own_targets (own.input i q d within e)
        (own.child i q d (get_first callee.inputs (callee.outputs ++ callee.locals) q d e))

    -- the elements of output `q` of the instance at index `i`, by number and by name
    output_is :
        (i q : ℕ) (d : Declaration) → slice_get callee.outputs q ≡ Some d →
        ctx.child c i (own.parameters.inputs + q) ≡ Y.places (at i) d.name
    output_is i q d e =
        cc (own.child i (length callee.inputs + q) d (get_later callee.inputs (callee.outputs ++
        callee.locals) q ∙ get_first callee.outputs callee.locals q d e))

    inputs_are :
        0 < count_of P here site →
        flat_map (input_targets ctx c 0) (range_with_len 0 own.parameters.inputs)
        ≡ inputs_at callee (at 0) callee.inputs
    inputs_are within =
        cc (by_number (input_targets ctx c 0) (λ (d : Declaration). targets Y callee (at 0) d.name)
        0 callee.inputs (λ q d e. let start : 0 + q ≡ q = omega arith in ap (input_targets ctx c 0)
        start ∙ input_is 0 within q d e))

    -- ## Calls

    -- the copies that the instance of a call receives
    pub call_received :
        (iss : List (List ℕ)) → 0 < count_of P here site →
        map length iss ≡ widths (at 0) callee.inputs →
        terms.call_copies ctx c (ctx.callee c) (joined iss)
        ≡ call_copies Y (at 0) (node_named P site.callee) iss
    call_received iss within e =
        cc (inputs_are within, received_joined callee (at 0) callee.inputs iss e)

    -- the outputs that the instance of a call gives
    pub call_given :
        terms.call_outputs ctx c (ctx.callee c)
        ≡ flat_map (λ o. Y.places (at 0) o.name) (outputs_of P here site.callee)
    call_given =
        cc (by_number (ctx.child c 0) (λ (d : Declaration). Y.places (at 0) d.name)
        own.parameters.inputs callee.outputs (output_is 0))

    -- ## Iterators

    -- the copies of the parts of arrays, which have as many parts as there are instances
    parts_received :
        (m i : ℕ) → i < m → (j : ℕ) (ds : List Declaration) (iss : List (List ℕ)) →
        ((q : ℕ) (d : Declaration) → slice_get ds q ≡ Some d →
        input_targets ctx c i (j + q) ≡ targets Y callee (at i) d.name) →
        map length iss ≡ map (λ w. m * w) (widths (at i) ds) →
        part_copies ctx c m i (range_with_len j (length ds)) (joined iss)
        ≡ received Y callee (at i) ds (map (part m i) iss)
    parts_received m i lt j [] [] same e = refl
    parts_received m i lt j [] (is ∷ iss) same e = cc
    parts_received m i lt j (d ∷ ds) [] same e = cc
    parts_received m i lt j (d ∷ ds) (is ∷ iss) same e =
        let ts = targets Y callee (at i) d.name in
        let first : j + 0 ≡ j = omega arith in
        let is_first = ap (input_targets ctx c i) (sym first) ∙ same 0 d refl in
        let long : length is ≡ m * length ts =
        heads_same _ _ _ _ e ∙ ap (λ w. m * w) (sym (target_count callee (at i) d.name)) in
        let rest = range_with_len (j + 1) (length ds) in
        ap (λ (ts : List Target).
        copied ts (drop (length ts * i) (is ++ joined iss))
        ++ part_copies ctx c m i rest (drop (length ts * m) (is ++ joined iss))) is_first
        ∙ ap₂ (λ (qs : List FlatEquation) (js : List ℕ). qs ++ part_copies ctx c m i rest js)
        (part_copied ts m i is (joined iss) lt long)
        (behind (length ts * m) is (joined iss) (omega (arith, long)))
        ∙ ap (λ (qs : List FlatEquation). copied ts (part m i is) ++ qs)
        (parts_received m i lt (j + 1) ds iss (λ q e at.
        let next : (j + 1) + q ≡ j + suc q = omega arith in
        ap (input_targets ctx c i) next ∙ same (suc q) e at) (tails_same _ _ _ _ e))

    -- the copies of the accumulator that the instance at an index receives
    accumulator_received :
        (i : ℕ) (ts : List Target) (o : Declaration) (outs : List Declaration)
        (init rest : List ℕ) → length init ≡ length ts →
        ((j : ℕ) → ctx.child c j own.parameters.inputs ≡ Y.places (at j) o.name) →
        copied ts (accumulator ctx c own.parameters i (init ++ rest))
        ≡ copied ts (accumulated (λ j x. Y.places (at j) x) (o ∷ outs) init i)
    accumulator_received zero ts o outs init rest e given =
        copied_first ts init rest (omega (arith, e))
    accumulator_received (suc i) ts o outs init rest e given = ap (copied ts) (given i)

    -- the copies that the instance at an index receives
    index_received :
        (m i : ℕ) → i < m → (it : ArrayIterator) (ds outs : List Declaration)
        (iss : List (List ℕ)) → own.parameters.inputs ≡ length ds →
        ((q : ℕ) (d : Declaration) → slice_get ds q ≡ Some d →
        input_targets ctx c i q ≡ targets Y callee (at i) d.name) →
        ((j : ℕ) (o : Declaration) → slice_get outs 0 ≡ Some o →
        ctx.child c j own.parameters.inputs ≡ Y.places (at j) o.name) →
        AreFed it m (widths (at i) ds) (map length iss) → HasAccumulator it outs →
        index_copies ctx c m it own.parameters (joined iss) i
        ≡ received Y callee (at i) ds
        (iterator_inputs (λ j x. Y.places (at j) x) m it outs iss i)
    index_received m i lt Map ds outs iss many given gives fed first =
        ap (λ n. part_copies ctx c m i (range_with_len 0 n) (joined iss)) many
        ∙ parts_received m i lt 0 ds iss
        (λ q d e.
        let start : 0 + q ≡ q = omega arith in
        ap (input_targets ctx c i) start ∙ given q d e) fed
    index_received m i lt Red [] outs iss many given gives fed first = absurd fed
    index_received m i lt Red (d ∷ ds) outs [] many given gives fed first = absurd fed
    index_received m i lt Red (d ∷ ds) [] (is ∷ iss) many given gives fed first = absurd first
    index_received m i lt Red (d ∷ ds) (o ∷ outs) (is ∷ iss) many given gives fed first =
        let ts = targets Y callee (at i) d.name in
        let init = accumulated (λ j x. Y.places (at j) x) (o ∷ outs) is i in
        let long : length is ≡ length ts = fed.0 ∙ sym (target_count callee (at i) d.name) in
        let others : own.parameters.inputs - 1 ≡ length ds = omega (arith, many) in
        ap (λ (ts : List Target).
        copied ts (accumulator ctx c own.parameters i (is ++ joined iss))
        ++ part_copies ctx c m i (range_with_len 1 (own.parameters.inputs - 1))
        (drop (length ts) (is ++ joined iss))) (given 0 d refl)
        ∙ ap₂ (λ (qs : List FlatEquation) (js : List ℕ).
        qs ++ part_copies ctx c m i (range_with_len 1 (own.parameters.inputs - 1)) js)
        (accumulator_received i ts o outs is (joined iss) long (λ j. gives j o refl))
        (behind (length ts) is (joined iss) long)
        ∙ ap (λ n. copied ts init ++ part_copies ctx c m i (range_with_len 1 n) (joined iss)) others
        ∙ ap (λ (qs : List FlatEquation). copied ts init ++ qs)
        (parts_received m i lt 1 ds iss (λ q e at.
        let next : 1 + q ≡ suc q = omega arith in
        ap (input_targets ctx c i) next ∙ given (suc q) e at) fed.1)
    index_received m i lt Fill [] outs iss many given gives fed first = absurd fed
    index_received m i lt Fill (d ∷ (e ∷ ds)) outs iss many given gives fed first = absurd fed
    index_received m i lt Fill (d ∷ []) outs [] many given gives fed first = absurd fed
    index_received m i lt Fill (d ∷ []) outs (is ∷ (js ∷ iss)) many given gives fed first =
        absurd fed
    index_received m i lt Fill (d ∷ []) [] (is ∷ []) many given gives fed first = absurd first
    index_received m i lt Fill (d ∷ []) (o ∷ outs) (is ∷ []) many given gives fed first =
        let ts = targets Y callee (at i) d.name in
        let init = accumulated (λ j x. Y.places (at j) x) (o ∷ outs) is i in
        ap (λ (ts : List Target). copied ts (accumulator ctx c own.parameters i (is ++ [])))
        (given 0 d refl)
        ∙ accumulator_received i ts o outs is []
        (fed ∙ sym (target_count callee (at i) d.name)) (λ j. gives j o refl)
        ∙ sym (copied_end (copied ts init))

    first_output :
        (j : ℕ) (o : Declaration) → slice_get callee.outputs 0 ≡ Some o →
        ctx.child c j own.parameters.inputs ≡ Y.places (at j) o.name
    first_output j o e =
        let start : own.parameters.inputs ≡ own.parameters.inputs + 0 = omega arith in
        ap (ctx.child c j) start ∙ output_is j 0 o e

    -- the copies that the instances of an iterator receive
    pub iterator_received :
        (it : ArrayIterator) (m : ℕ) (iss : List (List ℕ)) → ctx.repeats c ≡ m →
        m ≡ count_of P here site →
        ((i : ℕ) → i < m → AreFed it m (widths (at i) callee.inputs) (map length iss)) →
        HasAccumulator it callee.outputs →
        terms.iterator_copies ctx c it (ctx.callee c) (joined iss)
        ≡ iterator_copies Y here.path c it m (node_named P site.callee) iss
    iterator_received it m iss times all fed first =
        ap (λ o. terms.iterator_copies ctx c it o (joined iss)) own.found
        ∙ ap (λ m. flat_map (index_copies ctx c m it own.parameters (joined iss))
        (range_with_len 0 m)) times
        ∙ range_alike (index_copies ctx c m it own.parameters (joined iss))
        (λ i. received Y callee (at i) callee.inputs
        (iterator_inputs (λ j x. Y.places (at j) x) m it callee.outputs iss i)) 0 m
        (λ i lt.
        let start : i ≡ 0 + i = omega arith in
        subst (λ i. index_copies ctx c m it own.parameters (joined iss) i
        ≡ received Y callee (at i) callee.inputs
        (iterator_inputs (λ j x. Y.places (at j) x) m it callee.outputs iss i)) start
        (index_received m i lt it callee.inputs callee.outputs iss own.inputs
        (input_is i (omega (arith, all, lt)))
        first_output (fed i lt) first))
        ∙ ap (λ o. iterator_copies Y here.path c it m o iss) (sym own.named)

    -- the outputs from a number on, each with its elements instance by instance
    gathered_is :
        (m from : ℕ) (outs : List Declaration) →
        ((j q : ℕ) (o : Declaration) → slice_get outs q ≡ Some o →
        ctx.child c j (from + q) ≡ Y.places (at j) o.name) →
        gathered_at ctx c m (range_with_len from (length outs))
        ≡ gathered (λ j x. Y.places (at j) x) m outs
    gathered_is m from outs given =
        by_number (λ x. flat_map (λ i. ctx.child c i x) (range_with_len 0 m))
        (λ (o : Declaration). flat_map (λ i. Y.places (at i) o.name) (range_with_len 0 m)) from
        outs (λ q o e. each_alike (λ i. ctx.child c i (from + q)) (λ i. Y.places (at i) o.name)
        (λ i. given i q o e) _)

    index_given :
        (it : ArrayIterator) (m : ℕ) (outs : List Declaration) →
        own.parameters.outputs ≡ length outs →
        ((j q : ℕ) (o : Declaration) → slice_get outs q ≡ Some o →
        ctx.child c j (own.parameters.inputs + q) ≡ Y.places (at j) o.name) →
        HasAccumulator it outs →
        index_outputs ctx c m it own.parameters ≡ iterated (λ j x. Y.places (at j) x) m it outs
    index_given Map m outs many given first = cc (gathered_is m own.parameters.inputs outs given)
    index_given Red m [] many given first = absurd first
    index_given Red m (o ∷ outs) many given first =
        let start : own.parameters.inputs ≡ own.parameters.inputs + 0 = omega arith in
        cc (given (m - 1) 0 o refl)
    index_given Fill m [] many given first = absurd first
    index_given Fill m (o ∷ outs) many given first =
        let start : own.parameters.inputs ≡ own.parameters.inputs + 0 = omega arith in
        let others : own.parameters.outputs - 1 ≡ length outs = omega (arith, many) in
        cc (
          given (m - 1) 0 o refl,
          gathered_is m (suc own.parameters.inputs) outs (λ j q d e.
              let next : suc own.parameters.inputs + q ≡ own.parameters.inputs + suc q = omega
              arith in
              ap (ctx.child c j) next ∙ given j (suc q) d e),
        )

    -- the outputs that the instances of an iterator give
    pub iterator_given :
        (it : ArrayIterator) (m : ℕ) → ctx.repeats c ≡ m → HasAccumulator it callee.outputs →
        terms.iterator_outputs ctx c it (ctx.callee c)
        ≡ iterated (λ j x. Y.places (at j) x) m it (outputs_of P here site.callee)
    iterator_given it m times first =
        cc (own.found, index_given it m callee.outputs own.outputs output_is first, own.named)
