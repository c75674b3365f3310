-- The words of the code that expands resolved terms which keep elements, and which go over them.
use Rattle.lb_expand.proofs.Words
use Words.{◌≡◌, ◌<◌, ◌≤◌, ℕ, ◌+◌, ◌-◌, List, [], ◌∷◌, ◌++◌, false, length, map, take, drop, get_or}
use Words.{min, arith, All, sym, ap, ◌∙◌, append_assoc, append-nil, drop_more, drop_all, take-map}
use Words.{map-append, drop-drop, drop_min, take_min, length-drop, length-take-le, All-take}
use Words.{All-push, BinaryOperator, Or, And, Not, Boolean, ElementId, State, Emitted, gives, push}
use Words.{add, keep, chained, twice, emit_nor, emit_at_most_one, each, memory, FlatClock, Constant}
use Words.{ApplyUnary, ApplyBinary, numbers_of, with_kept, with_asserted, on_top}
use Rattle.{std.proofs.Math.Seq.take-append-add, lb_expand.specs.TermEmissions.kept}
use Rattle.lb_expand.proofs.emission.EmittedStacks.{elements_push, numbers_push}
use Rattle.lb_flat.specs.Flat as flat

-- ## Kept elements

-- a step of the loop that keeps elements: after element i, those from i + 1 on are left
pub keep_more :
    (x y whole : Emitted) (all : List ℕ) (i a : ℕ) → i < length all → y ≡ with_kept x (a ∷ []) →
    a ≡ get_or all i 0 → with_kept x (drop i all) ≡ whole → with_kept y (drop (i + 1) all) ≡ whole
keep_more x y whole all i a lt e at h =
    let rest = drop (i + 1) all in
    let so = x.state.memory_operands in
    let put : List ℕ → Emitted = λ is. record {
      state = record x.state { memory_operands = is };
      found = x.found;
    } in
    cc (append_assoc so (a ∷ []) rest, drop_more all i 0 lt)

pub keep_ends :
    (x whole : Emitted) (all : List ℕ) (i : ℕ) → length all ≤ i →
    with_kept x (drop i all) ≡ whole → x ≡ whole
keep_ends x whole all i le h =
    let put : List ℕ → Emitted = λ is. record {
      state = record x.state { memory_operands = is };
      found = x.found;
    } in
    sym (ap (with_kept x) (drop_all i all le) ∙ ap put (append-nil x.state.memory_operands)) ∙ h

-- a step of the loop that adds assertions: after element i, those from i + 1 on are left
pub assert_more :
    (s t whole : State) (all : List ℕ) (i a : ℕ) → i < length all →
    t ≡ with_asserted s (a ∷ []) → a ≡ get_or all i 0 → with_asserted s (drop i all) ≡ whole →
    with_asserted t (drop (i + 1) all) ≡ whole
assert_more s t whole all i a lt e at h =
    let rest = drop (i + 1) all in
    let put : List ℕ → State = λ is. record s { asserted = is } in
    cc (append_assoc s.asserted (a ∷ []) rest, drop_more all i 0 lt)

pub assert_ends :
    (s whole : State) (all : List ℕ) (i : ℕ) → length all ≤ i →
    with_asserted s (drop i all) ≡ whole → s ≡ whole
assert_ends s whole all i le h =
    let put : List ℕ → State = λ is. record s { asserted = is } in
    sym (ap (with_asserted s) (drop_all i all le) ∙ ap put (append-nil s.asserted)) ∙ h

-- `each` after `kept`, on the elements from `from` on, is `memory`
pub kept_each : (k : FlatClock) (f : ℕ → flat.Operation) (from : ℕ) (x y : Emitted) →
    y ≡ kept from x → on_top from (each k f) y ≡ on_top from (memory k f) x
unfolding keep
kept_each k f from x y e = ap (on_top from (each k f)) e

-- ## The elements in one

pub numbers_replaced : (from : ℕ) (xs : List ElementId) (a : ElementId) →
    numbers_of (take from xs ++ a ∷ []) ≡ take from (numbers_of xs) ++ a.0 ∷ []
numbers_replaced from xs a =
    let number : ElementId → ℕ = λ b. b.0 in
    cc (map-append number (take from xs) (a ∷ []), take-map number from xs)

pub elements_replaced : (n from : ℕ) (xs : List ElementId) (a : ElementId) →
    All (λ a. a.0 < n) xs → a.0 < n → All (λ a. a.0 < n) (take from xs ++ a ∷ [])
elements_replaced n from xs a h lt =
    let P : ElementId → Type 0 = λ b. b.0 < n in
    All-push P (take from xs) a (All-take P from xs h) lt

-- ## Chains

-- a step of a chain: after item i, the chain goes on from a new element with item i + 1
pub chained_more :
    (k : FlatClock) (op : BinaryOperator) (s : State) (any : ℕ) (all : List ℕ) (i d : ℕ) →
    i < length all →
    chained k op s any (drop i all)
    ≡ chained k op (push k s (ApplyBinary op any (get_or all i d))) s.next (drop (i + 1) all)
unfolding chained
chained_more k op s any all i d lt = ap (chained k op s any) (drop_more all i d lt)

pub chained_ends :
    (k : FlatClock) (op : BinaryOperator) (s : State) (any : ℕ) (all : List ℕ) (i : ℕ) →
    length all ≤ i → chained k op s any (drop i all) ≡ gives s (any ∷ [])
unfolding chained
chained_ends k op s any all i le = ap (chained k op s any) (drop_all i all le)

pub chain_step :
    (k j : FlatClock) (op : BinaryOperator) (s t : State) (any last a : ℕ) (all : List ℕ) (i : ℕ)
    (whole : Emitted) → i < length all → chained k op s any (drop i all) ≡ whole →
    t ≡ push j s (ApplyBinary op any a) → j ≡ k → a ≡ get_or all i 0 → last ≡ s.next →
    chained k op t last (drop (i + 1) all) ≡ whole
chain_step k j op s t any last a all i whole lt h e clock at is =
    cc (chained_more k op s any all i 0 lt)

pub twice_more :
    (k : FlatClock) (s : State) (any two : ℕ) (all : List ℕ) (i d : ℕ) → i < length all →
    twice k s any two (drop i all)
    ≡ (let t = push k s (ApplyBinary And any (get_or all i d)) in
    let u = push k t (ApplyBinary Or two s.next) in
    twice k (push k u (ApplyBinary Or any (get_or all i d))) u.next t.next (drop (i + 1) all))
unfolding twice
twice_more k s any two all i d lt = ap (twice k s any two) (drop_more all i d lt)

pub twice_ends :
    (k : FlatClock) (s : State) (any two : ℕ) (all : List ℕ) (i : ℕ) →
    length all ≤ i → twice k s any two (drop i all) ≡ gives s (two ∷ [])
unfolding twice
twice_ends k s any two all i le = ap (twice k s any two) (drop_all i all le)

pub twice_step :
    (k : FlatClock) (s t u v : State) (any two both second last : ℕ) (all : List ℕ) (i : ℕ)
    (whole : Emitted) → i < length all → twice k s any two (drop i all) ≡ whole →
    t ≡ push k s (ApplyBinary And any (get_or all i 0)) → both ≡ s.next →
    u ≡ push k t (ApplyBinary Or two both) → second ≡ t.next →
    v ≡ push k u (ApplyBinary Or any (get_or all i 0)) → last ≡ u.next →
    twice k v last second (drop (i + 1) all) ≡ whole
twice_step k s t u v any two both second last all i whole lt h et eb eu es ev el =
    let x = get_or all i 0 in
    let rest = drop (i + 1) all in
    let g : ℕ → State → State = λ b t. push k t (ApplyBinary Or two b) in
    let is_u : u ≡ g s.next t = cc in
    let one : twice k v last second rest ≡ twice k (push k u (ApplyBinary Or any x)) u.next t.next
    rest = cc in
    cc (twice_more k s any two all i 0 lt)

-- `nor` and `#` are a constant, a chain and a negation, pushed one after another
pub nor_is :
    (k j i : FlatClock) (s first mid last : State) (start any : ℕ) (is js : List ℕ) →
    first ≡ push k s (Constant (Boolean false)) → start ≡ s.next →
    gives mid (any ∷ []) ≡ chained j Or first start js → j ≡ k → js ≡ is →
    last ≡ push i mid (ApplyUnary Not any) → i ≡ j →
    gives last (mid.next ∷ []) ≡ emit_nor k s is
unfolding add
nor_is k j i s first mid last start any is js ef en ec ek found el same =
    let f : Emitted → Emitted = λ r. add k r.state (map (ApplyUnary Not) r.found) in
    cc

pub at_most_one_is :
    (k j i : FlatClock) (s first mid last : State) (start two : ℕ) (is js : List ℕ) →
    first ≡ push k s (Constant (Boolean false)) → start ≡ s.next →
    gives mid (two ∷ []) ≡ twice j first start start js → j ≡ k → js ≡ is →
    last ≡ push i mid (ApplyUnary Not two) → i ≡ j →
    gives last (mid.next ∷ []) ≡ emit_at_most_one k s is
unfolding add
at_most_one_is k j i s first mid last start two is js ef en ec ek found el same =
    let f : Emitted → Emitted = λ r. add k r.state (map (ApplyUnary Not) r.found) in
    cc

-- ## Some of the elements

-- above `from`, what is kept are the `count` elements from the one at `start` on
pub picked_is :
    (from start count over skip : ℕ) (all : List ℕ) → from ≤ length all →
    over ≡ length all - from → skip ≡ min start over →
    take (from + min count (over - skip)) (take from all ++ drop (from + skip) all)
    ≡ take from all ++ take count (drop start (drop from all))
picked_is from start count over skip all le is skips =
    let below = take from all in
    let above = drop from all in
    let picked = drop start above in
    let is_rest : drop (from + skip) all ≡ picked =
    cc (drop-drop skip from all, length-drop from all, drop_min start above) in
    let size : length below ≡ from = length-take-le from all le in
    let long = length-drop from all in
    let gone = length-drop start above in
    let left : over - skip ≡ length picked = left_over start over skip (length picked) skips
    (gone ∙ ap (λ n. n - start) (long ∙ sym is)) in
    cc (take-append-add below picked (min count (length picked)), take_min count picked)
  where
    left_over : (start over skip n : ℕ) → skip ≡ min start over → n ≡ over - start → over - skip ≡ n
    left_over start over skip n e f = grind (arith, e, f)

pub ruleset keeps = (elements_push, numbers_push)

pub ruleset replaces = (numbers_replaced, elements_replaced)
