-- The words of the code that expands resolved terms which cut, pick and repeat what is on the
-- stack.
use Rattle.lb_expand.proofs.Words
use Words.{◌≡◌, ◌<◌, ◌≤◌, ℕ, zero, suc, ◌+◌, ◌-◌, List, [], ◌∷◌, ◌++◌, length, take, drop, get_or}
use Words.{min, arith, All, sym, ap, ◌∙◌, slice_range, take-map, drop-map, map-append}
use Words.{drop-append-le, take-append-le, take_all, length-drop, append_assoc, append-nil}
use Words.{drop_more, drop_all, All-append, All-take, All-drop, copies, BinaryOperator, ElementId}
use Words.{Emitted, gives, chained, picked, red, FlatClock, numbers_of, onto, without, on_top}
use Rattle.lb_expand.proofs.emission.{EmittedChains.picked_is, EmittedStacks.without_operands}

-- ## Fewer elements, and more

pub numbers_cut : (n : ℕ) (xs : List ElementId) → numbers_of (take n xs) ≡ take n (numbers_of xs)
numbers_cut n xs = let number : ElementId → ℕ = λ a. a.0 in sym (take-map number n xs)

pub elements_cut : (m n : ℕ) (xs : List ElementId) → All (λ a. a.0 < m) xs →
    All (λ a. a.0 < m) (take n xs)
elements_cut m n xs h = let P : ElementId → Type 0 = λ a. a.0 < m in All-take P n xs h

pub numbers_repeated : (from to : ℕ) (xs : List ElementId) →
    numbers_of (xs ++ slice_range xs from to)
    ≡ numbers_of xs ++ slice_range (numbers_of xs) from to
numbers_repeated from to xs =
    let number : ElementId → ℕ = λ a. a.0 in
    map-append number xs (slice_range xs from to)
    ∙ ap (λ (is : List ℕ). numbers_of xs ++ is)
    (sym (take-map number (to - from) (drop from xs))
    ∙ ap (take (to - from)) (sym (drop-map number from xs)))

pub elements_repeated : (m from to : ℕ) (xs : List ElementId) → All (λ a. a.0 < m) xs →
    All (λ a. a.0 < m) (xs ++ slice_range xs from to)
elements_repeated m from to xs h =
    let P : ElementId → Type 0 = λ a. a.0 < m in
    All-append P xs (slice_range xs from to) h
    (All-take P (to - from) (drop from xs) (All-drop P from xs h))

-- ## Some of the elements

pub pick_is :
    (from start count over skip : ℕ) (x y z : Emitted) → from ≤ length x.found →
    over ≡ length x.found - from → skip ≡ min start over → y ≡ without from (from + skip) x →
    z ≡ gives y.state (take (from + min count (over - skip)) y.found) →
    z ≡ on_top from (picked start count) x
pick_is from start count over skip x y z le is skips e f =
    cc (picked_is from start count over skip x.found le is skips)

-- ## Copies of the elements

copies_last : (n : ℕ) (xs : List ℕ) → copies (n + 1) xs ≡ copies n xs ++ xs
copies_last zero xs = append-nil xs
copies_last (suc n) xs =
    let more : suc n + 1 ≡ suc (n + 1) = omega arith in
    cc (copies_last n xs, append_assoc xs (copies n xs) xs)

-- `all ++ more` from `from` to the end of `all` is `drop from all`
part_left : (from : ℕ) (all more : List ℕ) → from ≤ length all →
    slice_range (all ++ more) from (length all) ≡ drop from all
part_left from all more le =
    let size = length-drop from all in
    ap (take (length all - from)) (drop-append-le from all more le)
    ∙ take-append-le (length all - from) (drop from all) more (omega (arith, size))
    ∙ take_all (length all - from) (drop from all) (omega (arith, size))

pub copies_more :
    (from top i : ℕ) (x y z : Emitted) → from ≤ length x.found → top ≡ length x.found →
    y ≡ onto x.found (gives x.state (copies i (drop from x.found))) →
    z ≡ onto y.found (gives y.state (slice_range y.found from top)) →
    z ≡ onto x.found (gives x.state (copies (i + 1) (drop from x.found)))
copies_more from top i x y z le is h e =
    let all = x.found in
    let so = copies i (drop from all) in
    let part : slice_range (all ++ so) from top ≡ drop from all = cc (part_left from all so le) in
    cc (append_assoc all so (slice_range (all ++ so) from top), copies_last i (drop from all))

pub copies_end :
    (from top n i : ℕ) (x y z : Emitted) → from ≤ length x.found → top ≡ length x.found → i ≡ n →
    y ≡ onto x.found (gives x.state (copies i (drop from x.found))) → z ≡ without from top y →
    z ≡ on_top from (λ r. gives r.state (copies n r.found)) x
copies_end from top n i x y z le is all h e =
    cc (without_operands from x.found (gives x.state (copies i (drop from x.found))) le)

-- ## A chain from the first of the elements

pub red_is :
    (k : FlatClock) (op : BinaryOperator) (from init last : ℕ) (x mid y : Emitted) →
    from < length x.found → init ≡ get_or x.found from 0 →
    gives mid.state (last ∷ []) ≡ chained k op x.state init (drop (from + 1) x.found) →
    y ≡ on_top from (λ r. gives r.state (last ∷ [])) mid → mid.found ≡ x.found →
    y ≡ on_top from (λ r. red k op r.state r.found) x
red_is k op from init last x mid y lt is h e same =
    let all = x.found in
    cc (drop_more all from 0 lt)

pub red_none :
    (k : FlatClock) (op : BinaryOperator) (from : ℕ) (x : Emitted) → length x.found ≤ from →
    x ≡ on_top from (λ r. red k op r.state r.found) x
red_none k op from x le =
    let all = x.found in
    ap (λ (is : List ℕ). gives x.state is)
    (sym (take_all from all le) ∙ sym (append-nil (take from all)))
    ∙ ap (λ (is : List ℕ). onto (take from all) (red k op x.state is)) (sym (drop_all from all le))

pub ruleset cuts = (numbers_cut, elements_cut, numbers_repeated, elements_repeated)
