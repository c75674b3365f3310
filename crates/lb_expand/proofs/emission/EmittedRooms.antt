-- The effects of a term's forms, and the new numbers that they take.
use Rattle.lb_expand.proofs.Words
use Words.{And, ApplyBinary, ApplyUnary, BinaryOperator, Bool, Boolean, Box, Choose, Clock, ClockId}
use Words.{Constant, Context, Cursor, ElementId, Emitted, FirstThen, FlatClock, Global, Latest}
use Words.{List, Map, Not, Operation, Option, Or, Previous, Sample, State, Term, TermEmission}
use Words.{UnaryOperator, VariableId, Vec, [], above, ap, append-nil, ap₂, arith, chained, choose}
use Words.{clock_of, drop, drop-append-le, drop-append_seam, drop-drop, drop_min, drop_more, each}
use Words.{emit_at_most_one, emit_nor, emitted_of, false, first_value, get_or, gives, keep, length}
use Words.{length-append, length-drop, length-map, length-take-le, map, memory, min, min-le_right}
use Words.{numbers_of, on_three, on_top, on_two, onto, pairs, push, red, refl, slice_range, subst}
use Words.{suc, sym, symbol, take, take-append-drop, take-append-le, take_min, twice, with_all}
use Words.{with_one, with_two, without, zero, zip2, ℕ, ◌*◌, ◌++◌, ◌+◌, ◌-◌, ◌<◌, ◌^◌, ◌∙◌, ◌∷◌, ◌≡◌}
use Words.{◌≤◌}
use Rattle.lb_expand.proofs.emission.EmittedStacks.{added_none, length_of_part, numbers_many}
use Rattle.lb_expand.proofs.emission.{EmittedStacks.without_operands, TermSteps.next_of_add}
use Rattle.lb_static.specs.declared.resolved.Term.{Array, Arrow, AtMostOne, Binary, Current, Fby}
use Rattle.lb_static.specs.declared.resolved.Term.{Join, Nor, Pre, Unary, When}
use Rattle.std.proofs.lemmas.List.{drop-take, take-take}
use Rattle.lb_flat.specs.Flat as flat

-- The effect of a term on its operands, form by form, in the words of the code that expands
-- resolved terms.

-- ## One operand

-- ## Two operands

module _ (ctx : Context) (at : Cursor) {t : Term} {a b : Box Term Global} where
  pub fby_form : {k : FlatClock} → t ≡ Fby a b → k ≡ ctx.clock at.term → (xs : List ℕ)
      (y : Emitted) →
      with_two ctx at t xs y
      ≡ pairs k (FirstThen false) xs (memory k (Previous first_value) y)
  fby_form is clock xs y = rw (is, clock) refl

  pub join_form : t ≡ Join a b → (xs : List ℕ) (y : Emitted) →
      with_two ctx at t xs y ≡ gives y.state (xs ++ y.found)
  join_form is xs y = rw is refl

pub two_form : (from middle : ℕ) (f g : List ℕ → Emitted → Emitted) (x : Emitted) →
    ((xs : List ℕ) (z : Emitted) → f xs z ≡ g xs z) →
    on_two from middle g x ≡ on_two from middle f x
two_form from middle f g x is = cc (is (slice_range x.found from middle) (above middle x))

-- a list is its part before `from`, its part from `from` to `middle`, and the rest
pub three_parts : (from middle : ℕ) (all : List ℕ) → from ≤ middle →
    take from all ++ (slice_range all from middle ++ drop middle all) ≡ all
three_parts from middle all le =
    let rest = drop from all in
    let sum : from + (middle - from) ≡ middle = omega (arith, le) in
    let skip : drop (middle - from) rest ≡ drop middle all =
    cc (drop-drop (middle - from) from all) in
    cc (take-append-drop (middle - from) rest, take-append-drop from all)

drop_take : (m n : ℕ) (xs : List ℕ) → m ≤ n → drop m (take n xs) ≡ take (n - m) (drop m xs)
drop_take m n xs le =
    let sum : n ≡ m + (n - m) = omega (arith, le) in
    ap (λ k. drop m (take k xs)) sum ∙ drop-take m (n - m) xs

part_below : (m n : ℕ) (xs ys : List ℕ) → m ≤ n → n ≤ length xs →
    slice_range (take n xs ++ ys) m n ≡ slice_range xs m n
part_below m n xs ys le within =
    let size : length (take n xs) ≡ n = length-take-le n xs within in
    let a = drop-append-le m (take n xs) ys (omega (arith, size, le)) in
    let left = length-drop m (take n xs) in
    let b = take-append-le (n - m) (drop m (take n xs)) ys (omega (arith, left, size)) in
    ap (take (n - m)) a ∙ b
    ∙ ap (take (n - m)) (drop_take m n xs le)
    ∙ take-take (n - m) (n - m) (drop m xs) (omega arith)

-- a word on the second operand, and then one on both, is one word on both
pub pairs_after :
    (k : FlatClock) (f : ℕ → ℕ → flat.Operation) (g : Emitted → Emitted) (from middle : ℕ)
    (x y : Emitted) → from ≤ middle → middle ≤ length x.found → y ≡ on_top middle g x →
    on_two from middle (pairs k f) y ≡ on_two from middle (λ xs z. pairs k f xs (g z)) x
pairs_after k f g from middle x y le within e =
    let below = take middle x.found in
    let z = g (above middle x) in
    let all = below ++ z.found in
    let size : length below ≡ middle = length-take-le middle x.found within in
    let first : take from all ≡ take from x.found =
    take-append-le from below z.found (omega (arith, size, le))
    ∙ take-take from middle x.found le in
    let second : slice_range all from middle ≡ slice_range x.found from middle =
    part_below from _ _ _ le within in
    let third : drop middle all ≡ z.found = cc (drop-append_seam below z.found) in
    cc

-- ## A row

pub array_form : (ctx : Context) (at : Cursor) {t : Term} (es : Vec Term Global) → t ≡ Array es →
    (r : Emitted) → with_all ctx at t r ≡ r
array_form ctx at es is r = rw is refl

-- ## A choice, an iterated symbol

take_one : (n i : ℕ) (is : List ℕ) → 0 < n → take n (i ∷ is) ≡ i ∷ take (n - 1) is
take_one zero i is lt = absurd (omega (arith, lt))
take_one (suc n) i is lt =
    let e : suc n - 1 ≡ n = omega arith in ap (λ m. i ∷ take m is) (sym e)

-- the first element of the condition chooses between the two other operands
pub chosen_is :
    (k : FlatClock) (from second third c : ℕ) (x y z : Emitted) → from < second → second ≤ third →
    third ≤ length x.found → c ≡ get_or x.found from 0 →
    y ≡ on_two second third (pairs k (Choose c)) x → z ≡ without from second y →
    z ≡ on_three from second third (choose k) x
chosen_is k from second third c x y z lt le within is e f =
    let all = x.found in
    let cs = slice_range all from second in
    let xs = slice_range all second third in
    let ys = drop third all in
    let below = take second all in
    let size : length below ≡ second = length-take-le second all (omega (arith, le, within)) in
    let new = pairs k (Choose c) xs (gives x.state ys) in
    let gone : without from second (onto below new) ≡ onto (take from below) new =
    cc (without_operands from below new (omega (arith, size, lt))) in
    let first : cs ≡ c ∷ take (second - from - 1) (drop (from + 1) all) =
    cc (
      drop_more all from 0 (omega (arith, lt, le, within)),
      take_one (second - from) _
          (drop (from + 1) all) (omega (arith, lt)),
    ) in
    cc (take-take from second all (omega (arith, lt)))

-- a condition without elements chooses nothing
pub none_chosen :
    (k : FlatClock) (from second third : ℕ) (x y : Emitted) → from ≡ second →
    y ≡ gives x.state (take from x.found) → y ≡ on_three from second third (choose k) x
none_chosen k from second third x y same e =
    let all = x.found in
    let rest = gives x.state (drop third all) in
    let empty : slice_range all from second ≡ [] = cc (none_between from second same) in
    let none : choose k [] (slice_range all second third) rest ≡ gives x.state [] =
    added_none k _ in
    cc (append-nil (take from all))
  where
    none_between : (m n : ℕ) → m ≡ n → n - m ≡ 0
    none_between m n e = omega (arith, e)

-- a symbol over two arrays pairs the first n elements with the others
pub map_is :
    (k : FlatClock) (op : BinaryOperator) (from middle n : ℕ) (x : Emitted) →
    from ≤ length x.found → middle ≡ from + min n (length x.found - from) →
    on_two from middle (pairs k (ApplyBinary op)) x
    ≡ on_top from (symbol k op n Map) x
map_is k op from middle n x le is =
    let all = x.found in
    let rest = drop from all in
    let size = length-drop from all in
    let first : slice_range all from middle ≡ take n rest =
    ap (λ m. take m rest) (gap from middle (min n (length all - from)) is)
    ∙ ap (λ m. take (min n m) rest) (sym size) ∙ take_min n rest in
    let second : drop middle all ≡ drop n rest =
    ap (λ m. drop m all) is ∙ sym (drop-drop (min n (length all - from)) from all)
    ∙ ap (λ m. drop (min n m) rest) (sym size) ∙ drop_min n rest in
    ap (onto (take from all))
    (ap₂ (λ (xs ys : List ℕ). pairs k (ApplyBinary op) xs (gives x.state ys)) first second)
  where
    gap : (a b m : ℕ) → b ≡ a + m → b - a ≡ m
    gap a b m e = omega (arith, e)

-- The count of new numbers that each word of emission takes, so that the room of a term is the room
-- of its words.

-- ## Each word

pub each_next : (k : FlatClock) (f : ℕ → Operation) (x : Emitted) →
    (each k f x).state.next ≡ x.state.next + length x.found
each_next k f x =
    let size = length-map x.found f in
    next_of_add k x.state (map f x.found) ∙ ap (λ n. x.state.next + n) size

pub memory_next : (k : FlatClock) (f : ℕ → Operation) (x : Emitted) →
    (memory k f x).state.next ≡ x.state.next + length x.found
unfolding keep
memory_next k f x = each_next k f (keep x)

zip_length : (f : ℕ → ℕ → Operation) (xs ys : List ℕ) →
    length (zip2 f xs ys) ≡ min (length xs) (length ys)
zip_length f [] ys = grind arith
zip_length f (x ∷ xs) [] = grind arith
zip_length f (x ∷ xs) (y ∷ ys) = let h = zip_length f xs ys in grind (arith, h)

pub pairs_next : (k : FlatClock) (f : ℕ → ℕ → Operation) (xs : List ℕ) (y : Emitted) →
    (pairs k f xs y).state.next ≡ y.state.next + min (length xs) (length y.found)
pairs_next k f xs y = cc (next_of_add k y.state (zip2 f xs y.found), zip_length f xs y.found)

pub chained_next : (k : FlatClock) (op : BinaryOperator) (s : State) (init : ℕ) (ys : List ℕ) →
    (chained k op s init ys).state.next ≡ s.next + length ys
unfolding chained
chained_next k op s init [] = omega arith
chained_next k op s init (y ∷ ys) =
    let h = chained_next k op (push k s (ApplyBinary op init y)) s.next ys in omega (arith, h)

pub chained_one : (k : FlatClock) (op : BinaryOperator) (s : State) (init : ℕ) (ys : List ℕ) →
    length (chained k op s init ys).found ≡ 1
unfolding chained
chained_one k op s init [] = refl
chained_one k op s init (y ∷ ys) = chained_one k op (push k s (ApplyBinary op init y)) s.next ys

pub twice_next : (k : FlatClock) (s : State) (any two : ℕ) (xs : List ℕ) →
    (twice k s any two xs).state.next ≡ s.next + 3 * length xs
unfolding twice
twice_next k s any two [] = omega arith
twice_next k s any two (x ∷ xs) =
    let t = push k s (ApplyBinary And any x) in
    let u = push k t (ApplyBinary Or two s.next) in
    let h = twice_next k (push k u (ApplyBinary Or any x)) u.next t.next xs in
    omega (arith, h)

pub twice_one : (k : FlatClock) (s : State) (any two : ℕ) (xs : List ℕ) →
    length (twice k s any two xs).found ≡ 1
unfolding twice
twice_one k s any two [] = refl
twice_one k s any two (x ∷ xs) =
    let t = push k s (ApplyBinary And any x) in
    let u = push k t (ApplyBinary Or two s.next) in
    twice_one k (push k u (ApplyBinary Or any x)) u.next t.next xs

pub nor_next : (k : FlatClock) (s : State) (is : List ℕ) →
    (emit_nor k s is).state.next ≡ s.next + 2 + length is
nor_next k s is =
    let t = push k s (Constant (Boolean false)) in
    let r = chained k Or t s.next is in
    let a = each_next k (ApplyUnary Not) r in
    let b = chained_next k Or t s.next is in
    let d = chained_one k Or t s.next is in
    omega (arith, a, b, d)

pub one_next : (k : FlatClock) (s : State) (is : List ℕ) →
    (emit_at_most_one k s is).state.next ≡ s.next + 2 + 3 * length is
one_next k s is =
    let t = push k s (Constant (Boolean false)) in
    let r = twice k t s.next s.next is in
    let a = each_next k (ApplyUnary Not) r in
    let b = twice_next k t s.next s.next is in
    let d = twice_one k t s.next s.next is in
    omega (arith, a, b, d)

pub red_next : (k : FlatClock) (op : BinaryOperator) (s : State) (is : List ℕ) →
    (red k op s is).state.next ≡ s.next + (length is - 1)
red_next k op s [] = omega arith
red_next k op s (i ∷ is) = let h = chained_next k op s i is in omega (arith, h)

-- ## The room of each word, above the first `from` elements of a stack

-- a clock in a frame is the flat clock of the code, where both have the same table of clocks
pub same_clock :
    {cs ds : List Clock} (i : Option ClockId) {k : FlatClock} → ds ≡ cs → clock_of ds i ≡ k →
    clock_of cs i ≡ k
same_clock i e is = cc

module _ (e : TermEmission) (from : ℕ) where
  abbrev top : Emitted
  top = above from (emitted_of e)

  long : length top.found ≡ length e.found.items - from
  long = omega (arith, length-drop from (numbers_of e.found.items), numbers_many e.found.items)

  -- a word that takes a number for each element of the top has room for them
  pub top_room : {n : ℕ} → n ≡ e.next + length top.found → n < 2 ^ 32 →
      e.next + (length e.found.items - from) < 2 ^ 32
  top_room is lt = omega (arith, long)

  module _ (ctx : Context) (at : Cursor) {t : Term} {a : Box Term Global} where
    -- each word on one operand takes a number for each element of the operand
    pub unary_room : {op : UnaryOperator} → t ≡ Unary op a →
        (with_one ctx at t top).state.next < 2 ^ 32 →
        e.next + (length e.found.items - from) < 2 ^ 32
    unary_room {op} is lt =
        top_room (each_next (ctx.clock at.term) (ApplyUnary op) top) (rw is at lt)

    pub pre_room : t ≡ Pre a → (with_one ctx at t top).state.next < 2 ^ 32 →
        e.next + (length e.found.items - from) < 2 ^ 32
    pre_room is lt =
        top_room (memory_next (ctx.clock at.term) (Previous first_value) top) (rw is at lt)

    pub current_room : t ≡ Current a → (with_one ctx at t top).state.next < 2 ^ 32 →
        e.next + (length e.found.items - from) < 2 ^ 32
    current_room is lt =
        top_room (memory_next (ctx.clock at.term) (Latest first_value) top) (rw is at lt)

    pub when_room : {y : VariableId} {sign : Bool} → t ≡ When a y sign →
        (with_one ctx at t top).state.next < 2 ^ 32 →
        e.next + (length e.found.items - from) < 2 ^ 32
    when_room {y} {sign} is lt =
        top_room (each_next (ctx.sampled y.0 sign) Sample top) (rw is at lt)

  module _ (ctx : Context) (at : Cursor) {t : Term} (es : Vec Term Global) where
    -- the words on a row of truths have room for what they emit
    pub nor_room : t ≡ Nor es → (with_all ctx at t top).state.next < 2 ^ 32 →
        e.next + 2 + (length e.found.items - from) < 2 ^ 32
    nor_room is lt =
        let room = rw is at lt in
        omega (arith, long, nor_next (ctx.clock at.term) top.state top.found, room)

    pub one_room : t ≡ AtMostOne es → (with_all ctx at t top).state.next < 2 ^ 32 →
        e.next + 2 + 3 * (length e.found.items - from) < 2 ^ 32
    one_room is lt =
        let room = rw is at lt in
        omega (arith, long, one_next (ctx.clock at.term) top.state top.found, room)

pub red_room :
    (from most : ℕ) (x : Emitted) (k : FlatClock) (op : BinaryOperator) (z : Emitted) →
    z ≡ red k op x.state (drop from x.found) → z.state.next < most →
    x.state.next + (length x.found - (from + 1)) < most
red_room from most x k op z is lt =
    let size = length-drop from x.found in
    let more = red_next k op x.state (drop from x.found) in
    let same = ap (λ (z : Emitted). z.state.next) is in
    omega (arith, size, more, same, lt)

-- the room of `pairs`: one number for each pair of elements of two operands
pub pairs_room :
    (from middle most : ℕ) (x : Emitted) (k : FlatClock) (f : ℕ → ℕ → Operation) →
    from ≤ middle → middle ≤ length x.found →
    (pairs k f (slice_range x.found from middle) (above middle x)).state.next < most →
    x.state.next + min (middle - from) (length x.found - middle) < most
pairs_room from middle most x k f le within lt =
    let more = pairs_next k f (slice_range x.found from middle) (above middle x) in
    let first = length_of_part x.found from middle within in
    let second = length-drop middle x.found in
    let sizes = ap₂ (λ m n. x.state.next + min m n) first second in
    subst (λ n. n < most) (more ∙ sizes) lt

-- the room of `pairs`, in the code
module _ (e : TermEmission) (from middle : ℕ) (le : from ≤ middle)
    (within : middle ≤ length e.found.items) where
  abbrev both : List ℕ
  both = slice_range (emitted_of e).found from middle

  -- a word that takes a number for each pair of elements has room for them
  two_room :
      {n : ℕ} → n ≡ e.next + min (length both) (length (drop middle (numbers_of e.found.items))) →
      n < 2 ^ 32 → e.next + min (middle - from) (length e.found.items - middle) < 2 ^ 32
  two_room is lt =
      let all = numbers_of e.found.items in
      let size = numbers_many e.found.items in
      let first = length_of_part all from middle (omega (arith, size, within)) in
      omega (arith, size, first, length-drop middle all)

  module _ (ctx : Context) (at : Cursor) {t : Term} {a b : Box Term Global} where
    -- each word on two operands takes a number for each pair of their elements
    pub binary_room : {op : BinaryOperator} → t ≡ Binary op a b →
        (with_two ctx at t both (above middle (emitted_of e))).state.next < 2 ^ 32 →
        e.next + min (middle - from) (length e.found.items - middle) < 2 ^ 32
    binary_room {op} is lt =
        two_room
        (pairs_next (ctx.clock at.term) (ApplyBinary op) both (above middle (emitted_of e)))
        (rw is at lt)

    pub arrow_room : t ≡ Arrow a b →
        (with_two ctx at t both (above middle (emitted_of e))).state.next < 2 ^ 32 →
        e.next + min (middle - from) (length e.found.items - middle) < 2 ^ 32
    arrow_room is lt =
        two_room
        (pairs_next (ctx.clock at.term) (FirstThen false) both (above middle (emitted_of e)))
        (rw is at lt)

-- the room of a choice, where there is a condition
pub choose_room :
    (from second third most : ℕ) (x : Emitted) (k : FlatClock) → from < second → second ≤ third →
    third ≤ length x.found →
    (choose k (slice_range x.found from second) (slice_range x.found second third)
    (above third x)).state.next < most →
    x.state.next + min (third - second) (length x.found - third) < most
choose_room from second third most x k less le within lt =
    let xs = slice_range x.found second third in
    let cs = slice_range x.found from second in
    let size : 0 < length cs =
    let part = length_of_part x.found from second (omega (arith, le, within)) in
    omega (arith, part, less) in
    let one = length_of_part x.found second third within in
    let two = length-drop third x.found in
    let sizes = ap₂ (λ m n. x.state.next + min m n) one two in
    subst (λ n. n < most) (by_first cs xs size ∙ sizes) lt
  where
    by_first : (cs xs : List ℕ) → 0 < length cs →
        (choose k cs xs (above third x)).state.next
        ≡ x.state.next + min (length xs) (length (drop third x.found))
    by_first [] xs lt = absurd (omega (arith, lt))
    by_first (c ∷ cs) xs lt = pairs_next k (Choose c) xs (above third x)

-- the room of an iterated symbol over two arrays
pub map_room :
    (from middle n most : ℕ) (x : Emitted) (k : FlatClock) (op : BinaryOperator) →
    from ≤ length x.found → middle ≡ from + min n (length x.found - from) →
    (symbol k op n Map (above from x)).state.next < most →
    x.state.next + min (middle - from) (length x.found - middle) < most
map_room from middle n most x k op le is lt =
    let same = ap (λ (y : Emitted). y.state.next) (map_is k op from middle n x le is) in
    let right = min-le_right n (length x.found - from) in
    pairs_room from middle most x k (ApplyBinary op) (omega (arith, is))
    (omega (arith, is, right, le)) (subst (λ m. m < most) (sym same) lt)

-- the room of `fby`: a memory of the second operand, and then pairs of both
pub fby_rooms :
    (e : TermEmission) (from middle : ℕ) (k : FlatClock) (z : Emitted) → from ≤ middle →
    middle ≤ length e.found.items →
    (let g = memory k (Previous first_value) in
    let x = emitted_of e in
    z ≡ pairs k (FirstThen false) (slice_range x.found from middle) (g (above middle x)) →
    z.state.next < 2 ^ 32 →
    (e.next + (length e.found.items - middle) < 2 ^ 32)
    × ((let y = on_top middle g x in
    y.state.next + min (middle - from) (length y.found - middle)) < 2 ^ 32))
fby_rooms e from middle k z le under is room =
    let x = emitted_of e in
    let g = memory k (Previous first_value) in
    let y = on_top middle g x in
    let all = length-map e.found.items (λ (a : ElementId). a.0) in
    let within : middle ≤ length x.found = omega (arith, all, under) in
    let lt = subst (λ (z : Emitted). z.state.next < 2 ^ 32) is room in
    let same = ap (λ (z : Emitted). z.state.next)
    (pairs_after k (FirstThen false) g from middle x y le within refl) in
    let one = memory_next k (Previous first_value) (above middle x) in
    let size = length-drop middle x.found in
    let two = pairs_next k (FirstThen false) (slice_range x.found from middle)
    (g (above middle x)) in
    let first : e.next + (length e.found.items - middle) < 2 ^ 32 =
    omega (arith, one, size, two, lt, all) in
    let long : middle ≤ length y.found =
    let a = length-append (take middle x.found) (g (above middle x)).found in
    let b = length-take-le middle x.found within in
    omega (arith, a, b) in (
      first,
      pairs_room from middle (2 ^ 32) y k (FirstThen false) le long
          (subst (λ n. n < 2 ^ 32) (sym same) lt),
    )
