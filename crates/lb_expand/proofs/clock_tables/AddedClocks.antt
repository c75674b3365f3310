-- Clocks and other pieces that rows add one after another.
use Rattle.lb_expand.proofs.Words
use Words.{◌≡◌, ℕ, suc, ◌+◌, ◌<◌, List, [], ◌∷◌, ◌++◌, length, map, flat_map, take, drop, get_or}
use Words.{refl, ap, sym, ◌∙◌, arith, slice_get, range_with_len, slice_get_within}
use Words.{get_or_from_slice_get, append_assoc, append-nil, length-take-le, map-append, take_more}
use Words.{take-append-drop, flat_map-append, zero, ◌*◌, ◌≤◌, Bool, true, false, Option, None}
use Words.{length-map-range_with_len, get_or-map-range_with_len, get_later, item_at, CallId}
use Words.{ResolvedNode, InstanceId, declared_in, CallClock, sign_place, count_at, ClockId}
use Words.{ElementId, Some, length-append, get_or-append-add, Sources, variable_number, clock_id}
use Words.{found_call, node_at, row_runs, table_runs, caller_number, no_element, own_element}
use Words.{serving_element, row_serving, table_serving, signed_clock, clocks_among}
use Rattle.std.proofs.lemmas.List.{get_or_append_left, get_or_at}
use Rattle.lb_check.specs.declared.own_clock.Clock.{Clock, TheVariants.{Base, On}}
use Rattle.{lb_flat.proofs.lists.Lists.range_last, lb_expand.specs.TableClocks.added_after}
use Rattle.lb_expand.specs.TableClocks.{row_clocks}
use Rattle.lb_static.specs.declared.table.Instance as row
use Rattle.lb_static.specs.declared.table.Origin.TheVariants as origin
use Rattle.lb_flat.specs.declared.equation.Clock as table

-- Lists to which rows add pieces one after another; each piece may depend on what is there before.

-- ## One row more

module _ {A B : Type 0} (piece : ℕ → A → List B → List B) where
  last_added :
      (n : ℕ) (before : List B) (rows : List A) (i : A) →
      added_after piece n before (rows ++ i ∷ [])
      ≡ added_after piece n before rows
      ++ piece (n + length rows) i (added_after piece n before rows)
  last_added n before [] i =
      let same : n ≡ n + 0 = omega arith in cc
  last_added n before (j ∷ rows) i =
      let same : suc n + length rows ≡ n + suc (length rows) = omega arith in
      cc (last_added (suc n) (before ++ piece n j before) rows i)

  -- the first i + 1 rows add the pieces of the first i rows, and then the piece of row i
  pub row_added :
      (rows : List A) (i : ℕ) (d : A) → i < length rows →
      added_after piece 0 [] (take (i + 1) rows)
      ≡ added_after piece 0 [] (take i rows)
      ++ piece i (get_or rows i d) (added_after piece 0 [] (take i rows))
  row_added rows i d lt =
      let long = length-take-le i rows (omega (arith, lt)) in
      let count : 0 + length (take i rows) ≡ i = omega (arith, long) in
      cc (take_more rows i d lt, last_added 0 [] (take i rows) (get_or rows i d))

  -- `row_added` as a step of a loop, from `after` to `more`
  pub next_added :
      (rows : List A) (i : ℕ) (d : A) (after more : List B) → i < length rows →
      after ≡ added_after piece 0 [] (take i rows) →
      more ≡ after ++ piece i (get_or rows i d) after →
      more ≡ added_after piece 0 [] (take (i + 1) rows)
  next_added rows i d after more lt known e = cc (row_added rows i d lt)

  -- `added_after piece n before rows` begins with `before`
  pub first_added :
      (n : ℕ) (before : List B) (rows : List A) →
      (more : List B) × (added_after piece n before rows ≡ before ++ more)
  first_added n before [] = ([], sym (append-nil before))
  first_added n before (i ∷ rows) =
      let new = piece n i before in
      let rest = first_added (suc n) (before ++ new) rows in
      (new ++ rest.0, rest.1 ∙ append_assoc before new rest.0)

  all_added :
      (n : ℕ) (before : List B) (xs ys : List A) →
      added_after piece n before (xs ++ ys)
      ≡ added_after piece (n + length xs) (added_after piece n before xs) ys
  all_added n before [] ys =
      let same : n ≡ n + 0 = omega arith in cc
  all_added n before (i ∷ xs) ys =
      let same : suc n + length xs ≡ n + suc (length xs) = omega arith in
      cc (all_added (suc n) (before ++ piece n i before) xs ys)

  -- what all rows add begins with what the first i rows add
  pub front_added :
      (rows : List A) (i : ℕ) →
      (more : List B)
      × (added_after piece 0 [] rows ≡ added_after piece 0 [] (take i rows) ++ more)
  front_added rows i =
      let xs = take i rows in
      let rest = first_added (0 + length xs) (added_after piece 0 [] xs) (drop i rows) in (
        rest.0,
        ap (added_after piece 0 []) (sym (take-append-drop i rows))
            ∙ all_added 0 [] xs (drop i rows) ∙ rest.1,
      )

  -- the piece of row i stands behind the pieces of the rows before it
  pub split_added :
      (rows : List A) (i : ℕ) (x : A) → slice_get rows i ≡ Some x →
      (more : List B)
      × (added_after piece 0 [] rows
      ≡ added_after piece 0 [] (take i rows)
      ++ (piece i x (added_after piece 0 [] (take i rows)) ++ more))
  split_added rows i x at =
      let done = added_after piece 0 [] (take i rows) in
      let rest = front_added rows (i + 1) in (
        rest.0,
        rest.1
            ∙ ap (λ l. l ++ rest.0) (row_added rows i x (slice_get_within rows i x at)
            ∙ ap (λ y. done ++ piece i y done) (get_or_from_slice_get rows i x x at))
            ∙ append_assoc done (piece i x done) rest.0,
      )

-- ## Pieces made of items

-- `f n`, put behind the items for the numbers below n, makes the items for the numbers below n + 1
pub item_added :
    {B : Type 0} (f : ℕ → B) (before after more : List B) (n : ℕ) →
    after ≡ before ++ map f (range_with_len 0 n) → more ≡ after ++ f n ∷ [] →
    more ≡ before ++ map f (range_with_len 0 (n + 1))
item_added f before after more n known e =
    let start : 0 + n ≡ n = omega arith in
    e ∙ ap (λ l. l ++ f n ∷ []) known
    ∙ append_assoc before (map f (range_with_len 0 n)) (f n ∷ [])
    ∙ ap (λ l. before ++ l)
    (sym (ap (map f) (range_last 0 n ∙ ap (λ m. range_with_len 0 n ++ m ∷ []) start)
    ∙ map-append f (range_with_len 0 n) (n ∷ [])))

-- `item_added` for an `f` that gives a list of items
pub items_added :
    {B : Type 0} (f : ℕ → List B) (before after more : List B) (n : ℕ) →
    after ≡ before ++ flat_map f (range_with_len 0 n) → more ≡ after ++ f n →
    more ≡ before ++ flat_map f (range_with_len 0 (n + 1))
items_added f before after more n known e =
    let start : 0 + n ≡ n = omega arith in
    let done = flat_map f (range_with_len 0 n) in
    e ∙ ap (λ l. l ++ f n) known
    ∙ append_assoc before done (f n)
    ∙ ap (λ l. before ++ l)
    (sym (ap (flat_map f) (range_last 0 n ∙ ap (λ m. range_with_len 0 n ++ m ∷ []) start)
    ∙ flat_map-append f (range_with_len 0 n) (n ∷ [])
    ∙ ap (λ l. done ++ l) (append-nil (f n))))

-- `take (length xs)` of `xs ++ ys` is `xs`
pub front_taken : {B : Type 0} (xs ys zs : List B) → zs ≡ xs ++ ys → take (length xs) zs ≡ xs
front_taken xs ys zs e = ap (take (length xs)) e ∙ front xs ys
  where
    front : {B : Type 0} (xs ys : List B) → take (length xs) (xs ++ ys) ≡ xs
    front [] ys = refl
    front (x ∷ xs) ys = ap (λ l. x ∷ l) (front xs ys)

-- Reads of the clocks that are filled row by row: the clock on which a row runs, the element that
-- serves for a variable, and the two clocks of a variable.

-- ## Pairs

module _ {B : Type 0} (u v : ℕ → B) where
  abbrev pair : ℕ → List B
  pair x = u x ∷ v x ∷ []

  pub pairs_long : (a n : ℕ) → length (flat_map pair (range_with_len a n)) ≡ 2 * n
  pairs_long a zero = omega arith
  pairs_long a (suc n) = let rest = pairs_long (a + 1) n in omega (arith, rest)

  pairs_first :
      (a n : ℕ) (more : List B) (x : ℕ) → x < n → (m : ℕ) → m ≡ 2 * x →
      slice_get (flat_map pair (range_with_len a n) ++ more) m ≡ Some (u (a + x))
  pairs_first a zero more x lt m e = absurd (omega (arith, lt))
  pairs_first a (suc n) more zero lt m e =
      let none : m ≡ 0 = omega (arith, e) in
      let same : a ≡ a + 0 = omega arith in
      cc
  pairs_first a (suc n) more (suc x) lt m e =
      let next : m ≡ suc (suc (2 * x)) = omega (arith, e) in
      let same : (a + 1) + x ≡ a + suc x = omega arith in
      cc (pairs_first (a + 1) n more x (omega (arith, lt)) (2 * x) refl)

  pairs_second :
      (a n : ℕ) (more : List B) (x : ℕ) → x < n → (m : ℕ) → m ≡ 2 * x + 1 →
      slice_get (flat_map pair (range_with_len a n) ++ more) m ≡ Some (v (a + x))
  pairs_second a zero more x lt m e = absurd (omega (arith, lt))
  pairs_second a (suc n) more zero lt m e =
      let one : m ≡ 1 = omega (arith, e) in
      let same : a ≡ a + 0 = omega arith in
      cc
  pairs_second a (suc n) more (suc x) lt m e =
      let next : m ≡ suc (suc (2 * x + 1)) = omega (arith, e) in
      let same : (a + 1) + x ≡ a + suc x = omega arith in
      cc (pairs_second (a + 1) n more x (omega (arith, lt)) (2 * x + 1) refl)

-- ## What is filled

-- where the variables of each row begin: at 0, and then one row after the other
pub record AreCounted (from : Sources) : Type 0 where
  pub first : get_or from.variables 0 0 ≡ 0
  pub next :
      (k : ℕ) → k < length from.table.instances.items →
      get_or from.variables (k + 1) 0 ≡ get_or from.variables k 0 + count_at from.variables k

module _ (from : Sources) (counted : AreCounted from) where
  abbrev rows : List row.Instance
  rows = from.table.instances.items

  abbrev before : ℕ → ℕ
  before k = get_or from.variables k 0

  -- the first k + 1 rows add the pieces of the first k rows, and then the piece of row k
  next_row :
      {B : Type 0} (piece : ℕ → row.Instance → List B → List B) (k : ℕ) (i : row.Instance) →
      slice_get from.table.instances.items k ≡ Some i →
      added_after piece 0 [] (take (suc k) from.table.instances.items)
      ≡ added_after piece 0 [] (take k from.table.instances.items)
      ++ piece k (get_or from.table.instances.items k i)
      (added_after piece 0 [] (take k from.table.instances.items))
  next_row piece k i at =
      let next : suc k ≡ k + 1 = omega arith in
      cc (row_added piece rows k i (slice_get_within rows k i at))

  -- ## The clocks on which rows run

  runs_long :
      (k : ℕ) → k ≤ length from.table.instances.items →
      length (table_runs from (take k from.table.instances.items)) ≡ k
  runs_long zero le = refl
  runs_long (suc k) le =
      let i = item_at rows k (omega (arith, le)) in
      let done = table_runs from (take k rows) in
      let y = row_runs from done (get_or rows k i.0).origin in
      let long = length-append done (y ∷ []) in
      let known = runs_long k (omega (arith, le)) in
      ap length (next_row (λ j i before. row_runs from before i.origin ∷ []) k i.0 i.1)
      ∙ (let all : length (done ++ y ∷ []) ≡ suc k = omega (arith, long, known) in all)

  runs_read :
      (k : ℕ) (i : row.Instance) → slice_get from.table.instances.items k ≡ Some i →
      get_or (table_runs from from.table.instances.items) k None
      ≡ row_runs from (table_runs from (take k from.table.instances.items)) i.origin
  runs_read k i at =
      let s = split_added (λ j i before. row_runs from before i.origin ∷ []) rows k i at in
      let done = table_runs from (take k rows) in
      let within = slice_get_within rows k i at in
      cc (get_or_at done (row_runs from done i.origin) s.0 None k (runs_long k
      (omega (arith, within))))

  runs_before :
      (k j : ℕ) → k ≤ length from.table.instances.items → j < k →
      get_or (table_runs from (take k from.table.instances.items)) j None
      ≡ get_or (table_runs from from.table.instances.items) j None
  runs_before k j le lt =
      let f = front_added (λ j i before. row_runs from before i.origin ∷ []) rows k in
      let long = runs_long k le in
      cc (get_or_append_left (table_runs from (take k rows)) f.0 None j (omega (arith, long, lt)))

  -- a row that is called runs on the clock of its call
  pub runs_called :
      (k : ℕ) (i : row.Instance) → slice_get from.table.instances.items k ≡ Some i →
      (caller : InstanceId) (call : CallId) (index : ℕ) →
      i.origin ≡ origin.Called caller call index → caller.0 < k → (c : CallClock) →
      found_call from.table from.found caller.0 call.0 ≡ Some c →
      get_or (table_runs from from.table.instances.items) k None
      ≡ clock_id from.variables (table_runs from from.table.instances.items) caller.0 c.runs
  runs_called k i at caller call index is lt c found =
      let within = slice_get_within rows k i at in
      cc (runs_read k i at, same_id c.runs (runs_before k caller.0 (omega (arith, within)) lt))
    where
      same_id : (l : Clock) →
          get_or (table_runs from (take k from.table.instances.items)) caller.0 None
          ≡ get_or (table_runs from from.table.instances.items) caller.0 None →
          clock_id from.variables (table_runs from (take k from.table.instances.items)) caller.0 l
          ≡ clock_id from.variables (table_runs from from.table.instances.items) caller.0 l
      same_id Base e = e
      same_id (On x sign) e = refl

  -- a row of the node under test runs on the base clock of the program
  pub runs_first :
      (k : ℕ) (i : row.Instance) → slice_get from.table.instances.items k ≡ Some i →
      i.origin ≡ origin.UnderTest →
      get_or (table_runs from from.table.instances.items) k None ≡ None
  runs_first k i at is = cc (runs_read k i at)

  pub runs_observer :
      (k : ℕ) (i : row.Instance) → slice_get from.table.instances.items k ≡ Some i →
      i.origin ≡ origin.Observer →
      get_or (table_runs from from.table.instances.items) k None ≡ None
  runs_observer k i at is = cc (runs_read k i at)

  -- ## The elements that serve for variables

  abbrev serving_piece : ℕ → row.Instance → List ElementId → List ElementId
  serving_piece j i l = row_serving from j i.origin l

  serving_long :
      (k : ℕ) → k ≤ length from.table.instances.items →
      length (table_serving from (take k from.table.instances.items))
      ≡ get_or from.variables k 0
  serving_long zero le = sym counted.first
  serving_long (suc k) le =
      let i = item_at rows k (omega (arith, le)) in
      let done = table_serving from (take k rows) in
      let o = (get_or rows k i.0).origin in
      let long = length-append done (row_serving from k o done) in
      let own = length-map-range_with_len (serving_element from done k o) 0
      (count_at from.variables k) in
      let known = serving_long k (omega (arith, le)) in
      let next = counted.next k (omega (arith, le)) in
      let count : before (k + 1) ≡ before (suc k) =
      let same : k + 1 ≡ suc k = omega arith in ap before same in
      ap length (next_row serving_piece k i.0 i.1)
      ∙ (let all : length (done ++ row_serving from k o done) ≡ before (suc k) =
      omega (arith, long, own, known, next, count) in all)

  serving_read :
      (k : ℕ) (i : row.Instance) → slice_get from.table.instances.items k ≡ Some i → (x : ℕ) →
      x < count_at from.variables k →
      get_or (table_serving from from.table.instances.items) (get_or from.variables k 0 + x)
      no_element
      ≡ serving_element from (table_serving from (take k from.table.instances.items)) k i.origin x
  serving_read k i at x lt =
      let s = split_added serving_piece rows k i at in
      let done = table_serving from (take k rows) in
      let within = slice_get_within rows k i at in
      let f = serving_element from done k i.origin in
      let n = count_at from.variables k in
      let own = map f (range_with_len 0 n) in
      let long = length-map-range_with_len f 0 n in
      let start : length done ≡ before k = serving_long k (omega (arith, within)) in
      ap (λ l. get_or l (before k + x) no_element) s.1
      ∙ ap (λ m. get_or (done ++ (own ++ s.0)) (m + x) no_element) (sym start)
      ∙ get_or-append-add done (own ++ s.0) x no_element
      ∙ get_or_append_left own s.0 no_element x (omega (arith, long, lt))
      ∙ get_or-map-range_with_len f 0 n x x no_element lt (omega arith)

  -- a variable has its own element, where no variable of its caller is given for it
  pub serving_own :
      (k : ℕ) (i : row.Instance) → slice_get from.table.instances.items k ≡ Some i → (x : ℕ) →
      x < count_at from.variables k → caller_number from i.origin x ≡ None →
      get_or (table_serving from from.table.instances.items) (get_or from.variables k 0 + x)
      no_element
      ≡ own_element from.variables from.starts k x
  serving_own k i at x lt none = cc (serving_read k i at x lt)

  -- else the element that serves for the variable `n` of its caller
  pub serving_given :
      (k : ℕ) (i : row.Instance) → slice_get from.table.instances.items k ≡ Some i → (x : ℕ) →
      x < count_at from.variables k → (n : ℕ) → caller_number from i.origin x ≡ Some n →
      n < get_or from.variables k 0 →
      get_or (table_serving from from.table.instances.items) (get_or from.variables k 0 + x)
      no_element
      ≡ get_or (table_serving from from.table.instances.items) n no_element
  serving_given k i at x lt n some low =
      let f = front_added serving_piece rows k in
      let done = table_serving from (take k rows) in
      let within = slice_get_within rows k i at in
      let long = serving_long k (omega (arith, within)) in
      cc (
        serving_read k i at x lt,
        get_or_append_left done f.0 no_element n (omega (arith, long, low)),
      )

  -- ## The table

  module _ (runs : List (Option ClockId)) (serving : List ElementId)
      (nodes : (k : ℕ) (i : row.Instance) → slice_get from.table.instances.items k ≡ Some i →
      (n : ResolvedNode) × (node_at from.reached from.table i ≡ Some n)) where
    abbrev clock_row : ℕ → row.Instance → List table.Clock
    clock_row j i = row_clocks from.reached from.table from.variables runs serving j i

    abbrev clock_piece : ℕ → row.Instance → List table.Clock → List table.Clock
    clock_piece j i l = clock_row j i

    abbrev clock_for : ℕ → ResolvedNode → Bool → ℕ → table.Clock
    clock_for k n sign x =
        signed_clock (clock_id from.variables runs k (declared_in n (record { 0 = x })))
        (get_or serving (variable_number from.variables k x) no_element) sign

    row_long :
        (k : ℕ) (i : row.Instance) → slice_get from.table.instances.items k ≡ Some i →
        length (clock_row k i) ≡ 2 * count_at from.variables k
    row_long k i at =
        let n = nodes k i at in
        cc (pairs_long (clock_for k n.0 false) (clock_for k n.0 true) 0 (count_at from.variables k))

    -- there are two clocks for each variable of the first rows
    pub clocks_long :
        (k : ℕ) → k ≤ length from.table.instances.items →
        length (clocks_among from runs serving (take k from.table.instances.items))
        ≡ 2 * get_or from.variables k 0
    clocks_long zero le = let none = counted.first in omega (arith, none)
    clocks_long (suc k) le =
        let i = item_at rows k (omega (arith, le)) in
        let done = clocks_among from runs serving (take k rows) in
        let j = get_or rows k i.0 in
        let same : j ≡ i.0 = get_or_from_slice_get rows k i.0 i.0 i.1 in
        let own : length (clock_row k j) ≡ 2 * count_at from.variables k =
        cc (row_long k i.0 i.1) in
        let long = length-append done (clock_row k j) in
        let known = clocks_long k (omega (arith, le)) in
        let next = counted.next k (omega (arith, le)) in
        let count : before (k + 1) ≡ before (suc k) =
        let same : k + 1 ≡ suc k = omega arith in ap before same in
        ap length (next_row clock_piece k _ i.1) ∙ (let all : length (done ++ clock_row k j) ≡ 2
        * before (suc k) = omega (arith, long, own, known, next, count) in all)

    -- the clock of variable `x` for `sign` stands at its place in the table
    pub clocks_read :
        (k : ℕ) (i : row.Instance) → slice_get from.table.instances.items k ≡ Some i →
        (n : ResolvedNode) → node_at from.reached from.table i ≡ Some n → (x : ℕ) →
        x < count_at from.variables k → (sign : Bool) →
        slice_get (clocks_among from runs serving from.table.instances.items)
        (2 * (get_or from.variables k 0 + x) + sign_place sign)
        ≡ Some (signed_clock (clock_id from.variables runs k (declared_in n (record { 0 = x })))
        (get_or serving (variable_number from.variables k x) no_element) sign)
    clocks_read k i at n is x lt sign =
        let s = split_added clock_piece rows k i at in
        let done = clocks_among from runs serving (take k rows) in
        let within = slice_get_within rows k i at in
        let own = flat_map (λ y. clock_for k n false y ∷ clock_for k n true y ∷ [])
        (range_with_len 0 (count_at from.variables k)) in
        let start = clocks_long k (omega (arith, within)) in
        let here : 2 * (before k + x) + sign_place sign
        ≡ length done + (2 * x + sign_place sign) = omega (arith, start) in
        cc (s.1, get_later done (own ++ s.0) (2 * x + sign_place sign), by s.0 sign)
      where
        by : (more : List table.Clock) (sign : Bool) →
            slice_get (flat_map (λ y. clock_for k n false y ∷ clock_for k n true y ∷ [])
            (range_with_len 0 (count_at from.variables k)) ++ more) (2 * x + sign_place sign)
            ≡ Some (clock_for k n sign x)
        by more false =
            let start : 0 + x ≡ x = omega arith in
            cc (pairs_first (clock_for k n false) (clock_for k n true) 0
            (count_at from.variables k) more x lt (2 * x + 0) (omega arith))
        by more true =
            let start : 0 + x ≡ x = omega arith in
            cc (pairs_second (clock_for k n false) (clock_for k n true) 0
            (count_at from.variables k) more x lt (2 * x + 1) refl)
