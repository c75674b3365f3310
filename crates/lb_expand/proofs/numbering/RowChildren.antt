-- The rows that a row calls, and the numbers of rows by paths and calls.
use Rattle.lb_expand.proofs.Words
use Words.{◌≡◌, ℕ, zero, suc, Bool, true, false, List, [], ◌∷◌, length, Option, Some, None}
use Words.{option_map, refl, ap, ap₂, sym, ◌∙◌, arith, eqb-true, and_from, slice_get_within}
use Words.{same_Some, listed, item_at, and_first, and_second, variables, Program, Instance, Path}
use Words.{Root, Observer, Child, instance_at, instances, static_refusal, IsTable, paths_of}
use Words.{IsReached, node_of, counts_of, is_variable, Reached, CallId, ResolvedNode, VariableId}
use Words.{InstanceId, Origin, Table, in_at, place_in, found_from, name_in, at_path, found_some}
use Words.{child_row, row_numbers, child_numbers, ◌==◌, bytes_eq, nat_tests, bytes_eq-Decides, In}
use Words.{either_or, Name, is_path, are_distinct, variable_names, distinct_at, same_path, ◌+◌, ◌<◌}
use Words.{cond, ◌++◌, take, get_or, take_more, or_else, ◌&&◌, nat_eq, slice_get, if◌then◌else◌}
use Words.{is_some, row_number, variable_place, called_row}
use Rattle.std.{specs.HashMap.{HashMap, get}, proofs.lemmas.Bool.eq-eqb}
use Rattle.lb_check.{specs.Elements.numbers_of, proofs.programs.InstancePaths.is_path-same}
use Rattle.lb_expand.specs.{ClockPlaces.name_number, Rows.{is_called, place_where, same_call}}
use Rattle.lb_expand.proofs.numbering.{NumberedRows.row_numbers_are, RowInstances.IsRow}
use Rattle.lb_expand.proofs.numbering.RowInstances.{origin_path, root_path, observer_path}
use Rattle.lb_expand.proofs.numbering.RowInstances.{row_shown, row_of, one_place}
use Rattle.lb_static.specs.declared.table.Instance as row
use Rattle.lb_static.specs.declared.table.Origin.TheVariants as origin

-- A call of a row calls the instance at the path below the row, and the numbers of the elements of
-- the called row are the numbers of that instance.

-- ## The first place at which a test holds

-- the item at place `k` is there and passes the test
pub record IsPlace {A : Type 0} (test : A → Bool) (xs : List A) (k : ℕ) : Type 0 where
  pub item : A
  pub stands : slice_get xs k ≡ Some item
  pub passes : test item ≡ true

-- the item at the first place that is found passes the test
pub place_holds :
    {A : Type 0} (test : A → Bool) (xs : List A) (k : ℕ) → place_where test xs ≡ Some k →
    IsPlace test xs k
place_holds test [] k e = absurd cc
place_holds test (x ∷ xs) k e = by (test x) refl e (λ j h. place_holds test xs j h)
  where
    later :
        (o : Option ℕ) → place_where test xs ≡ o → option_map suc o ≡ Some k →
        ((j : ℕ) → place_where test xs ≡ Some j → IsPlace test xs j) → IsPlace test (x ∷ xs) k
    later None is h again = absurd cc
    later (Some j) is h again =
        let p = again j is in
        let next : suc j ≡ k = same_Some (suc j) k h in
        record {
          item = p.item;
          stands = ap (slice_get (x ∷ xs)) (sym next) ∙ p.stands;
          passes = p.passes;
        }

    by : (b : Bool) → test x ≡ b →
        (if b then Some 0 else option_map suc (place_where test xs)) ≡ Some k →
        ((j : ℕ) → place_where test xs ≡ Some j → IsPlace test xs j) → IsPlace test (x ∷ xs) k
    by true is h again =
        let first : 0 ≡ k = same_Some 0 k h in
        record { item = x; stands = ap (slice_get (x ∷ xs)) (sym first); passes = is }
    by false is h again = later (place_where test xs) refl h again

-- where an item passes the test, a place is found
pub place_found :
    {A : Type 0} (test : A → Bool) (xs : List A) (k : ℕ) (x : A) → slice_get xs k ≡ Some x →
    test x ≡ true → (j : ℕ) × (place_where test xs ≡ Some j)
place_found test [] k x e h = absurd cc
place_found test (y ∷ xs) zero x e h =
    let same : y ≡ x = same_Some y x e in
    let first : test y ≡ true = ap test same ∙ h in
    (0, ap (λ b. if b then Some 0 else option_map suc (place_where test xs)) first)
place_found test (y ∷ xs) (suc k) x e h = by (test y) refl (place_found test xs k x e h)
  where
    by : (b : Bool) → test y ≡ b → (j : ℕ) × (place_where test xs ≡ Some j) →
        (j : ℕ) × (place_where test (y ∷ xs) ≡ Some j)
    by true is again = (0, ap (λ b. if b then Some 0 else option_map suc (place_where test xs)) is)
    by false is again = (
      suc again.0,
      ap (λ b. if b then Some 0 else option_map suc (place_where test xs)) is
          ∙ ap (option_map suc) again.1,
    )

-- ## Origins

-- an origin is call `c` of row `j` with another row, at index `i`
pub record IsCallOf (j c i : ℕ) (o : Origin) : Type 0 where
  pub caller : InstanceId
  pub call : CallId
  pub index : ℕ
  pub is : o ≡ origin.Called caller call index
  pub caller_is : caller.0 ≡ j
  pub call_is : call.0 ≡ c
  pub index_is : index ≡ i

-- an origin that passes `is_called` is that call
pub called_is : (j c i : ℕ) (o : Origin) → is_called j c i o ≡ true → IsCallOf j c i o
called_is j c i origin.UnderTest e = absurd cc
called_is j c i origin.Observer e = absurd cc
called_is j c i (origin.Called caller call index) e =
    let both = and_first (nat_eq caller.0 j && nat_eq call.0 c) (nat_eq index i) e in
    record {
      caller = caller;
      call = call;
      index = index;
      is = refl;
      caller_is = eqb-true caller.0 j (and_first (nat_eq caller.0 j) (nat_eq call.0 c) both);
      call_is = eqb-true call.0 c (and_second (nat_eq caller.0 j) (nat_eq call.0 c) both);
      index_is = eqb-true index i
          (and_second (nat_eq caller.0 j && nat_eq call.0 c) (nat_eq index i) e);
    }

module _ (P : Program) (r : Reached) (t : Table) (table : IsTable P r t) where
  -- row `k` stands for the instance at path `p`
  pub record IsChildRow (k : ℕ) (p : Path) : Type 0 where
    pub row_there : row.Instance
    pub there : Instance
    pub stands : IsRow P r t table k row_there there
    pub below : there.path ≡ p

  -- the row that is found for a call stands for the instance at the path of the call
  pub child_is :
      (j c i k : ℕ) (own : row.Instance) (here : Instance) → IsRow P r t table j own here →
      child_row t j c i ≡ Some k → IsChildRow k (Child here.path c i)
  child_is j c i k own here is e =
      let place = place_holds (λ (z : row.Instance). is_called j c i z.origin)
      t.instances.items k e in
      let o = called_is j c i place.item.origin place.passes in
      let at = origin_path P r t table k place.item place.stands o.caller o.call o.index o.is in
      let shown = row_shown P r t table k place.item place.stands in
      let above : at.above ≡ here.path = same_Some at.above here.path
      (sym at.caller_path ∙ (ap (slice_get (paths_of t)) o.caller_is ∙ is.path_is)) in
      let path : shown.0.path ≡ Child at.above o.call.0 o.index =
      same_Some shown.0.path (Child at.above o.call.0 o.index)
      (sym shown.1.path_is ∙ at.path) in
      record {
        row_there = place.item;
        there = shown.0;
        stands = shown.1;
        below = path
            ∙ (ap (λ p. Child p o.call.0 o.index) above
            ∙ ap₂ (λ m n. Child here.path m n) o.call_is o.index_is);
      }

  no_root : (p : Path) (c i : ℕ) → Root ≡ Child p c i → ⊥
  no_root p c i e = absurd cc

  no_observer : (p : Path) (c i : ℕ) → Observer ≡ Child p c i → ⊥
  no_observer p c i e = absurd cc

  same_above : (p q : Path) (c i d j : ℕ) → Child p c i ≡ Child q d j → p ≡ q
  same_above p q c i d j e = cc

  one_call : (p q : Path) (c i d j : ℕ) → Child p c i ≡ Child q d j → c ≡ d
  one_call p q c i d j e = cc

  one_index : (p q : Path) (c i d j : ℕ) → Child p c i ≡ Child q d j → i ≡ j
  one_index p q c i d j e = cc

  -- a row at the path of a call of another row has that call as its origin
  pub origin_called :
      (j c i k : ℕ) (row_here row_there : row.Instance) (here there : Instance) →
      IsRow P r t table j row_here here → IsRow P r t table k row_there there →
      there.path ≡ Child here.path c i → is_called j c i row_there.origin ≡ true
  origin_called j c i k row_here row_there here there is at path =
      by row_there.origin refl
    where
      by : (o : Origin) → row_there.origin ≡ o → is_called j c i o ≡ true
      by origin.UnderTest e =
          absurd (no_root here.path c i (same_Some Root (Child here.path c i)
          (sym (root_path P r t table k row_there at.row_is e)
          ∙ (at.path_is ∙ ap (λ p. Some p) path))))
      by origin.Observer e =
          absurd (no_observer here.path c i (same_Some Observer (Child here.path c i)
          (sym (observer_path P r t table k row_there at.row_is e)
          ∙ (at.path_is ∙ ap (λ p. Some p) path))))
      by (origin.Called caller call index) e =
          let up = origin_path P r t table k row_there at.row_is caller call index e in
          let same : Child up.above call.0 index ≡ Child here.path c i =
          same_Some (Child up.above call.0 index) (Child here.path c i)
          (sym up.path ∙ (at.path_is ∙ ap (λ p. Some p) path)) in
          let low = up.before in
          let within = slice_get_within t.instances.items k row_there at.row_is in
          let first = item_at t.instances.items caller.0 (omega (arith, low, within)) in
          let shown = row_shown P r t table caller.0 first.0 first.1 in
          let above : shown.0.path ≡ here.path =
          same_Some shown.0.path up.above (sym shown.1.path_is ∙ up.caller_path)
          ∙ same_above up.above here.path call.0 index c i same in
          let one : caller.0 ≡ j = one_place P r t table caller.0 j shown.0 here
          shown.1.instance_is is.instance_is above in
          and_from (nat_eq caller.0 j && nat_eq call.0 c) (nat_eq index i)
          (and_from (nat_eq caller.0 j) (nat_eq call.0 c) (eq-eqb caller.0 j one)
          (eq-eqb call.0 c (one_call up.above here.path call.0 index c i same)))
          (eq-eqb index i (one_index up.above here.path call.0 index c i same))

  -- the row of the instance at the path of a call is found for the call
  pub child_found :
      (j c i k : ℕ) (own : row.Instance) (here there : Instance) →
      IsRow P r t table j own here → slice_get (instances P) k ≡ Some there →
      there.path ≡ Child here.path c i → child_row t j c i ≡ Some k
  child_found j c i k own here there is e path =
      let at = row_of P r t table k there e in
      let called = origin_called j c i k own at.0 here there is at.1 path in
      let found = place_found (λ (z : row.Instance). is_called j c i z.origin)
      t.instances.items k at.0 at.1.row_is called in
      let other = child_is j c i found.0 own here is found.1 in
      let one = one_place P r t table found.0 k other.there there other.stands.instance_is e
      (other.below ∙ sym path) in
      found.1 ∙ ap (λ m. Some m) one

  -- where no row is found for a call, there is no instance at the path of the call
  pub child_none :
      (j c i : ℕ) (own : row.Instance) (here : Instance) → IsRow P r t table j own here →
      child_row t j c i ≡ None → found_from P 0 (instances P) (Child here.path c i) ≡ None
  child_none j c i own here is e = by (found_from P 0 (instances P) (Child here.path c i)) refl
    where
      by : (o : Option (ℕ × Instance)) →
          found_from P 0 (instances P) (Child here.path c i) ≡ o → o ≡ None
      by None h = refl
      by (Some s) h =
          let found = found_some P 0 (instances P) (Child here.path c i) s.0 s.1 h in
          let at = place_in (instances P) s.1 found.0 in
          let some = child_found j c i at.0 own here s.1 is at.1 found.1 in
          absurd (none_some at.0 (sym e ∙ some))
        where
          none_some : (k : ℕ) → None ≡ Some k → ⊥
          none_some k f = absurd cc

  -- the numbers that are counted for a row that is called are the numbers of its elements
  pub child_numbers_are :
      (reached : IsReached P r) → static_refusal P ≡ None → (j : ℕ) (own : row.Instance)
      (here : Instance) → IsRow P r t table j own here → (c i : ℕ) (m : ResolvedNode) →
      length m.variables.items ≡ length (variables (node_of m)) →
      ((there : Instance) → instance_at P (Child here.path c i) ≡ Some there →
      there.node ≡ node_of m) →
      (x : VariableId) → is_variable (counts_of m) x ≡ true →
      child_numbers r t j c i x ≡ numbers_of P (Child here.path c i) (name_in m x)
  child_numbers_are reached accepted j own here is c i m many node x within =
      by (child_row t j c i) refl
    where
      by : (o : Option ℕ) → child_row t j c i ≡ o →
          listed (λ k. row_numbers r t k x) o
          ≡ numbers_of P (Child here.path c i) (name_in m x)
      by None e = cc (child_none j c i own here is e)
      by (Some k) e =
          let found = child_is j c i k own here is e in
          let there = found.there in
          let stands : instance_at P (Child here.path c i) ≡ Some there =
          ap (instance_at P) (sym found.below)
          ∙ at_path P there (in_at (instances P) k there found.stands.instance_is) in
          cc (row_numbers_are P r t reached table accepted k found.row_there there found.stands m
          many (node there stands) x within)

-- The number of the row at a path, and the number of a variable in its instance.

-- the row number of the path of a row is its number
pub row_number_is :
    (P : Program) (r : Reached) (t : Table) (table : IsTable P r t) (k : ℕ) (i : row.Instance)
    (here : Instance) → IsRow P r t table k i here → row_number P here.path ≡ k
row_number_is P r t table k i here is =
    let test = λ (c : Instance). is_path c.path here.path in
    let found = place_found test (instances P) k here is.instance_is (is_path-same here.path) in
    let place = place_holds test (instances P) found.0 found.1 in
    let path = same_path place.item.path here.path place.passes in
    ap (λ o. either_or o 0) found.1
    ∙ one_place P r t table found.0 k place.item here place.stands is.instance_is path

-- among distinct names, the number of a name is its place
pub name_number_is :
    (names : List Name) → are_distinct names ≡ true → (y : ℕ) (x : Name) →
    slice_get names y ≡ Some x → name_number names x ≡ y
name_number_is names apart y x at =
    let own : bytes_eq x x ≡ true = itself in
    let found = place_found (λ z. bytes_eq z x) names y x at own in
    let place = place_holds (λ z. bytes_eq z x) names found.0 found.1 in
    ap (λ o. either_or o 0) found.1 ∙ one found.0 place.item place.stands place.passes
  where
    itself : bytes_eq x x ≡ true
    itself = (bytes_eq-Decides x x).1 refl

    one : (j : ℕ) (z : Name) → slice_get names j ≡ Some z → bytes_eq z x ≡ true → j ≡ y
    one j z e same =
        let differ = distinct_at names j y z x apart e at in
        let equal : (y == j) ≡ true = sym differ ∙ same in
        grind (arith, nat_tests)

-- the place of a variable of an instance is its number
pub variable_place_is :
    (P : Program) (here : Instance) → In here (instances P) →
    are_distinct (variable_names here.node) ≡ true → (y : ℕ) (x : Name) →
    slice_get (variable_names here.node) y ≡ Some x → variable_place P here.path x ≡ y
variable_place_is P here stands apart y x at =
    cc (at_path P here stands, name_number_is (variable_names here.node) apart y x at)

-- The map of rows by their calls keeps, for each call, the first row with its origin.

-- ## The first place among one item more

place_last :
    {A : Type 0} (test : A → Bool) (xs : List A) (x : A) →
    place_where test (xs ++ x ∷ [])
    ≡ or_else (place_where test xs) (if test x then Some (length xs) else None)
place_last test [] x = by (test x)
  where
    by : (b : Bool) →
        (if b then Some 0 else option_map suc None) ≡ or_else None (if b then Some 0 else None)
    by true = refl
    by false = refl
place_last test (y ∷ xs) x = cc (place_last test xs x, by (test y) (place_where test xs) (test x))
  where
    over : (o : Option ℕ) (b : Bool) →
        option_map suc (or_else o (if b then Some (length xs) else None))
        ≡ or_else (option_map suc o) (if b then Some (suc (length xs)) else None)
    over None true = refl
    over None false = refl
    over (Some k) b = refl

    by : (a : Bool) (o : Option ℕ) (b : Bool) →
        (if a then Some 0 else option_map suc (or_else o (if b then Some (length xs) else None)))
        ≡ or_else (if a then Some 0 else option_map suc o)
        (if b then Some (suc (length xs)) else None)
    by true o b = refl
    by false o b = over o b

place_next :
    {A : Type 0} (test : A → Bool) (xs : List A) (k : ℕ) (x : A) → k < length xs →
    x ≡ get_or xs k x →
    place_where test (take (k + 1) xs)
    ≡ or_else (place_where test (take k xs)) (if test x then Some k else None)
place_next test xs k x lt is =
    cc (take_more xs k x lt, place_last test (take k xs) x, length_front xs k lt)
  where
    length_front : {A : Type 0} (xs : List A) (k : ℕ) → k < length xs → length (take k xs) ≡ k
    length_front [] k lt = absurd (omega arith)
    length_front (x ∷ xs) zero lt = refl
    length_front (x ∷ xs) (suc k) lt = ap suc (length_front xs k (omega arith))

-- ## Calls

same_key : (x y : ℕ × ℕ × ℕ) → same_call x y ≡ true → x ≡ y
same_key (a, b, c) (d, e, f) h =
    let both = and_first (nat_eq a d && nat_eq b e) (nat_eq c f) h in
    let p = eqb-true a d (and_first (nat_eq a d) (nat_eq b e) both) in
    let q = eqb-true b e (and_second (nat_eq a d) (nat_eq b e) both) in
    let s = eqb-true c f (and_second (nat_eq a d && nat_eq b e) (nat_eq c f) h) in
    rw p (rw q (rw s refl))

no_more : (o : Option ℕ) → o ≡ or_else o None
no_more None = refl
no_more (Some k) = refl

kept_some : (o p : Option ℕ) → is_some o ≡ true → o ≡ or_else o p
kept_some None p e = absurd cc
kept_some (Some k) p e = refl

is_none : (o : Option ℕ) → is_some o ≡ false → o ≡ None
is_none None e = refl
is_none (Some k) e = absurd cc

not_called :
    (o : Origin) →
    ((caller : InstanceId) (call : CallId) (index : ℕ) → o ≡ origin.Called caller call index → ⊥) →
    (j c i : ℕ) → is_called j c i o ≡ false
not_called origin.UnderTest never j c i = refl
not_called origin.Observer never j c i = refl
not_called (origin.Called caller call index) never j c i = absurd (never caller call index refl)

module _ {S : Type 0} where
  -- the map keeps, for each call, the first of the rows that is called by it
  abbrev pub HasCalls : HashMap (ℕ × ℕ × ℕ) ℕ S → List row.Instance → Type 0
  HasCalls m done =
      (j c i : ℕ) →
      called_row m j c i ≡ place_where (λ (z : row.Instance). is_called j c i z.origin) done

  module _ (m : HashMap (ℕ × ℕ × ℕ) ℕ S) (rows : List row.Instance) (k : ℕ) (own : row.Instance)
      (lt : k < length rows) (is : own ≡ get_or rows k own) (h : HasCalls m (take k rows)) where
    next_row : (j c i : ℕ) →
        place_where (λ (z : row.Instance). is_called j c i z.origin) (take (k + 1) rows)
        ≡ or_else (called_row m j c i) (if is_called j c i own.origin then Some k else None)
    next_row j c i =
        cc (place_next (λ (z : row.Instance). is_called j c i z.origin) rows k own lt is, h j c i)

    -- a row that is a start changes nothing
    pub start_passed :
        ((caller : InstanceId) (call : CallId) (index : ℕ) →
        own.origin ≡ origin.Called caller call index → ⊥) →
        HasCalls m (take (k + 1) rows)
    start_passed never j c i =
        let no = not_called _ never j c i in
        cc (no_more (called_row m j c i), next_row j c i)

    module _ (caller : InstanceId) (call : CallId) (index : ℕ)
        (same : own.origin ≡ origin.Called caller call index) where
      -- a row whose call has a row already changes nothing
      pub again_passed :
          is_some (get same_call m (caller.0, call.0, index)) ≡ true →
          HasCalls m (take (k + 1) rows)
      again_passed there j c i = cc (by (is_called j c i own.origin) refl, next_row j c i)
        where
          by : (b : Bool) → is_called j c i own.origin ≡ b →
              called_row m j c i ≡ or_else (called_row m j c i) (if b then Some k else None)
          by true e =
              let one = same_key _ _ (sym (ap (is_called j c i) same) ∙ e) in
              kept_some _ _ (ap (λ q. is_some (get same_call m q)) (sym one) ∙ there)
          by false e = no_more _

      -- a row whose call has no row yet is added
      pub call_added :
          (n : HashMap (ℕ × ℕ × ℕ) ℕ S) →
          is_some (get same_call m (caller.0, call.0, index)) ≡ false →
          ((q : ℕ × ℕ × ℕ) → get same_call n q
          ≡ cond (same_call (caller.0, call.0, index) q) (Some k) (get same_call m q)) →
          HasCalls n (take (k + 1) rows)
      call_added n absent updates j c i =
          updates (j, c, i)
          ∙ (by (same_call (caller.0, call.0, index) (j, c, i)) refl
          ∙ (ap (λ b. or_else (called_row m j c i) (if b then Some k else None))
          (sym (ap (is_called j c i) same)) ∙ sym (next_row j c i)))
        where
          by : (b : Bool) → same_call (caller.0, call.0, index) (j, c, i) ≡ b →
              cond b (Some k) (called_row m j c i)
              ≡ or_else (called_row m j c i) (if b then Some k else None)
          by true e =
              let one = same_key (caller.0, call.0, index) (j, c, i) e in
              let none = is_none (called_row m j c i)
              (ap (λ q. is_some (get same_call m q)) (sym one) ∙ absent) in
              ap (λ o. or_else o (Some k)) (sym none)
          by false e = no_more (called_row m j c i)
