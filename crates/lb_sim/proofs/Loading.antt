-- Loads of the Booleans of an instant into planes.
use Rattle.std.proofs.Common.{◌≡◌, ℕ, ◌+◌, ◌*◌, ◌/◌, ◌%◌, ◌<◌, ◌≤◌, true}
use Rattle.std.proofs.Common.{List, pos, get_or, set, length, refl, ap, ◌≢◌}
use Rattle.std.proofs.Common.{◌∙◌, subst, arith, below_more, length-set, ◌⊎◌, inl, inr}
use Rattle.std.proofs.lemmas.Bool.{cases_lt}
use Rattle.std.proofs.Math.Nat.{mul-le-mul_left}
use Rattle.std.proofs.lemmas.List.{get_or-set_same, get_or-set_other}
use Rattle.std.specs.Prelude.{int_le}
use Rattle.lb_traces.specs.Packed.{words_of_row}
use Rattle.lb_traces.specs.Traces.{Recording}
use Rattle.lb_lanes.specs.Planes.{on}
use Rattle.lb_sim.specs.InputRows.{member_cell}
use Rattle.lb_sim.specs.Loads.{AreFourPut, AreTruthsAhead, AreTruthsLoaded}

-- ## Words of a lane

-- the first `n` words of `bits` are in lane `i` of as many words of all lanes
module _ (bits : List ℕ) (i : ℕ) (old : List ℕ) where
  pub record WordsPut (new : List ℕ) (n : ℕ) : Type 0 where
    pub as_long : length new ≡ length old
    pub put : (m : ℕ) → m < n → get_or new (72 * m + i) 0 ≡ get_or bits m 0
    pub others :
        (m k : ℕ) → k < 64 → k ≢ i → get_or new (72 * m + k) 0 ≡ get_or old (72 * m + k) 0

  pub words_put_none : WordsPut old 0
  words_put_none = record {
    as_long = refl;
    put = λ m h. absurd (omega (arith, h));
    others = λ m k l ne. refl;
  }

  pub words_put_more :
      (new : List ℕ) (n : ℕ) → WordsPut new n → i < 64 → 72 * n + i < length old →
      WordsPut (set new (72 * n + i) (get_or bits n 0)) (n + 1)
  words_put_more new n h li room =
      let v = get_or bits n 0 in
      let there : 72 * n + i < length new = omega (arith, h.as_long, room) in
      record {
        as_long = length-set new (72 * n + i) v ∙ h.as_long;
        put =
            below_more (λ m. get_or (set new (72 * n + i) v) (72 * m + i) 0 ≡ get_or bits m 0) n
            (λ m lm.
            let ne : (72 * m + i) ≢ (72 * n + i) = λ e. absurd (omega (arith, lm, e)) in
            get_or-set_other new (72 * n + i) (72 * m + i) v 0 ne ∙ h.put m lm)
            (get_or-set_same new (72 * n + i) v 0 there);
        others = λ m k lk ne.
            let apart : (72 * m + k) ≢ (72 * n + i) = λ e. ne (omega (arith, e, lk, li)) in
            get_or-set_other new (72 * n + i) (72 * m + k) v 0 apart ∙ h.others m k lk ne;
      }

-- ## Words of four lanes

pub four_put_none :
    (a b c d : List ℕ) (first : ℕ) (old : List ℕ) → AreFourPut a b c d first old old 0
four_put_none a b c d first old = record {
  as_long = refl;
  one = λ m h. absurd (omega (arith, h));
  two = λ m h. absurd (omega (arith, h));
  three = λ m h. absurd (omega (arith, h));
  four = λ m h. absurd (omega (arith, h));
  others = λ m k l o. refl;
}

-- one more word in one lane
module _ (new : List ℕ) (n i v : ℕ) where
  abbrev one_set : List ℕ
  one_set = set new (72 * n + i) v

  long_set : length one_set ≡ length new
  long_set = length-set new (72 * n + i) v

  -- a word of another lane, or an earlier word, does not change
  other_set : (m k : ℕ) → k < 64 → i < 64 → k ≢ i →
      get_or one_set (72 * m + k) 0 ≡ get_or new (72 * m + k) 0
  other_set m k lk li ne =
      let apart : (72 * m + k) ≢ (72 * n + i) = λ e. ne (omega (arith, e, lk, li)) in
      get_or-set_other new (72 * n + i) (72 * m + k) v 0 apart

  before_set : (m : ℕ) → m < n → get_or one_set (72 * m + i) 0 ≡ get_or new (72 * m + i) 0
  before_set m lm =
      let apart : (72 * m + i) ≢ (72 * n + i) = λ e. absurd (omega (arith, lm, e)) in
      get_or-set_other new (72 * n + i) (72 * m + i) v 0 apart

  same_set : 72 * n + i < length new → get_or one_set (72 * n + i) 0 ≡ v
  same_set inside = get_or-set_same new (72 * n + i) v 0 inside

-- one lane of four has one more word
lane_kept :
    (x : List ℕ) (rows new : List ℕ) (n i : ℕ) →
    ((m : ℕ) → m < n → get_or new (72 * m + i) 0 ≡ get_or rows (72 * m + i) 0) →
    get_or new (72 * n + i) 0 ≡ get_or x n 0 →
    ((m : ℕ) → m < n → get_or rows (72 * m + i) 0 ≡ get_or x m 0) →
    (m : ℕ) → m < n + 1 → get_or new (72 * m + i) 0 ≡ get_or x m 0
lane_kept x rows new n i kept here before =
    below_more (λ m. get_or new (72 * m + i) 0 ≡ get_or x m 0) n
    (λ m lm. kept m lm ∙ before m lm) here

module _ (a b c d : List ℕ) (first : ℕ) (old rows : List ℕ) (n : ℕ) where
  abbrev set_one : List ℕ
  set_one = set rows (72 * n + first) (get_or a n 0)

  abbrev set_two : List ℕ
  set_two = set set_one (72 * n + (first + 1)) (get_or b n 0)

  abbrev set_three : List ℕ
  set_three = set set_two (72 * n + (first + 2)) (get_or c n 0)

  abbrev set_four : List ℕ
  set_four = set set_three (72 * n + (first + 3)) (get_or d n 0)

  module _ (few : first + 4 ≤ 64) where
    -- a word of another lane, or an earlier word, after the first of the four is set
    after_one : (m k : ℕ) → k < 64 → k ≢ first →
        get_or set_one (72 * m + k) 0 ≡ get_or rows (72 * m + k) 0
    after_one m k lk ne = other_set rows n first (get_or a n 0) m k lk (omega (arith, few)) ne

    after_two : (m k : ℕ) → k < 64 → k ≢ (first + 1) →
        get_or set_two (72 * m + k) 0 ≡ get_or set_one (72 * m + k) 0
    after_two m k lk ne =
        other_set set_one n (first + 1) (get_or b n 0) m k lk (omega (arith, few)) ne

    after_three : (m k : ℕ) → k < 64 → k ≢ (first + 2) →
        get_or set_three (72 * m + k) 0 ≡ get_or set_two (72 * m + k) 0
    after_three m k lk ne =
        other_set set_two n (first + 2) (get_or c n 0) m k lk (omega (arith, few)) ne

    after_four : (m k : ℕ) → k < 64 → k ≢ (first + 3) →
        get_or set_four (72 * m + k) 0 ≡ get_or set_three (72 * m + k) 0
    after_four m k lk ne =
        other_set set_three n (first + 3) (get_or d n 0) m k lk (omega (arith, few)) ne

    pub four_put_more :
        AreFourPut a b c d first old rows n → 72 * n + 64 ≤ length old →
        AreFourPut a b c d first old set_four (n + 1)
    four_put_more h room =
        let l0 : length set_one ≡ length rows = long_set rows n first (get_or a n 0) in
        let l1 : length set_two ≡ length set_one =
        long_set set_one n (first + 1) (get_or b n 0) in
        let l2 : length set_three ≡ length set_two =
        long_set set_two n (first + 2) (get_or c n 0) in
        let l3 : length set_four ≡ length set_three =
        long_set set_three n (first + 3) (get_or d n 0) in
        let f0 : first < 64 = omega (arith, few) in
        let f1 : first + 1 < 64 = omega (arith, few) in
        let f2 : first + 2 < 64 = omega (arith, few) in
        let f3 : first + 3 < 64 = omega (arith, few) in
        let n01 : first ≢ (first + 1) = λ e. absurd (omega (arith, e)) in
        let n02 : first ≢ (first + 2) = λ e. absurd (omega (arith, e)) in
        let n03 : first ≢ (first + 3) = λ e. absurd (omega (arith, e)) in
        let n10 : (first + 1) ≢ first = λ e. absurd (omega (arith, e)) in
        let n12 : (first + 1) ≢ (first + 2) = λ e. absurd (omega (arith, e)) in
        let n13 : (first + 1) ≢ (first + 3) = λ e. absurd (omega (arith, e)) in
        let n20 : (first + 2) ≢ first = λ e. absurd (omega (arith, e)) in
        let n21 : (first + 2) ≢ (first + 1) = λ e. absurd (omega (arith, e)) in
        let n23 : (first + 2) ≢ (first + 3) = λ e. absurd (omega (arith, e)) in
        let n30 : (first + 3) ≢ first = λ e. absurd (omega (arith, e)) in
        let n31 : (first + 3) ≢ (first + 1) = λ e. absurd (omega (arith, e)) in
        let n32 : (first + 3) ≢ (first + 2) = λ e. absurd (omega (arith, e)) in
        record {
          as_long = l3 ∙ l2 ∙ l1 ∙ l0 ∙ h.as_long;
          one =
              lane_kept a rows set_four n first
              (λ m lm.
              after_four m first f0 n03 ∙ after_three m first f0 n02 ∙ after_two m first f0 n01
              ∙ before_set rows n first (get_or a n 0) m lm)
              (after_four n first f0 n03 ∙ after_three n first f0 n02 ∙ after_two n first f0 n01
              ∙ same_set rows n first (get_or a n 0) (omega (arith, room, h.as_long, few)))
              h.one;
          two =
              lane_kept b rows set_four n (first + 1)
              (λ m lm.
              after_four m (first + 1) f1 n13 ∙ after_three m (first + 1) f1 n12
              ∙ before_set set_one n (first + 1) (get_or b n 0) m lm
              ∙ after_one m (first + 1) f1 n10)
              (after_four n (first + 1) f1 n13 ∙ after_three n (first + 1) f1 n12
              ∙ same_set set_one n (first + 1) (get_or b n 0)
              (omega (arith, room, h.as_long, few, l0)))
              h.two;
          three =
              lane_kept c rows set_four n (first + 2)
              (λ m lm.
              after_four m (first + 2) f2 n23
              ∙ before_set set_two n (first + 2) (get_or c n 0) m lm
              ∙ after_two m (first + 2) f2 n21 ∙ after_one m (first + 2) f2 n20)
              (after_four n (first + 2) f2 n23
              ∙ same_set set_two n (first + 2) (get_or c n 0)
              (omega (arith, room, h.as_long, few, l0, l1)))
              h.three;
          four =
              lane_kept d rows set_four n (first + 3)
              (λ m lm.
              before_set set_three n (first + 3) (get_or d n 0) m lm
              ∙ after_three m (first + 3) f3 n32 ∙ after_two m (first + 3) f3 n31
              ∙ after_one m (first + 3) f3 n30)
              (same_set set_three n (first + 3) (get_or d n 0)
              (omega (arith, room, h.as_long, few, l0, l1, l2)))
              h.four;
          others = λ m k lk o.
              after_four m k lk (outside k 3 (omega arith) o)
              ∙ after_three m k lk (outside k 2 (omega arith) o)
              ∙ after_two m k lk (outside k 1 (omega arith) o)
              ∙ after_one m k lk (outside_first k o) ∙ h.others m k lk o;
        }
      where
        outside : (k j : ℕ) → j < 4 → (k < first) ⊎ (first + 4 ≤ k) → k ≢ (first + j)
        outside k j lj (inl before) e = absurd (omega (arith, before, e))
        outside k j lj (inr behind) e = absurd (omega (arith, lj, behind, e))

        outside_first : (k : ℕ) → (k < first) ⊎ (first + 4 ≤ k) → k ≢ first
        outside_first k (inl before) e = absurd (omega (arith, before, e))
        outside_first k (inr behind) e = absurd (omega (arith, behind, e))

-- a property that holds in four lanes holds in each lane of them
pub each_of_four :
    (P : ℕ → Type 0) (first i : ℕ) → P first → P (first + 1) → P (first + 2) → P (first + 3) →
    first ≤ i → i < first + 4 → P i
each_of_four P first i p0 p1 p2 p3 ge lt =
    by (cases_lt i (first + 1)) (cases_lt i (first + 2)) (cases_lt i (first + 3))
  where
    by : (i < first + 1) ⊎ (first + 1 ≤ i) → (i < first + 2) ⊎ (first + 2 ≤ i) →
        (i < first + 3) ⊎ (first + 3 ≤ i) → P i
    by (inl a) b c = let e : first ≡ i = omega (arith, ge, a) in subst P e p0
    by (inr a) (inl b) c = let e : first + 1 ≡ i = omega (arith, a, b) in subst P e p1
    by (inr a) (inr b) (inl c) = let e : first + 2 ≡ i = omega (arith, b, c) in subst P e p2
    by (inr a) (inr b) (inr c) = let e : first + 3 ≡ i = omega (arith, c, lt) in subst P e p3

-- ## Booleans of members

module _ (r : Recording) (members begins : List ℕ) (first live : ℕ) (columns : List ℕ)
    (count : ℕ) where
  abbrev Loaded : (a b : ℕ) → (old new : List ℕ) → Type 0
  Loaded = AreTruthsLoaded r members begins first count live columns

  pub truths_none : (a : ℕ) (rows : List ℕ) → Loaded a a rows rows
  truths_none a rows = record {
    as_long = refl;
    put = λ i d g c ge lt. absurd (omega (arith, ge, lt));
    others = λ m k l o. refl;
  }

  -- members from `a` to `b` are loaded, and then those from `b` to `c`: those from `a` to `c` are
  pub truths_then :
      (a b c : ℕ) (x y z : List ℕ) → a ≤ b → b ≤ c → c ≤ 64 → Loaded a b x y → Loaded b c y z →
      Loaded a c x z
  truths_then a b c x y z le le' few h k = record {
    as_long = k.as_long ∙ h.as_long;
    put = λ i d g e ge lt live_i ld le lb. put i d g e ge lt live_i ld le lb (cases_lt i b);
    others = λ m i li o. others m i li o;
  }
    where
      put :
          (i d g e : ℕ) → a ≤ i → i < c → on live i ≡ true → d < count → e < 64 →
          64 * g + e < length columns → (i < b) ⊎ (b ≤ i) →
          on (get_or z (72 * (d * words_of_row (length columns) + g) + i) 0) e
          ≡ int_le (pos 1)
          (member_cell r members begins (first + d) i (get_or columns (64 * g + e) 0))
      put i d g e ge lt live_i ld le lb (inl before) =
          ap (λ w. on w e)
          (k.others (d * words_of_row (length columns) + g) i (omega (arith, lt, few)) (inl before))
          ∙ h.put i d g e ge before live_i ld le lb
      put i d g e ge lt live_i ld le lb (inr behind) = k.put i d g e behind lt live_i ld le lb

      others : (m i : ℕ) → i < 64 → (i < a) ⊎ (c ≤ i) →
          get_or z (72 * m + i) 0 ≡ get_or x (72 * m + i) 0
      others m i li (inl before) =
          k.others m i li (inl (omega (arith, before, le))) ∙ h.others m i li (inl before)
      others m i li (inr behind) =
          k.others m i li (inr behind) ∙ h.others m i li (inr (omega (arith, behind, le')))

  -- all live lanes are loaded, if each has a member
  pub all_gathered :
      (old rows : List ℕ) (n : ℕ) → Loaded 0 n old rows →
      72 * (count * words_of_row (length columns)) ≤ length old →
      ((i : ℕ) → i < 64 → on live i ≡ true → i < n) →
      AreTruthsAhead r members begins first (first + count) live columns rows
  all_gathered old rows n h enough inside = record {
    room = λ d lt.
        let width = words_of_row (length columns) in
        let under : d + 1 ≤ count = omega (arith, lt) in
        let product : width * (d + 1) ≤ width * count = mul-le-mul_left width under in
        omega (arith, product, enough, h.as_long);
    cells = λ i d g c l e lt lc lb.
        h.put i d g c (omega arith) (inside i l e) e (omega (arith, lt)) lc lb;
  }

module _ (r : Recording) (members begins : List ℕ) (t live d : ℕ) (columns : List ℕ) where
  -- the planes of all columns
  pub truths_loaded :
      (rows planes : List ℕ) → length planes ≡ length columns →
      ((i g c : ℕ) → i < 64 → on live i ≡ true → c < 64 → 64 * g + c < length columns →
      on (get_or rows (72 * (d * words_of_row (length columns) + g) + i) 0) c
      ≡ int_le (pos 1) (member_cell r members begins t i (get_or columns (64 * g + c) 0))) →
      ((g c i : ℕ) → c < 64 → i < 64 → 64 * g + c < length planes →
      on (get_or planes (64 * g + c) 0) i
      ≡ on (get_or rows (72 * (d * words_of_row (length columns) + g) + i) 0) c) →
      (i b : ℕ) → i < 64 → on live i ≡ true → b < length columns →
      on (get_or planes b 0) i
      ≡ int_le (pos 1) (member_cell r members begins t i (get_or columns b 0))
  truths_loaded rows planes long gathered turned i b l e lb =
      let g = b / 64 in
      let c = b % 64 in
      let same : 64 * (b / 64) + b % 64 ≡ b = omega arith in
      let lc : b % 64 < 64 = omega arith in
      let inside : 64 * g + c < length columns = omega (arith, same, lb) in
      let within : 64 * g + c < length planes = omega (arith, inside, long) in
      subst
      (λ k. on (get_or planes k 0) i
      ≡ int_le (pos 1) (member_cell r members begins t i (get_or columns k 0)))
      same
      (turned g c i lc l within ∙ gathered i g c l e lc inside)

  -- the planes of an instant that is loaded already
  pub truths_there :
      (first until lanes : ℕ) (rows old planes : List ℕ) → length planes ≡ length old →
      length old ≡ length columns → AreTruthsAhead r members begins first until lanes columns rows →
      first + d ≡ t → t < until →
      ((i : ℕ) → i < 64 → on live i ≡ true → on lanes i ≡ true) →
      ((g c i : ℕ) → c < 64 → i < 64 → 64 * g + c < length old →
      on (get_or planes (64 * g + c) 0) i
      ≡ on (get_or rows (72 * (d * words_of_row (length old) + g) + i) 0) c) →
      (i b : ℕ) → i < 64 → on live i ≡ true → b < length columns →
      on (get_or planes b 0) i
      ≡ int_le (pos 1) (member_cell r members begins t i (get_or columns b 0))
  truths_there first until lanes rows old planes kept long h here within among turned =
      truths_loaded rows planes (kept ∙ long)
      (λ i g c l e lc lb.
      h.cells i d g c l (among i l e) (omega (arith, here, within)) lc lb
      ∙ ap
      (λ s. int_le (pos 1) (member_cell r members begins s i (get_or columns (64 * g + c) 0))) here)
      (λ g c i lc li lb.
      turned g c i lc li (omega (arith, lb, kept))
      ∙ ap (λ n. on (get_or rows (72 * (d * words_of_row n + g) + i) 0) c) long)

-- ## The words of all lanes, transposed

module _ (rows : List ℕ) (first : ℕ) (old : List ℕ) where
  pub record Turned (planes : List ℕ) (n : ℕ) : Type 0 where
    pub as_long : length planes ≡ length old
    pub done :
        (g c i : ℕ) → g < n → c < 64 → i < 64 → 64 * g + c < length old →
        on (get_or planes (64 * g + c) 0) i ≡ on (get_or rows (72 * (first + g) + i) 0) c

  pub turned_none : Turned old 0
  turned_none = record {
    as_long = refl;
    done = λ g c i h. absurd (omega (arith, h));
  }

  -- one more group of columns is transposed
  pub turned_more :
      (planes planes' : List ℕ) (n size : ℕ) → Turned planes n → length planes' ≡ length planes →
      ((c : ℕ) → c < 64 → 64 * n + c < length planes → c < size) →
      ((c i : ℕ) → c < size → i < 64 →
      on (get_or planes' (64 * n + c) 0) i ≡ on (get_or rows (72 * (first + n) + i) 0) c) →
      ((k : ℕ) → k < 64 * n → get_or planes' k 0 ≡ get_or planes k 0) →
      Turned planes' (n + 1)
  turned_more planes planes' n size h long all put below = record {
    as_long = long ∙ h.as_long;
    done = λ g c i l. below_more
        (λ m. c < 64 → i < 64 → 64 * m + c < length old →
        on (get_or planes' (64 * m + c) 0) i ≡ on (get_or rows (72 * (first + m) + i) 0) c) n
        (λ m lm lc li lb.
        let under : 64 * m + c < 64 * n = omega (arith, lm, lc) in
        ap (λ w. on w i) (below (64 * m + c) under) ∙ h.done m c i lm lc li lb)
        (λ lc li lb. put c i (all c lc (omega (arith, lb, h.as_long))) li)
        g l;
  }
