-- The clocks of a table by the formula wait for elements of variables, on clocks of the table; each
-- is the instants of its parent at which its element has its sign.
use Rattle.lb_expand.proofs.Words
use Words.{AreClocks, AreWhole, Base, Bool, Checking, Child, ClockId, Declaration, Every, In}
use Words.{Instance, IsChecked, IsClock, IsClockTable, IsLayoutOf, IsOwn, IsTableClock, List, Name}
use Words.{None, Observer, On, Option, Path, Program, Root, Some, Where, [], all_clocks, all_runs}
use Words.{all_serving, ap, ap₂, arith, at_path, check_refusal, clock_of, clock_place, clocks_among}
use Words.{count_at, declared_clock, declared_own, elaborated_program, element_total, false}
use Words.{flat_clock, get_or, get_or_from_slice_get, in_at, inl, inr, instance_at, instances}
use Words.{item_at, layout, length, length-map, ltb-false, ltb-true, nat_lt, node_occurrences}
use Words.{numbers_below, path_before, path_is, path_place, path_runs, program_elements, refl}
use Words.{same_Some, serving, sign_place, signs_of, site_clock, slice_get, slice_get_within}
use Words.{sources_of, static_refusal, subst, suc, sym, take_all, true, variable_names, variables}
use Words.{widths_in, zero, ℕ, ◌*◌, ◌+◌, ◌-◌, ◌<◌, ◌∙◌, ◌∷◌, ◌≡◌, ◌≤◌, ◌⊎◌}
use Rattle.{lb_check.specs.Clocks.Clock, lb_expand.proofs.clock_tables.AddedClocks.AreCounted}
use Rattle.lb_expand.proofs.clock_tables.{AddedClocks.clocks_long, ClockTable.caller_of}
use Rattle.lb_expand.proofs.clock_tables.ClockTable.{clock_row, first_signed, site_is_own}
use Rattle.lb_expand.proofs.clock_tables.FilledClocks.{apart, counted, filled_table, nodes_found}
use Rattle.lb_expand.proofs.clock_tables.FilledClocks.{own_terms}
use Rattle.lb_expand.proofs.numbering.{NumberedPlaces.signs_are, NumberedRows.pieces_narrow}
use Rattle.lb_expand.proofs.numbering.NumberedRows.{row_count, row_narrow}
use Rattle.lb_expand.proofs.numbering.RowChildren.{row_number_is, variable_place_is}
use Rattle.lb_expand.proofs.numbering.RowInstances.{IsRow, row_shown}
use Rattle.lb_expand.proofs.widths.TableSizes.{element_total_is}
use Rattle.lb_expand.specs.declared.layout.Layout.{Layout}
use Rattle.lb_static.specs.declared.table.Instance as row
use Rattle.lb_flat.specs.declared.equation.Clock as table

-- ## One entry

module _ (P : Program) (accepted : static_refusal P ≡ None) (checked : check_refusal P ≡ None)
    (own : (here : Instance) → In here (instances P) →
    Every (λ o. IsOwn here.node o.clock) (node_occurrences P here.node))
    (clocks : List table.Clock) (place : Path → Name → ℕ) (runs : Path → Option ClockId)
    (before : Path → ℕ) (is : IsClockTable P clocks place runs before) where
  id_within :
      (here : Instance) → In here (instances P) → IsClock clocks (runs here.path) → (k : Clock) →
      IsOwn here.node k → IsClock clocks (clock_place place runs here.path k)
  id_within here on r Base h = r
  id_within here on r (On k x sign) h =
      let z = is.rows here on x h.1 sign in
      let low = slice_get_within clocks (place here.path x + sign_place sign) z.row z.stands in
      λ n e. rw (← (same_Some (record { 0 = place here.path x + sign_place sign }) n e)) low

  base_within : IsClock clocks None
  base_within n e = absurd cc

  -- the clock of an instance is one of the table
  runs_within : (p : Path) (c : Instance) → instance_at P p ≡ Some c → IsClock clocks (runs p)
  runs_within Root c at = subst (IsClock clocks) (sym is.root) base_within
  runs_within Observer c at = subst (IsClock clocks) (sym is.observer) base_within
  runs_within (Child p call index) c at =
      let u = caller_of P accepted checked own clocks place runs before is p call index c at in
      let path = path_is P p u.caller u.above in
      let up = runs_within p u.caller u.above in
      let there = id_within u.caller u.stands (rw path up) (site_clock P u.occurrence.clock
      u.occurrence.expr) (site_is_own P accepted checked own clocks place runs before is u.caller
      u.stands u.occurrence u.occurs) in
      subst (IsClock clocks) (sym (is.called p call index c u.caller u.occurrence at u.above
      u.found))
      (subst (λ q. IsClock clocks (clock_place place runs q
      (site_clock P u.occurrence.clock u.occurrence.expr))) path there)

  first_below : (n : ℕ) (xs : List ℕ) (i : ℕ) → Every (λ j. j < n) xs → slice_get xs 0 ≡ Some i →
      i < n
  first_below n [] i h e = absurd cc
  first_below n (x ∷ xs) i h e = subst (λ j. j < n) (same_Some x i e) h.0

  -- each entry of the table is in range
  pub entry_within :
      (here : Instance) → In here (instances P) → instance_at P here.path ≡ Some here →
      (x : Name) (on_x : In x (variable_names here.node)) (sign : Bool) → (c : table.Clock) →
      slice_get clocks (place here.path x + sign_place sign) ≡ Some c →
      IsTableClock (length (program_elements P)) clocks c
  entry_within here on at x on_x sign c stands =
      let z = is.rows here on x on_x sign in
      let same = same_Some z.row c (sym z.stands ∙ stands) in
      let signs = sym (ap (λ (ns : List ℕ). slice_get ns 0) (signs_are P here on x)) ∙ z.serves in
      rw (← same) (record {
        element =
            first_below _ _ _ (numbers_below P accepted (serving P here.path x).0
            (serving P here.path x).1) signs;
        parent =
            subst (IsClock clocks) (sym z.parent) (id_within here on (runs_within _ here at) _
            (declared_own here.node x));
      })

  -- each entry is the instants of its parent at which its element has its sign
  pub entry_whole :
      (here : Instance) → In here (instances P) → (x : Name) →
      (on_x : In x (variable_names here.node)) (sign : Bool) → (k : ClockId) (c : table.Clock) →
      place here.path x + sign_place sign ≡ k.0 → slice_get clocks k.0 ≡ Some c →
      clock_of clocks (Some k) ≡ Where (clock_of clocks c.parent) c.element.0 c.sign
  entry_whole here on x on_x sign k c spot stands =
      let z = is.rows here on x on_x sign in
      let own_clock = declared_clock here.node x in
      let found = clock_row P accepted checked own clocks place runs before is here on in
      let same = same_Some z.row c (sym z.stands ∙ (ap (slice_get clocks) spot ∙ stands)) in
      let id : Some k ≡ clock_place place runs here.path (On own_clock x sign) =
      ap (λ m. Some (record { 0 = m })) (sym spot) in
      let up : flat_clock (layout P) here.path own_clock ≡ clock_of clocks z.row.parent =
      sym (ap (clock_of clocks) z.parent ∙ found own_clock (declared_own here.node x)) in
      rw (← same) (ap (clock_of clocks) id ∙ (found (On own_clock x sign) (refl, on_x) ∙
      (first_signed (flat_clock (layout P) here.path own_clock) sign (signs_of P here.path x)
      z.row.element.0 z.serves ∙ ap₂ (λ l s. Where l z.row.element.0 s) up (sym z.signed))))

-- ## All entries

-- each number is `2 * v` or `2 * v + 1` for some v
halved : (m : ℕ) → (v : ℕ) × ((m ≡ 2 * v) ⊎ (m ≡ 2 * v + 1))
halved zero = (0, inl refl)
halved (suc zero) = (0, inr refl)
halved (suc (suc m)) = by (halved m)
  where
    by : (v : ℕ) × ((m ≡ 2 * v) ⊎ (m ≡ 2 * v + 1)) →
        (v : ℕ) × ((suc (suc m) ≡ 2 * v) ⊎ (suc (suc m) ≡ 2 * v + 1))
    by (v, inl e) = (v + 1, inl (omega (arith, e)))
    by (v, inr e) = (v + 1, inr (omega (arith, e)))

module _ (vars : List ℕ) (first : get_or vars 0 0 ≡ 0) where
  -- the variable v of all rows is the variable x of row k
  record IsOf (n v : ℕ) : Type 0 where
    k : ℕ
    x : ℕ
    row : k < n
    is : get_or vars k 0 + x ≡ v
    low : x < count_at vars k

  row_of_variable :
      (n : ℕ) →
      ((k : ℕ) → k < n → get_or vars (k + 1) 0 ≡ get_or vars k 0 + count_at vars k) →
      (v : ℕ) → v < get_or vars n 0 → IsOf n v
  row_of_variable zero next v lt = absurd (omega (arith, lt, first))
  row_of_variable (suc n) next v lt =
      by (nat_lt v (get_or vars n 0)) refl
      (row_of_variable n (λ k low. next k (omega (arith, low))) v)
    where
      by : (b : Bool) → nat_lt v (get_or vars n 0) ≡ b → (v < get_or vars n 0 → IsOf n v) →
          IsOf (suc n) v
      by true e again =
          let low = ltb-true v (get_or vars n 0) e in
          let o = again low in
          let below = o.row in
          record { k = o.k; x = o.x; row = omega (arith, below); is = o.is; low = o.low }
      by false e again =
          let high = ltb-false v (get_or vars n 0) e in
          let more = next n (omega arith) in
          let same : get_or vars (n + 1) 0 ≡ get_or vars (suc n) 0 =
          let one : n + 1 ≡ suc n = omega arith in ap (λ m. get_or vars m 0) one in
          record {
            k = n;
            x = v - get_or vars n 0;
            row = omega arith;
            is = omega (arith, high);
            low = omega (arith, high, more, same, lt);
          }

module _ (c : Checking) (lawful : IsChecked c) (l : Layout)
    (laid : IsLayoutOf c.elab.reached c.elab.table l) where
  abbrev P : Program
  P = elaborated_program c.elab

  abbrev C : List table.Clock
  C = all_clocks (sources_of c l)

  small : element_total c.elab.reached c.elab.table ≤ 65536
  small = subst (λ n. n ≤ 65536) laid.count laid.few

  own_counted : AreCounted (sources_of c l)
  own_counted =
      counted P _ _ lawful.elaborated.reached lawful.elaborated.table lawful.elaborated.accepted
      lawful.accepted _ lawful.clocks _ _ laid.numbers laid.variables small

  long : length (all_clocks (sources_of c l))
      ≡ 2 * get_or l.variables.items (length c.elab.table.instances.items) 0
  long =
      let n = length c.elab.table.instances.items in
      ap (λ rows. length (clocks_among (sources_of c l) (all_runs (sources_of c l))
      (all_serving (sources_of c l)) rows))
      (sym (take_all n c.elab.table.instances.items (omega arith)))
      ∙ clocks_long (sources_of c l) own_counted (all_runs (sources_of c l))
      (all_serving (sources_of c l))
      (nodes_found P c.elab.reached c.elab.table lawful.elaborated.reached lawful.elaborated.table
      lawful.elaborated.accepted lawful.accepted c.clocks.items lawful.clocks l.variables.items
      l.starts.items laid.numbers laid.variables small) n (omega arith)

  -- the entry m of the table belongs to a variable of an instance and a sign
  record IsPlaced (m : ℕ) : Type 0 where
    here : Instance
    stands : In here (instances (elaborated_program c.elab))
    x : Name
    named : In x (variable_names here.node)
    sign : Bool
    spot :
        path_place (elaborated_program c.elab) l.variables.items here.path x + sign_place sign ≡ m

  at_variable :
      (v : ℕ) (sign : Bool) →
      v < get_or l.variables.items (length c.elab.table.instances.items) 0 → (m : ℕ) →
      2 * v + sign_place sign ≡ m → IsPlaced m
  at_variable v sign lt m there =
      let o = row_of_variable _ own_counted.first _ own_counted.next v lt in
      let i = item_at c.elab.table.instances.items o.k o.row in
      let s = row_shown P _ _ lawful.elaborated.table _ _ i.1 in
      of o.k o.x i.0 s.0 s.1 o.is o.low
    where
      of : (k x : ℕ) (i : row.Instance) (here : Instance) →
          IsRow (elaborated_program c.elab) c.elab.reached c.elab.table lawful.elaborated.table k i
          here → get_or l.variables.items k 0 + x ≡ v → x < count_at l.variables.items k →
          IsPlaced m
      of k x i here is number low =
          let on = in_at (instances P) k here is.instance_is in
          let many = row_count P _ _ lawful.elaborated.reached _ lawful.elaborated.accepted _
          laid.variables k _ here is in
          let names = length-map (variables here.node) (λ (d : Declaration). d.name) in
          let y = item_at (variable_names here.node) x (omega (arith, many, names, low)) in
          let row_is = row_number_is P _ _ _ k _ here is in
          let distinct = apart P _ _ lawful.elaborated.reached _ lawful.elaborated.accepted
          lawful.accepted _ lawful.clocks _ _ laid.numbers laid.variables small k _ here is in
          let place_is = variable_place_is P here on distinct x _ y.1 in
          let start : path_before P l.variables.items here.path ≡ get_or l.variables.items k 0 =
          cc in
          record {
            here = here;
            stands = on;
            x = y.0;
            named = in_at (variable_names here.node) x y.0 y.1;
            sign = sign;
            spot = omega (arith, number, place_is, start, there);
          }

  placed : (m : ℕ) → m < length (all_clocks (sources_of c l)) → IsPlaced m
  placed m lt = let h = halved m in by h.0 h.1
    where
      by : (v : ℕ) → (m ≡ 2 * v) ⊎ (m ≡ 2 * v + 1) → IsPlaced m
      by v (inl h) = at_variable v false (omega (arith, h, lt, long)) m (omega (arith, h))
      by v (inr h) = at_variable v true (omega (arith, h, lt, long)) m (sym h)

  terms_own :
      (here : Instance) → In here (instances (elaborated_program c.elab)) →
      Every (λ o. IsOwn here.node o.clock)
      (node_occurrences (elaborated_program c.elab) here.node)
  terms_own =
      own_terms P _ _ lawful.elaborated.reached lawful.elaborated.table lawful.elaborated.accepted
      lawful.accepted _ lawful.clocks _ _ laid.numbers laid.variables small

  by_formula :
      IsClockTable (elaborated_program c.elab) (all_clocks (sources_of c l))
      (path_place (elaborated_program c.elab) l.variables.items)
      (path_runs (elaborated_program c.elab) (all_runs (sources_of c l)))
      (path_before (elaborated_program c.elab) l.variables.items)
  by_formula =
      filled_table P c.elab.reached c.elab.table lawful.elaborated.reached lawful.elaborated.table
      lawful.elaborated.accepted lawful.accepted c.clocks.items lawful.clocks l.variables.items
      l.starts.items laid.numbers laid.variables small

  -- all clocks that are filled in are in range
  pub filled_within : AreClocks l.count (all_clocks (sources_of c l))
  filled_within m d lt =
      let e = item_at C m lt in
      let w = placed m lt in
      let size : length (program_elements P) ≡ l.count =
      sym (laid.count ∙ element_total_is P c.elab.reached c.elab.table lawful.elaborated.reached
      lawful.elaborated.table) in
      rw (← size) (rw (← (get_or_from_slice_get C m e.0 d e.1)) at (entry_within P
      lawful.elaborated.accepted lawful.accepted terms_own C (path_place P l.variables.items)
      (path_runs P (all_runs (sources_of c l))) (path_before P l.variables.items) by_formula w.here
      w.stands (at_path P w.here w.stands) w.x w.named w.sign e.0 (ap (slice_get C) w.spot ∙ e.1)))

  -- each clock that is filled in is the instants of its parent at which its element has its sign
  pub filled_whole : AreWhole (all_clocks (sources_of c l))
  filled_whole k t stands =
      let w = placed k.0 (slice_get_within C k.0 t stands) in
      entry_whole P lawful.elaborated.accepted lawful.accepted terms_own C
      (path_place P l.variables.items) (path_runs P (all_runs (sources_of c l)))
      (path_before P l.variables.items) by_formula _ w.stands _ w.named _ k t w.spot stands

  -- at most 131072 clocks are filled in: two for each variable
  pub filled_few : length (all_clocks (sources_of c l)) ≤ 131072
  filled_few =
      let n = length c.elab.table.instances.items in
      let all = laid.variables n (omega arith) in
      let few = pieces_narrow (widths_in c.elab.reached c.elab.table) c.elab.table.instances.items
      (row_narrow P c.elab.reached c.elab.table lawful.elaborated.reached lawful.elaborated.table
      lawful.elaborated.accepted) n in
      omega (arith, long, all, few, small)
