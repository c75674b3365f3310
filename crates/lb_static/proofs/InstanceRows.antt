-- The rows that instantiation adds to its table, and the instances that they stand for.
use Rattle.std.proofs.Common.{◌≡◌, ℕ, ◌+◌, ◌<◌, ◌≤◌, ℤ, List, [], ◌∷◌, ◌++◌, map, length, set}
use Rattle.std.proofs.Common.{get_or, Option, Some, None, option_map, refl, ap, ap₂, sym, ◌∙◌}
use Rattle.std.proofs.Common.{subst, inl, inr, ◌⊎◌, arith}
use Rattle.std.specs.Prelude.{slice_get}
use Rattle.std.specs.List.{Contains}
use Rattle.std.proofs.lemmas.List.{append-nil, length-append, map-append, set_at, append_assoc}
use Rattle.std.proofs.lemmas.Option.{get_or_from_slice_get}
use Rattle.std.proofs.lemmas.List.Elements.{Contains-append_left, Contains-append_right}
use Rattle.std.proofs.lemmas.Bool.{cases_lt}
use Rattle.lb_syntax.specs.Lists.{either_or, zip2}
use Rattle.lb_syntax.proofs.ListPlaces.{get_first}
use Rattle.lb_static.specs.Instances.{Program, Instance, Path, Root, Child, instances}
use Rattle.lb_static.specs.InstanceTable.{instance_of, specialized_at, path_from, paths_after}
use Rattle.lb_static.specs.InstanceTable.{row_at, rows_of, CallersStandBefore}
use Rattle.lb_static.specs.ReachedNodes.{tree_at}
use Rattle.lb_static.specs.ResolvedNodes.{node_of}
use Rattle.lb_static.specs.Instantiated.{HasGrown, IsKnown}
use Rattle.lb_static.specs.InstanceRows.{begun_row, stood, stood_after, places_of, HasUsed, HasRows}
use Rattle.lb_static.specs.InstanceRows.{IsSpecializedRow, IsOneMore, AreInstances}
use Rattle.lb_static.specs.declared.reachable.NodeId.{NodeId}
use Rattle.lb_static.specs.declared.reachable.Reached.{Reached}
use Rattle.lb_static.specs.declared.resolved.CallId.{CallId}
use Rattle.lb_static.specs.declared.resolved.ResolvedNode.{ResolvedNode}
use Rattle.lb_static.specs.declared.table.Instance as row
use Rattle.lb_static.specs.declared.table.Origin.{Origin}
use Rattle.lb_static.specs.declared.table.Origin.TheVariants as origin
use Rattle.lb_static.specs.declared.table.Specialization.{Specialization}
use Rattle.lb_static.specs.declared.table.SpecializationId.{SpecializationId}
use Rattle.lb_static.specs.declared.table.Table.{Table}

-- ## Lists

got_next : {A : Type 0} (xs ys : List A) (x : A) → slice_get (xs ++ x ∷ ys) (length xs) ≡ Some x
got_next [] ys x = refl
got_next (y ∷ xs) ys x = got_next xs ys x

-- ## Paths

paths_append : (before : List Path) (xs ys : List row.Instance)
    → paths_after before (xs ++ ys) ≡ paths_after (paths_after before xs) ys
paths_append before [] ys = refl
paths_append before (x ∷ xs) ys = paths_append (before ++ path_from before x.origin ∷ []) xs ys

pub paths_length : (before : List Path) (xs : List row.Instance)
    → length (paths_after before xs) ≡ length before + length xs
paths_length before [] = omega arith
paths_length before (x ∷ xs) =
    let next = before ++ path_from before x.origin ∷ [] in
    let e : length next ≡ length before + 1 =
    length-append before (path_from before x.origin ∷ []) in
    omega (arith, paths_length next xs)

pub paths_kept : (before : List Path) (xs : List row.Instance) (i : ℕ) (p : Path)
    → slice_get before i ≡ Some p → slice_get (paths_after before xs) i ≡ Some p
paths_kept before [] i p e = e
paths_kept before (x ∷ xs) i p e =
    paths_kept (before ++ path_from before x.origin ∷ []) xs i p
    (get_first before (path_from before x.origin ∷ []) i p e)

-- the paths of rows that are added after rows with the paths `before`
paths_added : List Path → List row.Instance → List Path
paths_added before [] = []
paths_added before (x ∷ xs) =
    path_from before x.origin ∷ paths_added (before ++ path_from before x.origin ∷ []) xs

paths_split : (before : List Path) (xs : List row.Instance)
    → paths_after before xs ≡ before ++ paths_added before xs
unfolding paths_added
paths_split before [] = sym (append-nil before)
paths_split before (x ∷ xs) =
    let here = path_from before x.origin in
    paths_split (before ++ here ∷ []) xs
    ∙ append_assoc before (here ∷ []) (paths_added (before ++ here ∷ []) xs)

-- ## Rows that stand for instances

module _ (r : Reached) where
  stood_append : (s : List Specialization) (before : List Path) (xs ys : List row.Instance)
      → stood_after r s before (xs ++ ys) ≡ stood_after r s before xs
      ++ stood_after r s (paths_after before xs) ys
  stood_append s before [] ys = refl
  stood_append s before (x ∷ xs) ys =
      ap (λ l. stood r s (path_from before x.origin) x ∷ l)
      (stood_append s (before ++ path_from before x.origin ∷ []) xs ys)

  stood_grown : (s t : List Specialization) (p : Path) (i : row.Instance) (here : Instance)
      → HasGrown s t
      → stood r s p i ≡ Some here → stood r t p i ≡ Some here
  stood_grown s t p i here grown e = by (slice_get s i.specialization.0) refl e
    where
      by : (o : Option Specialization) → slice_get s i.specialization.0 ≡ o
          → either_or (option_map (specialized_at r p) o) None ≡ Some here
          → stood r t p i ≡ Some here
      by None is h = absurd cc
      by (Some a) is h = ap (λ o. either_or (option_map (specialized_at r p) o) None)
          (grown i.specialization.0 a is) ∙ h

  all_grown : (s t : List Specialization) (before : List Path) (rows : List row.Instance)
      (entered : List Instance) → HasGrown s t
      → stood_after r s before rows ≡ map Some entered
      → stood_after r t before rows ≡ map Some entered
  all_grown s t before [] [] grown e = refl
  all_grown s t before [] (x ∷ xs) grown e = absurd cc
  all_grown s t before (i ∷ rest) [] grown e = absurd cc
  all_grown s t before (i ∷ rest) (x ∷ xs) grown e =
      let p = path_from before i.origin in
      let first : stood r s p i ≡ Some x = cc in
      let later : stood_after r s (before ++ p ∷ []) rest ≡ map Some xs = cc in
      ap₂ (λ o l. o ∷ l) (stood_grown s t p i x grown first)
      (all_grown s t (before ++ p ∷ []) rest xs grown later)

  pub rows_none : (s : List Specialization) (before after : List row.Instance) → after ≡ before
      → HasRows r s before after []
  rows_none s before after e =
      record { added = []; whole = e ∙ sym (append-nil before); stand = refl }

  pub rows_grown : (s t : List Specialization) (before after : List row.Instance)
      (entered : List Instance) → HasGrown s t
      → HasRows r s before after entered → HasRows r t before after entered
  rows_grown s t before after entered grown h = record {
    added = h.added;
    whole = h.whole;
    stand = all_grown s t (paths_after [] before) h.added entered grown h.stand;
  }

  pub rows_more : (s : List Specialization) (before middle after : List row.Instance)
      (xs ys : List Instance)
      → HasRows r s before middle xs → HasRows r s middle after ys
      → HasRows r s before after (xs ++ ys)
  rows_more s before middle after xs ys h k = record {
    added = h.added ++ k.added;
    whole = k.whole ∙ ap (λ l. l ++ k.added) h.whole ∙ append_assoc before h.added k.added;
    stand =
        let paths : paths_after [] middle ≡ paths_after (paths_after [] before) h.added =
        ap (paths_after []) h.whole ∙ paths_append [] before h.added in
        stood_append s (paths_after [] before) h.added k.added
        ∙ ap₂ (λ l m. l ++ m) h.stand (ap (λ b. stood_after r s b k.added) (sym paths) ∙ k.stand)
        ∙ sym (map-append Some xs ys);
  }

  -- the row of an instance, and then the rows of the instances below it, stand for these instances
  pub rows_specialized : (s : List Specialization) (before middle after : List row.Instance)
      (from : Origin) (p : Path) (place : ℕ) (id : SpecializationId)
      (here : Instance) (below : List Instance) → place ≡ length before
      → path_from (paths_after [] before) from ≡ p
      → stood r s p (record { specialization = id; origin = from }) ≡ Some here
      → HasRows r s (before ++ begun_row from ∷ []) middle below
      → IsSpecializedRow place id middle after → HasRows r s before after (here ∷ below)
  rows_specialized s before middle after from p place id here below at path stands h linked_calls =
      let specialized_row : row.Instance = record { specialization = id; origin = from } in
      let paths = paths_after [] before in
      record {
        added = specialized_row ∷ h.added;
        whole = linked_calls before h.added (begun_row from) (sym at)
            (h.whole ∙ append_assoc before (begun_row from ∷ []) h.added);
        stand =
            ap₂ (λ o l. o ∷ l)
            (ap (λ q. stood r s q specialized_row) path ∙ stands)
            (ap (λ b. stood_after r s b h.added)
            (sym (paths_append [] before (begun_row from ∷ []))) ∙ h.stand);
      }

  -- a row with a known specialization stands for the instance of its node with its values
  pub known_stands : (s : List Specialization) (node : NodeId) (n : ResolvedNode) (values : List ℤ)
      (id : SpecializationId) (from : Origin) (p : Path)
      → tree_at r node ≡ Some (node_of n) → IsKnown s node values id
      → stood r s p (record { specialization = id; origin = from })
      ≡ Some (instance_of p (node_of n) values)
  known_stands s node n values id from p tree k =
      ap (λ o. either_or (option_map (specialized_at r p) o) None) k.1
      ∙ ap (option_map (λ m. instance_of p m k.0.values.items)) (ap (tree_at r) k.2 ∙ tree)
      ∙ ap (λ vs. Some (instance_of p (node_of n) vs)) k.3

  -- the path of an instance that is called is below the path of its caller
  pub path_below : (s : List Specialization) (before now : List row.Instance) (from : Origin)
      (p : Path) (place : ℕ) (entered : List Instance) (call : CallId)
      (index : ℕ) → place ≡ length before → path_from (paths_after [] before) from ≡ p
      → HasRows r s (before ++ begun_row from ∷ []) now entered
      → path_from (paths_after [] now) (origin.Called (record { 0 = place }) call index)
      ≡ Child p call.0 index
  path_below s before now from p place entered call index at path h =
      let paths = paths_after [] before in
      let first = paths ++ path_from paths from ∷ [] in
      let all : paths_after [] now ≡ paths_after first h.added =
      ap (paths_after []) h.whole ∙ paths_append [] (before ++ begun_row from ∷ []) h.added
      ∙ ap (λ b. paths_after b h.added) (paths_append [] before (begun_row from ∷ [])) in
      let counted = paths_length [] before in
      let many : length paths ≡ place = omega arith in
      let there : slice_get first place ≡ Some (path_from paths from) =
      subst (λ (k : ℕ). slice_get first k ≡ Some (path_from paths from)) many
      (got_next paths [] (path_from paths from)) in
      let found : slice_get (paths_after [] now) place ≡ Some p =
      ap (λ l. slice_get l place) all ∙ paths_kept first h.added place (path_from paths from) there
      ∙ ap (λ q. Some q) path in
      ap (λ o. Child (either_or o Root) call.0 index) found

  zipped : (t : Table) (before : List Path) (rows : List row.Instance)
      → zip2 (row_at r t) (paths_added before rows) rows
      ≡ stood_after r t.specializations.items before rows
  unfolding paths_added
  zipped t before [] = refl
  zipped t before (i ∷ rest) =
      let p = path_from before i.origin in
      ap (λ l. row_at r t p i ∷ l) (zipped t (before ++ p ∷ []) rest)

  -- the rows of a whole table stand for the instances that were entered
  pub rows_whole : (t : Table) (entered : List Instance)
      → HasRows r t.specializations.items [] t.instances.items entered
      → rows_of r t ≡ map Some entered
  rows_whole t entered h =
      ap (λ l. zip2 (row_at r t) (paths_after [] l) l) h.whole
      ∙ ap (λ l. zip2 (row_at r t) l h.added) (paths_split [] h.added)
      ∙ zipped t [] h.added ∙ h.stand

-- ## Specializations that have a row

pub used_none : (first last : List Specialization) (before after : List row.Instance) → last ≡ first
    → after ≡ before → HasUsed first last before after
used_none first last before after same e = record {
  added = [];
  whole = e ∙ sym (append-nil before);
  used = λ i from within. absurd (omega (arith, ap length same));
}

used_added : (xs ys : List row.Instance) (i : ℕ)
    → Contains (places_of xs) i ⊎ Contains (places_of ys) i → Contains (places_of (xs ++ ys)) i
used_added xs ys i h =
    subst (λ l. Contains l i) (sym (map-append (λ (k : row.Instance). k.specialization.0) xs ys))
    (elim h as (λ _. Contains (places_of xs ++ places_of ys) i) [
      | inl k ↦ Contains-append_left (places_of xs) (places_of ys) i k
      | inr k ↦ Contains-append_right (places_of xs) (places_of ys) i k
    ])

pub used_more : (first middle last : List Specialization) (before now after : List row.Instance)
    → HasUsed first middle before now → HasUsed middle last now after
    → HasUsed first last before after
used_more first middle last before now after h k = record {
  added = h.added ++ k.added;
  whole = k.whole ∙ ap (λ l. l ++ k.added) h.whole ∙ append_assoc before h.added k.added;
  used = λ i from within. used_added h.added k.added i
      (elim (cases_lt i (length middle)) as
      (λ _. Contains (places_of h.added) i ⊎ Contains (places_of k.added) i) [
        | inl below ↦ inl (h.used i from below)
        | inr above ↦ inr (k.used i above within)
      ]);
}

pub used_specialized : (first middle last : List Specialization)
    (before now after : List row.Instance)
    (from : Origin) (place : ℕ) (id : SpecializationId)
    → place ≡ length before → HasUsed first middle (before ++ begun_row from ∷ []) now
    → IsSpecializedRow place id now after → IsOneMore id.0 middle last
    → HasUsed first last before after
used_specialized first middle last before now after from place id at h linked_calls more =
    let specialized_row : row.Instance = record { specialization = id; origin = from } in
    record {
      added = specialized_row ∷ h.added;
      whole = linked_calls before h.added (begun_row from) (sym at)
          (h.whole ∙ append_assoc before (begun_row from ∷ []) h.added);
      used = λ i from within. used_added (specialized_row ∷ []) h.added i
          (elim (cases_lt i (length middle)) as
          (λ _. Contains (places_of (specialized_row ∷ [])) i ⊎ Contains (places_of h.added) i) [
            | inl below ↦ inr (h.used i from below)
            | inr above ↦ let e : i ≡ id.0 = more i above within in inl
                (subst (λ (k : ℕ). Contains (id.0 ∷ []) k) (sym e) (0, omega arith, refl))
          ]);
    }

pub used_whole : (s : List Specialization) (rows : List row.Instance) → HasUsed [] s [] rows
    → (i : ℕ) → i < length s → Contains (places_of rows) i
used_whole s rows h i within =
    subst (λ l. Contains (places_of l) i) (sym h.whole) (h.used i (omega arith) within)

-- ## The whole table

pub are_instances : (P : Program) (r : Reached) (t : Table) (s : List Specialization)
    (rows : List row.Instance) (entered : List Instance)
    → t.specializations.items ≡ s → t.instances.items ≡ rows → instances P ≡ entered
    → HasRows r s [] rows entered → HasUsed [] s [] rows → length rows ≤ 4096
    → CallersStandBefore rows → AreInstances P r t
are_instances P r t s rows entered e f same stand used few before =
    let here = t.specializations.items in
    record {
      instances =
          rows_whole r t entered (subst (λ l. HasRows r here [] l entered) (sym f)
          (subst (λ l. HasRows r l [] rows entered) (sym e) stand))
          ∙ ap (map Some) (sym same);
      used = used_whole here t.instances.items
          (subst (λ l. HasUsed [] here [] l) (sym f)
          (subst (λ l. HasUsed [] l [] rows) (sym e) used));
      few = omega (arith, ap length f);
      before = subst CallersStandBefore (sym f) before;
    }

-- ## A row with its specialization

got_at : {A : Type 0} (front back : List A) (i x : A) (place : ℕ) → length front ≡ place
    → x ≡ get_or (front ++ i ∷ back) place x → x ≡ i
got_at front back i x place at e =
    let found : slice_get (front ++ i ∷ back) place ≡ Some i =
    subst (λ (k : ℕ). slice_get (front ++ i ∷ back) k ≡ Some i) at (got_next front back i) in
    e ∙ get_or_from_slice_get (front ++ i ∷ back) place i x found

pub row_set : (items before front back : List row.Instance) (i x : row.Instance) (place : ℕ)
    (id : SpecializationId) → items ≡ before → length front ≡ place
    → before ≡ front ++ i ∷ back → x ≡ get_or items place x
    → set items place (record { specialization = id; origin = x.origin }) ≡ front
    ++ record { specialization = id; origin = i.origin } ∷ back
row_set items before front back i x place id same at is read =
    let all = same ∙ is in
    let here : x ≡ i = got_at front back i x place at (read ∙ ap (λ l. get_or l place x) all) in
    ap (λ l. set l place (record { specialization = id; origin = x.origin })) all
    ∙ set_at front i back (record { specialization = id; origin = x.origin }) place at
    ∙ ap (λ (k : row.Instance). front ++ record { specialization = id; origin = k.origin } ∷ back)
    here
