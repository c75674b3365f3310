-- The size of a program, as the rows of its table and the found types of its terms count it.
use Rattle.lb_expand.proofs.Words
use Words.{Checking, Counts, Global, In, Instance, IsChecked, IsReached, IsTable, List, NodeTypes}
use Words.{None, Option, Program, Reached, Some, Table, Vec, [], ap, ap₂, arith, either_or}
use Words.{elaborated_program, element_total, expression_size, false, flat_map, get_or, inl, inr}
use Words.{instance_elements, instances, is_small, length, length-append, lent_size, map, min}
use Words.{nat_le, nat_lt, nat_tests, node_parts, option_map, program_elements, refl, same_Some}
use Words.{size, slice_get, slice_get_within, specialized_instance, subst, suc, sum_by, sum_by-cons}
use Words.{sum_by_more, sum_of, sym, take, take_all, term_total, variables, width, widths_in, ℕ}
use Words.{◌+◌, ◌-◌, ◌<◌, ◌^◌, ◌∙◌, ◌∷◌, ◌≡◌, ◌≤◌}
use Rattle.lb_check.proofs.typing.FoundTypes.{size_found, types_lent}
use Rattle.lb_check.specs.{FoundTerms.HasFoundTypes, declared.found_types.TermType.TermType}
use Rattle.lb_expand.proofs.numbering.{NumberedRows.{elements_wide, first_is}, RowInstances.IsRow}
use Rattle.lb_expand.proofs.numbering.RowInstances.{row_shown, rows_many}
use Rattle.lb_expand.{proofs.numbering.StoredLayouts.sum_mapped, specs.TableSizes.HasTermSizes}
use Rattle.{lb_static.proofs.Members.contains_in, std.proofs.Common.max}
use Rattle.lb_static.specs.declared.table.Instance as row

-- The size that counting the rows of the table gives is the size of the program.

-- sums of counts that stop at 65,537 are equal as far as 65,537, and at most the sums of the full
-- counts
capped_sums :
    (f : row.Instance → ℕ) (g : Instance → ℕ) (rows : List row.Instance) (is : List Instance) →
    length rows ≡ length is →
    ((j : ℕ) (i : row.Instance) (here : Instance) → slice_get rows j ≡ Some i →
    slice_get is j ≡ Some here → f i ≡ min (g here) 65537) →
    (a : ℕ) → (min (a + sum_by f rows) 65537 ≡ min (a + sum_by g is) 65537)
    × (sum_by f rows ≤ sum_by g is)
capped_sums f g [] [] long same a = (refl, omega arith)
capped_sums f g (i ∷ rows) (c ∷ is) long same a =
    let rest = capped_sums f g rows is (omega (arith, long))
    (λ j l here p q. same (suc j) l here p q) (a + f i) in (
      omega (arith, same 0 i c refl refl, rest.0, sum_by-cons f i rows, sum_by-cons g c is),
      omega (arith, same 0 i c refl refl, rest.1, sum_by-cons f i rows, sum_by-cons g c is),
    )
capped_sums f g _ _ long same a = absurd (omega (arith, long))

small_below : (m n : ℕ) → min m 65537 ≡ min n 65537 → nat_le m 65536 ≡ nat_le n 65536
small_below m n e = grind (arith, nat_tests)

-- a number above 65,536 is not at most that
over : (n : ℕ) → 65536 < n → nat_le n 65536 ≡ false
over n lt = grind (arith, nat_tests)

-- ## A loop over rows

module _ {A : Type 0} (f : A → ℕ) where
  -- the room that is left behind one more row
  pub less_left :
      (xs : List A) (i : ℕ) (d : A) (a left size rest : ℕ) → i < length xs →
      left ≡ 65537 - (a + sum_by f (take i xs)) → size ≡ f (get_or xs i d) → rest ≡ left - size →
      rest ≡ 65537 - (a + sum_by f (take (i + 1) xs))
  less_left xs i d a left size rest lt h own next =
      omega (arith, h, own, next, sum_by_more f xs i d lt)

  -- room is left exactly where the sum is at most 65,536
  pub some_left :
      (xs : List A) (i a left : ℕ) → length xs ≤ i →
      left ≡ 65537 - (a + sum_by f (take i xs)) → nat_lt 0 left ≡ nat_le (a + sum_by f xs) 65536
  some_left xs i a left le h =
      by (sum_by f xs) (h ∙ ap (λ l. 65537 - (a + sum_by f l)) (take_all i xs le))
    where
      by : (n : ℕ) → left ≡ 65537 - (a + n) → nat_lt 0 left ≡ nat_le (a + n) 65536
      by n e = grind (arith, nat_tests)

-- ## Sums

sum_both :
    {A : Type 0} (f g : A → ℕ) (xs : List A) →
    sum_by (λ x. f x + g x) xs ≡ sum_by f xs + sum_by g xs
sum_both f g [] = refl
sum_both f g (x ∷ xs) =
    let all = sum_by-cons (λ x. f x + g x) x xs in
    omega (arith, sum_both f g xs, all, sum_by-cons f x xs, sum_by-cons g x xs)

module _ (P : Program) where
  -- the elements of instances are as many as their variables are wide
  wide_elements :
      (is : List Instance) →
      length (flat_map (instance_elements P) is)
      ≡ sum_by (λ (c : Instance). sum_by (width P c) (variables c.node)) is
  wide_elements [] = refl
  wide_elements (c ∷ is) =
      let own = elements_wide P c (variables c.node) ∙ sum_mapped (width P c) (variables c.node) in
      let all = length-append (instance_elements P c) (flat_map (instance_elements P) is) in
      let cons = sum_by-cons (λ (c : Instance). sum_by (width P c) (variables c.node)) c is in
      omega (arith, own, wide_elements is, all, cons)

  -- the elements of the expressions of an instance
  abbrev parts_size : Instance → ℕ
  parts_size c = sum_by (expression_size P c) (node_parts c.node)

  -- the size is that of the variables and that of the expressions
  pub size_parts :
      size P
      ≡ length (flat_map (instance_elements P) (instances P)) + sum_by parts_size (instances P)
  size_parts =
      sum_both (λ (c : Instance). sum_by (width P c) (variables c.node)) parts_size (instances P)
      ∙ ap (λ n. n + sum_by parts_size (instances P)) (sym (wide_elements (instances P)))

  module _ (r : Reached) (t : Table) (reached : IsReached P r) (table : IsTable P r t) where
    total_is : element_total r t ≡ length (flat_map (instance_elements P) (instances P))
    total_is =
        let rows = t.instances.items in
        let all_is = take_all (length rows) (instances P) (omega (arith, rows_many P r t table)) in
        ap (λ l. sum_of (flat_map (widths_in r t) l))
        (sym (take_all (length rows) rows (omega arith)))
        ∙ (first_is P r t reached table (length rows)
        ∙ ap (λ l. length (flat_map (instance_elements P) l)) all_is)

    -- there are as many elements in the rows as in the program
    pub element_total_is : element_total r t ≡ length (program_elements P)
    unfolding program_elements
    element_total_is = total_is

    -- a program with more than 65,536 elements is not small
    pub too_many : 65536 < element_total r t → is_small P ≡ false
    too_many many = over (size P) (omega (arith, many, total_is, size_parts))

    -- a row of the table has the size of its instance, stopped at 65,537
    row_size :
        (sizes : ℕ → ℕ) → HasTermSizes P r t sizes → (j : ℕ) (i : row.Instance)
        (here : Instance) → slice_get t.instances.items j ≡ Some i →
        slice_get (instances P) j ≡ Some here →
        sizes i.specialization.0 ≡ min (parts_size here) 65537
    row_size sizes has j i here e f =
        let shown = row_shown P r t table j i e in
        let same = same_Some shown.0 here (sym shown.1.instance_is ∙ f) in
        let is = subst (IsRow P r t table j i) same shown.1 in
        has i.specialization.0 is.specialization is.specialized here.path here
        (specialized_instance P r t reached table is.specialization is.node here.path
        is.resolved ∙ ap (λ c. Some c) (sym is.same))

    -- the program is small exactly where the size that is counted is at most 65,536
    pub counted_small :
        (sizes : ℕ → ℕ) → HasTermSizes P r t sizes →
        nat_le (element_total r t + term_total t sizes) 65536 ≡ is_small P
    counted_small sizes has =
        small_below (element_total r t + term_total t sizes) (size P)
        ((capped_sums (λ (i : row.Instance). sizes i.specialization.0) parts_size
        t.instances.items (instances P) (rows_many P r t table) (row_size sizes has)
        (element_total r t)).0
        ∙ ap (λ n. min n 65537) (ap (λ n. n + sum_by parts_size (instances P)) total_is
        ∙ sym size_parts))

    -- the variables have no more elements than the program
    pub variables_within : element_total r t ≤ size P
    variables_within = omega (arith, total_is, size_parts)

    -- the size that is counted is at most the size of the program
    pub counted_within :
        (sizes : ℕ → ℕ) → HasTermSizes P r t sizes →
        element_total r t + term_total t sizes ≤ size P
    counted_within sizes has =
        let terms = (capped_sums (λ (i : row.Instance). sizes i.specialization.0) parts_size
        t.instances.items (instances P) (rows_many P r t table) (row_size sizes has) 0).1 in
        omega (arith, total_is, size_parts, terms)

-- Whether a program is small, from the found types of its terms.

module _ (P : Program) (r : Reached) (t : Table) (reached : IsReached P r) (table : IsTable P r t)
  where
    -- what is found of each specialization has the size of the expressions of its instances
    pub sizes_found :
        (found : Vec NodeTypes Global) → HasFoundTypes P r t (Some found) →
        HasTermSizes P r t (lent_size (Some found))
    sizes_found found has i s at p here e =
        let l = types_lent P r t reached table found has i s at p here e in
        ap (λ (o : Option NodeTypes). either_or (option_map
        (λ (f : NodeTypes). min (sum_by (λ (t : TermType). t.elements) f.terms.items) 65537) o)
        65537) l.1
        ∙ size_found P here l.0 l.2

    -- where there are no rows, there are no specializations
    pub no_sizes : t.instances.items ≡ [] → (size : ℕ → ℕ) → HasTermSizes P r t size
    no_sizes empty size i s at p here e =
        let used = contains_in (map (λ (k : row.Instance). k.specialization.0) t.instances.items) i
        (table.used i (slice_get_within t.specializations.items i s at)) in
        absurd (subst (λ (rows : List row.Instance).
        In i (map (λ (k : row.Instance). k.specialization.0) rows)) empty used)

    -- a program is small exactly where its elements and the sizes of its terms are at most 65,536
    pub lent_small :
        (types : Option (Vec NodeTypes Global)) → HasFoundTypes P r t types →
        nat_le (element_total r t + term_total t (lent_size types)) 65536 ≡ is_small P
    lent_small (Some found) has =
        counted_small P r t reached table (lent_size (Some found)) (sizes_found found has)
    lent_small None has = by t.instances.items refl
      where
        by : (rows : List row.Instance) → t.instances.items ≡ rows →
            nat_le (element_total r t + term_total t (lent_size None)) 65536 ≡ is_small P
        by [] is = counted_small P r t reached table (lent_size None) (no_sizes is (lent_size None))
        by (i ∷ rows) is =
            let size = λ (k : row.Instance). lent_size None k.specialization.0 in
            let total : term_total t (lent_size None) ≡ 65537 + sum_by size rows = ap (sum_by size)
            is ∙ sum_by-cons size i rows in
            over (element_total r t + term_total t (lent_size None)) (omega (arith, total)) ∙ sym
            has

-- a checked program is small exactly where something is left after all its rows are subtracted
pub left_small :
    (c : Checking) → IsChecked c → (rows : List row.Instance) →
    rows ≡ c.elab.table.instances.items → (elements left i : ℕ) →
    elements ≡ element_total c.elab.reached c.elab.table → length rows ≤ i →
    left
    ≡ 65537 - (elements
    + sum_by (λ (k : row.Instance). lent_size c.types k.specialization.0) (take i rows)) →
    nat_lt 0 left ≡ is_small (elaborated_program c.elab)
left_small c is rows same elements left i own end known =
    let size = λ (k : row.Instance). lent_size c.types k.specialization.0 in
    some_left size rows i elements left end known
    ∙ ap₂ (λ (n : ℕ) (ks : List row.Instance). nat_le (n + sum_by size ks) 65536) own same
    ∙ lent_small (elaborated_program c.elab) c.elab.reached c.elab.table is.elaborated.reached
    is.elaborated.table c.types is.types

-- The size counted for a program that is too large is over the limit, and at most its real size.

-- ## Counts

pub nothing_counted : Counts 0 0
nothing_counted = record { no_more = omega arith; as_many = omega arith }

-- the sum of two counts, cut off at 2 ^ 64 - 1, counts both
pub both_counted :
    (m n next a b : ℕ) → Counts m a → Counts n b → next ≡ min (m + n) (2 ^ 64 - 1) →
    Counts next (a + b)
both_counted m n next a b p q e = record {
  no_more = omega (arith, e, p.no_more, q.no_more);
  as_many = omega (arith, e, p.no_more, p.as_many, q.no_more, q.as_many);
}

module _ {A : Type 0} (f : A → ℕ) where
  pub all_counted :
      (xs : List A) (i m : ℕ) → length xs ≤ i → Counts m (sum_by f (take i xs)) →
      Counts m (sum_by f xs)
  all_counted xs i m le p = subst (λ l. Counts m (sum_by f l)) (take_all i xs le) p

-- ## The size of a program

over_limit : (n : ℕ) → nat_le n 65536 ≡ false → 65536 < n
over_limit n e = grind (arith, nat_tests)

module _ (c : Checking) (checked : IsChecked c)
    (large : is_small (elaborated_program c.elab) ≡ false) where
  abbrev P : Program
  P = elaborated_program c.elab

  abbrev r : Reached
  r = c.elab.reached

  abbrev t : Table
  t = c.elab.table

  reached : IsReached P r
  reached = checked.elaborated.reached

  table : IsTable P r t
  table = checked.elaborated.table

  -- the sizes lent of specializations are those of their expressions, where there are rows
  sizes_lent :
      (types : Option (Vec NodeTypes Global)) → HasFoundTypes P r t types →
      (types ≡ None → length t.instances.items ≡ 0) → HasTermSizes P r t (lent_size types)
  sizes_lent (Some found) has none = sizes_found P r t reached table found has
  sizes_lent None has none =
      no_sizes P r t reached table (nothing t.instances.items (none refl)) (lent_size None)
    where
      nothing : (rows : List row.Instance) → length rows ≡ 0 → rows ≡ []
      nothing [] e = refl
      nothing (i ∷ rows) e = absurd (omega (arith, e))

  -- the counted variables and expressions are over the limit, and at most the size
  pub both_over :
      (m n next : ℕ) → Counts m (element_total r t) → Counts n (term_total t (lent_size c.types)) →
      (c.types ≡ None → length t.instances.items ≡ 0) → next ≡ min (m + n) (2 ^ 64 - 1) →
      (65536 < next) × (next ≤ size P)
  both_over m n next p q none e =
      let both = both_counted m n next _ _ p q e in
      let within = counted_within P r t reached table (lent_size c.types)
      (sizes_lent c.types checked.types none) in
      let over = over_limit _ (lent_small P r t reached table c.types checked.types ∙ large) in (
        omega (arith, over, both.as_many),
        omega (arith, within, both.no_more),
      )

  -- the counted variables alone are over the limit, and at most the size
  pub variables_over :
      (m next : ℕ) → Counts m (element_total r t) → next ≡ max m 65537 →
      (65536 < next) × (next ≤ size P)
  variables_over m next p e =
      let within = variables_within P r t reached table in
      let over = over_limit (size P) large in
      (omega (arith, e), omega (arith, e, within, over, p.no_more))

-- In a program within the limit of size no array in an expression has elements of more scalars than
-- the limit, so that a number that stops there is the number itself.

-- each summand is at most the sum
pub in_sum : {A : Type 0} (f : A → ℕ) (xs : List A) (x : A) → In x xs → f x ≤ sum_by f xs
in_sum f [] x i = absurd i
in_sum f (y ∷ xs) x (inl e) = omega (arith, sum_by-cons f y xs, ap f e)
in_sum f (y ∷ xs) x (inr i) = omega (arith, sum_by-cons f y xs, in_sum f xs x i)
