-- Marks on elements, and a test of the elements that are marked.
use Rattle.std.proofs.Common.{◌≡◌, ◌↔◌, ℕ, zero, suc, ◌+◌, ◌<◌, ◌≤◌, Bool, true, false, List, []}
use Rattle.std.proofs.Common.{◌∷◌, ◌++◌, ◌⊎◌, ◌||◌, get_or, set, length, take, drop, replicate}
use Rattle.std.proofs.Common.{refl, sym, ap, ◌∙◌, subst, arith, inl, inr, ⊎_elim, length-set}
use Rattle.std.specs.List.{list_any}
use Rattle.std.proofs.Math.ListN.{drop_of_length-le}
use Rattle.std.proofs.lemmas.Bool.{cases_eq}
use Rattle.std.proofs.lemmas.List.{get_or-set_other, get_or-set_same, length-replicate}
use Rattle.std.proofs.lemmas.List.{drop_more, map-append, take_more}
use Rattle.lb_syntax.specs.Lists.{In}
use Rattle.lb_syntax.proofs.TruthValues.{both_ways, contrary}
use Rattle.lb_flat.specs.Judging.{FlatProgram, named_elements}
use Rattle.lb_flat.specs.Programs.{numbers_of}
use Rattle.lb_flat.specs.declared.equation.ElementId.{ElementId}
use Rattle.lb_flat.proofs.ordering.Ordering.{unmarked}

-- ## Elements of lists

in_second : (xs ys : List ℕ) (a : ℕ) → In a ys → In a (xs ++ ys)
in_second [] ys a i = i
in_second (x ∷ xs) ys a i = inr (in_second xs ys a i)

in_first : (xs ys : List ℕ) (a : ℕ) → In a xs → In a (xs ++ ys)
in_first [] ys a i = absurd i
in_first (x ∷ xs) ys a (inl e) = inl e
in_first (x ∷ xs) ys a (inr i) = inr (in_first xs ys a i)

in_parts : (xs ys : List ℕ) (a : ℕ) → In a (xs ++ ys) → In a xs ⊎ In a ys
in_parts [] ys a i = inr i
in_parts (x ∷ xs) ys a (inl e) = inl (inl e)
in_parts (x ∷ xs) ys a (inr i) =
    ⊎_elim (λ (r : In a xs). inl (inr r)) (λ (r : In a ys). inr r) (in_parts xs ys a i)

-- an operand of a memory is a named element
pub operand_named : (f : FlatProgram) (a : ℕ) → In a f.memory_operands → In a (named_elements f)
operand_named f a i =
    in_second _ (f.memory_operands ++ f.asserted) a (in_first f.memory_operands f.asserted a i)

-- ## Marks

-- the marks are on the elements of a list
pub record AreMarked (elements : List ℕ) (marks : List Bool) (size : ℕ) : Type 0 where
  pub as_long : length marks ≡ size
  pub marked : (a : ℕ) → (get_or marks a false ≡ true) ↔ In a elements

pub marked_none : (marks : List Bool) (size : ℕ) → marks ≡ replicate size false →
    AreMarked [] marks size
marked_none marks size is = record {
  as_long = ap length is ∙ length-replicate size false;
  marked = λ a. (
    λ e.
        contrary (get_or marks a false) e (ap (λ l. get_or l a false) is ∙ unmarked size a),
    λ i. absurd i,
  );
}

pub marked_more :
    (elements : List ℕ) (marks : List Bool) (size e : ℕ) → e < size →
    AreMarked elements marks size → AreMarked (elements ++ e ∷ []) (set marks e true) size
marked_more elements marks size e lt h = record {
  as_long = length-set marks e true ∙ h.as_long;
  marked = λ a. (to a, from a);
}
  where
    here : get_or (set marks e true) e false ≡ true
    here = get_or-set_same marks e true false (omega (arith, lt, h.as_long))

    to : (a : ℕ) → get_or (set marks e true) a false ≡ true → In a (elements ++ e ∷ [])
    to a is =
        ⊎_elim
        (λ (same : a ≡ e). in_second elements (e ∷ []) a (inl (sym same)))
        (λ (other : a ≡ e → ⊥).
        in_first elements (e ∷ []) a
        ((h.marked a).0 (sym (get_or-set_other marks e a true false other) ∙ is)))
        (cases_eq a e)

    from : (a : ℕ) → In a (elements ++ e ∷ []) → get_or (set marks e true) a false ≡ true
    from a i =
        ⊎_elim
        (λ (same : a ≡ e). ap (λ k. get_or (set marks e true) k false) same ∙ here)
        (λ (other : a ≡ e → ⊥).
        get_or-set_other marks e a true false other
        ∙ (h.marked a).1
        (⊎_elim (λ (r : In a elements). r)
        (λ (r : In a (e ∷ [])). absurd (⊎_elim (λ (s : e ≡ a). other (sym s)) (λ n. n) r))
        (in_parts elements (e ∷ []) a i)))
        (cases_eq a e)

-- the numbers of the first `i` elements and element `i` are those of the first `i + 1`
pub numbers_more : (xs : List ElementId) (i : ℕ) (d : ElementId) → i < length xs →
    numbers_of (take i xs) ++ (get_or xs i d).0 ∷ [] ≡ numbers_of (take (i + 1) xs)
numbers_more xs i d lt =
    sym (ap numbers_of (take_more xs i d lt)
    ∙ map-append (λ (a : ElementId). a.0) (take i xs) (get_or xs i d ∷ []))

-- ## The marked elements, in order

abbrev pub marked_from : ℕ → List Bool → List ℕ
marked_from i [] = []
marked_from i (true ∷ marks) = i ∷ marked_from (suc i) marks
marked_from i (false ∷ marks) = marked_from (suc i) marks

pub marked_end : (marks : List Bool) (i : ℕ) → length marks ≤ i →
    marked_from i (drop i marks) ≡ []
marked_end marks i le = ap (marked_from i) (drop_of_length-le marks le)

-- the next element is marked, and the others come behind it
pub marked_cut : (marks : List Bool) (i : ℕ) (d : Bool) → i < length marks →
    get_or marks i d ≡ true →
    marked_from i (drop i marks) ≡ i ∷ marked_from (i + 1) (drop (i + 1) marks)
marked_cut marks i d lt on =
    let e : suc i ≡ i + 1 = omega arith in
    ap (marked_from i) (drop_more marks i d lt ∙ ap (λ b. b ∷ drop (i + 1) marks) on)
    ∙ ap (λ n. i ∷ marked_from n (drop (i + 1) marks)) e

-- an element that is marked is in the list of marked elements
marked_in : (i : ℕ) (marks : List Bool) (k : ℕ) → get_or marks k false ≡ true →
    In (i + k) (marked_from i marks)
marked_in i [] k is = absurd (contrary false is refl)
marked_in i (true ∷ marks) zero is = inl (omega arith)
marked_in i (false ∷ marks) zero is = absurd (contrary false is refl)
marked_in i (true ∷ marks) (suc k) is =
    let same : suc i + k ≡ i + suc k = omega arith in
    inr (subst (λ a. In a (marked_from (suc i) marks)) same (marked_in (suc i) marks k is))
marked_in i (false ∷ marks) (suc k) is =
    let same : suc i + k ≡ i + suc k = omega arith in
    subst (λ a. In a (marked_from (suc i) marks)) same (marked_in (suc i) marks k is)

-- the place of a marked element in a table of marks
record IsMark (i : ℕ) (marks : List Bool) (a : ℕ) : Type 0 where
  pub place : ℕ
  pub is : i + place ≡ a
  pub marked : get_or marks place false ≡ true

next_mark : (i : ℕ) (b : Bool) (marks : List Bool) (a : ℕ) → IsMark (suc i) marks a →
    IsMark i (b ∷ marks) a
next_mark i b marks a h = record {
  place = suc h.place;
  is = omega (arith, h.is);
  marked = h.marked;
}

in_marked : (i : ℕ) (marks : List Bool) (a : ℕ) → In a (marked_from i marks) → IsMark i marks a
in_marked i [] a r = absurd r
in_marked i (true ∷ marks) a (inl e) = record {
  place = 0;
  is = omega (arith, e);
  marked = refl;
}
in_marked i (true ∷ marks) a (inr r) = next_mark i true marks a (in_marked (suc i) marks a r)
in_marked i (false ∷ marks) a r = next_mark i false marks a (in_marked (suc i) marks a r)

-- ## A test of some elements

any_at : (test : ℕ → Bool) (xs : List ℕ) (a : ℕ) → In a xs → test a ≡ true →
    list_any test xs ≡ true
any_at test [] a i is = absurd i
any_at test (x ∷ xs) a (inl e) is = ap (λ b. b || list_any test xs) (ap test e ∙ is)
any_at test (x ∷ xs) a (inr i) is = further (test x) (any_at test xs a i is)
  where
    further : (b : Bool) → list_any test xs ≡ true → (b || list_any test xs) ≡ true
    further true e = refl
    further false e = e

-- an element of a list that passes a test
record Passes (test : ℕ → Bool) (xs : List ℕ) : Type 0 where
  pub element : ℕ
  pub among : In element xs
  pub passes : test element ≡ true

any_of : (test : ℕ → Bool) (xs : List ℕ) → list_any test xs ≡ true → Passes test xs
any_of test [] is = absurd (contrary false is refl)
any_of test (x ∷ xs) is = by (test x) refl is (any_of test xs)
  where
    by :
        (b : Bool) → test x ≡ b → (b || list_any test xs) ≡ true →
        (list_any test xs ≡ true → Passes test xs) → Passes test (x ∷ xs)
    by true e h later = record { element = x; among = inl refl; passes = e }
    by false e h later =
        let rest = later h in
        record { element = rest.element; among = inr rest.among; passes = rest.passes }

-- some marked element passes the test exactly where some element of the list does
pub some_marked :
    (test : ℕ → Bool) (elements : List ℕ) (marks : List Bool) →
    ((a : ℕ) → (get_or marks a false ≡ true) ↔ In a elements) →
    list_any test (marked_from 0 marks) ≡ list_any test elements
some_marked test elements marks h =
    both_ways (list_any test (marked_from 0 marks)) (list_any test elements)
    (λ is.
    let one = any_of test (marked_from 0 marks) is in
    let mark = in_marked 0 marks one.element one.among in
    let same : mark.place ≡ one.element = omega (arith, mark.is) in
    any_at test elements one.element
    ((h one.element).0 (subst (λ k. get_or marks k false ≡ true) same mark.marked)) one.passes)
    (λ is.
    let one = any_of test elements is in
    let same : 0 + one.element ≡ one.element = omega arith in
    any_at test (marked_from 0 marks) one.element
    (subst (λ a. In a (marked_from 0 marks)) same
    (marked_in 0 marks one.element ((h one.element).1 one.among)))
    one.passes)
