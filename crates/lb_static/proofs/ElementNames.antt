-- The names of the scalar elements of an array: their number, and the names for one index more.
use Rattle.std.proofs.Common.{◌≡◌, ℕ, zero, suc, ◌+◌, ◌*◌, List, [], ◌∷◌, ◌++◌, length, map, refl}
use Rattle.std.proofs.Common.{ap, sym, subst, ◌∙◌, arith, length-append}
use Rattle.std.specs.Prelude.{reverse}
use Rattle.std.specs.List.{flat_map, range_with_len}
use Rattle.std.proofs.lemmas.List.{length-map, map-append, append-nil, append_assoc, flat_map_more}
use Rattle.std.proofs.lemmas.List.FromFn.{length-range_with_len}
use Rattle.std.proofs.Math.Nat.{zero-mul, suc-mul, zero-add, add_comm}
use Rattle.std.proofs.Math.Numerals.{suc-eq-add-one}
use Rattle.std.proofs.Common.{◌<◌, ◌≤◌, Bor, drop, get_or, min, ⊎_elim}
use Rattle.std.proofs.lemmas.Bool.{cases_lt}
use Rattle.std.proofs.lemmas.List.{drop_more, drop_all}
use Rattle.lb_static.specs.Interfaces.{elements_named}
use Rattle.lb_static.specs.StoredTypes.{view_type}
use Rattle.lb_static.specs.declared.data_type.DataType as stored
use Rattle.std.proofs.lemmas.List.{map-id}
use Rattle.lb_syntax.specs.Grammar.{declared, declarations}
use Rattle.lb_syntax.specs.SourceView.{view_clock, view_group, view_groups}
use Rattle.lb_syntax.specs.View.{view_statics}
use Rattle.lb_syntax.specs.declared.tree.Declarations.{Declarations}
use Rattle.lb_static.proofs.Lists.{map_map}
use Rattle.lb_static.proofs.TypeViews.{total_from}
use Rattle.lb_syntax.specs.Tree.{Name, Declaration}
use Rattle.lb_syntax.specs.declared.tree.Kind.{Kind}
use Rattle.lb_static.specs.DataTypes.{DataType, element_count, element_names, product, index_text}
use Rattle.lb_static.specs.DataTypes.{total}
use Rattle.lb_static.specs.Signature.{Elements}

-- the length of a list of parts that all have length `n`
length-parts : {A B : Type 0} (f : A → List B) (n : ℕ) → ((a : A) → length (f a) ≡ n)
    → (xs : List A) → length (flat_map f xs) ≡ length xs * n
length-parts f n each [] = sym (zero-mul n)
length-parts f n each (x ∷ xs) =
    length-append (f x) (flat_map f xs) ∙ ap (λ k. k + length (flat_map f xs)) (each x)
    ∙ ap (λ k. n + k) (length-parts f n each xs)
    ∙ add_comm n (length xs * n) ∙ sym (suc-mul (length xs) n)

-- a variable has as many element names as the product of its sizes
pub length-element_names : (x : Name) (ns : List ℕ) → length (element_names x ns) ≡ product ns
length-element_names x [] = refl
length-element_names x (n ∷ ns) =
    length-parts (λ i. element_names (x ++ index_text i) ns) (product ns)
    (λ i. length-element_names (x ++ index_text i) ns) (range_with_len 0 n)
    ∙ ap (λ k. k * product ns) (length-range_with_len 0 n)

range_more : (a n : ℕ) → range_with_len a (suc n) ≡ range_with_len a n ++ (a + n) ∷ []
range_more a zero = ap (λ k. k ∷ []) (omega arith)
range_more a (suc n) = ap (λ l. a ∷ l)
    (range_more (a + 1) n ∙ ap (λ k. range_with_len (a + 1) n ++ k ∷ []) (omega arith))

-- scalar elements with these names, all of one kind
abbrev pub all_of : Kind → List Name → Elements
all_of kind = map (λ x. (x, kind))

-- the elements of `i` indexes, with those of index `i` added, are the elements of `i + 1` indexes
pub one_index : (name : Name) (kind : Kind) (inner : List ℕ) (first before after : Elements) (i : ℕ)
    (element : Name)
    → before ≡ first ++ all_of kind
    (flat_map (λ k. element_names (name ++ index_text k) inner) (range_with_len 0 i))
    → after ≡ before ++ all_of kind (element_names element inner) → element ≡ name ++ index_text i
    → after ≡ first ++ all_of kind
    (flat_map (λ k. element_names (name ++ index_text k) inner) (range_with_len 0 (i + 1)))
one_index name kind inner first before after i element so_far pushed is =
    let named = λ (k : ℕ). element_names (name ++ index_text k) inner in
    pushed ∙ ap (λ l. before ++ all_of kind (element_names l inner)) is
    ∙ ap (λ l. l ++ all_of kind (named i)) so_far
    ∙ append_assoc first (all_of kind (flat_map named (range_with_len 0 i))) (all_of kind (named i))
    ∙ ap (λ l. first ++ l) (sym
    (map-append (λ x. (x, kind)) (flat_map named (range_with_len 0 i)) (named i))
    ∙ ap (all_of kind) (flat_map_more named [] (range_with_len 0 i) i
    ∙ ap (flat_map named) (ap (λ k. range_with_len 0 i ++ k ∷ []) (sym (zero-add i))
    ∙ sym (range_more 0 i) ∙ ap (range_with_len 0) (suc-eq-add-one i))))

pub count_more : (kind : Kind) (inner : List ℕ) (first before after : Elements) (i : ℕ)
    (element : Name) → length before ≡ length first + i * product inner
    → after ≡ before ++ all_of kind (element_names element inner)
    → length after ≡ length first + (i + 1) * product inner
count_more kind inner first before after i element so_far pushed =
    let a : length after ≡ length before + length (all_of kind (element_names element inner)) =
    ap length pushed ∙ length-append before (all_of kind (element_names element inner)) in
    let b : length (all_of kind (element_names element inner))
    ≡ product inner = length-map (element_names element inner) (λ x. (x, kind))
    ∙ length-element_names element inner in
    let d : (i + 1) * product inner ≡ i * product inner + product inner =
    ap (λ k. k * product inner) (sym (suc-eq-add-one i)) ∙ suc-mul i (product inner) in
    omega arith

-- ## Variables by their names and types

-- the elements of the variables from place `k` on
abbrev pub named_from : List (Bor Name) → List stored.DataType → ℕ → Elements
named_from names data_types k =
    elements_named (map (λ x. x.now) (drop k names)) (map view_type (drop k data_types))

abbrev pub elements_of : Name → DataType → Elements
elements_of x s = map (λ n. (n, s.kind)) (element_names x s.sizes)

first_of : (names : List (Bor Name)) (data_types : List stored.DataType) (k : ℕ) (name : Bor Name)
    (data_type : stored.DataType) → k < length names → k < length data_types
    → name ≡ get_or names k name → data_type ≡ get_or data_types k data_type
    → named_from names data_types k ≡ elements_of name.now (view_type data_type)
    ++ named_from names data_types (k + 1)
first_of names data_types k name data_type below within is same =
    ap (λ l. elements_named (map (λ x. x.now) l) (map view_type (drop k data_types)))
    (drop_more names k name below ∙ ap (λ x. x ∷ drop (k + 1) names) (sym is))
    ∙ ap (λ l. elements_named (name.now ∷ map (λ x. x.now) (drop (k + 1) names)) (map view_type l))
    (drop_more data_types k data_type within ∙ ap (λ x. x ∷ drop (k + 1) data_types) (sym same))

-- the elements of variable `k`, with those of the variables behind it, are the elements from `k` on
pub one_variable : (names : List (Bor Name)) (data_types : List stored.DataType) (k : ℕ)
    (name : Bor Name)
    (data_type : stored.DataType) (before after all : Elements)
    → k < length names → k < length data_types → name ≡ get_or names k name
    → data_type ≡ get_or data_types k data_type → before ++ named_from names data_types k ≡ all
    → after ≡ before ++ elements_of name.now (view_type data_type)
    → after ++ named_from names data_types (k + 1) ≡ all
one_variable names data_types k name data_type before after all below within is same so_far pushed =
    ap (λ l. l ++ named_from names data_types (k + 1)) pushed
    ∙ append_assoc before (elements_of name.now (view_type data_type))
    (named_from names data_types (k + 1))
    ∙ ap (λ l. before ++ l) (sym (first_of names data_types k name data_type below within is same))
    ∙ so_far

-- the elements of variable `k` fit into the 1,023
pub has_room : (data_types : List stored.DataType) (k : ℕ) (data_type : stored.DataType)
    (before : Elements) (sizes : List ℕ) → k < length data_types
    → data_type ≡ get_or data_types k data_type
    → length before + total (map view_type (drop k data_types)) ≤ 1023
    → sizes ≡ data_type.sizes.items → length before + product (reverse sizes) ≤ 1023
has_room data_types k data_type before sizes within same room is =
    let e : total (map view_type (drop k data_types)) ≡ product (reverse data_type.sizes.items)
    + total (map view_type (drop (k + 1) data_types)) =
    total_from data_types k data_type within same in
    subst (λ l. length before + product (reverse l) ≤ 1023) (sym is) (omega arith)

-- the elements of the variables behind one that was added still fit into the 1,023
pub has_room_after : (data_types : List stored.DataType) (k : ℕ) (name : Bor Name)
    (data_type : stored.DataType)
    (before after : Elements) → k < length data_types → data_type ≡ get_or data_types k data_type
    → length before + total (map view_type (drop k data_types)) ≤ 1023
    → after ≡ before ++ elements_of name.now (view_type data_type)
    → length after + total (map view_type (drop (k + 1) data_types)) ≤ 1023
has_room_after data_types k name data_type before after within same room pushed =
    let e = total_from data_types k data_type within same in
    let f : length after ≡ length before + length (elements_of name.now (view_type data_type)) =
    ap length pushed ∙ length-append before (elements_of name.now (view_type data_type)) in
    let g : length (elements_of name.now (view_type data_type))
    ≡ element_count (view_type data_type) =
    length-map (element_names name.now (view_type data_type).sizes)
    (λ x. (x, data_type.kind)) ∙ length-element_names name.now (view_type data_type).sizes in
    omega arith

-- behind the last variable all elements are there
pub all_variables : (names : List (Bor Name)) (data_types : List stored.DataType) (k : ℕ)
    (before all : Elements) → min (length names) (length data_types) ≤ k
    → before ++ named_from names data_types k ≡ all → before ≡ all
all_variables names data_types k before all past so_far =
    sym (append-nil before) ∙ ap (λ l. before ++ l)
    (sym (⊎_elim no_names no_data_types (cases_lt (length names) (length data_types)))) ∙ so_far
  where
    ends : (xs : List Name) → elements_named xs [] ≡ []
    ends [] = refl
    ends (x ∷ xs) = refl

    no_names : length names < length data_types → named_from names data_types k ≡ []
    no_names h =
        let e : length names ≤ k = omega arith in
        ap (λ l. elements_named (map (λ x. x.now) l) (map view_type (drop k data_types)))
        (drop_all k names e)

    no_data_types : length data_types ≤ length names → named_from names data_types k ≡ []
    no_data_types h =
        let e : length data_types ≤ k = omega arith in
        ap (λ l. elements_named (map (λ x. x.now) (drop k names)) (map view_type l))
        (drop_all k data_types e) ∙ ends (map (λ x. x.now) (drop k names))

-- ## The names of a group

abbrev pub name_of : Declaration → Name
name_of d = d.name

names_of_group : (g : Declarations) → map name_of (declarations (view_group g)) ≡ g.names.items
names_of_group g = map_map
    (λ x. record {
      name = x;
      kind = g.kind;
      sizes = view_statics g.sizes.items;
      clock =
          view_clock g.clock;
    }) name_of g.names.items ∙ map-id g.names.items

-- the names of group `i`, with those of the groups behind it, are the names from group `i` on
pub group_names : (before : List Name) (groups : List Declarations) (i : ℕ) (group : Declarations)
    (own all : List Name) → i < length groups → group ≡ get_or groups i group
    → own ≡ group.names.items → before ++ map name_of (declared (view_groups (drop i groups))) ≡ all
    → before ++ (own ++ map name_of (declared (view_groups (drop (i + 1) groups)))) ≡ all
group_names before groups i group own all below is same so_far =
    let rest = declared (view_groups (drop (i + 1) groups)) in
    ap (λ l. before ++ (l ++ map name_of rest)) (same ∙ sym (names_of_group group))
    ∙ ap (λ l. before ++ l) (sym (map-append name_of (declarations (view_group group)) rest)
    ∙ ap (λ l. map name_of (declared (view_groups l)))
    (ap (λ x. x ∷ drop (i + 1) groups) is ∙ sym (drop_more groups i group below)))
    ∙ so_far
