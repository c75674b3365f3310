-- The types of a row one at a time, the sizes of parts, and tests of declared types.
use Rattle.lb_check.proofs.Words
use Words.{Bool, Bool_kind, CallId, DataType, FoundNode, FoundTypes, Int_kind, Kept, Kind, List}
use Words.{None, Option, Signature, Some, [], all_some, and-false, and_assoc, and_first, and_second}
use Words.{ap, append-nil, append_assoc, are_met, are_one, arith, array_of, arrays, both_ways}
use Words.{calls_in, common, common_type, context_in, drop, drop_all, drop_more, either_or}
use Words.{element_count, eq-eqb, evaluated, false, false_from_ne_true, get_or, has_arity, holds}
use Words.{if◌then◌else◌, is_type, kept, length, length-all_some, length-map, like_later, list_all}
use Words.{list_of, list_type, map, map-append, min, nat_eq, nat_le, nat_tests, natural, naturals}
use Words.{noted, only, option_map, part_in, part_size, refl, reverse, reverse-append}
use Words.{reverse-reverse, slice_get-get_or, slice_get-map, suc, sum_by, sum_by-cons, sym, total}
use Words.{true, type_at, when_both, where_true, with_parts, with_row, with_term, zip, ℕ, ℤ, ◌&&◌}
use Words.{◌++◌, ◌+◌, ◌-◌, ◌<◌, ◌==◌, ◌>>=◌, ◌∙◌, ◌∷◌, ◌≡◌, ◌≢◌, ◌≤◌}
use Rattle.lb_check.specs.PlacedTypes.{FoundPart, found_part, with_terms}
use Rattle.lb_check.specs.TermSignatures.{are_sizes, is_size, is_type_with, type_with}
use Rattle.lb_check.specs.{TermTypes.context_of, declared.part_types.PartType.PartType}
use Rattle.{lb_check.specs.declared.type_env.TypeEnv.TypeEnv, lb_static.specs.DataTypes.is_kind}
use Rattle.{lb_static.specs.DataTypes.same_sizes, lb_syntax.specs.contracts.tree.Kind.the_type}
use Rattle.std.proofs.Math.{Bool.and_comm, Dec.{eqb-suc-suc, eqb-suc-zero, eqb-zero-suc}}
use denote.Enum.Bare.{sameb}

-- The types of a row, one at a time: the types that the code makes of them, and the operands from
-- the last to the first.

abbrev Types : Type 0
Types = List (Option DataType)

-- ## The type at a place

pub item_at : {A : Type 0} (f : A → Option DataType) (xs : List A) (i : ℕ) (d : A) →
    i < length xs → f (get_or xs i d) ≡ type_at (map f xs) i
item_at f xs i d lt =
    sym (ap (λ o. either_or o None)
    (slice_get-map f xs i ∙ ap (option_map f) (slice_get-get_or xs i d lt)))

-- the one type of a row with one type
pub one_given : (os : Types) → length os ≡ 1 → type_at os 0 ≡ (all_some os >>= only)
one_given [] e = absurd (omega (arith, e))
one_given (None ∷ os) e = refl
one_given (Some t ∷ []) e = refl
one_given (Some t ∷ (o ∷ os)) e = absurd (omega (arith, e))

pub several_given : (os : Types) → length os ≢ 1 → None ≡ (all_some os >>= only)
several_given [] e = refl
several_given (None ∷ os) e = refl
several_given (Some t ∷ []) e = absurd (e refl)
several_given (Some t ∷ (None ∷ os)) e = refl
several_given (Some t ∷ (Some u ∷ os)) e = grind arith

-- a list of length 1 is its only item
pub one_item : {A : Type 0} (xs : List A) (d : A) → length xs ≡ 1 → xs ≡ get_or xs 0 d ∷ []
one_item [] d e = absurd (omega (arith, e))
one_item (x ∷ []) d e = refl
one_item (x ∷ (y ∷ xs)) d e = absurd (omega (arith, e))

-- ## Callees

pub calls_are : (s : TypeEnv) (c : CallId) → (context_in s).call c ≡ evaluated (calls_in s c)
unfolding context_of
calls_are s c = grind arith

-- ## Operands, from the last to the first

pub drop_at : (os : Types) (i : ℕ) → i < length os → drop i os ≡ type_at os i ∷ drop (i + 1) os
drop_at os i lt =
    drop_more os i None lt
    ∙ ap (λ o. o ∷ drop (i + 1) os)
    (sym (ap (λ p. either_or p None) (slice_get-get_or os i None lt)))

taken_all : (s : Signature) (count : ℕ) → has_arity s count ≡ true → length s.takes ≡ count
taken_all s count e =
    let same : nat_eq (length s.takes) count ≡ true =
    and_second s.stands (nat_eq (length s.takes) count) e in
    grind (arith, nat_tests)

pub fits_start : (s : Signature) (count : ℕ) →
    has_arity s count ≡ (has_arity s count && are_met (drop count s.takes) [])
fits_start s count = grind (arith, taken_all s count, drop_all count s.takes)

pub fits_more : (s : Signature) (count at : ℕ) (o : Option DataType) (os : Types) → at < count →
    ((has_arity s count && are_met (drop (at + 1) s.takes) os) && are_one (type_at s.takes at) o)
    ≡ (has_arity s count && are_met (drop at s.takes) (o ∷ os))
fits_more s count at o os lt = grind (arith, taken_all s count, drop_at s.takes at, and_comm)

as_many_met : (ws os : Types) → are_met ws os ≡ true → length ws ≡ length os
as_many_met [] [] e = refl
as_many_met (w ∷ ws) (o ∷ os) e =
    ap suc (as_many_met ws os (and_second (are_one w o) (are_met ws os) e))
as_many_met _ _ e = absurd cc

pub fits_end : (s : Signature) (count : ℕ) (os : Types) → length os ≡ count →
    (has_arity s count && are_met s.takes os) ≡ (s.stands && are_met s.takes os)
fits_end s count os many = grind (arith, nat_tests, as_many_met s.takes os)

-- types are compared with the wanted ones, from the first to the last
module _ {A : Type 0} (f : A → Option DataType) (ws : Types) (xs : List A) (i : ℕ)
    (many : length xs ≡ length ws)
    (known : are_met ws (map f xs) ≡ are_met (drop i ws) (drop i (map f xs))) where
  pub met_next : (b : Bool) (o : Option DataType) (d : A) → i < length xs →
      b ≡ are_one (type_at ws i) o → o ≡ f (get_or xs i d) →
      are_met ws (map f xs) ≡ (b && are_met (drop (i + 1) ws) (drop (i + 1) (map f xs)))
  met_next b o d lt e is =
      let all = length-map xs f in
      known
      ∙ ap (λ l. are_met l (drop i (map f xs))) (drop_at ws i (omega (arith, many, lt)))
      ∙ ap (are_met (type_at ws i ∷ drop (i + 1) ws))
      (drop_at (map f xs) i (omega (arith, all, lt)))
      ∙ ap (λ c. c && are_met (drop (i + 1) ws) (drop (i + 1) (map f xs)))
      (sym (e ∙ ap (are_one (type_at ws i)) (is ∙ item_at f xs i d lt)))

  pub met_end : length xs ≤ i → true ≡ are_met ws (map f xs)
  met_end le =
      let all = length-map xs f in
      sym (known
      ∙ ap (λ l. are_met l (drop i (map f xs))) (drop_all i ws (omega (arith, many, le)))
      ∙ ap (are_met []) (drop_all i (map f xs) (omega (arith, all, le))))

-- types are not the wanted ones, where there are more or fewer
pub met_apart : (ws os : Types) → length os ≢ length ws → false ≡ are_met ws os
met_apart ws os apart = sym (false_from_ne_true _ (λ e. apart (sym (as_many_met ws os e))))

-- ## Lists

pub same_sizes_are : (ns ms : List ℕ) → same_sizes ns ms ≡ true → ns ≡ ms
same_sizes_are [] [] e = refl
same_sizes_are (n ∷ ns) (m ∷ ms) e =
    let one : nat_eq n m ≡ true = and_first (nat_eq n m) (same_sizes ns ms) e in
    let same : n ≡ m = grind (arith, nat_tests) in
    ap (λ k. k ∷ ns) same
    ∙ ap (λ l. m ∷ l) (same_sizes_are ns ms (and_second (nat_eq n m) (same_sizes ns ms) e))
same_sizes_are _ _ e = absurd cc

same_kind : (k l : Kind) → is_kind k l ≡ true → k ≡ l
same_kind Int_kind Int_kind e = refl
same_kind Int_kind Bool_kind e = absurd cc
same_kind Bool_kind Int_kind e = absurd cc
same_kind Bool_kind Bool_kind e = refl

abbrev typed : Kind → List ℕ → DataType
typed k ns = record { kind = k; sizes = ns }

same_type : (s t : DataType) → is_type s t ≡ true → s ≡ t
same_type s t e =
    ap (λ k. typed k s.sizes)
    (same_kind s.kind t.kind (and_first (is_kind s.kind t.kind) (same_sizes s.sizes t.sizes) e))
    ∙ ap (typed t.kind)
    (same_sizes_are s.sizes t.sizes
    (and_second (is_kind s.kind t.kind) (same_sizes s.sizes t.sizes) e))

pub like_next : (o : Option DataType) (os : Types) (seen : ℕ) → length os ≡ seen →
    like_later seen o (common os) ≡ common (o ∷ os)
like_next o [] seen e = sym (ap (λ n. like_later n o None) e)
like_next o (p ∷ os) seen e =
    let many : nat_eq seen 0 ≡ false = grind (arith, nat_tests) in
    ap (λ b. if b then o else when_both o (common (p ∷ os)) common_type) many

-- the type of the first item, where the other items have it
abbrev first_of : List DataType → Option DataType
first_of [] = None
first_of (t ∷ ts) = where_true (list_all (is_type t) ts) t

common_is : (os : Types) → (all_some os >>= first_of) ≡ common os
common_is [] = refl
common_is (None ∷ []) = refl
common_is (Some t ∷ []) = refl
common_is (None ∷ (p ∷ os)) = refl
common_is (Some t ∷ (None ∷ os)) =
    ap (λ o. when_both (Some t) o common_type) (common_is (None ∷ os))
common_is (Some t ∷ (Some u ∷ os)) =
    by (all_some os)
    ∙ ap (λ o. when_both (Some t) o common_type) (common_is (Some u ∷ os))
  where
    likely : (b : Bool) (us : List DataType) → is_type t u ≡ b →
        where_true (b && list_all (is_type t) us) t
        ≡ when_both (Some t) (where_true (list_all (is_type u) us) u) common_type
    likely false us e = other (list_all (is_type u) us)
      where
        other : (c : Bool) → None ≡ when_both (Some t) (where_true c u) common_type
        other true = sym (ap (λ b. where_true b u) e)
        other false = refl
    likely true us e =
        let same = same_type t u e in
        ap (λ x. where_true (list_all (is_type x) us) x) same
        ∙ every (list_all (is_type u) us)
      where
        every : (c : Bool) → where_true c u ≡ when_both (Some t) (where_true c u) common_type
        every true = sym (ap (λ b. where_true b u) e)
        every false = refl

    by : (o : Option (List DataType)) →
        (option_map (λ l. t ∷ l) (option_map (λ l. u ∷ l) o) >>= first_of)
        ≡ when_both (Some t) (option_map (λ l. u ∷ l) o >>= first_of) common_type
    by None = refl
    by (Some us) = likely (is_type t u) us refl

pub list_is : (os : Types) → (all_some os >>= list_type) ≡ list_of os
list_is os = by (all_some os) refl ∙ ap (arrays (length os)) (common_is os)
  where
    by : (o : Option (List DataType)) → all_some os ≡ o →
        (o >>= list_type) ≡ arrays (length os) (all_some os >>= first_of)
    by None e = sym (ap (λ p. arrays (length os) (p >>= first_of)) e)
    by (Some []) e = sym (ap (λ p. arrays (length os) (p >>= first_of)) e)
    by (Some (t ∷ ts)) e =
        ap (λ n. where_true (list_all (is_type t) ts) t >>= array_of n)
        (length-all_some os (t ∷ ts) e)
        ∙ sym (ap (λ p. arrays (length os) (p >>= first_of)) e)

-- The number of scalar elements with which parts count, and the parts that are kept.

-- ## A row

-- the number of elements of a row, with `n` before them, up to 65,537
abbrev pub counted_from : ℕ → Option (List DataType) → ℕ
counted_from n None = 0
counted_from n (Some ts) = min (n + total ts) 65537

pub none_before : (o : Option (List DataType)) → part_size o ≡ counted_from 0 o
none_before None = refl
none_before (Some ts) = omega arith

pub counted_next : (n m : ℕ) (t : DataType) (o : Option (List DataType)) →
    m ≡ min (n + min (element_count t) 65537) 65537 →
    counted_from n (option_map (λ ts. t ∷ ts) o) ≡ counted_from m o
counted_next n m t None e = refl
counted_next n m t (Some ts) e =
    let s = sum_by-cons element_count t ts in omega (arith, e, s)

module _ (row : List (Option DataType)) (place count : ℕ)
    (known : part_size (all_some row) ≡ counted_from count (all_some (drop place row))) where
  pub split : (o : Option DataType) → place < length row → o ≡ type_at row place →
      part_size (all_some row) ≡ counted_from count (all_some (o ∷ drop (place + 1) row))
  split o lt is =
      known ∙ ap (λ l. counted_from count (all_some l)) (drop_at row place lt)
      ∙ ap (λ p. counted_from count (all_some (p ∷ drop (place + 1) row))) (sym is)

  -- no type is left
  pub size_end : length row ≤ place → count ≤ 65537 → count ≡ part_size (all_some row)
  size_end le within =
      let all : min (count + 0) 65537 ≡ count = omega (arith, within) in
      sym (known ∙ ap (λ l. counted_from count (all_some l)) (drop_all place row le) ∙ all)

-- ## One more part

abbrev part : DataType → ℕ → FoundPart
part t n = record { data_type = t; elements = n }

abbrev pub keeping : ℕ → List FoundPart → Kept
keeping n ps = record { left = n; found = ps }

-- ## Several parts

pub kept_both : (k : Kept) (xs ys : List FoundTypes) → kept k (xs ++ ys) ≡ kept (kept k ys) xs
kept_both k [] ys = refl
kept_both k (x ∷ xs) ys = ap (λ j. noted j x) (kept_both k xs ys)

pub kept_left : (k : Kept) (xs : List FoundTypes) → (kept k xs).left ≡ k.left - sum_by part_size xs
kept_left k [] = omega arith
kept_left k (x ∷ xs) =
    let rest = kept_left k xs in
    let all = sum_by-cons part_size x xs in
    omega (arith, rest, all)

pub kept_found : (k : Kept) (xs : List FoundTypes) → (kept k xs).left ≢ 0 →
    (kept k xs).found ≡ k.found ++ reverse (map found_part xs)
kept_found k [] some = sym (append-nil k.found)
kept_found k (x ∷ xs) some =
    let j = kept k xs in
    let p = found_part x in
    let more : nat_eq (j.left - p.elements) 0 ≡ false = grind (arith, nat_tests) in
    let before : j.left ≢ 0 = λ e. some (omega (arith, e)) in
    ap (λ b. if b then [] else (j.found ++ (p ∷ []))) more
    ∙ ap (λ l. l ++ (p ∷ [])) (kept_found k xs before)
    ∙ append_assoc k.found (reverse (map found_part xs)) (p ∷ [])
    ∙ ap (λ l. k.found ++ l) (sym (reverse-append (p ∷ []) (map found_part xs)))

-- no part is kept after parts that are too many
pub kept_none : (k : Kept) (xs : List FoundTypes) → 0 < length xs → (kept k xs).left ≡ 0 →
    kept k xs ≡ keeping 0 []
kept_none k [] some e = absurd (omega (arith, some))
kept_none k (x ∷ xs) some e =
    let j = kept k xs in
    ap (λ m. keeping m (if nat_eq m 0 then [] else (j.found ++ (found_part x ∷ [])))) e

-- no part is kept after those that were too many
pub kept_over : (k : Kept) (xs : List FoundTypes) → k ≡ keeping 0 [] → kept k xs ≡ k
kept_over k [] over = refl
kept_over k (x ∷ xs) over =
    ap (λ j. noted j x) (kept_over k xs over) ∙ (let left : k.left - (found_part x).elements ≡ 0 =
    omega (arith, (ap (λ j. j.left) over)) in ap (λ m. keeping m (if nat_eq m 0 then [] else
    (k.found ++ ((found_part x) ∷ [])))) left)
    ∙ sym over

-- the kept parts that are moved are the terms that were kept
terms_are : (f : FoundNode) (xs : List FoundTypes) →
    with_parts f (map found_part xs) ≡ with_terms f xs
terms_are f [] = refl
terms_are f (x ∷ xs) = terms_are (with_term f x) xs

pub moved_terms : (f : FoundNode) (k : Kept) (xs : List FoundTypes) → k.found ≡ [] →
    (kept k xs).left ≢ 0 → with_parts f (reverse (kept k xs).found) ≡ with_terms f xs
moved_terms f k xs none some =
    ap (λ l. with_parts f (reverse l))
    (kept_found k xs some ∙ ap (λ l. l ++ reverse (map found_part xs)) none)
    ∙ ap (with_parts f) (reverse-reverse (map found_part xs)) ∙ terms_are f xs

-- the last part is moved
pub part_moved : (f g : FoundNode) (xs ys : List PartType) (p : PartType) → xs ≡ ys ++ (p ∷ []) →
    g ≡ with_row f p.data_type.kind p.data_type.sizes.items p.elements →
    with_parts f (reverse (map part_in xs)) ≡ with_parts g (reverse (map part_in ys))
part_moved f g xs ys p split e =
    ap (λ l. with_parts f (reverse (map part_in l))) split
    ∙ ap (λ l. with_parts f (reverse l)) (map-append part_in ys (p ∷ []))
    ∙ ap (with_parts f) (reverse-append (map part_in ys) (part_in p ∷ []))
    ∙ ap (λ l. with_parts (with_row f p.data_type.kind l p.elements) (reverse (map part_in ys)))
    (reverse-reverse p.data_type.sizes.items)
    ∙ ap (λ h. with_parts h (reverse (map part_in ys))) (sym e)

-- Tests of whether a declared type, or an array of it, has given sizes: each size is compared with
-- the declared value, and no type is made.

same_kind_is : (k l : Kind) → sameb the_type k l ≡ is_kind k l
same_kind_is Int_kind Int_kind = refl
same_kind_is Int_kind Bool_kind = refl
same_kind_is Bool_kind Int_kind = refl
same_kind_is Bool_kind Bool_kind = refl

-- ## Sizes

itself : (ns : List ℕ) → same_sizes ns ns ≡ true
itself [] = refl
itself (n ∷ ns) = ap (λ b. b && same_sizes ns ns) (eq-eqb n n refl) ∙ itself ns

turned_same : (ms ns : List ℕ) → same_sizes ms ns ≡ true →
    same_sizes (reverse ms) (reverse ns) ≡ true
turned_same ms ns e =
    ap (λ l. same_sizes (reverse ms) (reverse l)) (sym (same_sizes_are ms ns e))
    ∙ itself (reverse ms)

turned : (ms ns : List ℕ) → same_sizes ms ns ≡ same_sizes (reverse ms) (reverse ns)
turned ms ns =
    both_ways _ _ (turned_same ms ns)
    (λ e. ap (λ l. same_sizes l ns) (sym (reverse-reverse ms))
    ∙ ap (same_sizes (reverse (reverse ms))) (sym (reverse-reverse ns))
    ∙ turned_same (reverse ms) (reverse ns) e)

-- values are sizes exactly where the first is and the others are
one_more : (n : ℕ) (ns : List ℕ) (o : Option ℕ) (os : List (Option ℕ)) →
    (holds (λ m. m == n) o && holds (λ ms. same_sizes ms ns) (all_some os))
    ≡ holds (λ ms. same_sizes ms (n ∷ ns)) (all_some (o ∷ os))
one_more n ns None os = refl
one_more n ns (Some m) os = grind (arith, and-false)

none_left : (o : Option ℕ) (os : List (Option ℕ)) →
    false ≡ holds (λ ms. same_sizes ms []) (all_some (o ∷ os))
none_left None os = refl
none_left (Some m) os = grind arith

-- values are sizes exactly where they are so place by place
sizes_found : (vs : List ℤ) (ns : List ℕ) →
    are_sizes vs ns ≡ holds (λ ms. same_sizes ms ns) (naturals vs)
sizes_found [] [] = refl
sizes_found [] (n ∷ ns) = eqb-zero-suc (length ns)
sizes_found (v ∷ vs) [] = eqb-suc-zero (length vs) ∙ none_left (natural v) (map natural vs)
sizes_found (v ∷ vs) (n ∷ ns) =
    let each = list_all (λ (p : ℤ × ℕ). is_size p.0 p.1) (zip vs ns) in
    ap (λ b. (is_size v n && each) && b) (eqb-suc-suc (length vs) (length ns))
    ∙ and_assoc (is_size v n) each (length vs == length ns)
    ∙ ap (λ b. is_size v n && b) (sizes_found vs ns)
    ∙ one_more n ns (natural v) (map natural vs)

-- ## Types

-- a type is the given one exactly where its kind and its sizes are
pub type_is : (own k : Kind) (vs : List ℤ) (ns : List ℕ) (b : Bool) → sameb the_type own k ≡ b →
    (b && are_sizes vs ns) ≡ is_type_with (type_with own vs) k ns
type_is own k vs ns b e = grind (arith, same_kind_is own k, sizes_found vs ns, turned, and-false)

swapped : (x y z : Bool) → (x && (y && z)) ≡ (y && (x && z))
swapped x true z = refl
swapped x false z = and-false x

pub array_is : (n m : ℕ) (o : Option DataType) (k : Kind) (ns : List ℕ) →
    ((n == m) && ((nat_le 1 n && nat_le n 4096) && is_type_with o k ns))
    ≡ are_one (arrays n o) (Some (record { kind = k; sizes = m ∷ reverse ns }))
array_is n m None k ns =
    ap (λ b. (n == m) && b) (and-false (nat_le 1 n && nat_le n 4096)) ∙ and-false (n == m)
array_is n m (Some t) k ns = grind (arith, swapped, and-false)

-- a scalar is no array
pub scalar_is_none : (n : ℕ) (o : Option DataType) (k : Kind) (ns : List ℕ) → length ns ≡ 0 →
    false ≡ are_one (arrays n o) (Some (record { kind = k; sizes = reverse ns }))
scalar_is_none n o k (m ∷ ns) e = absurd (omega (arith, e))
scalar_is_none n None k [] e = refl
scalar_is_none n (Some t) k [] e = grind (arith, and-false)
