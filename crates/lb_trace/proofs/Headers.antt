-- The header: the columns of its elements, one after the other, and its refusal.
use Rattle.std.proofs.Common.{ℕ, ◌≡◌, ◌≢◌, ◌+◌, ◌<◌, Bool, true, false, ◌==◌, List, [], ◌∷◌, ◌++◌}
use Rattle.std.proofs.Common.{length, map, take, get_or, Some, None, refl, sym, ap, ◌∙◌, arith}
use Rattle.std.proofs.Common.{eq-eqb}
use Rattle.std.specs.Prelude.{codes}
use Rattle.std.proofs.lemmas.Bool.{eqb-true, false_from_ne_true}
use Rattle.std.proofs.lemmas.List.{get_or-map, length-map, map_more}
use Rattle.std.proofs.lemmas.List.Folds.{list_all_more}
use Rattle.std.proofs.lemmas.List.Sums.{AllPass-from_list_all}
use Rattle.std.proofs.lemmas.Option.{get_or_from_slice_get, slice_get_within}
use Rattle.std.specs.List.{count_by, list_all, position_or_len, slice_get}
use Rattle.std.specs.Str.{bytes_eq}
use Rattle.csv.specs.Records.{field_at}
use Rattle.lb_syntax.specs.declared.tree.Kind.{Kind}
use Rattle.lb_static.specs.Signature.{Element, Elements, kinds_of, names_of}
use Rattle.lb_trace.specs.declared.header.Column.{Column}
use Rattle.lb_trace.specs.Mirrors.{column_of}
use Rattle.lb_trace.specs.Spelling.{Record, after_first, begins, is_header}
use Rattle.lb_trace.proofs.Names.{and-false}

pub begins-some : (fields : Record) (x : List ℕ) → field_at fields 0 ≡ Some x
    → bytes_eq x (codes "trace") ≡ begins fields
unfolding field_at
begins-some [] x found = cc found
begins-some (first ∷ rest) x found =
    let same : first ≡ x = cc found in ap (λ f. bytes_eq f (codes "trace")) (sym same)

pub begins-none : (fields : Record) → field_at fields 0 ≡ None → false ≡ begins fields
unfolding field_at
begins-none [] missing = refl
begins-none (first ∷ rest) missing = cc missing

-- a record is no header where the name of an element does not stand once among its columns
pub not_once : (elements : Elements) (fields : Record) (i n : ℕ) (name : List ℕ)
    → slice_get (names_of elements) i ≡ Some name
    → n ≡ count_by (bytes_eq name) (after_first fields) → n ≢ 1 → is_header elements fields ≡ false
not_once elements fields i n name named counted other =
    let names : List (List ℕ) = names_of elements in
    let once : List ℕ → Bool = λ m. count_by (bytes_eq m) (after_first fields) == 1 in
    let below : i < length names = slice_get_within names i name named in
    let same : get_or names i [] ≡ name = get_or_from_slice_get names i name [] named in
    let some_not : list_all once names ≡ false = false_from_ne_true (list_all once names)
    (λ all. other (counted ∙ eqb-true (count_by (bytes_eq name) (after_first fields)) 1
    (ap once (sym same) ∙ AllPass-from_list_all once names all i [] below))) in
    rw some_not (and-false (begins fields))

-- the names of the first `i + 1` elements stand once where those of the first `i` and the next do
pub once_more : (elements : Elements) (columns : Record) (i n : ℕ) (name : List ℕ)
    → slice_get (names_of elements) i ≡ Some name
    → n ≡ count_by (bytes_eq name) columns → n ≡ 1
    → list_all (λ m. count_by (bytes_eq m) columns == 1) (take i (names_of elements)) ≡ true
    → list_all (λ m. count_by (bytes_eq m) columns == 1) (take (i + 1) (names_of elements)) ≡ true
once_more elements columns i n name named counted one before =
    let names : List (List ℕ) = names_of elements in
    let once : List ℕ → Bool = λ m. count_by (bytes_eq m) columns == 1 in
    let below : i < length names = slice_get_within names i name named in
    let same : get_or names i [] ≡ name = get_or_from_slice_get names i name [] named in
    let here : once (get_or names i []) ≡ true =
    ap once same ∙ eq-eqb (count_by (bytes_eq name) columns) 1 (sym counted ∙ one) in
    list_all_more once names i [] below ∙ rw (before, here) refl

-- the table of the first `i` elements with the next column is that of the first `i + 1`
pub table_more : (elements : Elements) (columns : Record) (table : List Column) (i at : ℕ)
    (kind : Kind) (name : List ℕ)
    → slice_get (names_of elements) i ≡ Some name → slice_get (kinds_of elements) i ≡ Some kind
    → at ≡ position_or_len (bytes_eq name) columns
    → table ≡ map (column_of columns) (take i elements)
    → table ++ (record { at = at; kind = kind }) ∷ []
    ≡ map (column_of columns) (take (i + 1) elements)
table_more elements columns table i at kind name named kinded placed before =
    let name_of : Element → List ℕ = λ e. e.0 in
    let kind_of : Element → Kind = λ e. e.1 in
    let default : Element = (name, kind) in
    let element : Element = get_or elements i default in
    let below : i < length elements = omega
    (arith, slice_get_within (names_of elements) i name named, length-map elements name_of) in
    let name_is : element.0 ≡ name = sym (get_or-map name_of elements i default name below)
    ∙ get_or_from_slice_get (names_of elements) i name name named in
    let kind_is : element.1 ≡ kind = sym (get_or-map kind_of elements i default kind below)
    ∙ get_or_from_slice_get (kinds_of elements) i kind kind kinded in
    let column_at : ℕ → Kind → Column = λ a k. record { at = a; kind = k } in
    let column_is : column_at at kind ≡ column_of columns element =
    ap (λ a. column_at a kind)
    (placed ∙ ap (λ m. position_or_len (bytes_eq m) columns) (sym name_is))
    ∙ ap (λ k. column_at (position_or_len (bytes_eq element.0) columns) k) (sym kind_is) in
    ap (λ t. t ++ column_at at kind ∷ []) before
    ∙ ap (λ c. map (column_of columns) (take i elements) ++ c ∷ []) column_is
    ∙ sym (map_more (column_of columns) elements i default below)
