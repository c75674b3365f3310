-- Types as the code holds them, against the types of the definitions.
use Rattle.std.proofs.Common.{◌≡◌, ℕ, zero, suc, ◌+◌, ◌*◌, ◌<◌, ◌≤◌, Bool, true, false, List, []}
use Rattle.std.proofs.Common.{◌∷◌, ◌++◌, length, map, drop, get_or, min, refl, ap, sym, ◌∙◌, subst}
use Rattle.std.proofs.Common.{arith, eqb, ⊎_elim}
use Rattle.std.specs.Prelude.{◌&&◌, ◌==◌, reverse}
use Rattle.std.specs.Cmp.Lexicographic.{pointwise, same_text}
use Rattle.std.proofs.Math.Dec.{eqb-suc-zero}
use Rattle.std.proofs.Math.Nat.{mul-zero, mul-suc, mul_assoc}
use Rattle.std.proofs.lemmas.Bool.{cases_lt, eq-eqb}
use Rattle.std.proofs.lemmas.List.{drop_more, length-reverse, reverse-append, reverse-reverse}
use Rattle.std.proofs.lemmas.List.Sums.{sum_by-cons}
use Rattle.lb_syntax.specs.declared.tree.Kind.{Kind}
use Rattle.lb_syntax.specs.declared.tree.Kind.TheVariants.{Int as Int_kind, Bool as Bool_kind}
use Rattle.lb_syntax.specs.contracts.tree.Kind.{the_type}
use Rattle.lb_static.specs.DataTypes.{DataType, product, element_count, total, is_kind, same_sizes}
use Rattle.lb_static.specs.DataTypes.{is_type, are_types}
use Rattle.lb_static.specs.StoredTypes.{view_type}
use Rattle.lb_static.specs.declared.data_type.DataType as stored
use denote.Enum.Bare.{sameb}
use Rattle.std.proofs.Math.Bool.{and-false}
use Rattle.lb_syntax.proofs.TruthValues.{both_ways}

-- ## Equality of sizes

itself : (ns : List ℕ) → pointwise eqb ns ns ≡ true
itself [] = refl
itself (n ∷ ns) = rw (eq-eqb n n refl) (itself ns)

equal_lists : (ns ms : List ℕ) → ns ≡ ms → pointwise eqb ns ms ≡ true
equal_lists ns ms e = subst (λ ks. pointwise eqb ns ks ≡ true) e (itself ns)

reversed : (ns ms : List ℕ) → pointwise eqb ns ms ≡ pointwise eqb (reverse ns) (reverse ms)
reversed ns ms =
    both_ways _ _
    (λ e. equal_lists (reverse ns) (reverse ms) (ap reverse (same_text ns ms (sym e))))
    (λ e. equal_lists ns ms
    (sym (reverse-reverse ns) ∙ ap reverse (same_text (reverse ns) (reverse ms) (sym e))
    ∙ reverse-reverse ms))

sizes_are : (ns ms : List ℕ) → pointwise eqb ns ms ≡ same_sizes ns ms
sizes_are [] [] = refl
sizes_are [] (m ∷ ms) = refl
sizes_are (n ∷ ns) [] = refl
sizes_are (n ∷ ns) (m ∷ ms) = ap (λ b. eqb n m && b) (sizes_are ns ms)

-- ## Equality of types

kinds_are : (k l : Kind) → sameb the_type k l ≡ is_kind k l
kinds_are Int_kind Int_kind = refl
kinds_are Int_kind Bool_kind = refl
kinds_are Bool_kind Int_kind = refl
kinds_are Bool_kind Bool_kind = refl

pub same_type_is : (s t : stored.DataType)
    → (sameb the_type s.kind t.kind && pointwise eqb s.sizes.items t.sizes.items)
    ≡ is_type (view_type s) (view_type t)
same_type_is s t = ap (λ b. b && pointwise eqb s.sizes.items t.sizes.items)
    (kinds_are s.kind t.kind)
    ∙ ap (λ b. is_kind s.kind t.kind && b) (reversed s.sizes.items t.sizes.items
    ∙ sizes_are (reverse s.sizes.items) (reverse t.sizes.items))

pub same_types_are : (E : stored.DataType → stored.DataType → Bool)
    → ((s t : stored.DataType) → E s t ≡ is_type (view_type s) (view_type t))
    → (ss ts : List stored.DataType)
    → pointwise E ss ts ≡ are_types (map view_type ss) (map view_type ts)
same_types_are E each [] [] = refl
same_types_are E each [] (t ∷ ts) = refl
same_types_are E each (s ∷ ss) [] = refl
same_types_are E each (s ∷ ss) (t ∷ ts) = ap (λ b. b && pointwise E ss ts) (each s t)
    ∙ ap (λ b. is_type (view_type s) (view_type t) && b) (same_types_are E each ss ts)

-- a type is the scalar of its kind exactly if it has no sizes
pub scalar_is : (k l : Kind) (ns : List ℕ) (n : ℕ) → n ≡ length ns → sameb the_type k l ≡ true
    → (n == 0) ≡ is_type (record { kind = k; sizes = reverse ns })
    (record { kind = l; sizes = [] })
scalar_is k l ns n long e =
    ap (λ m. m == 0) (long ∙ sym (length-reverse ns)) ∙ by (reverse ns)
    ∙ ap (λ b. b && same_sizes (reverse ns) []) (sym (sym (kinds_are k l) ∙ e))
  where
    by : (ms : List ℕ) → (length ms == 0) ≡ same_sizes ms []
    by [] = refl
    by (m ∷ ms) = eqb-suc-zero (length ms)

-- a list of two types or more is not a list of one
pub several : (xs : List stored.DataType) (t : DataType) → 2 ≤ length xs
    → are_types (map view_type xs) (t ∷ []) ≡ false
several [] t many = absurd (omega arith)
several (x ∷ []) t many = absurd (omega arith)
several (x ∷ (y ∷ ys)) t many = and-false (is_type (view_type x) t)

-- ## Counts that stop at a limit

-- a product that reached the limit stays at the limit, unless a factor is 0
over : (limit a b : ℕ) → limit ≤ a → min (limit * b) limit ≡ min (a * b) limit
over limit a zero above = rw (mul-zero limit, mul-zero a) refl
over limit a (suc b) above =
    let f : limit * suc b ≡ limit * b + limit = mul-suc limit b in
    let g : a * suc b ≡ a * b + a = mul-suc a b in
    omega arith

pub capped : (limit a b : ℕ) → min (min a limit * b) limit ≡ min (a * b) limit
capped limit a b = ⊎_elim within above (cases_lt a limit)
  where
    within : a < limit → min (min a limit * b) limit ≡ min (a * b) limit
    within h = let e : min a limit ≡ a = omega arith in rw e refl

    above : limit ≤ a → min (min a limit * b) limit ≡ min (a * b) limit
    above h = let e : min a limit ≡ limit = omega arith in rw e (over limit a b h)

-- a capped product with one more factor
pub one_factor : (limit count next n : ℕ) (rest : List ℕ) → next ≡ min (count * n) limit
    → min (next * product rest) limit ≡ min (count * product (n ∷ rest)) limit
one_factor limit count next n rest e =
    ap (λ k. min (k * product rest) limit) e ∙ capped limit (count * n) (product rest)
    ∙ ap (λ k. min k limit) (mul_assoc count n (product rest))

-- a total with one more type
pub total_from : (data_types : List stored.DataType) (k : ℕ) (data_type : stored.DataType)
    → k < length data_types
    → data_type ≡ get_or data_types k data_type
    → total (map view_type (drop k data_types)) ≡ element_count (view_type data_type)
    + total (map view_type (drop (k + 1) data_types))
total_from data_types k data_type within same =
    ap (λ l. total (map view_type l))
    (drop_more data_types k data_type within ∙ ap (λ x. x ∷ drop (k + 1) data_types) (sym same))
    ∙ sum_by-cons element_count (view_type data_type) (map view_type (drop (k + 1) data_types))

-- ## The product in the other order

product_append : (ns ms : List ℕ) → product (ns ++ ms) ≡ product ns * product ms
product_append [] ms = omega arith
product_append (n ∷ ns) ms = ap (λ m. n * m) (product_append ns ms) ∙ grind arith

pub product_reverse : (ns : List ℕ) → product (reverse ns) ≡ product ns
product_reverse [] = refl
product_reverse (n ∷ ns) =
    ap product (reverse-append (n ∷ []) ns) ∙ product_append (reverse ns) (n ∷ [])
    ∙ ap (λ m. m * product (n ∷ [])) (product_reverse ns) ∙ front (product ns)
  where
    front : (m : ℕ) → m * (n * 1) ≡ n * m
    front m = grind arith
