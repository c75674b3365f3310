-- The elements of a variable: the product of its sizes, in any order.
use Rattle.std.proofs.Common.{◌≡◌, ℕ, suc, zero, ◌+◌, ◌*◌, ◌≤◌, min, ℤ, pos, negsuc, Bool, true}
use Rattle.std.proofs.Common.{false, List, [], ◌∷◌, ◌++◌, map, reverse, Option, Some, None}
use Rattle.std.proofs.Common.{option_map, refl, ap, sym, ◌∙◌, arith}
use Rattle.std.specs.Prelude.{nat_le}
use Rattle.std.proofs.lemmas.Bool.Decides.{nat_tests}
use Rattle.std.proofs.lemmas.List.{reverse-append}
use Rattle.lb_syntax.specs.Lists.{all_some, either_or}
use Rattle.lb_static.specs.DataTypes.{product}
use Rattle.lb_static.specs.Specialized.{size_of, times_sizes}
use Rattle.lb_static.specs.StaticValues.{natural}

-- the product of sizes that are all there, or 0
abbrev pub product_of : List (Option ℕ) → ℕ
product_of [] = 1
product_of (None ∷ os) = 0
product_of (Some n ∷ os) = n * product_of os

pub product_is : (os : List (Option ℕ)) →
    either_or (option_map product (all_some os)) 0 ≡ product_of os
product_is [] = refl
product_is (None ∷ os) = refl
product_is (Some n ∷ os) = by (all_some os) (product_of os) (product_is os)
  where
    by : (o : Option (List ℕ)) (q : ℕ) → either_or (option_map product o) 0 ≡ q
        → either_or (option_map product (option_map (λ ns. n ∷ ns) o)) 0 ≡ n * q
    by None q e = let z : q ≡ 0 = sym e in rw z (omega arith)
    by (Some ns) q e = ap (λ m. n * m) e

product_append : (os ps : List (Option ℕ)) → product_of (os ++ ps) ≡ product_of os * product_of ps
product_append [] ps = omega arith
product_append (None ∷ os) ps = omega arith
product_append (Some n ∷ os) ps = ap (λ m. n * m) (product_append os ps) ∙ grind arith

product_front : (o : Option ℕ) (os : List (Option ℕ))
    → product_of os * product_of (o ∷ []) ≡ product_of (o ∷ os)
product_front None os = omega arith
product_front (Some n) os = grind arith

pub product_reverse : (os : List (Option ℕ)) → product_of (reverse os) ≡ product_of os
product_reverse [] = refl
product_reverse (o ∷ os) =
    ap product_of (reverse-append (o ∷ []) os) ∙ product_append (reverse os) (o ∷ [])
    ∙ ap (λ m. m * product_of (o ∷ [])) (product_reverse os) ∙ product_front o os

-- the product of sizes, where a negative size counts as 0
abbrev pub sizes_product : List ℤ → ℕ
sizes_product [] = 1
sizes_product (v ∷ vs) = size_of v * sizes_product vs

pub product_naturals : (vs : List ℤ) → product_of (map natural vs) ≡ sizes_product vs
product_naturals [] = refl
product_naturals (pos n ∷ vs) = ap (λ m. n * m) (product_naturals vs)
product_naturals (negsuc n ∷ vs) = omega arith

-- a number above a bound stays above it when it is multiplied by a positive number
above : (m e k : ℕ) → m ≤ e → m ≤ e * suc k
above m e k h = let f : e * suc k ≡ e * k + e = grind arith in omega arith

bounded : (e s : ℕ) → min (min e 65537 * s) 65537 ≡ min (e * s) 65537
bounded e zero = let f : min e 65537 * 0 ≡ 0 =
    grind arith in let g : e * 0 ≡ 0 = grind arith in rw (f, g) refl
bounded e (suc k) = by (nat_le e 65537) refl
  where
    by : (b : Bool) → nat_le e 65537 ≡ b → min (min e 65537 * suc k) 65537 ≡ min (e * suc k) 65537
    by true h =
        let le : e ≤ 65537 = grind (arith, nat_tests) in
        let same : min e 65537 ≡ e = omega arith in
        ap (λ n. min (n * suc k) 65537) same
    by false h =
        let gt : 65537 ≤ e = grind (arith, nat_tests) in
        let same : min e 65537 ≡ 65537 = omega arith in
        ap (λ n. min (n * suc k) 65537) same
        ∙ past (65537 * suc k) (e * suc k) (above 65537 65537 k (omega arith)) (above 65537 e k gt)
      where
        past : (a b : ℕ) → 65537 ≤ a → 65537 ≤ b → min a 65537 ≡ min b 65537
        past a b g l = omega arith

pub times_are : (e : ℕ) (vs : List ℤ) →
    times_sizes (min e 65537) vs ≡ min (e * sizes_product vs) 65537
times_are e [] = omega arith
times_are e (v ∷ vs) =
    ap (λ n. times_sizes n vs) (bounded e (size_of v)) ∙ times_are (e * size_of v) vs
    ∙ ap (λ n. min n 65537) (regroup e (size_of v) (sizes_product vs))
  where
    regroup : (a b c : ℕ) → (a * b) * c ≡ a * (b * c)
    regroup a b c = grind arith

pub narrow_is : (vs : List ℤ)
    → nat_le (times_sizes 1 vs) 65536
    ≡ nat_le (either_or (option_map product (all_some (reverse (map natural vs)))) 0) 65536
narrow_is vs =
    ap (λ n. nat_le n 65536) (times_are 1 vs) ∙ by (sizes_product vs)
    ∙ ap (λ n. nat_le n 65536)
    (sym (product_is (reverse (map natural vs)) ∙ product_reverse (map natural vs)
    ∙ product_naturals vs))
  where
    by : (n : ℕ) → nat_le (min (1 * n) 65537) 65536 ≡ nat_le n 65536
    by n = grind (arith, nat_tests)
