-- Each atomic step keeps the law of the claim board.
use Rattle.std.proofs.Common.{◌≡◌, ℕ, zero, suc, ◌+◌, ◌-◌, ◌/◌, ◌%◌, ◌^◌, ◌<◌, ◌≤◌, ◌⊎◌, inl, inr}
use Rattle.std.proofs.Common.{◌||◌, List, [], ◌∷◌, ◌++◌, Bool, true, false, cond, length}
use Rattle.std.proofs.Common.{length-append, set, refl, sym, ap, ◌∙◌, subst, arith, min, zero-add}
use Rattle.std.proofs.Common.{◌≢◌, le_refl}
use Rattle.std.specs.List.{sum_by}
use Rattle.std.specs.Prelude.{slice_index, slice_set, nat_lt, ◌==◌}
use Rattle.std.proofs.lemmas.List.Sums.{sum_by-append}
use Rattle.std.proofs.lemmas.Bool.{false≢true}
use mathlib.Core.Option.{some, none, some-injective, some-ne-none}
use lib.ListN.{get_elem?}
use Rattle.atomic_table.specs.Table.{State, Me, Allows, Splits, Joins, step}
use Rattle.atomic_table.specs.Table.Act.{keeps}
use Rattle.atomic_table.proofs.Lists.{at_set, at_snoc, set_else}
use Rattle.lb_syntax.proofs.TruthValues.{contrary}
use Rattle.lb_board.specs.declared.views.View.{View}
use Rattle.lb_board.specs.Views.{larger_half, smaller_half, both, spent}
use Rattle.lb_board.specs.Draws.{times, once_below, AreAllBelow}
use Rattle.lb_board.specs.Claims.{told_shares, IsLawfulView, AreLawfulViews, IsLawfulBoard, claimed}
use Rattle.lb_board.specs.Claims.{Claims}

-- ## Sums over views

sum_cons :
    (f : View → ℕ) (x : View) (xs : List View) → sum_by f (x ∷ xs) ≡ f x + sum_by f xs
sum_cons f x xs = sum_by-append f (x ∷ []) xs ∙ ap (λ n. n + sum_by f xs) (zero-add (f x))

-- the sum after one view has changed
sum_set :
    (f : View → ℕ) (views : List View) (i : ℕ) (v w : View) → get_elem? views i ≡ some v →
    sum_by f (set views i w) + f v ≡ sum_by f views + f w
sum_set f [] i v w e = absurd (some-ne-none v (sym e))
sum_set f (x ∷ xs) zero v w e =
    let h = ap f (some-injective x v e) in
    omega (arith, h, sum_cons f x xs, sum_cons f w xs)
sum_set f (x ∷ xs) (suc i) v w e =
    let h = sum_set f xs i v w e in
    omega (arith, h, sum_cons f x xs, sum_cons f x (set xs i w))

sum_le :
    (f g : View → ℕ) → ((v : View) → f v ≤ g v) → (views : List View) →
    sum_by f views ≤ sum_by g views
sum_le f g h [] = le_refl 0
sum_le f g h (x ∷ xs) =
    let a = h x in
    let b = sum_le f g h xs in
    omega (arith, a, b, sum_cons f x xs, sum_cons g x xs)

sum_has :
    (f : View → ℕ) (views : List View) (i : ℕ) (v : View) → get_elem? views i ≡ some v →
    f v ≤ sum_by f views
sum_has f [] i v e = absurd (some-ne-none v (sym e))
sum_has f (x ∷ xs) zero v e =
    let h = ap f (some-injective x v e) in
    omega (arith, h, sum_cons f x xs)
sum_has f (x ∷ xs) (suc i) v e =
    let h = sum_has f xs i v e in
    omega (arith, h, sum_cons f x xs)

sum_snoc :
    (f : View → ℕ) (xs : List View) (x : View) → sum_by f (xs ++ x ∷ []) ≡ sum_by f xs + f x
sum_snoc f xs x = sum_by-append f xs (x ∷ []) ∙ ap (λ n. sum_by f xs + n) (zero-add (f x))

told_le : (v : View) → told_shares v ≤ v.shares
told_le v = by (v.told)
  where
    by : (b : Bool) → cond b v.shares 0 ≤ v.shares
    by true = omega arith
    by false = omega arith

told_bound :
    (views : List View) → sum_by (λ v. v.shares) views ≡ 64 → sum_by told_shares views ≤ 64
told_bound views e =
    let h = sum_le told_shares (λ v. v.shares) told_le views in
    omega (arith, h, e)

-- ## Counts

pub times_append :
    (x : ℕ) (xs ys : List ℕ) → times x (xs ++ ys) ≡ times x xs + times x ys
times_append x xs ys = sum_by-append _ xs ys

next_below :
    (x w n : ℕ) → w < n →
    once_below x (min (w + 1) n) ≡ once_below x (min w n) + cond (w == x) 1 0
next_below x w n h = grind arith

same_above : (x w n : ℕ) → n ≤ w → once_below x (min (w + 1) n) ≡ once_below x (min w n)
same_above x w n h = grind arith

all_below : (x w n : ℕ) → n ≤ w → once_below x (min w n) ≡ once_below x n
all_below x w n h = grind arith

-- ## The word

set_word :
    (ws : List ℕ) (x : ℕ) → length ws ≡ 1 →
    (slice_index (slice_set ws 0 x) 0 ≡ x) × (length (slice_set ws 0 x) ≡ 1)
set_word [] x e = absurd (omega (arith, e))
set_word (w ∷ []) x e = (refl, refl)
set_word (w ∷ v ∷ vs) x e = absurd (omega (arith, e))

-- the word passes the limit by 64 at most, so it does not wrap
pub grown :
    (n w : ℕ) (views : List View) → n < 2 ^ 32 → AreLawfulViews n w views →
    (w + 1) % 2 ^ 64 ≡ w + 1
grown n w views small k =
    let b = told_bound views k.shares in
    let c = k.bound in
    omega (arith, b, c)

-- ## A claim

module _ (n id w : ℕ) (v : View) (views : List View) (has : 0 < v.shares)
    (not_told : v.told ≡ false) (here : get_elem? views id ≡ some v)
    (k : AreLawfulViews n w views) where
  pub limit_is : v.limit ≡ n
  limit_is = (k.each id v here).limit has

  others :
      (u : View) → IsLawfulView n (w + 1) u → (p : ℕ) (x : View) →
      get_elem? (set views id u) p ≡ some x → IsLawfulView n (w + 1) x
  others u good p x e = from (at_set views id p u x e)
    where
      from :
          ((p ≡ id) × (u ≡ x)) ⊎ ((p ≢ id) × (get_elem? views p ≡ some x)) →
          IsLawfulView n (w + 1) x
      from (inl t) = subst (IsLawfulView n (w + 1)) t.1 good
      from (inr t) =
          let l = k.each p x t.1 in
          record {
            none_left = λ e. let h = l.none_left e in omega (arith, h);
            spent = l.spent;
            limit = l.limit;
          }

  -- the law holds after a number below the limit is drawn
  draws : w < n → AreLawfulViews n (w + 1) (set views id (claimed true v w))
  draws h =
      let u = claimed true v w in
      record {
        shares =
            let s = sum_set (λ v. v.shares) views id v u here in
            let a = k.shares in
            omega (arith, s, a);
        once = λ x.
            let s = sum_set (λ v. times x v.drawn) views id v u here in
            let a = k.once x in
            let b = next_below x w n h in
            let t = times_append x v.drawn (w ∷ []) in
            omega (arith, s, a, b, t);
        count =
            let s = sum_set (λ v. length v.drawn) views id v u here in
            let a = k.count in
            let t = length-append v.drawn (w ∷ []) in
            omega (arith, s, a, t, h);
        bound =
            let s = sum_set told_shares views id v u here in
            let a = k.bound in
            omega (arith, s, a, h);
        each = others u (record {
          none_left = λ e. absurd (contrary v.told e not_told);
          spent = λ e. absurd (omega (arith, e, has));
          limit = λ p. limit_is;
        });
      }

  -- the law holds after a view is told that no number is left
  tells : n ≤ w → AreLawfulViews n (w + 1) (set views id (claimed false v w))
  tells h =
      let u = claimed false v w in
      record {
        shares =
            let s = sum_set (λ v. v.shares) views id v u here in
            let a = k.shares in
            omega (arith, s, a);
        once = λ x.
            let s = sum_set (λ v. times x v.drawn) views id v u here in
            let a = k.once x in
            let b = same_above x w n h in
            omega (arith, s, a, b);
        count =
            let s = sum_set (λ v. length v.drawn) views id v u here in
            let a = k.count in
            omega (arith, s, a, h);
        bound =
            let s = sum_set told_shares views id v u here in
            let a = k.bound in
            let t = ap (λ b. cond b v.shares 0) not_told in
            omega (arith, s, a, has, t);
        each = others u (record {
          none_left = λ e. omega (arith, h);
          spent = λ e. absurd (omega (arith, e, has));
          limit = λ p. limit_is;
        });
      }

pub by_found :
    (n id w : ℕ) (v : View) (views : List View) → 0 < v.shares → v.told ≡ false →
    get_elem? views id ≡ some v → AreLawfulViews n w views →
    (b : Bool) → nat_lt w v.limit ≡ b → AreLawfulViews n (w + 1) (set views id (claimed b v w))
by_found n id w v views has free here k true e =
    let l = limit_is n id w v views has free here k in
    draws n id w v views has free here k (grind (arith, e, l))
by_found n id w v views has free here k false e =
    let l = limit_is n id w v views has free here k in
    tells n id w v views has free here k (grind (arith, e, l))

pub put_here :
    (views : List View) (i : ℕ) (v u : View) → get_elem? views i ≡ some v →
    get_elem? (set views i u) i ≡ some u
put_here [] i v u e = absurd (some-ne-none v (sym e))
put_here (x ∷ xs) zero v u e = refl
put_here (x ∷ xs) (suc i) v u e = put_here xs i v u e

pub within :
    (n w id : ℕ) (u : View) (views : List View) {m : ℕ} → m ≡ n → AreLawfulViews n w views →
    get_elem? views id ≡ some u → length u.drawn ≤ m
within n w id u views e k here =
    let h = sum_has (λ v. length v.drawn) views id u here in
    let a = k.count in
    omega (arith, h, a, e)

-- one fetch_add of 1 is a claim, whatever the table is
pub claims :
    (n slots id : ℕ) (me : Me ℕ View) → 0 < me.0.shares → me.0.told ≡ false →
    Allows (IsLawfulBoard n) slots id me 0 (λ w. (w + 1) % 2 ^ 64)
    (Claims (step slots 0 1 0 none) me)
claims n slots id me has free s k long here fits =
    let w = slice_index s.words 0 in
    let x = (w + 1) % 2 ^ 64 in
    let q = set_word s.words x k.word in
    let more = grown n w s.views k.limit k.views in
    let u = claimed (nat_lt w me.0.limit) me.0 w in
    let law = by_found n id w me.0 s.views has free here k.views (nat_lt w me.0.limit) refl in
    let limit = limit_is n id w me.0 s.views has free here k.views in
    let views = set s.views id u in (
      u,
      keeps,
      tt,
      record {
        limit = k.limit;
        word = q.1;
        views = subst (λ m. AreLawfulViews n m views) (sym (q.0 ∙ more)) law;
      },
      (refl, within n (w + 1) id u views limit law (put_here s.views id me.0 u here)),
    )

-- ## A split

told_halves : (t : Bool) (a b c : ℕ) → a + b ≡ c → cond t a 0 + cond t b 0 ≡ cond t c 0
told_halves true a b c e = e
told_halves false a b c e = refl

module _ (n id w : ℕ) (v : View) (views : List View) (two : 2 ≤ v.shares)
    (here : get_elem? views id ≡ some v) (k : AreLawfulViews n w views) where
  pub halves : AreLawfulViews n w (set views id (larger_half v) ++ smaller_half v ∷ [])
  halves =
      let l = larger_half v in
      let r = smaller_half v in
      let one = set views id l in
      record {
        shares =
            let s = sum_set (λ v. v.shares) views id v l here in
            let t = sum_snoc (λ v. v.shares) one r in
            let a = k.shares in
            omega (arith, s, t, a);
        once = λ x.
            let s = sum_set (λ v. times x v.drawn) views id v l here in
            let t = sum_snoc (λ v. times x v.drawn) one r in
            let a = k.once x in
            omega (arith, s, t, a);
        count =
            let s = sum_set (λ v. length v.drawn) views id v l here in
            let t = sum_snoc (λ v. length v.drawn) one r in
            let a = k.count in
            omega (arith, s, t, a);
        bound =
            let s = sum_set told_shares views id v l here in
            let t = sum_snoc told_shares one r in
            let a = k.bound in
            let h = told_halves v.told (v.shares - v.shares / 2) (v.shares / 2) v.shares
            (omega arith) in
            omega (arith, s, t, a, h);
        each = λ p x e. from p x (at_snoc one r x p e);
      }
    where
      mine : IsLawfulView n w v
      mine = k.each id v here

      first : IsLawfulView n w (larger_half v)
      first = record {
        none_left = mine.none_left;
        spent = λ e. absurd (omega (arith, e, two));
        limit = λ h. mine.limit (omega (arith, two));
      }

      second : IsLawfulView n w (smaller_half v)
      second = record {
        none_left = mine.none_left;
        spent = λ e. absurd (omega (arith, e, two));
        limit = λ h. mine.limit (omega (arith, two));
      }

      old :
          (p : ℕ) (x : View) →
          ((p ≡ id) × (larger_half v ≡ x)) ⊎ ((p ≢ id) × (get_elem? views p ≡ some x)) →
          IsLawfulView n w x
      old p x (inl t) = subst (IsLawfulView n w) t.1 first
      old p x (inr t) = k.each p x t.1

      from :
          (p : ℕ) (x : View) →
          (get_elem? (set views id (larger_half v)) p ≡ some x) ⊎ (smaller_half v ≡ x) →
          IsLawfulView n w x
      from p x (inl e) = old p x (at_set views id p (larger_half v) x e)
      from p x (inr e) = subst (IsLawfulView n w) e second

pub splits :
    (n id : ℕ) (v : View) → 2 ≤ v.shares →
    Splits {S = ℕ} (IsLawfulBoard n) id v (larger_half v) (smaller_half v)
splits n id v two s k here = record {
  limit = k.limit;
  word = k.word;
  views = halves n id (slice_index s.words 0) v s.views two here k.views;
}

-- ## A join

told_both : (s t : Bool) (a b : ℕ) → cond s a 0 + cond t b 0 ≤ cond (s || t) (a + b) 0
told_both true true a b = omega arith
told_both true false a b = omega arith
told_both false true a b = omega arith
told_both false false a b = omega arith

by_either :
    (s t : Bool) (P : Type 0) → (s ≡ true → P) → (t ≡ true → P) → (s || t) ≡ true → P
by_either true t P f g e = f refl
by_either false t P f g e = g e

module _ (n id w other : ℕ) (v u : View) (views : List View) (has : 0 < v.shares)
    (here : get_elem? views id ≡ some v) (apart : ¬ (other ≡ id))
    (there : get_elem? (set views id (both v u)) other ≡ some u)
    (k : AreLawfulViews n w views) where
  few : v.shares + u.shares ≤ 64
  few =
      let a = k.shares in
      let s = sum_set (λ v. v.shares) views id v spent here in
      let h = put_other (at_set views id other (both v u) u there) in
      let t = sum_has (λ v. v.shares) (set views id spent) other u h in
      omega (arith, a, s, t)
    where
      put_other :
          ((other ≡ id) × (both v u ≡ u)) ⊎ ((other ≢ id) × (get_elem? views other ≡ some u)) →
          get_elem? (set views id spent) other ≡ some u
      put_other (inl t) = absurd (apart t.0)
      put_other (inr t) = set_else views id other spent t.0 ∙ t.1

  same_shares : min 64 (v.shares + u.shares) ≡ v.shares + u.shares
  same_shares = let h = few in omega (arith, h)

  pub joined : AreLawfulViews n w (set (set views id (both v u)) other spent)
  joined =
      let b = both v u in
      let one = set views id b in
      record {
        shares =
            let s = sum_set (λ v. v.shares) views id v b here in
            let t = sum_set (λ v. v.shares) one other u spent there in
            let a = k.shares in
            let m = same_shares in
            omega (arith, s, t, a, m);
        once = λ x.
            let s = sum_set (λ v. times x v.drawn) views id v b here in
            let t = sum_set (λ v. times x v.drawn) one other u spent there in
            let a = k.once x in
            let c = times_append x v.drawn u.drawn in
            omega (arith, s, t, a, c);
        count =
            let s = sum_set (λ v. length v.drawn) views id v b here in
            let t = sum_set (λ v. length v.drawn) one other u spent there in
            let a = k.count in
            let c = length-append v.drawn u.drawn in
            omega (arith, s, t, a, c);
        bound =
            let s = sum_set told_shares views id v b here in
            let t = sum_set told_shares one other u spent there in
            let a = k.bound in
            let c = told_both v.told u.told v.shares u.shares in
            let m = ap (λ z. cond (v.told || u.told) z 0) same_shares in
            omega (arith, s, t, a, c, m);
        each = λ p x e. from p x (at_set one other p spent x e);
      }
    where
      mine : IsLawfulView n w v
      mine = k.each id v here

      theirs :
          ((other ≡ id) × (both v u ≡ u)) ⊎ ((other ≢ id) × (get_elem? views other ≡ some u)) →
          IsLawfulView n w u
      theirs (inl t) = absurd (apart t.0)
      theirs (inr t) = k.each other u t.1

      all : IsLawfulView n w (both v u)
      all = record {
        none_left = by_either v.told u.told (n ≤ w) mine.none_left
            (theirs (at_set views id other (both v u) u there)).none_left;
        spent = λ e. let m = same_shares in absurd (omega (arith, e, has, m));
        limit = λ h. mine.limit has;
      }

      was :
          (p : ℕ) (x : View) →
          ((p ≡ id) × (both v u ≡ x)) ⊎ ((p ≢ id) × (get_elem? views p ≡ some x)) →
          IsLawfulView n w x
      was p x (inl t) = subst (IsLawfulView n w) t.1 all
      was p x (inr t) = k.each p x t.1

      nothing : IsLawfulView n w spent
      nothing = record {
        none_left = λ e. absurd (false≢true e);
        spent = λ e. (refl, refl);
        limit = λ h. absurd (omega (arith, h));
      }

      from :
          (p : ℕ) (x : View) →
          ((p ≡ other) × (spent ≡ x))
          ⊎ ((p ≢ other) × (get_elem? (set views id (both v u)) p ≡ some x)) →
          IsLawfulView n w x
      from p x (inl t) = subst (IsLawfulView n w) t.1 nothing
      from p x (inr t) = was p x (at_set views id p (both v u) x t.1)

pub joins :
    (n id : ℕ) (v : View) (other : ℕ) (u : View) → 0 < v.shares →
    Joins {S = ℕ} (IsLawfulBoard n) id v other u (both v u) spent
joins n id v other u has s k here apart there = record {
  limit = k.limit;
  word = k.word;
  views = joined n id (slice_index s.words 0) other v u s.views has here apart there k.views;
}

-- ## The seat with all shares

none_of :
    (f g : View → ℕ) (xs : List View) → sum_by g xs ≡ 0 →
    ((p : ℕ) (x : View) → get_elem? xs p ≡ some x → g x ≡ 0 → f x ≡ 0) → sum_by f xs ≡ 0
none_of f g [] e h = refl
none_of f g (x ∷ xs) e h =
    let c = sum_cons g x xs in
    let a = h 0 x refl (omega (arith, e, c)) in
    let b = none_of f g xs (omega (arith, e, c)) (λ p y q. h (suc p) y q) in
    omega (arith, a, b, sum_cons f x xs)

-- a seat that has all shares and was told that no number is left has drawn all numbers
pub settled :
    (n id : ℕ) (v : View) (s : State ℕ View) → IsLawfulBoard n s →
    get_elem? s.views id ≡ some v → v.shares ≡ 64 → v.told ≡ true → AreAllBelow n v.drawn
settled n id v s law here all told x =
    let w = slice_index s.words 0 in
    let views = s.views in
    let k = law.views in
    let rest = set views id spent in
    let none_left : sum_by (λ v. v.shares) rest ≡ 0 = (
    let s = sum_set (λ v. v.shares) views id v spent here in
    let a = k.shares in
    omega (arith, s, a, all)
    ) in
    let zero_draws = none_of (λ v. times x v.drawn) (λ v. v.shares) rest none_left
    (λ p u e h. empty (at_set views id p spent u e) h) in
    let s = sum_set (λ v. times x v.drawn) views id v spent here in
    let a = k.once x in
    let full = (k.each id v here).none_left told in
    omega (arith, s, a, zero_draws, all_below x w n full)
  where
    empty :
        {p : ℕ} {u : View} →
        ((p ≡ id) × (spent ≡ u)) ⊎ ((p ≢ id) × (get_elem? s.views p ≡ some u)) →
        u.shares ≡ 0 → times x u.drawn ≡ 0
    empty (inl t) h = ap (λ u. times x u.drawn) (sym t.1)
    empty {p} {u} (inr t) h = ap (times x) ((law.views.each p u t.1).spent h).0
