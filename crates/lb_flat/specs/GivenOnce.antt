-- Flat programs in which each element has one equation.
-- Source: this project's rule.
use mathlib.Core.HLevel.{Π_prop, ¬_prop}
use Rattle.std.specs.Coded.{×_prop, Unit-prop}
use Rattle.std.specs.Prelude.{◌≡◌, ℕ, ◌<◌, ◌≤◌, List, [], ◌∷◌, map}
use Rattle.std.proofs.Common.{inl, inr, ap, subst, sym}
use Rattle.std.proofs.Props.{props}
use Rattle.lb_syntax.specs.Lists.{AreApart, Every, In}
use Rattle.lb_flat.specs.Flat.{FlatEquation}
use Rattle.lb_flat.specs.Judging.{FlatProgram}
use Rattle.lb_flat.specs.PreparedPrograms.{Every-prop}
use Rattle.lb_flat.specs.Run.{equation_reads}

-- each element has exactly one equation, and that of a temporary reads only lower elements
pub record IsGiven (f : FlatProgram) : Type 0 where
  pub each : (i : ℕ) → i < f.size → In i (map (λ q. q.element) f.equations)
  pub once : AreApart (map (λ q. q.element) f.equations)
  pub lower :
      Every (λ q. f.variables ≤ q.element → Every (λ i. i < q.element) (equation_reads q))
      f.equations

-- ## `IsGiven` has at most one proof

same_prop : (i j : ℕ) → IsProp (i ≡ j)
same_prop i j = Prim.hlevel props

-- a number has at most one place in a list in which nothing stands twice
in_prop : (i : ℕ) (is : List ℕ) → AreApart is → (a b : In i is) → a ≡ b
in_prop i [] h a b = absurd a
in_prop i (j ∷ is) h (inl p) (inl q) = ap inl (same_prop j i p q)
in_prop i (j ∷ is) h (inl p) (inr b) = absurd (h.0 (subst (λ k. In k is) (sym p) b))
in_prop i (j ∷ is) h (inr a) (inl q) = absurd (h.0 (subst (λ k. In k is) (sym q) a))
in_prop i (j ∷ is) h (inr a) (inr b) = ap inr (in_prop i is h.1 a b)

apart_prop : (is : List ℕ) → IsProp (AreApart is)
apart_prop [] = Unit-prop
apart_prop (i ∷ is) = ×_prop ¬_prop (apart_prop is)

below_prop : (i n : ℕ) → IsProp (i < n)
below_prop i n = Prim.hlevel props

lower_prop :
    (n : ℕ) (qs : List FlatEquation) →
    IsProp (Every (λ q. n ≤ q.element → Every (λ i. i < q.element) (equation_reads q)) qs)
lower_prop n qs =
    Every-prop
    (λ q. Π_prop (λ le. Every-prop (λ i. below_prop i q.element) (equation_reads q))) qs

pub given_prop : (f : FlatProgram) → IsProp (IsGiven f)
given_prop f g h =
    let is = map (λ q. q.element) f.equations in
    λ k. record {
      each = λ i lt. in_prop i is g.once (g.each i lt) (h.each i lt) k;
      once = apart_prop is g.once h.once k;
      lower = lower_prop f.variables f.equations g.lower h.lower k;
    }
