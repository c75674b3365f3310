-- The law of the claim board, which holds between any two atomic steps.
-- Source: this project's rule.
use Rattle.std.specs.Prelude.{◌≡◌, ℕ, ◌+◌, ◌<◌, ◌≤◌, ◌^◌, ◌∷◌, ◌++◌, [], List, Bool, true, false}
use Rattle.std.specs.Prelude.{cond, length, slice_index, min, nat_lt}
use Rattle.std.specs.List.{sum_by}
use mathlib.Core.Option.{some}
use lib.ListN.{get_elem?}
use Rattle.atomic_table.specs.Table.{State, Me, Step}
use Rattle.lb_board.specs.Draws.{times, once_below}
use Rattle.lb_board.specs.declared.views.View.{View}
use Rattle.lb_board.specs.Views.{view}

-- the shares of a view that was told that no number is left; 0 for another view
abbrev pub told_shares : View → ℕ
told_shares v = cond v.told v.shares 0

-- the law of one view, where the word is w: it was told only where no number is left; a view
-- without shares was joined away, and has no draws; any other view knows the limit
pub record IsLawfulView (n w : ℕ) (v : View) : Type 0 where
  pub none_left : v.told ≡ true → n ≤ w
  pub spent : v.shares ≡ 0 → (v.drawn ≡ []) × (v.told ≡ false)
  pub limit : 0 < v.shares → v.limit ≡ n

-- the law of all views, where the word is w: their shares add up to 64; their draws are the numbers
-- below n and below w, each once; the word has passed n by no more than the shares of views that
-- were told
pub record AreLawfulViews (n w : ℕ) (views : List View) : Type 0 where
  pub shares : sum_by (λ v. v.shares) views ≡ 64
  pub once : (x : ℕ) → sum_by (λ v. times x v.drawn) views ≡ once_below x (min w n)
  pub count : sum_by (λ v. length v.drawn) views ≡ min w n
  pub bound : w ≤ n + sum_by told_shares views
  pub each : (p : ℕ) (v : View) → get_elem? views p ≡ some v → IsLawfulView n w v

-- the law of a board of the numbers below n
pub record IsLawfulBoard (n : ℕ) (s : State ℕ View) : Type 0 where
  pub limit : n < 2 ^ 32
  pub word : length s.words ≡ 1
  pub views : AreLawfulViews n (slice_index s.words 0) s.views

-- the view after a claim that found k: k is drawn where it is below the limit, else the view is
-- told
abbrev pub claimed : Bool → View → ℕ → View
claimed true v k = view v.limit v.shares v.told (v.drawn ++ k ∷ [])
claimed false v k = view v.limit v.shares true v.drawn

abbrev pub Claims : Step ℕ → Me ℕ View → ℕ → Me ℕ View → Type 0
Claims step before found after =
    (after ≡ (claimed (nat_lt found before.0.limit) before.0 found, before.1))
    × (length after.0.drawn ≤ before.0.limit)
