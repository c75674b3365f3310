-- Places that came up in a walk, each of them once, and the items that are reached by steps.
-- This file mirrors code (src/work_list.rt); no definition of the language stands on it.
use Rattle.std.specs.Prelude.{◌≡◌, ◌≤◌, ℕ, zero, suc, Bool, true, ◌||◌, nat_eq, Option, Some}
use Rattle.std.specs.Prelude.{is_some, List, [], ◌∷◌, ◌++◌, length, filter, slice_get}
use Rattle.std.specs.Prelude.{if◌then◌else◌}
use Rattle.std.specs.List.{list_all, list_any, count_by}
use Rattle.lb_syntax.specs.Lists.{holds}

-- ## Places

-- the places that came up, in this order, in a list of `count` items
pub record Visited : Type 0 where
  pub order : List ℕ
  pub count : ℕ

abbrev pub is_visited : List ℕ → ℕ → Bool
is_visited order place = list_any (nat_eq place) order

-- the places after one more visit: a place that came up stays where it is
abbrev pub visited_after : List ℕ → ℕ → List ℕ
visited_after order place = if is_visited order place then order else order ++ place ∷ []

-- the places after more visits, one after another
unfoldable pub visited_after_all : List ℕ → List ℕ → List ℕ
visited_after_all order [] = order
visited_after_all order (place ∷ places) = visited_after_all (visited_after order place) places

-- the places after more visits: each place has the turn that it had before
pub record Grows (before after : List ℕ) : Type 0 where
  pub longer : length before ≤ length after
  pub kept : (turn place : ℕ) → slice_get before turn ≡ Some place
      → slice_get after turn ≡ Some place
  pub still : (place : ℕ) → is_visited before place ≡ true → is_visited after place ≡ true

-- each place has the turn at which it came up, or none
pub record HasTurns (order : List ℕ) (turns : List (Option ℕ)) : Type 0 where
  pub counted : count_by is_some turns ≡ length order
  pub seen : (place : ℕ) → is_visited order place ≡ holds is_some (slice_get turns place)
  pub found : (place turn : ℕ) → slice_get turns place ≡ Some (Some turn)
      → slice_get order turn ≡ Some place

-- ## Items reached by steps

module _ {A : Type 0} (items : List A) (start : A → Bool) (step : A → A → Bool) where
  -- the items reached from the starts by at most `k` steps
  abbrev pub within : ℕ → List A
  within zero = filter start items
  within (suc k) = filter (λ a. start a || list_any (λ b. step b a) (within k)) items

  -- an item is reached from the starts by at most `k` steps
  abbrev pub is_reachable : ℕ → A → Bool
  is_reachable zero a = start a
  is_reachable (suc k) a = start a || list_any (λ b. step b a) (within k)

  -- each of these places holds an item that is reached by at most as many steps as there are places
  abbrev pub AreReachable : List ℕ → Type 0
  AreReachable order =
      list_all (λ place. holds (is_reachable (length order)) (slice_get items place)) order ≡ true
