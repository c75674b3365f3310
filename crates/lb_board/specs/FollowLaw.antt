-- The law of the board of settled traces, which holds between any two atomic steps. Word 0 is the
-- word of a claim board, and word k + 1 belongs to trace k.
-- Source: this project's rule.
use Rattle.std.specs.Prelude.{◌≡◌, ◌≢◌, ℕ, ◌+◌, ◌<◌, ◌^◌, List, [], map, length, slice_index}
use Rattle.std.specs.Prelude.{Option, All, if◌then◌else◌, ◌==◌, nat_lt, ◌≤◌}
use Rattle.std.specs.List.{Contains}
use mathlib.Core.Option.{some}
use lib.ListN.{get_elem?}
use Rattle.atomic_table.specs.Table.{State, Me, Step}
use Rattle.lb_check.specs.declared.verdict.Verdict.{Verdict}
use Rattle.lb_board.specs.declared.views.View.{View}
use Rattle.lb_board.specs.declared.follow_views.FollowView.{FollowView}
use Rattle.lb_board.specs.Claims.{AreLawfulViews, claimed}
use Rattle.lb_board.specs.FollowViews.{with_draws, posted, looked}
use Rattle.lb_board.specs.Settlements.{Settlement, word_of, told_by, IsRight, Knows}

-- the claim views
abbrev pub draws_of : List FollowView → List View
draws_of views = map (λ v. v.draws) views

-- a settlement is what the word of its trace holds
abbrev pub IsHeld : List ℕ → Settlement → Type 0
IsHeld words e = slice_index words (e.0 + 1) ≡ word_of e.1

-- the law of one view: a view without shares was joined away, has no posts and knows nothing; any
-- other view has the verdicts that are right; what it knows is what the words hold
pub record IsLawfulFollower (right : List Verdict) (words : List ℕ) (v : FollowView) : Type 0
  where
    pub spent : v.draws.shares ≡ 0 → (v.posts ≡ []) × (v.known ≡ [])
    pub same : 0 < v.draws.shares → v.right ≡ right
    pub known : All (IsHeld words) v.known

-- trace k was posted with some seat, with the settlement that the word w stands for
pub record IsPosted (views : List FollowView) (k w : ℕ) : Type 0 where
  pub seat : ℕ
  pub view : FollowView
  pub there : get_elem? views seat ≡ some view
  pub with : Option Verdict
  pub post : Contains view.posts (k, with)
  pub told : w ≡ word_of with

-- the law of the word w of trace k: what it holds was posted, and a verdict in it is the right one
pub record IsLawfulWord (right : List Verdict) (views : List FollowView) (k w : ℕ) : Type 0
  where
    pub small : w < 2 ^ 35
    pub posted : w ≢ 0 → IsPosted views k w
    pub is_right : (x : Option Verdict) → w ≡ word_of x → IsRight right k x

-- the law of a board of `batches` batches, whose traces have the verdicts `right`
pub record IsLawfulFollow (batches : ℕ) (right : List Verdict) (s : State ℕ FollowView) : Type 0
  where
    pub limit : batches < 2 ^ 32
    pub words : length s.words ≡ length right + 1
    pub draws : AreLawfulViews batches (slice_index s.words 0) (draws_of s.views)
    pub traces :
        (k : ℕ) → k < length right → IsLawfulWord right s.views k (slice_index s.words (k + 1))
    pub each :
        (p : ℕ) (v : FollowView) → get_elem? s.views p ≡ some v →
        IsLawfulFollower right s.words v

-- a claim changes the draws as on a claim board, and nothing else
abbrev pub ClaimsBatch : Step ℕ → Me ℕ FollowView → ℕ → Me ℕ FollowView → Type 0
ClaimsBatch step before found after =
    let draws = before.0.draws in
    let drawn = claimed (nat_lt found draws.limit) draws found in
    (after ≡ (with_draws before.0 drawn, before.1)) × (length drawn.drawn ≤ draws.limit)

-- the word `found` of trace k, read with a seat that has the view v: a verdict in it is the right
-- one, and it agrees with what v knows of the trace
pub record IsFound (v : FollowView) (k found : ℕ) : Type 0 where
  pub small : found < 2 ^ 35
  pub told : found ≢ 0 → found ≡ word_of (told_by found)
  pub is_right : found ≢ 0 → IsRight v.right k (told_by found)
  pub known : (x : Option Verdict) → Knows v.known k x → found ≡ word_of x

-- the word after a post of `said`, where the post found `found`
abbrev pub held : ℕ → ℕ → ℕ
held found said = if found == 0 then said else found

-- a post adds to the posts the trace with what `said` stands for, and to what is known the trace
-- with what its word then holds
abbrev pub Posts : Step ℕ → Me ℕ FollowView → ℕ → Me ℕ FollowView → Type 0
Posts step before found after =
    (k : ℕ)
    → step.word ≡ k + 1
    → IsFound before.0 k found
    × (after ≡ (posted before.0 k step.second (held found step.second), before.1))

-- a look adds what the word holds to what is known, where the trace is not open
abbrev pub Looks : Step ℕ → Me ℕ FollowView → ℕ → Me ℕ FollowView → Type 0
Looks step before found after =
    (k : ℕ)
    → step.word ≡ k + 1
    → IsFound before.0 k found × (after ≡ (looked before.0 k found, before.1))
