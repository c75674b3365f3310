-- The view of a seat of a board of settled traces after a post, and after a look.
use Rattle.std.proofs.Common.{◌≡◌, ◌≢◌, ℕ, ◌⊎◌, inl, inr, true, false, eqb, List, refl, ap}
use Rattle.std.proofs.Common.{◌∙◌, subst, arith}
use Rattle.std.proofs.lemmas.Bool.Decides.{eqb_tells}
use Rattle.std.specs.Prelude.{Option, Some, None}
use Rattle.atomic_table.specs.Table.{Me}
use Rattle.lb_check.specs.declared.verdict.Verdict.{Verdict}
use Rattle.lb_board.specs.declared.views.View.{View}
use Rattle.lb_board.specs.declared.follow_views.FollowView.{FollowView}
use Rattle.lb_board.specs.declared.follow_board.FollowBoard.{FollowBoard}
use Rattle.lb_board.specs.declared.follow_board.FollowSeat.{FollowSeat}
use Rattle.lb_board.specs.declared.follow_board.Look.TheVariants.{Waiting}
use Rattle.lb_board.specs.Settlements.{Settlement, word_of, told_by, IsRight, Knows, KnowsNothing}
use Rattle.lb_board.specs.Settlements.{and_one}
use Rattle.lb_board.specs.FollowViews.{posted, looked, follow_view}
use Rattle.lb_board.specs.FollowLaw.{IsFound, held}
use Rattle.lb_board.specs.FollowSeats.{IsFollowSeatOf, HasSameDraws, shown}
use Rattle.lb_board.proofs.Settling.{told_word, word_some}
use Rattle.lb_board.proofs.Posting.{held_open, held_settled, looked_open, looked_settled}

-- a view after a step: what a claim seat knows and the right verdicts are as before
pub record After (v : FollowView) (slots : List (ℕ × ℕ)) (posts known : List Settlement)
    (me : Me ℕ FollowView) : Type 0 where
  pub draws : me.0.draws ≡ v.draws
  pub right : me.0.right ≡ v.right
  pub posts_are : me.0.posts ≡ posts
  pub known_are : me.0.known ≡ known
  pub slots_are : me.1 ≡ slots

module _ (v : FollowView) (slots : List (ℕ × ℕ)) (k found : ℕ) (me : Me ℕ FollowView) where
  is_after :
      (posts known : List Settlement) → me ≡ (follow_view v.draws v.right posts known, slots) →
      After v slots posts known me
  is_after posts known e = record {
    draws = ap (λ (m : Me ℕ FollowView). m.0.draws) e;
    right = ap (λ (m : Me ℕ FollowView). m.0.right) e;
    posts_are = ap (λ (m : Me ℕ FollowView). m.0.posts) e;
    known_are = ap (λ (m : Me ℕ FollowView). m.0.known) e;
    slots_are = ap (λ (m : Me ℕ FollowView). m.1) e;
  }

  pub after_open_look :
      me ≡ (looked v k found, slots) → found ≡ 0 → After v slots v.posts v.known me
  after_open_look e zero =
      is_after v.posts v.known
      (e ∙ ap {B = Me ℕ FollowView} (λ (w : FollowView). (w, slots)) (looked_open v k found zero))

  pub after_look :
      me ≡ (looked v k found, slots) → found ≢ 0 →
      After v slots v.posts (and_one v.known k (told_by found)) me
  after_look e settled =
      is_after v.posts (and_one v.known k (told_by found))
      (e
      ∙ ap {B = Me ℕ FollowView} (λ (w : FollowView). (w, slots))
      (looked_settled v k found settled))

  -- a look keeps the draws and the slots, whatever it finds
  pub after_any_look :
      me ≡ (looked v k found, slots) → (me.0.draws ≡ v.draws) × (me.1 ≡ slots)
  after_any_look e = by (eqb_tells found 0)
    where
      by :
          ((eqb found 0 ≡ true) × (found ≡ 0)) ⊎ ((eqb found 0 ≡ false) × (found ≢ 0)) →
          (me.0.draws ≡ v.draws) × (me.1 ≡ slots)
      by (inl t) = let a = after_open_look e t.1 in (a.draws, a.slots_are)
      by (inr t) = let a = after_look e t.1 in (a.draws, a.slots_are)

  module _ (said : ℕ) (x : Option Verdict) (is : said ≡ word_of x)
      (e : me ≡ (posted v k said (held found said), slots)) where
    handed_in : told_by said ≡ x
    handed_in = ap told_by is ∙ told_word x

    after_word :
        (y : Option Verdict) → told_by (held found said) ≡ y →
        After v slots (and_one v.posts k x) (and_one v.known k y) me
    after_word y same =
        is_after (and_one v.posts k x) (and_one v.known k y)
        (e
        ∙ ap {B = Me ℕ FollowView}
        (λ (z : Option Verdict). (
          follow_view v.draws v.right (and_one v.posts k z)
              (and_one v.known k (told_by (held found said))),
          slots,
        ))
        handed_in
        ∙ ap {B = Me ℕ FollowView}
        (λ (z : Option Verdict).
        (follow_view v.draws v.right (and_one v.posts k x) (and_one v.known k z), slots))
        same)

    pub after_open_post :
        found ≡ 0 → After v slots (and_one v.posts k x) (and_one v.known k x) me
    after_open_post zero =
        after_word x (ap told_by (held_open found said zero) ∙ handed_in)

    pub after_post :
        found ≢ 0 → After v slots (and_one v.posts k x) (and_one v.known k (told_by found)) me
    after_post settled = after_word (told_by found) (ap told_by (held_settled found said settled))

-- ## The seat

module _ (board : FollowBoard) (before : FollowSeat) (posts known : List Settlement)
    {after : FollowSeat} (same : after.seat.table_id ≡ before.seat.table_id)
    (a : After before.seat.me.0 before.seat.me.1 posts known after.seat.me) where
  pub still_of : IsFollowSeatOf board before → IsFollowSeatOf board after
  still_of h = record {
    table = same ∙ h.table;
    limit = ap (λ (d : View). d.limit) a.draws ∙ h.limit;
    right = a.right ∙ h.right;
  }

  pub same_draws : HasSameDraws before after
  same_draws = record {
    shares = ap (λ (d : View). d.shares) a.draws;
    told = ap (λ (d : View). d.told) a.draws;
    drawn = ap (λ (d : View). d.drawn) a.draws;
  }

-- ## What was found

-- nothing is known of a trace that is open
pub nothing_known :
    (v : FollowView) (k found : ℕ) → IsFound v k found → found ≡ 0 → KnowsNothing v.known k
nothing_known v k found f zero x h = omega (arith, f.known x h, zero, word_some x)

-- what is known of a trace that is settled is what its word stands for
pub told_known :
    (v : FollowView) (k found : ℕ) → IsFound v k found → (x : Option Verdict) →
    Knows v.known k x → told_by found ≡ x
told_known v k found f x h = ap told_by (f.known x h) ∙ told_word x

-- the verdict in the word of a settled trace is right
pub told_right :
    (v : FollowView) (k found : ℕ) → IsFound v k found → found ≢ 0 → (right : List Verdict) →
    v.right ≡ right → IsRight right k (told_by found)
told_right v k found f settled right same =
    subst (λ (r : List Verdict). IsRight r k (told_by found)) same (f.is_right settled)

-- settlements that a look shows alike are the same
pub same_shown : (x y : Option Verdict) → shown x ≡ shown y → x ≡ y
same_shown None None e = refl
same_shown None (Some v) e = absurd cc
same_shown (Some v) None e = absurd cc
same_shown (Some v) (Some w) e = cc

pub waits_for_nothing : (x : Option Verdict) → Waiting ≡ shown x → ⊥
waits_for_nothing None e = cc
waits_for_nothing (Some v) e = cc
