-- Each atomic step keeps the law of the board of settled traces.
use Rattle.std.proofs.Common.{◌≡◌, ◌≢◌, ℕ, zero, suc, ◌+◌, ◌%◌, ◌^◌, ◌<◌, ◌≤◌, ◌⊎◌, inl, inr}
use Rattle.std.proofs.Common.{⊎_elim, List, [], ◌∷◌, ◌++◌, Bool, true, false, eqb, length, set}
use Rattle.std.proofs.Common.{refl, sym, ap}
use Rattle.std.proofs.Common.{◌∙◌, subst, arith, length-set, get_or-set_same}
use Rattle.std.proofs.Common.{get_or-set_other, rules, replicate}
use Rattle.std.specs.Prelude.{All, slice_index, slice_set, nat_lt}
use Rattle.std.specs.List.{Contains}
use Rattle.std.proofs.lemmas.List.{map-set, map-append, get_or-replicate}
use Rattle.std.proofs.lemmas.List.{length-replicate}
use Rattle.std.proofs.lemmas.List.Elements.{All-append, All-weaker}
use Rattle.std.proofs.lemmas.List.Elements.{Contains-append_left, Contains-append_right}
use Rattle.std.proofs.lemmas.Bool.Decides.{eqb_tells}
use mathlib.Core.Option.{some, none, some-injective, some-ne-none}
use lib.ListN.{get_elem?}
use Rattle.atomic_table.specs.Table.{State, Me, Allows, Splits, Joins, step, opening}
use Rattle.atomic_table.specs.Table.Act.{keeps}
use Rattle.atomic_table.proofs.Lists.{at_set, at_snoc, at_map, at_longer, set_else, set_again}
use Rattle.lb_check.specs.declared.verdict.Verdict.{Verdict}
use Rattle.lb_board.specs.declared.views.View.{View}
use Rattle.lb_board.specs.declared.follow_views.FollowView.{FollowView}
use Rattle.lb_board.specs.Claims.{AreLawfulViews, claimed}
use Rattle.lb_board.specs.Views as claims
use Rattle.lb_board.specs.Settlements.{Settlement}
use Rattle.lb_board.specs.FollowViews.{larger_half, smaller_half, both, spent, with_draws}
use Rattle.lb_board.specs.FollowViews.{first_view}
use Rattle.lb_board.specs.FollowLaw.{draws_of, IsHeld, IsLawfulFollower, IsPosted, IsLawfulWord}
use Rattle.lb_board.specs.FollowLaw.{IsLawfulFollow, ClaimsBatch}
use Rattle.lb_board.proofs.Claiming.{by_found, grown, within, put_here as put_view, halves, joined}
use Rattle.lb_board.proofs.Claiming.{limit_is}
use Rattle.lb_board.proofs.Settling.{word_some}

-- ## Views

pub set_view :
    (views : List FollowView) (i : ℕ) (v w : FollowView) → get_elem? views i ≡ some v →
    get_elem? (set views i w) i ≡ some w
set_view [] i v w e = absurd (some-ne-none v (sym e))
set_view (x ∷ xs) zero v w e = refl
set_view (x ∷ xs) (suc i) v w e = set_view xs i v w e

draws_set :
    (views : List FollowView) (i : ℕ) (v : FollowView) →
    draws_of (set views i v) ≡ set (draws_of views) i v.draws
draws_set views i v = map-set (λ v. v.draws) views i v

draws_there :
    (views : List FollowView) (i : ℕ) (v : FollowView) → get_elem? views i ≡ some v →
    get_elem? (draws_of views) i ≡ some v.draws
draws_there views i v e = at_map (λ v. v.draws) views i v e

-- `draws_of` stays where the one view that changes keeps its draws
pub draws_kept :
    (views : List FollowView) (i : ℕ) (v w : FollowView) → get_elem? views i ≡ some v →
    w.draws ≡ v.draws → draws_of (set views i w) ≡ draws_of views
draws_kept views i v w e same =
    draws_set views i w
    ∙ ap (set (draws_of views) i) same
    ∙ set_again (draws_of views) i v.draws (draws_there views i v e)

-- ## Where posts stand

-- a pair stands in the posts of some view
pub record Stands (views : List FollowView) (e : Settlement) : Type 0 where
  pub seat : ℕ
  pub view : FollowView
  pub there : get_elem? views seat ≡ some view
  pub post : Contains view.posts e

-- a trace that was posted stays posted where the posts of the view that changes still stand
still :
    (views : List FollowView) (i : ℕ) (v w : FollowView) → get_elem? views i ≡ some v →
    ((e : Settlement) → Contains v.posts e → Stands (set views i w) e) → (k word : ℕ) →
    IsPosted views k word → IsPosted (set views i w) k word
still views i v w here moved k word p = by (eqb_tells p.seat i)
  where
    by :
        ((eqb p.seat i ≡ true) × (p.seat ≡ i)) ⊎ ((eqb p.seat i ≡ false) × (p.seat ≢ i)) →
        IsPosted (set views i w) k word
    by (inl t) =
        let same : p.view ≡ v = (
        some-injective p.view v (sym p.there ∙ ap (get_elem? views) t.1 ∙ here)
        ) in
        let s = moved (k, p.with)
        (subst (λ (x : FollowView). Contains x.posts (k, p.with)) same p.post) in
        record {
          seat = s.seat;
          view = s.view;
          there = s.there;
          with = p.with;
          post = s.post;
          told = p.told;
        }
    by (inr t) = record {
      seat = p.seat;
      view = p.view;
      there = set_else views i p.seat w t.1 ∙ p.there;
      with = p.with;
      post = p.post;
      told = p.told;
    }

-- posts of a view that only grow still stand
pub grow :
    (views : List FollowView) (i : ℕ) (v w : FollowView) → get_elem? views i ≡ some v →
    ((e : Settlement) → Contains v.posts e → Contains w.posts e) → (e : Settlement) →
    Contains v.posts e → Stands (set views i w) e
grow views i v w here more e h = record {
  seat = i;
  view = w;
  there = set_view views i v w here;
  post = more e h;
}

-- ## Words

-- words that are not 0 stay
abbrev pub Stay : List ℕ → List ℕ → Type 0
Stay old new =
    (j : ℕ) → slice_index old (j + 1) ≢ 0 → slice_index new (j + 1) ≡ slice_index old (j + 1)

pub open_word :
    (right : List Verdict) (views : List FollowView) (k w : ℕ) → w ≡ 0 →
    IsLawfulWord right views k w
open_word right views k w e = record {
  small = omega (arith, e);
  posted = λ n. absurd (n e);
  is_right = λ x t. absurd (omega (arith, e, t, word_some x));
}

pub held_still :
    (old new : List ℕ) → Stay old new → (e : Settlement) → IsHeld old e → IsHeld new e
held_still old new stay e h =
    let some = word_some e.1 in
    stay e.0 (λ z. omega (arith, z, h, some)) ∙ h

All-nothing : (words : List ℕ) → All (IsHeld words) []
All-nothing words = search rules

-- ## The law without the draws

pub record IsRest (right : List Verdict) (words : List ℕ) (views : List FollowView) : Type 0 where
  pub traces :
      (k : ℕ) → k < length right → IsLawfulWord right views k (slice_index words (k + 1))
  pub each :
      (p : ℕ) (v : FollowView) → get_elem? views p ≡ some v → IsLawfulFollower right words v

module _ (right : List Verdict) (old new : List ℕ) (views : List FollowView) (stay : Stay old new)
    (rest : IsRest right old views) where
  -- `IsRest` holds after one view changes
  pub rest_set :
      (i : ℕ) (v w : FollowView) → get_elem? views i ≡ some v →
      ((e : Settlement) → Contains v.posts e → Stands (set views i w) e) →
      IsLawfulFollower right new w →
      ((k : ℕ) → k < length right → slice_index old (k + 1) ≡ 0 →
      IsLawfulWord right (set views i w) k (slice_index new (k + 1))) →
      IsRest right new (set views i w)
  rest_set i v w here moved mine fresh = record {
    traces = λ k h. trace k h (eqb_tells (slice_index old (k + 1)) 0);
    each = λ p x e. view p x (at_set views i p w x e);
  }
    where
      trace :
          (k : ℕ) → k < length right →
          ((eqb (slice_index old (k + 1)) 0 ≡ true) × (slice_index old (k + 1) ≡ 0))
          ⊎ ((eqb (slice_index old (k + 1)) 0 ≡ false) × (slice_index old (k + 1) ≢ 0)) →
          IsLawfulWord right (set views i w) k (slice_index new (k + 1))
      trace k h (inl t) = fresh k h t.1
      trace k h (inr t) =
          let l = rest.traces k h in
          let same : slice_index new (k + 1) ≡ slice_index old (k + 1) = stay k t.1 in
          subst (IsLawfulWord right (set views i w) k) (sym same)
          (record {
            small = l.small;
            posted = λ n.
                still views i v w here moved k (slice_index old (k + 1)) (l.posted n);
            is_right = l.is_right;
          })

      view :
          (p : ℕ) (x : FollowView) →
          ((p ≡ i) × (w ≡ x)) ⊎ ((p ≢ i) × (get_elem? views p ≡ some x)) →
          IsLawfulFollower right new x
      view p x (inl t) = subst (IsLawfulFollower right new) t.1 mine
      view p x (inr t) =
          let l = rest.each p x t.1 in
          record {
            spent = l.spent;
            same = l.same;
            known = All-weaker (IsHeld old) (IsHeld new) (held_still old new stay) x.known l.known;
          }

-- `IsRest` holds with one more view
rest_more :
    (right : List Verdict) (words : List ℕ) (views : List FollowView) (w : FollowView) →
    IsRest right words views → IsLawfulFollower right words w →
    IsRest right words (views ++ w ∷ [])
rest_more right words views w rest mine = record {
  traces = λ k h.
      let l = rest.traces k h in
      record {
        small = l.small;
        posted = λ n.
            let p = l.posted n in
            record {
              seat = p.seat;
              view = p.view;
              there = at_longer views (w ∷ []) p.seat p.view p.there;
              with = p.with;
              post = p.post;
              told = p.told;
            };
        is_right = l.is_right;
      };
  each = λ p x e.
      ⊎_elim (λ t. rest.each p x t) (λ t. subst (IsLawfulFollower right words) t mine)
      (at_snoc views w x p e);
}

pub rest_of :
    (n : ℕ) (right : List Verdict) (s : State ℕ FollowView) → IsLawfulFollow n right s →
    IsRest right s.words s.views
rest_of n right s k = record { traces = k.traces; each = k.each }

-- ## The start

only_first :
    (n : ℕ) (right : List Verdict) (words : List ℕ) (p : ℕ) (v : FollowView) →
    get_elem? (first_view n right ∷ []) p ≡ some v → IsLawfulFollower right words v
only_first n right words zero v e =
    subst (IsLawfulFollower right words) (some-injective (first_view n right) v e)
    (record {
      spent = λ h. (refl, refl);
      same = λ h. refl;
      known = All-nothing words;
    })
only_first n right words (suc p) v e = absurd (some-ne-none v (sym e))

first_draws : (n : ℕ) → AreLawfulViews n 0 (claims.first_view n ∷ [])
first_draws n = search rules

pub opens :
    (n : ℕ) (right : List Verdict) (words : List ℕ) → n < 2 ^ 32 →
    words ≡ replicate (length right + 1) 0 →
    IsLawfulFollow n right (opening words [] (first_view n right))
opens n right words small e =
    let zero_at : (j : ℕ) → j < length right + 1 → slice_index words j ≡ 0 = (
    λ j h.
    ap (λ (l : List ℕ). slice_index l j) e ∙ get_or-replicate (length right + 1) j 0 0 h
    ) in
    let views = first_view n right ∷ [] in
    record {
      limit = small;
      words = ap length e ∙ length-replicate (length right + 1) 0;
      draws =
          subst (λ (m : ℕ). AreLawfulViews n m (claims.first_view n ∷ []))
          (sym (zero_at 0 (omega arith)))
          (first_draws n);
      traces = λ k h. open_word right views k (slice_index words (k + 1))
          (zero_at (k + 1) (omega (arith, h)));
      each = only_first n right words;
    }

-- ## A claim

same_shares : (b : Bool) (v : View) (k : ℕ) → (claimed b v k).shares ≡ v.shares
same_shares true v k = refl
same_shares false v k = refl

-- the other words stay where word 0 changes
others_stay :
    (ws : List ℕ) (x j : ℕ) → slice_index (slice_set ws 0 x) (j + 1) ≡ slice_index ws (j + 1)
others_stay ws x j = get_or-set_other ws 0 (j + 1) x 0 (λ e. omega (arith, e))

pub claims_batch :
    (n : ℕ) (right : List Verdict) (slots id : ℕ) (me : Me ℕ FollowView) →
    0 < me.0.draws.shares → me.0.draws.told ≡ false →
    Allows (IsLawfulFollow n right) slots id me 0 (λ w. (w + 1) % 2 ^ 64)
    (ClaimsBatch (step slots 0 1 0 none) me)
claims_batch n right slots id me has free s k long here fits =
    let w = slice_index s.words 0 in
    let x = (w + 1) % 2 ^ 64 in
    let v = me.0.draws in
    let views = draws_of s.views in
    let there = draws_there s.views id me.0 here in
    let u = claimed (nat_lt w v.limit) v w in
    let f = with_draws me.0 u in
    let new = slice_set s.words 0 x in
    let law = by_found n id w v views has free there k.draws (nat_lt w v.limit) refl in
    let limit = limit_is n id w v views has free there k.draws in
    let first : slice_index new 0 ≡ w + 1 = (
    get_or-set_same s.words 0 x 0 (omega (arith, k.words)) ∙ grown n w views k.limit k.draws
    ) in
    let stay : Stay s.words new = λ j h. others_stay s.words x j in
    let l = k.each id me.0 here in
    let rest = rest_set right s.words new s.views stay (rest_of n right s k) id me.0 f here
    (grow s.views id me.0 f here (λ e h. h))
    (record {
      spent = λ e. absurd (omega (arith, e, same_shares (nat_lt w v.limit) v w, has));
      same = λ h. l.same has;
      known = All-weaker (IsHeld s.words) (IsHeld new) (held_still s.words new stay) me.0.known
          l.known;
    })
    (λ j h e. open_word right (set s.views id f) j (slice_index new (j + 1))
    (others_stay s.words x j ∙ e)) in (
      f,
      keeps,
      tt,
      record {
        limit = k.limit;
        words = length-set s.words 0 x ∙ k.words;
        draws =
            subst (λ (l : List View). AreLawfulViews n (slice_index new 0) l)
            (sym (draws_set s.views id f))
            (subst (λ (m : ℕ). AreLawfulViews n m (set views id u)) (sym first) law);
        traces = rest.traces;
        each = rest.each;
      },
      (refl, within n (w + 1) id u (set views id u) limit law (put_view views id v u there)),
    )

-- ## A split

pub splits :
    (n : ℕ) (right : List Verdict) (id : ℕ) (v : FollowView) → 2 ≤ v.draws.shares →
    Splits {S = ℕ} (IsLawfulFollow n right) id v (larger_half v) (smaller_half v)
splits n right id v two s k here =
    let l = larger_half v in
    let r = smaller_half v in
    let w = slice_index s.words 0 in
    let views = draws_of s.views in
    let mine = k.each id v here in
    let first : IsLawfulFollower right s.words l = record {
      spent = λ e. absurd (omega (arith, e, two));
      same = λ h. mine.same (omega (arith, two));
      known = mine.known;
    } in
    let second : IsLawfulFollower right s.words r = record {
      spent = λ e. absurd (omega (arith, e, two));
      same = λ h. mine.same (omega (arith, two));
      known = mine.known;
    } in
    let one = rest_set right s.words s.words s.views (λ j q. refl) (rest_of n right s k) id v l
    here
    (grow s.views id v l here (λ e q. q))
    first
    (λ j q e. open_word right (set s.views id l) j (slice_index s.words (j + 1)) e) in
    let rest = rest_more right s.words (set s.views id l) r one second in
    let law = halves n id w v.draws views two (draws_there s.views id v here) k.draws in
    record {
      limit = k.limit;
      words = k.words;
      draws =
          subst (λ (d : List View). AreLawfulViews n w d)
          (sym (map-append (λ v. v.draws) (set s.views id l) (r ∷ [])
          ∙ ap (λ (d : List View). d ++ r.draws ∷ []) (draws_set s.views id l)))
          law;
      traces = rest.traces;
      each = rest.each;
    }

-- ## A join

module _ (n : ℕ) (right : List Verdict) (s : State ℕ FollowView) (k : IsLawfulFollow n right s)
    (id other : ℕ) (v u : FollowView) (has : 0 < v.draws.shares)
    (here : get_elem? s.views id ≡ some v) (apart : ¬ (other ≡ id))
    (there : get_elem? (set s.views id (both v u)) other ≡ some u) where
  theirs : IsLawfulFollower right s.words u
  theirs = by (at_set s.views id other (both v u) u there)
    where
      by :
          ((other ≡ id) × (both v u ≡ u)) ⊎ ((other ≢ id) × (get_elem? s.views other ≡ some u)) →
          IsLawfulFollower right s.words u
      by (inl t) = absurd (apart t.0)
      by (inr t) = k.each other u t.1

  -- the posts of the other seat stand with the first
  moved :
      (e : Settlement) → Contains u.posts e →
      Stands (set (set s.views id (both v u)) other spent) e
  moved e h = record {
    seat = id;
    view = both v u;
    there =
        set_else (set s.views id (both v u)) other id spent (λ q. apart (sym q))
        ∙ set_view s.views id v (both v u) here;
    post = Contains-append_right v.posts u.posts e h;
  }

  both_rest : IsRest right s.words (set s.views id (both v u))
  both_rest =
      let mine = k.each id v here in
      rest_set right s.words s.words s.views (λ j q. refl) (rest_of n right s k) id v (both v u)
      here
      (grow s.views id v (both v u) here (λ e h. Contains-append_left v.posts u.posts e h))
      (record {
        spent = λ e. absurd (omega (arith, e, has));
        same = λ h. mine.same has;
        known = All-append (IsHeld s.words) v.known u.known mine.known theirs.known;
      })
      (λ j q e.
      open_word right (set s.views id (both v u)) j (slice_index s.words (j + 1)) e)

  join_law :
      IsLawfulFollow n right
      (record {
        words = s.words;
        homes = s.homes;
        views = set (set s.views id (both v u)) other spent;
      })
  join_law =
      let w = slice_index s.words 0 in
      let two = set (set s.views id (both v u)) other spent in
      let rest = rest_set right s.words s.words (set s.views id (both v u)) (λ j q. refl)
      both_rest other u spent there moved
      (record {
        spent = λ e. (refl, refl);
        same = λ h. absurd (omega (arith, h));
        known = All-nothing s.words;
      })
      (λ j q e. open_word right two j (slice_index s.words (j + 1)) e) in
      let draws = draws_set s.views id (both v u) in
      let law = joined n id w other v.draws u.draws (draws_of s.views) has
      (draws_there s.views id v here) apart
      (subst (λ (d : List View). get_elem? d other ≡ some u.draws) draws
      (draws_there (set s.views id (both v u)) other u there))
      k.draws in
      record {
        limit = k.limit;
        words = k.words;
        draws =
            subst (λ (d : List View). AreLawfulViews n w d)
            (sym (draws_set (set s.views id (both v u)) other spent
            ∙ ap (λ (d : List View). set d other claims.spent) draws))
            law;
        traces = rest.traces;
        each = rest.each;
      }

pub joins :
    (n : ℕ) (right : List Verdict) (id : ℕ) (v : FollowView) (other : ℕ) (u : FollowView) →
    0 < v.draws.shares →
    Joins {S = ℕ} (IsLawfulFollow n right) id v other u (both v u) spent
joins n right id v other u has s k here apart there =
    join_law n right s k id other v u has here apart there
