-- A post and a look keep the law of the board of settled traces.
use Rattle.std.proofs.Common.{◌≡◌, ◌≢◌, ℕ, ◌+◌, ◌^◌, ◌<◌, ◌⊎◌, inl, inr, List, [], ◌∷◌, Bool, true}
use Rattle.std.proofs.Common.{false, eqb, length, set, refl, sym, ap, ◌∙◌, subst, arith, length-set}
use Rattle.std.proofs.Common.{get_or-set_same, get_or-set_other, if◌then◌else◌, ◌==◌}
use Rattle.std.specs.Prelude.{slice_index, slice_set, Option}
use Rattle.std.proofs.lemmas.List.{set-get_or}
use Rattle.std.proofs.lemmas.List.Elements.{All-push, All-weaker, All-contains, Contains-push}
use Rattle.std.proofs.lemmas.List.Elements.{Contains-append_left}
use Rattle.std.proofs.lemmas.Bool.Decides.{eqb_tells}
use mathlib.Core.Option.{some, none}
use lib.ListN.{get_elem?}
use prog.Atomic.{either}
use Rattle.atomic_table.specs.Table.{State, Me, Allows, step}
use Rattle.atomic_table.specs.Table.Act.{keeps}
use Rattle.atomic_table.proofs.Lists.{set_again}
use Rattle.lb_check.specs.declared.verdict.Verdict.{Verdict}
use Rattle.lb_board.specs.declared.views.View.{View}
use Rattle.lb_board.specs.declared.follow_views.FollowView.{FollowView}
use Rattle.lb_board.specs.Claims.{AreLawfulViews}
use Rattle.lb_board.specs.Settlements.{word_of, told_by, IsRight, and_one}
use Rattle.lb_board.specs.FollowViews.{posted, looked}
use Rattle.lb_board.specs.FollowLaw.{draws_of, IsHeld, IsLawfulFollower, IsLawfulWord}
use Rattle.lb_board.specs.FollowLaw.{IsLawfulFollow, IsFound, held, Posts, Looks}
use Rattle.lb_board.proofs.Settling.{word_told, same_word}
use Rattle.lb_board.proofs.Following.{set_view, draws_kept, grow, Stay, open_word, held_still}
use Rattle.lb_board.proofs.Following.{rest_set, rest_of}

-- ## A word that is found

module _ (n : ℕ) (right : List Verdict) (s : State ℕ FollowView) (k : IsLawfulFollow n right s)
    (id : ℕ) (v : FollowView) (here : get_elem? s.views id ≡ some v) (has : 0 < v.draws.shares)
    (t : ℕ) (below : t < length right) where
  found_word : IsFound v t (slice_index s.words (t + 1))
  found_word =
      let w = slice_index s.words (t + 1) in
      let l = k.traces t below in
      let told : w ≢ 0 → w ≡ word_of (told_by w) = (
      λ h. let p = l.posted h in word_told w p.with p.told
      ) in
      record {
        small = l.small;
        told = told;
        is_right = λ h.
            subst (λ (r : List Verdict). IsRight r t (told_by w))
            (sym ((k.each id v here).same has))
            (l.is_right (told_by w) (told h));
        known = λ x h. All-contains (IsHeld s.words) v.known (t, x) (k.each id v here).known h;
      }

-- two numbers are equal if their successors are: word `a + 1` is that of trace `a`
one_less : (a b : ℕ) → a + 1 ≡ b + 1 → a ≡ b
one_less a b e = omega (arith, e)

-- ## A post

either_held : (b : Bool) (x y : ℕ) → either b x y ≡ (if b then x else y)
either_held true x y = refl
either_held false x y = refl

pub held_open : (w said : ℕ) → w ≡ 0 → held w said ≡ said
held_open w said e = ap (λ (x : ℕ). held x said) e

pub held_settled : (w said : ℕ) → w ≢ 0 → held w said ≡ w
held_settled w said h = by (eqb_tells w 0)
  where
    by :
        ((eqb w 0 ≡ true) × (w ≡ 0)) ⊎ ((eqb w 0 ≡ false) × (w ≢ 0)) → held w said ≡ w
    by (inl t) = absurd (h t.1)
    by (inr t) = ap (λ (b : Bool). if b then said else w) t.0

abbrev IsReadBack : ℕ → Type 0
IsReadBack m = m ≡ word_of (told_by m)

held_told :
    (w said : ℕ) → (w ≢ 0 → w ≡ word_of (told_by w)) → said ≡ word_of (told_by said) →
    held w said ≡ word_of (told_by (held w said))
held_told w said old new = by (eqb_tells w 0)
  where
    by :
        ((eqb w 0 ≡ true) × (w ≡ 0)) ⊎ ((eqb w 0 ≡ false) × (w ≢ 0)) →
        held w said ≡ word_of (told_by (held w said))
    by (inl t) = subst IsReadBack (sym (held_open w said t.1)) new
    by (inr t) = subst IsReadBack (sym (held_settled w said t.1)) (old t.1)

module _ (n : ℕ) (right : List Verdict) (s : State ℕ FollowView) (k : IsLawfulFollow n right s)
    (id : ℕ) (v : FollowView) (here : get_elem? s.views id ≡ some v) (has : 0 < v.draws.shares)
    (t : ℕ) (below : t < length right) (x : Option Verdict) (said : ℕ) (is : said ≡ word_of x)
    (few : said < 2 ^ 35) (correct : IsRight right t x) where
  abbrev now : ℕ
  now = held (slice_index s.words (t + 1)) said

  abbrev after : FollowView
  after = posted v t said now

  abbrev new : List ℕ
  new = slice_set s.words (t + 1) now

  set_word : slice_index new (t + 1) ≡ now
  set_word = get_or-set_same s.words (t + 1) now 0 (omega (arith, below, k.words))

  other_word : (j : ℕ) → j ≢ t → slice_index new (j + 1) ≡ slice_index s.words (j + 1)
  other_word j h = get_or-set_other s.words (t + 1) (j + 1) now 0 (λ e. h (one_less j t e))

  claim_word : slice_index new 0 ≡ slice_index s.words 0
  claim_word = get_or-set_other s.words (t + 1) 0 now 0 (λ e. omega (arith, e))

  words_stay : Stay s.words new
  words_stay j h = by (eqb_tells j t)
    where
      by :
          ((eqb j t ≡ true) × (j ≡ t)) ⊎ ((eqb j t ≡ false) × (j ≢ t)) →
          slice_index new (j + 1) ≡ slice_index s.words (j + 1)
      by (inl e) =
          let some : slice_index s.words (t + 1) ≢ 0 = (
          subst (λ (i : ℕ). slice_index s.words (i + 1) ≢ 0) e.1 h
          ) in
          subst (λ (i : ℕ). slice_index new (i + 1) ≡ slice_index s.words (i + 1)) (sym e.1)
          (set_word ∙ held_settled (slice_index s.words (t + 1)) said some)
      by (inr e) = other_word j e.1

  told_now : now ≡ word_of (told_by now)
  told_now =
      held_told (slice_index s.words (t + 1)) said
      (found_word n right s k id v here has t below).told (word_told said x is)

  -- the law of the word of a trace that was open, after the post
  fresh_here :
      slice_index s.words (t + 1) ≡ 0 →
      IsLawfulWord right (set s.views id after) t (slice_index new (t + 1))
  fresh_here e =
      subst (IsLawfulWord right (set s.views id after) t)
      (sym (set_word ∙ held_open (slice_index s.words (t + 1)) said e))
      (record {
        small = few;
        posted = λ h. record {
          seat = id;
          view = after;
          there = set_view s.views id v after here;
          with = told_by said;
          post = Contains-push v.posts (t, told_by said);
          told = word_told said x is;
        };
        is_right = λ y h.
            subst (IsRight right t) (same_word x y (sym is ∙ h)) correct;
      })

  fresh :
      (j : ℕ) → j < length right → slice_index s.words (j + 1) ≡ 0 →
      IsLawfulWord right (set s.views id after) j (slice_index new (j + 1))
  fresh j h e = by (eqb_tells j t)
    where
      by :
          ((eqb j t ≡ true) × (j ≡ t)) ⊎ ((eqb j t ≡ false) × (j ≢ t)) →
          IsLawfulWord right (set s.views id after) j (slice_index new (j + 1))
      by (inl q) =
          subst (λ (i : ℕ). IsLawfulWord right (set s.views id after) i (slice_index new (i + 1)))
          (sym q.1)
          (fresh_here (subst (λ (i : ℕ). slice_index s.words (i + 1) ≡ 0) q.1 e))
      by (inr q) =
          open_word right (set s.views id after) j (slice_index new (j + 1))
          (other_word j q.1 ∙ e)

  mine_after : IsLawfulFollower right new after
  mine_after =
      let l = k.each id v here in
      record {
        spent = λ e. absurd (omega (arith, e, has));
        same = λ h. l.same has;
        known =
            All-push (IsHeld new) v.known (t, told_by now)
            (All-weaker (IsHeld s.words) (IsHeld new) (held_still s.words new words_stay) v.known
            l.known)
            (set_word ∙ told_now);
      }

  pub post_law :
      IsLawfulFollow n right
      (record { words = new; homes = s.homes; views = set s.views id after })
  post_law =
      let rest = rest_set right s.words new s.views words_stay (rest_of n right s k) id v after
      here
      (grow s.views id v after here
      (λ e h. Contains-append_left v.posts ((t, told_by said) ∷ []) e h))
      mine_after fresh in
      record {
        limit = k.limit;
        words = length-set s.words (t + 1) now ∙ k.words;
        draws =
            subst (λ (l : List View). AreLawfulViews n (slice_index new 0) l)
            (sym (draws_kept s.views id v after here refl))
            (subst (λ (m : ℕ). AreLawfulViews n m (draws_of s.views)) (sym claim_word) k.draws);
        traces = rest.traces;
        each = rest.each;
      }

-- one compare_exchange from open is a post, whatever the table is
pub posts :
    (n : ℕ) (right : List Verdict) (slots id : ℕ) (me : Me ℕ FollowView) (t : ℕ)
    (x : Option Verdict) (said : ℕ) → 0 < me.0.draws.shares → t < length right →
    said ≡ word_of x → said < 2 ^ 35 → IsRight right t x →
    Allows (IsLawfulFollow n right) slots id me (t + 1) (λ w. either (w == 0) said w)
    (Posts (step slots (t + 1) 0 said none) me)
posts n right slots id me t x said has below is few correct s k long here fits =
    let w = slice_index s.words (t + 1) in
    let law = post_law n right s k id me.0 here has t below x said is few correct in
    let after = posted me.0 t said (held w said) in (
      after,
      keeps,
      tt,
      subst
          (λ (m : ℕ).
          IsLawfulFollow n right
          (record {
            words = slice_set s.words (t + 1) m;
            homes = s.homes;
            views = set s.views id after;
          }))
          (sym (either_held (w == 0) said w)) law,
      (λ j e.
          let same = one_less t j e in (
            subst (λ (i : ℕ). IsFound me.0 i w) same
                (found_word n right s k id me.0 here has t below),
            ap {B = Me ℕ FollowView} (λ (i : ℕ). (posted me.0 i said (held w said), me.1)) same,
          )),
    )

-- ## A look

pub looked_open : (v : FollowView) (t w : ℕ) → w ≡ 0 → looked v t w ≡ v
looked_open v t w e = ap (looked v t) e

pub looked_settled :
    (v : FollowView) (t w : ℕ) → w ≢ 0 →
    looked v t w ≡ record v { known = and_one v.known t (told_by w) }
looked_settled v t w h = by (eqb_tells w 0)
  where
    by :
        ((eqb w 0 ≡ true) × (w ≡ 0)) ⊎ ((eqb w 0 ≡ false) × (w ≢ 0)) →
        looked v t w ≡ record v { known = and_one v.known t (told_by w) }
    by (inl e) = absurd (h e.1)
    by (inr e) =
        ap
        (λ (b : Bool).
        if b then v else (record v { known = and_one v.known t (told_by w) }))
        e.0

module _ (n : ℕ) (right : List Verdict) (s : State ℕ FollowView) (k : IsLawfulFollow n right s)
    (id : ℕ) (v : FollowView) (here : get_elem? s.views id ≡ some v) (has : 0 < v.draws.shares)
    (t : ℕ) (below : t < length right) where
  abbrev more : FollowView
  more = record v { known = and_one v.known t (told_by (slice_index s.words (t + 1))) }

  -- the law after a look that found a settled trace
  more_law :
      slice_index s.words (t + 1) ≢ 0 →
      IsLawfulFollow n right
      (record { words = s.words; homes = s.homes; views = set s.views id more })
  more_law h =
      let l = k.each id v here in
      let rest = rest_set right s.words s.words s.views (λ j q. refl) (rest_of n right s k) id v
      more here
      (grow s.views id v more here (λ e q. q))
      (record {
        spent = λ e. absurd (omega (arith, e, has));
        same = λ q. l.same has;
        known =
            All-push (IsHeld s.words) v.known (t, told_by (slice_index s.words (t + 1))) l.known
            ((found_word n right s k id v here has t below).told h);
      })
      (λ j q e. open_word right (set s.views id more) j (slice_index s.words (j + 1)) e) in
      record {
        limit = k.limit;
        words = k.words;
        draws =
            subst (λ (l : List View). AreLawfulViews n (slice_index s.words 0) l)
            (sym (draws_kept s.views id v more here refl)) k.draws;
        traces = rest.traces;
        each = rest.each;
      }

  abbrev Law : List FollowView → Type 0
  Law views =
      IsLawfulFollow n right (record { words = s.words; homes = s.homes; views = views })

  look_law : Law (set s.views id (looked v t (slice_index s.words (t + 1))))
  look_law = by (eqb_tells (slice_index s.words (t + 1)) 0)
    where
      by :
          ((eqb (slice_index s.words (t + 1)) 0 ≡ true) × (slice_index s.words (t + 1) ≡ 0))
          ⊎ ((eqb (slice_index s.words (t + 1)) 0 ≡ false) × (slice_index s.words (t + 1) ≢ 0)) →
          Law (set s.views id (looked v t (slice_index s.words (t + 1))))
      by (inl e) =
          subst Law
          (sym (ap (set s.views id) (looked_open v t (slice_index s.words (t + 1)) e.1)
          ∙ set_again s.views id v here))
          (record {
            limit = k.limit;
            words = k.words;
            draws = k.draws;
            traces = k.traces;
            each = k.each;
          })
      by (inr e) =
          subst Law
          (sym (ap (set s.views id) (looked_settled v t (slice_index s.words (t + 1)) e.1)))
          (more_law e.1)

-- one load is a look, whatever the table is
pub looks :
    (n : ℕ) (right : List Verdict) (slots id : ℕ) (me : Me ℕ FollowView) (t : ℕ) →
    0 < me.0.draws.shares → t < length right →
    Allows (IsLawfulFollow n right) slots id me (t + 1) (λ w. w)
    (Looks (step slots (t + 1) 0 0 none) me)
looks n right slots id me t has below s k long here fits =
    let w = slice_index s.words (t + 1) in
    let law = look_law n right s k id me.0 here has t below in
    let after = looked me.0 t w in (
      after,
      keeps,
      tt,
      subst
          (λ (ws : List ℕ).
          IsLawfulFollow n right
          (record { words = ws; homes = s.homes; views = set s.views id after }))
          (sym (set-get_or s.words (t + 1) 0)) law,
      (λ j e.
          let same = one_less t j e in (
            subst (λ (i : ℕ). IsFound me.0 i w) same
                (found_word n right s k id me.0 here has t below),
            ap {B = Me ℕ FollowView} (λ (i : ℕ). (looked me.0 i w, me.1)) same,
          )),
    )
