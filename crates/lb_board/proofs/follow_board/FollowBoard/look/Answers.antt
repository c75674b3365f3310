-- One load keeps the law.
use Rattle.std.proofs.Common.{◌≡◌, sym, ap, ◌∙◌, subst, refl, arith}
use Rattle.std.specs.Prelude.{Some, None}
use Rattle.lb_board.specs.declared.views.View.{View}
use Rattle.lb_board.specs.FollowKeys.{right_by}
use Rattle.lb_board.specs.FollowSeats.{right_of, shown}
use Rattle.lb_board.specs.Settlements.{told_by, IsRight, and_one}
use Rattle.lb_board.proofs.Posting.{looks}
use Rattle.lb_board.proofs.Answering.{after_any_look, after_open_look, after_look, still_of}
use Rattle.lb_board.proofs.Answering.{same_draws, nothing_known, told_known, told_right, same_shown}
use Rattle.lb_board.proofs.Answering.{waits_for_nothing}
use Rattle.lb_board.proofs.follow_board.FollowBoard.look.Goals as goal

pub load-found-requires : goal.load-found-requires
load-found-requires c =
    let shared = c.args.self.now.table.shared in
    let seat = c.args.seat.now in (
      c.requires.seat.table,
      omega (arith, c.args.self.now.words, c.requires.trace),
      looks shared.key.batches (right_by shared.key) shared.table_id.slots seat.seat.id
          seat.seat.me c.args.k (omega (arith, seat.view.0, seat.part.0)) c.requires.trace,
    )

pub invariant_of-seat : goal.invariant_of-seat
invariant_of-seat c =
    let seat = c.args.seat.now in
    let step = c.load-found.ensures.2 c.args.k refl in
    let a = after_any_look seat.seat.me.0 seat.seat.me.1 c.args.k c.load-found.result
    c.load-found.new.seat.me step.1 in
    record {
      view = (
        ap (λ (d : View). d.shares) a.0 ∙ seat.view.0,
        ap (λ (d : View). d.told) a.0 ∙ seat.view.1,
      );
      part = seat.part;
      empty = a.1 ∙ seat.empty;
    }

pub told_by-requires : goal.told_by-requires
told_by-requires c = (c.load-found.ensures.2 c.args.k refl).0.small

pub returns-then-found-eq0 : goal.returns-then-found-eq0
returns-then-found-eq0 c =
    let board = c.args.self.now in
    let seat = c.args.seat.now in
    let v = seat.seat.me.0 in
    let found = c.load-found.result in
    let step = c.load-found.ensures.2 c.args.k refl in
    let a = after_open_look v seat.seat.me.1 c.args.k found c.load-found.new.seat.me step.1
    c.if-found-eq0.true in
    let nothing = nothing_known v c.args.k found step.0 c.if-found-eq0.true in
    record {
      seat = still_of board seat v.posts v.known c.load-found.ensures.0 a c.requires.seat;
      draws = same_draws board seat v.posts v.known c.load-found.ensures.0 a;
      posts = a.posts_are;
      known = (a.known_are, nothing);
      kept = λ x h. absurd (nothing x h);
      right = λ x e. absurd (waits_for_nothing x e);
    }

pub returns-in-Some : goal.returns-in-Some
returns-in-Some c =
    let board = c.args.self.now in
    let seat = c.args.seat.now in
    let v = seat.seat.me.0 in
    let found = c.load-found.result in
    let known = and_one v.known c.args.k (told_by found) in
    let step = c.load-found.ensures.2 c.args.k refl in
    let a = after_look v seat.seat.me.1 c.args.k found c.load-found.new.seat.me step.1
    c.if-found-eq0.false in
    let told : told_by found ≡ Some c.in-Some.verdict = sym c.told_by.ensures ∙ c.in-Some.is in
    record {
      seat = still_of board seat v.posts known c.load-found.ensures.0 a c.requires.seat;
      draws = same_draws board seat v.posts known c.load-found.ensures.0 a;
      posts = a.posts_are;
      known = a.known_are ∙ ap (and_one v.known c.args.k) told;
      kept = λ x h.
          ap shown (sym told ∙ told_known v c.args.k found step.0 x h);
      right = λ x e.
          subst (IsRight (right_of board) c.args.k)
          (told ∙ same_shown (Some c.in-Some.verdict) x e)
          (told_right v c.args.k found step.0 c.if-found-eq0.false (right_of board)
          c.requires.seat.right);
    }

pub returns-in-None : goal.returns-in-None
returns-in-None c =
    let board = c.args.self.now in
    let seat = c.args.seat.now in
    let v = seat.seat.me.0 in
    let found = c.load-found.result in
    let known = and_one v.known c.args.k (told_by found) in
    let step = c.load-found.ensures.2 c.args.k refl in
    let a = after_look v seat.seat.me.1 c.args.k found c.load-found.new.seat.me step.1
    c.if-found-eq0.false in
    let told : told_by found ≡ None = sym c.told_by.ensures ∙ c.in-None.is in
    record {
      seat = still_of board seat v.posts known c.load-found.ensures.0 a c.requires.seat;
      draws = same_draws board seat v.posts known c.load-found.ensures.0 a;
      posts = a.posts_are;
      known = a.known_are ∙ ap (and_one v.known c.args.k) told;
      kept = λ x h.
          ap shown (sym told ∙ told_known v c.args.k found step.0 x h);
      right = λ x e.
          subst (IsRight (right_of board) c.args.k) (told ∙ same_shown None x e)
          (told_right v c.args.k found step.0 c.if-found-eq0.false (right_of board)
          c.requires.seat.right);
    }
