-- The bytes that a window has read of a feed, step after step.
use Rattle.std.proofs.Common.{ℕ, ◌≡◌, ◌+◌, ◌-◌, ◌<◌, Bool, List, [], ◌∷◌, ◌++◌, length, refl}
use Rattle.std.proofs.Common.{sym, ap, ◌∙◌, ◌≤◌, arith, drop, false, get_or}
use Rattle.std.proofs.Common.{append_assoc, length-append, inl, inr, ⊎_elim}
use Rattle.std.proofs.lemmas.List.{append-nil, get_or-append-add, length-drop, length-take-le}
use Rattle.lb_feed.specs.Lines.{is_ended}
use Rattle.lb_feed.specs.Lines.{ends_line}
use Rattle.lb_feed.specs.Counts.{count_more}
use Rattle.lb_feed.proofs.Counts.{count_more-twice}
use Rattle.lb_feed.specs.Windows.{HasRead, HasTaken, IsLoadFault, IsWindow, Left, RunsOver}
use Rattle.lb_feed.specs.Windows.{bytes_left, ended_by, text_in}
use Rattle.lb_feed.specs.declared.feed.LoadError.{LoadError}
use Rattle.lb_feed.specs.declared.feed.LoadError.TheVariants as fault
use Rattle.lb_feed.specs.declared.window.Window.{Window}
use Rattle.lb_feed.proofs.FeedBytes.{Consumes-more, Consumes-none}

-- ## The bytes of a window

pub text_length : (w : Window) → IsWindow w → length (text_in w) ≡ w.end - w.start
text_length w is =
    let behind : length (drop w.start w.bytes.items) ≡ length w.bytes.items - w.start =
    length-drop w.start w.bytes.items in
    let fits : w.end - w.start ≤ length (drop w.start w.bytes.items) =
    omega (arith, behind, is.within) in
    length-take-le (w.end - w.start) (drop w.start w.bytes.items) fits

-- ## Whether the bytes end a line

-- a text with more bytes behind it ends a line where those bytes do
pub last_ended : (first : List ℕ) (b : ℕ) (more : List ℕ)
    → is_ended (first ++ b ∷ more) ≡ is_ended (b ∷ more)
last_ended first b more =
    let all : length (first ++ b ∷ more) - 1 ≡ length first + (length (b ∷ more) - 1) =
    omega (arith, length-append first (b ∷ more)) in
    ap ends_line
    (ap (λ n. get_or (first ++ b ∷ more) n 0) all
    ∙ get_or-append-add first (b ∷ more) (length (b ∷ more) - 1) 0)

-- `ended_by` of two steps is `ended_by` of the bytes of both
pub ended_on : (before : Bool) (first second : List ℕ)
    → ended_by (ended_by before first) second ≡ ended_by before (first ++ second)
ended_on before first [] = ap (ended_by before) (sym (append-nil first))
ended_on before [] (c ∷ more) = refl
ended_on before (b ∷ first) (c ∷ more) = sym (last_ended (b ∷ first) c more)

-- `ended_by false` of all bytes of a text is `is_ended` of the text
pub ended_all : (text : List ℕ) → ended_by false text ≡ is_ended text
ended_all [] = refl
ended_all (b ∷ more) = refl

-- ## Steps

-- a window has read nothing where its `read`, `is_over` and `is_ended` are as before
unfoldable pub read_none : (before after : Window) (at : Left) → after.read ≡ before.read
    → after.is_over ≡ before.is_over → after.is_ended ≡ before.is_ended
    → HasRead before after at at
read_none before after at count over ended = record {
  more = [];
  consumed = Consumes-none at.coming;
  counted = omega (arith, count);
  ended = ended;
  given = omega arith;
  failures = refl;
  over = λ known is. known (sym over ∙ is);
  still = λ is. (refl, over ∙ is);
  limit = λ within. omega (arith, count, within);
}

-- a window with the `read`, `is_over` and `is_ended` of one that has read on has read the same
-- bytes
unfoldable pub read_kept : (a b c : Window) (x y : Left) → HasRead a b x y → c.read ≡ b.read
    → c.is_over ≡ b.is_over → c.is_ended ≡ b.is_ended → HasRead a c x y
read_kept a b c x y read count over ended = record {
  more = read.more;
  consumed = read.consumed;
  counted = count ∙ read.counted;
  ended = ended ∙ read.ended;
  given = read.given;
  failures = read.failures;
  over = λ known is. read.over known (sym over ∙ is);
  still = λ is.
      let stays = read.still is in (stays.0, over ∙ stays.1);
  limit = λ within. omega (arith, count, read.limit within);
}

-- two steps, one after the other, are one step
unfoldable pub read_on : (a b c : Window) (x y z : Left) → HasRead a b x y → HasRead b c y z
    → HasRead a c x z
read_on a b c x y z one two = record {
  more = one.more ++ two.more;
  consumed = Consumes-more x.coming y.coming z.coming one.more two.more (one.more ++ two.more)
      one.consumed two.consumed refl;
  counted = omega (arith, one.counted, two.counted, length-append one.more two.more);
  ended = two.ended ∙ ap (λ e. ended_by e two.more) one.ended
      ∙ ended_on a.is_ended one.more two.more;
  given = count_more-twice x.given y.given z.given (length one.more) (length two.more) one.given
      two.given
      ∙ ap (count_more x.given) (sym (length-append one.more two.more));
  failures = two.failures ∙ one.failures;
  over = λ known is. two.over (one.over known) is;
  still = λ is.
      let first = one.still is in
      let second = two.still first.1 in (
        ap (λ t. t ++ two.more) first.0 ∙ second.0,
        second.1,
      );
  limit = λ within. two.limit (one.limit within);
}

pub taken_none : (before after : Window) (at : Left) → after.read ≡ before.read
    → after.is_over ≡ before.is_over → after.is_ended ≡ before.is_ended
    → text_in after ≡ text_in before → HasTaken before after at at
unfolding read_none
taken_none before after at count over ended same = record {
  read = read_none before after at count over ended;
  taken = same ∙ sym (append-nil (text_in before));
}

-- a step leaves the number of `bytes_left` as it was
pub taken_left : (a b : Window) (x y : Left) → IsWindow a → IsWindow b → HasTaken a b x y
    → bytes_left b ≡ bytes_left a
taken_left a b x y first second taken =
    let all : length (text_in b) ≡ length (text_in a) + length taken.read.more =
    ap length taken.taken ∙ length-append (text_in a) taken.read.more in
    omega (arith, all, text_length a first, text_length b second, taken.read.counted, second.limit)

pub taken_on : (a b c : Window) (x y z : Left) → HasTaken a b x y → HasTaken b c y z
    → HasTaken a c x z
unfolding read_on
taken_on a b c x y z one two = record {
  read = read_on a b c x y z one.read two.read;
  taken = two.taken ∙ ap (λ t. t ++ two.read.more) one.taken
      ∙ append_assoc (text_in a) one.read.more two.read.more;
}

-- a fault after a step is a fault of both steps
pub fault_on : (a b : Window) (x y z : Left) (e : LoadError)
    → HasRead a b x y → IsLoadFault b y z e → IsLoadFault a x z e
fault_on a b x y z fault.Memory read bad = bad ∙ read.failures
fault_on a b x y z fault.Read read bad =
    ⊎_elim
    (λ (h : y.failures < z.failures). inl (omega (arith, h, read.failures)))
    (λ (h : RunsOver b y z).
    let joined = length-append read.more h.more in
    inr (record {
      more = read.more ++ h.more;
      many = omega (arith, h.many, read.counted, joined);
      consumed = Consumes-more x.coming y.coming z.coming read.more h.more (read.more ++ h.more)
          read.consumed h.consumed refl;
      given = count_more-twice x.given y.given z.given (length read.more) (length h.more) read.given
          h.given
          ∙ ap (count_more x.given) (sym joined);
    }))
    bad
