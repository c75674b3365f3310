-- Pieces of whole traces at the front of a text, one after the other: their bytes and records.
use Rattle.std.proofs.Common.{ℕ, zero, suc, ◌≡◌, ◌⊎◌, ◌<◌, ◌≤◌, ◌-◌, ◌||◌, Bool, true, false, List}
use Rattle.std.proofs.Common.{[], ◌∷◌, ◌++◌, length}
use Rattle.std.proofs.Common.{refl, sym, ap, ◌∙◌, append_assoc, inl, inr, ⊎_elim, arith}
use Rattle.std.proofs.Common.{drop}
use Rattle.std.proofs.Common.{take, length-append, if◌then◌else◌, ◌+◌}
use Rattle.std.proofs.lemmas.Bool.{false≢true}
use Rattle.std.proofs.lemmas.List.Folds.{list_any-append}
use Rattle.std.proofs.lemmas.List.{append-nil, length-drop, take-append-drop}
use Rattle.csv.specs.Reading.{default_config, records}
use Rattle.lb_trace.specs.Chunks.{is_ended}
use Rattle.lb_trace.specs.Plain.{has_quote, is_quote, plain_records}
use Rattle.lb_trace.specs.Spelling.{Record}
use Rattle.lb_trace.specs.Texts.{IsFront}
use Rattle.lb_trace.proofs.Lines.{plain-none}
use Rattle.lb_trace.proofs.PlainRecords.{plain_text}
use Rattle.lb_trace.proofs.TextReadings.{front_ended, front_more, front_none}
use Rattle.lb_feed.specs.Windows.{HasRead, HasTaken, IsWindow, Left, bytes_left, text_in}
use Rattle.lb_feed.specs.Windows.{turns_left}
use Rattle.lb_feed.specs.declared.window.Window.{Window}
use Rattle.lb_feed.proofs.WindowReads.{read_kept, read_on, taken_left, text_length}
use Rattle.lb_report.specs.Pieces.{ArePiecesRead, BeginsWith, IsAllRead, IsFrontRead}

-- ## Texts of whole lines

no_records : records default_config [] ≡ []
no_records = plain_text [] refl ∙ plain-none

pub front_all : (front : List ℕ) (rows : List Record) → IsFront front rows
    → records default_config front ≡ rows
front_all front rows is =
    ap (records default_config) (sym (append-nil front))
    ∙ is.gives []
    ∙ ap (λ rs. rows ++ rs) no_records
    ∙ append-nil rows

-- two texts without quotes are one text without quotes
pub plain_both : (first second : List ℕ) → has_quote first ≡ false → has_quote second ≡ false
    → has_quote (first ++ second) ≡ false
plain_both first second one two =
    list_any-append is_quote first second
    ∙ ap (λ q. q || has_quote second) one
    ∙ two

-- ## One piece

-- a text is its first `count` bytes and the rest
pub piece_cut : (text piece rest : List ℕ) (count : ℕ) → piece ≡ take count text
    → rest ≡ drop count text → text ≡ piece ++ rest
piece_cut text piece rest count front behind =
    sym (take-append-drop count text) ∙ ap (λ t. t ++ drop count text) (sym front)
    ∙ ap (λ t. piece ++ t) (sym behind)

-- a piece that is read is the front of what was left, or all of it
pub piece_read : (a b c : Window) (x y : Left) (text : List ℕ)
    → HasTaken a b x y → text_in b ≡ text ++ text_in c → c.read ≡ b.read
    → c.is_over ≡ b.is_over → c.is_ended ≡ b.is_ended → has_quote text ≡ false
    → (b.is_over ≡ true → text_in c ≡ []) → (b.is_over ≡ false → is_ended text ≡ true)
    → ArePiecesRead a c x y (plain_records text)
unfolding read_kept
piece_read a b c x y text taken cut count over end plain whole ended =
    let read : HasRead a c x y = read_kept a b c x y taken.read count over end in
    let bytes : List ℕ = text_in a ++ taken.read.more in
    let is : bytes ≡ text ++ text_in c = sym taken.taken ∙ cut in
    which b.is_over refl read bytes refl is
  where
    which : (is : Bool) → b.is_over ≡ is → (read : HasRead a c x y) → (bytes : List ℕ)
        → text_in a ++ read.more ≡ bytes → bytes ≡ text ++ text_in c
        → ArePiecesRead a c x y (plain_records text)
    which false still read bytes all is = inl record {
      read = read;
      front = text;
      taken = all ∙ is;
      plain = plain;
      gives = front_ended text plain (ended still);
    }
    which true done read bytes all is =
        let same : text_in a ++ read.more ≡ text =
        all ∙ is ∙ ap (λ t. text ++ t) (whole done) ∙ append-nil text in
        inr record {
          read = read;
          over = over ∙ done;
          nothing = whole done;
          plain = ap has_quote same ∙ plain;
          gives = ap (records default_config) same ∙ plain_text text plain;
        }

-- where no piece is read, the front is empty
pub none_read : (a b : Window) (x y : Left) → HasTaken a b x y → IsFrontRead a b x y []
none_read a b x y taken = record {
  read = taken.read;
  front = [];
  taken = sym taken.taken;
  plain = refl;
  gives = front_none;
}

-- the records of a piece are at the front of those of the text, however it goes on
pub piece_begins : (a b : Window) (x y : Left) (text rest : List ℕ)
    → (taken : HasTaken a b x y) → text_in b ≡ text ++ rest → has_quote text ≡ false
    → (b.is_over ≡ true → rest ≡ []) → (b.is_over ≡ false → is_ended text ≡ true)
    → BeginsWith b.is_over (text_in a ++ taken.read.more) (plain_records text)
piece_begins a b x y text rest taken cut plain whole ended tail none =
    which b.is_over refl tail none
  where
    bytes : List ℕ
    bytes = text_in a ++ taken.read.more

    is : bytes ≡ text ++ rest
    is = sym taken.taken ∙ cut

    which : (over : Bool) → b.is_over ≡ over → (tail : List ℕ)
        → (b.is_over ≡ true → tail ≡ [])
        → (others : List Record)
        × (records default_config (bytes ++ tail) ≡ plain_records text ++ others)
    which false still tail none = (
      records default_config (rest ++ tail),
      ap (records default_config)
          (ap (λ t. t ++ tail) is ∙ append_assoc text rest tail)
          ∙ (front_ended text plain (ended still)).gives (rest ++ tail),
    )
    which true done tail none = (
      [],
      ap (λ t. records default_config (bytes ++ t)) (none done)
          ∙ ap (records default_config) (append-nil bytes ∙ is
          ∙ ap (λ t. text ++ t) (whole done) ∙ append-nil text)
          ∙ plain_text text plain
          ∙ sym (append-nil (plain_records text)),
    )

-- ## One piece after others

-- where a text after one read is `front` and `rest`, a second read adds its bytes to `rest`
pub joined_text : (first front rest one two : List ℕ) → first ++ one ≡ front ++ rest
    → first ++ (one ++ two) ≡ front ++ (rest ++ two)
joined_text first front rest one two is =
    sym (append_assoc first one two) ∙ ap (λ t. t ++ two) is ∙ append_assoc front rest two

-- a front behind a front
pub front_on : (a b c : Window) (x y z : Left) (more next : List Record)
    → IsFrontRead a b x y more → IsFrontRead b c y z next
    → IsFrontRead a c x z (more ++ next)
unfolding read_on
front_on a b c x y z more next at r = record {
  read = read_on a b c x y z at.read r.read;
  front = at.front ++ r.front;
  taken =
      joined_text (text_in a) at.front (text_in b) at.read.more r.read.more at.taken
      ∙ ap (λ t. at.front ++ t) r.taken
      ∙ sym (append_assoc at.front r.front (text_in c));
  plain = plain_both at.front r.front at.plain r.plain;
  gives = front_more at.front r.front more next at.gives r.gives;
}

-- all of the rest behind a front
pub all_on : (a b c : Window) (x y z : Left) (more next : List Record)
    → IsFrontRead a b x y more → IsAllRead b c y z next → IsAllRead a c x z (more ++ next)
unfolding read_on
all_on a b c x y z more next at r =
    let behind : List ℕ = text_in b ++ r.read.more in
    let all : text_in a ++ (at.read.more ++ r.read.more) ≡ at.front ++ behind =
    joined_text (text_in a) at.front (text_in b) at.read.more r.read.more at.taken in
    record {
      read = read_on a b c x y z at.read r.read;
      over = r.over;
      nothing = r.nothing;
      plain = ap has_quote all ∙ plain_both at.front behind at.plain r.plain;
      gives = ap (records default_config) all ∙ at.gives.gives behind
          ∙ ap (λ rs. more ++ rs) r.gives;
    }

pub pieces_text : (a b : Window) (x y : Left) (more : List Record)
    → ArePiecesRead a b x y more → HasRead a b x y
pieces_text a b x y more is =
    ⊎_elim (λ (f : IsFrontRead a b x y more). f.read) (λ (f : IsAllRead a b x y more). f.read) is

pub pieces_on : (a b c : Window) (x y z : Left) (more next : List Record)
    → IsFrontRead a b x y more → ArePiecesRead b c y z next
    → ArePiecesRead a c x z (more ++ next)
pieces_on a b c x y z more next at rest =
    ⊎_elim (λ (r : IsFrontRead b c y z next). inl (front_on a b c x y z more next at r))
    (λ (r : IsAllRead b c y z next). inr (all_on a b c x y z more next at r)) rest

-- where nothing is left behind a front, all has been read
pub front_done : (a b : Window) (x y : Left) (more : List Record)
    → IsFrontRead a b x y more → b.is_over ≡ true → text_in b ≡ [] → IsAllRead a b x y more
front_done a b x y more at over nothing =
    let all : text_in a ++ at.read.more ≡ at.front =
    at.taken ∙ ap (λ t. at.front ++ t) nothing ∙ append-nil at.front in
    record {
      read = at.read;
      over = over;
      nothing = nothing;
      plain = ap has_quote all ∙ at.plain;
      gives = ap (records default_config) all ∙ front_all at.front more at.gives;
    }

-- the records of a front, and of the front of what is behind it, are at the front of the text
pub begins_on : (a b c : Window) (x y z : Left) (more next : List Record)
    → (at : IsFrontRead a b x y more) → (read : HasRead b c y z)
    → BeginsWith c.is_over (text_in b ++ read.more) next
    → BeginsWith c.is_over (text_in a ++ (at.read.more ++ read.more)) (more ++ next)
begins_on a b c x y z more next at read begins tail none =
    let others = begins tail none in (
      others.0,
      ap (records default_config)
          (ap (λ t. t ++ tail)
          (joined_text (text_in a) at.front (text_in b) at.read.more read.more at.taken)
          ∙ append_assoc at.front (text_in b ++ read.more) tail)
          ∙ at.gives.gives ((text_in b ++ read.more) ++ tail)
          ∙ ap (λ rs. more ++ rs) others.1
          ∙ sym (append_assoc more next others.0),
    )

-- the records of a front are at the front of the text
pub front_begins : (a b : Window) (x y : Left) (more : List Record)
    → (at : IsFrontRead a b x y more) → BeginsWith b.is_over (text_in a ++ at.read.more) more
front_begins a b x y more at tail none = (
  records default_config (text_in b ++ tail),
  ap (records default_config)
      (ap (λ t. t ++ tail) at.taken ∙ append_assoc at.front (text_in b) tail)
      ∙ at.gives.gives (text_in b ++ tail),
)

-- all records are at the front of the text
pub all_begins : (a b : Window) (x y : Left) (more : List Record)
    → (at : IsAllRead a b x y more) → BeginsWith b.is_over (text_in a ++ at.read.more) more
all_begins a b x y more at tail none =
    let bytes : List ℕ = text_in a ++ at.read.more in (
      [],
      ap (λ t. records default_config (bytes ++ t)) (none at.over)
          ∙ ap (records default_config) (append-nil bytes)
          ∙ at.gives ∙ sym (append-nil more),
    )

-- ## Each piece takes some bytes

left_behind : (a b c : Window) (x y : Left) (count : ℕ) → IsWindow a → IsWindow b → IsWindow c
    → HasTaken a b x y → text_in c ≡ drop count (text_in b) → c.read ≡ b.read
    → count ≤ length (text_in b) → bytes_left c + count ≡ bytes_left a
left_behind a b c x y count first second third taken behind read within =
    let left : length (text_in c) ≡ length (text_in b) - count =
    ap length behind ∙ length-drop count (text_in b) in
    omega (
      arith,
      left,
      read,
      within,
      taken_left a b x y first second taken,
      text_length b second,
      text_length c third,
    )

abbrev turn : Bool → ℕ
turn over = if over then 0 else 1

-- the turns left go down with a piece, unless nothing was left before it
pub piece_goes : (a b c : Window) (x y : Left) (count : ℕ) → IsWindow a → IsWindow b → IsWindow c
    → HasTaken a b x y → text_in c ≡ drop count (text_in b) → c.read ≡ b.read
    → c.is_over ≡ b.is_over → count ≤ length (text_in b)
    → (b.is_over ≡ true → count ≡ length (text_in b)) → (b.is_over ≡ false → 0 < count)
    → (turns_left c < turns_left a) ⊎ ((a.is_over ≡ true) × (text_in a ≡ []))
piece_goes a b c x y count first second third taken behind read over within whole some =
    which a.is_over refl b.is_over refl
  where
    left : bytes_left c + count ≡ bytes_left a
    left = left_behind a b c x y count first second third taken behind read within

    all : text_in b ≡ text_in a ++ taken.read.more
    all = taken.taken

    last : count ≡ length (text_in b) → (a.is_over ≡ true)
        → turn c.is_over ≡ 0
        → (bytes_left c + turn c.is_over < bytes_left a + turn a.is_over)
        ⊎ ((a.is_over ≡ true) × (text_in a ≡ []))
    last is done none = by (text_in a) refl
      where
        by : (text : List ℕ) → text_in a ≡ text
            → (bytes_left c + turn c.is_over < bytes_left a + turn a.is_over)
            ⊎ ((a.is_over ≡ true) × (text_in a ≡ []))
        by [] nothing = inr (done, nothing)
        by (t ∷ text) nothing =
            let long : length (text_in b) ≡ length (t ∷ text) + length taken.read.more =
            ap length (all ∙ ap (λ s. s ++ taken.read.more) nothing)
            ∙ length-append (t ∷ text) taken.read.more in
            inl (omega (arith, left, is, long, none))

    which : (first : Bool) → a.is_over ≡ first → (last : Bool) → b.is_over ≡ last
        → (bytes_left c + turn c.is_over < bytes_left a + turn a.is_over)
        ⊎ ((a.is_over ≡ true) × (text_in a ≡ []))
    which false before true after =
        let here : turn c.is_over ≡ 0 = ap turn (over ∙ after) in
        let there : turn a.is_over ≡ 1 = ap turn before in
        inl (omega (arith, left, here, there))
    which false before false after =
        let here : turn c.is_over ≡ 1 = ap turn (over ∙ after) in
        let there : turn a.is_over ≡ 1 = ap turn before in
        inl (omega (arith, left, here, there, some after))
    which true before false after = cc ((taken.read.still before).1, after)
    which true before true after = last (whole after) before (ap turn (over ∙ after))

-- the turns left go down with two pieces, one after the other
pub goes_on : (a b c : Window)
    → (turns_left b < turns_left a) ⊎ ((a.is_over ≡ true) × (text_in a ≡ []))
    → (turns_left c < turns_left b) ⊎ ((b.is_over ≡ true) × (text_in b ≡ []))
    → (b.is_over ≡ true → 0 < length (text_in b))
    → (turns_left c < turns_left a) ⊎ ((a.is_over ≡ true) × (text_in a ≡ []))
goes_on a b c first second some =
    ⊎_elim
    (λ (less : turns_left b < turns_left a).
    ⊎_elim (λ (l : turns_left c < turns_left b). inl (less_on (turns_left c) (turns_left b) _ l less))
    (λ (d : (b.is_over ≡ true) × (text_in b ≡ [])).
    absurd (omega (arith, some d.0, ap (length {A = ℕ}) d.1))) second)
    (λ (d : (a.is_over ≡ true) × (text_in a ≡ [])). inr d) first
  where
    less_on : (k m n : ℕ) → k < m → m < n → k < n
    less_on k m n one two = omega (arith, one, two)

-- a text whose first `count` bytes end a line: `count` is not 0
pub ended_some : (text : List ℕ) (count : ℕ) → is_ended (take count text) ≡ true → 0 < count
ended_some text zero ended = absurd (false≢true ended)
ended_some text (suc count) ended = omega arith
