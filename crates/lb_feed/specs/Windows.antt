-- The bytes of an input that are in memory.
-- This file says what data of the program mean; no definition of the language stands on it.
use Rattle.std.specs.Prelude.{ℕ, ◌≡◌, ◌+◌, ◌-◌, ◌<◌, ◌≤◌, ◌⊎◌, List, [], ◌++◌, Option, length, take}
use Rattle.std.specs.Prelude.{drop}
use Rattle.std.specs.Prelude.{Bool as Truth, ◌∷◌, true, if◌then◌else◌}
use Rattle.std.specs.Io.KnownBytes.{Consumes, IsAtEnd}
use Rattle.lb_feed.specs.Counts.{count_more}
use Rattle.lb_feed.specs.Lines.{is_ended}
use Rattle.lb_feed.specs.declared.feed.LoadError.{LoadError}
use Rattle.lb_feed.specs.declared.feed.LoadError.TheVariants as fault
use Rattle.lb_feed.specs.declared.feed.TheConstants.{INPUT_LIMIT}
use Rattle.lb_feed.specs.declared.window.Window.{Window}

-- the bytes in a window
abbrev pub text_in : Window → List ℕ
text_in w = take (w.end - w.start) (drop w.start w.bytes.items)

-- the places of a window are within its bytes, and it has not read too much
pub record IsWindow (w : Window) : Type 0 where
  pub ordered : w.start ≤ w.end
  pub within : w.end ≤ length w.bytes.items
  pub limit : w.read ≤ INPUT_LIMIT

-- a window has not read too much
abbrev pub IsWithin : Window → Type 0
IsWithin w = w.read ≤ INPUT_LIMIT

-- the number of bytes that may still be read, plus that of the bytes in the window
abbrev pub bytes_left : Window → ℕ
bytes_left w = (INPUT_LIMIT - w.read) + (w.end - w.start)

-- the most turns of a reader that takes a byte or finds the end in each: `bytes_left`, and 1 for
-- the end
abbrev pub turns_left : Window → ℕ
turns_left w = bytes_left w + (if w.is_over then 0 else 1)

-- a reader has dropped or read some bytes, or found the end, unless nothing was left
abbrev pub GoesOn : (before after : Window) → Type 0
GoesOn before after =
    (turns_left after < turns_left before) ⊎ ((before.is_over ≡ true) × (text_in before ≡ []))

-- the state of a feed: the bytes that it has still to give, where it tells them, how many it has
-- given and how often it has failed
pub record Left : Type 0 where
  pub coming : Option (List ℕ)
  pub given : ℕ
  pub failures : ℕ

abbrev pub left : Option (List ℕ) → ℕ → ℕ → Left
left coming given failures = record { coming = coming; given = given; failures = failures }

-- whether a text with some more bytes at its end ends a line; `before` is the answer without them
abbrev pub ended_by : (before : Truth) → List ℕ → Truth
ended_by before [] = before
ended_by before (b ∷ more) = is_ended (b ∷ more)

-- a window has read `more` bytes of a feed, which did not fail; where it is over, the feed is at
-- its end
pub record HasRead (before after : Window) (old new : Left) : Type 0 where
  pub more : List ℕ
  pub consumed : Consumes old.coming new.coming more
  pub counted : after.read ≡ before.read + length more
  pub ended : after.is_ended ≡ ended_by before.is_ended more
  pub given : new.given ≡ count_more old.given (length more)
  pub failures : new.failures ≡ old.failures
  pub over : (before.is_over ≡ true → IsAtEnd old.coming) → after.is_over ≡ true
      → IsAtEnd new.coming
  pub still : before.is_over ≡ true → (more ≡ []) × (after.is_over ≡ true)
  pub limit : IsWithin before → IsWithin after

-- `HasRead`, and the window holds the new bytes behind those that it had
pub record HasTaken (before after : Window) (old new : Left) : Type 0 where
  pub read : HasRead before after old new
  pub taken : text_in after ≡ text_in before ++ read.more

-- a feed has given bytes that, with those that the window had read, are too many
pub record RunsOver (before : Window) (old new : Left) : Type 0 where
  pub more : List ℕ
  pub many : INPUT_LIMIT < before.read + length more
  pub consumed : Consumes old.coming new.coming more
  pub given : new.given ≡ count_more old.given (length more)

-- why a window could not read on: the feed failed or gave too many bytes, or memory ran out and the
-- feed did not fail
abbrev pub IsLoadFault : (before : Window) (old new : Left) → LoadError → Type 0
IsLoadFault before old new fault.Memory = new.failures ≡ old.failures
IsLoadFault before old new fault.Read =
    (old.failures < new.failures) ⊎ RunsOver before old new
