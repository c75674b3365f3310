-- What a sink has taken, and how it grows.
-- Source: this project's rule.
use Rattle.std.specs.Prelude.{◌≡◌, ℕ, List, Option, length}
use Rattle.std.specs.Borrow.{GName}
use Rattle.std.specs.Io.KnownBytes.{Appends, Keeps}
use Rattle.lb_feed.specs.Counts.{count_more}

-- what a sink has taken: the count of its bytes; the bytes themselves, where they are known; and
-- the name of the writer that it lends them to
pub record Taken : Type 0 where
  pub bytes : Option (List ℕ)
  pub count : ℕ
  pub writer : GName

-- a sink takes a text: its count grows by the length, and its bytes by the text; its writer stays
-- the same
pub record Takes (before after : Taken) (text : List ℕ) : Type 0 where
  pub bytes : Appends before.bytes after.bytes text
  pub count : after.count ≡ count_more before.count (length text)
  pub same : after.writer ≡ before.writer

-- a sink takes nothing
pub record TakesNothing (before after : Taken) : Type 0 where
  pub bytes : Keeps before.bytes after.bytes
  pub count : after.count ≡ before.count
  pub same : after.writer ≡ before.writer
