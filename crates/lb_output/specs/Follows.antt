-- The effect of a live report on its sink: the bytes of the report go out, the first ones first.
-- Source: this project's rule.
use Rattle.std.specs.Prelude.{◌≡◌, ℕ, ◌+◌, ◌≤◌, List, ◌++◌, Result, Ok, Err, length, take}
use Rattle.lb_output.specs.Taken.{Taken, Takes}
use Rattle.lb_output.specs.declared.follow_error.FollowError.{FollowError}
use Rattle.lb_output.specs.declared.follow_error.FollowError.TheVariants.{Memory, Write}

-- the number of bytes that went out before a live report stopped
abbrev pub sent_of : FollowError → ℕ
sent_of (Memory count) = count
sent_of (Write count) = count

-- the cause of an error: with `Write` the sink failed once; with `Memory` it did not fail
abbrev pub HasCause : FollowError → (failures_before failures_after : ℕ) → Type 0
HasCause (Memory count) before after = after ≡ before
HasCause (Write count) before after = after ≡ before + 1

-- a sink took the first `count` bytes of a text
pub record HasBegun (text : List ℕ) (count : ℕ) (before after : Taken) : Type 0 where
  pub within : count ≤ length text
  pub gone : Takes before after (take count text)

-- a text went to a sink: all of it, and the sink did not fail; or only its first bytes, and the
-- error has their number and the cause
abbrev pub IsFollowed : (text : List ℕ) → (before after : Taken)
    → (failures_before failures_after : ℕ) → Result (Unit {0}) FollowError → Type 0
IsFollowed text before after failures_before failures_after (Ok x) =
    Takes before after text × (failures_after ≡ failures_before)
IsFollowed text before after failures_before failures_after (Err e) =
    HasBegun text (sent_of e) before after × HasCause e failures_before failures_after

-- the front of a text went to a sink, and `rest` of it did not; the sink had `from` bytes of the
-- report before, and has `to` bytes of it after
pub record Goes (before after : Taken) (text rest : List ℕ) (from to : ℕ) : Type 0 where
  pub gone : List ℕ
  pub took : Takes before after gone
  pub parts : text ≡ gone ++ rest
  pub count : to ≡ from + length gone
