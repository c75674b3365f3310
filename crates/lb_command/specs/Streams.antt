-- The changes of a run to its input, to the sink of its output and to the sink of its errors.
-- Source: this project's rule.
use Rattle.std.specs.Prelude.{◌≡◌, ℕ, ◌<◌, ◌⊎◌, List, Option}
use Rattle.lb_output.specs.Taken.{Taken, Takes, TakesNothing}
use Rattle.lb_feed.specs.Feeds.{IsTooLong}

-- a sink before and after a run: what it has taken, and how often it has failed
pub record Change : Type 0 where
  pub before : Taken
  pub after : Taken
  pub failures_before : ℕ
  pub failures_after : ℕ

abbrev pub change : (before after : Taken) → (failures_before failures_after : ℕ) → Change
change before after failures_before failures_after = record {
  before = before;
  after = after;
  failures_before = failures_before;
  failures_after = failures_after;
}

-- the sink took the whole text, and did not fail
pub record Took (c : Change) (text : List ℕ) : Type 0 where
  pub all : Takes c.before c.after text
  pub never_failed : c.failures_after ≡ c.failures_before

-- the sink took nothing, and did not fail
pub record IsUntouched (c : Change) : Type 0 where
  pub kept : TakesNothing c.before c.after
  pub never_failed : c.failures_after ≡ c.failures_before

-- the sink lends its bytes to the same writer as before
abbrev pub HasSameWriter : Change → Type 0
HasSameWriter c = c.after.writer ≡ c.before.writer

-- the sink failed
pub record HasFailed (c : Change) : Type 0 where
  pub more : c.failures_before < c.failures_after
  pub same : HasSameWriter c

-- the sink took the whole text, or failed
abbrev pub TookOrFailed : Change → List ℕ → Type 0
TookOrFailed c text = Took c text ⊎ HasFailed c

-- an input before and after a run: the bytes that it has still to give before, where they are
-- known; how many it has given, and how often it has failed, before and after
pub record Input : Type 0 where
  pub coming : Option (List ℕ)
  pub given_before : ℕ
  pub given_after : ℕ
  pub failures_before : ℕ
  pub failures_after : ℕ

abbrev pub input : (coming : Option (List ℕ)) → (given_before given_after : ℕ)
    → (failures_before failures_after : ℕ) → Input
input coming given_before given_after failures_before failures_after = record {
  coming = coming;
  given_before = given_before;
  given_after = given_after;
  failures_before = failures_before;
  failures_after = failures_after;
}

abbrev pub NeverFailed : Input → Type 0
NeverFailed i = i.failures_after ≡ i.failures_before

-- the input gave nothing, and no read of it failed
abbrev pub IsUnread : Input → Type 0
IsUnread i = (i.given_after ≡ i.given_before) × NeverFailed i

-- a read of the input failed, or it gave more bytes than are read
abbrev pub IsUnreadable : Input → Type 0
IsUnreadable i = (i.failures_before < i.failures_after)
    ⊎ IsTooLong i.coming i.given_before i.given_after
