-- A text that goes to a sink.
-- Source: this project's rule.
use Rattle.std.specs.Prelude.{◌≡◌, ℕ, Bool, true, List, ◌++◌, Result, Ok, Err}
use Rattle.lb_output.specs.Follows.{HasBegun, HasCause}
use Rattle.lb_output.specs.Taken.{Taken, Takes}
use Rattle.lb_output.specs.declared.follow_error.FollowError.{FollowError}

-- a sink took the first bytes of a text, but not the rest
pub record HasStopped
    (text : List ℕ) (before after : Taken) (failures_before failures_after : ℕ)
    (e : FollowError)
    : Type 0 where
  pub count : ℕ
  pub begun : HasBegun text count before after
  pub cause : HasCause e failures_before failures_after

-- a text went to a sink: all of it, and the sink did not fail; or its first bytes, and the error
-- says why it stopped
abbrev pub IsSent : (text : List ℕ) → (before after : Taken)
    → (failures_before failures_after : ℕ) → Result (Unit {0}) FollowError → Type 0
IsSent text before after m n (Ok x) = Takes before after text × (n ≡ m)
IsSent text before after m n (Err e) = HasStopped text before after m n e

-- some bytes went to a sink; where `told`, they are the front of `first`, and `rest` is left behind
-- them
pub record HasSent (told : Bool) (before after : Taken) (first rest : List ℕ) : Type 0
  where
    pub gone : List ℕ
    pub took : Takes before after gone
    pub parts : told ≡ true → first ≡ gone ++ rest

-- a text went to a sink, or its first bytes; where `told`, the text is `first`
abbrev pub IsText : (told : Bool) → (first : List ℕ) → (before after : Taken)
    → (failures_before failures_after : ℕ) → Result (Unit {0}) FollowError → Type 0
IsText told first before after m n run =
    (text : List ℕ) × (told ≡ true → text ≡ first) × IsSent text before after m n run
