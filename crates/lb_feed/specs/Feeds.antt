-- Feeds that give too many bytes.
-- Source: this project's rule.
use Rattle.std.specs.Prelude.{◌≡◌, ℕ, ◌<◌, IfSome, List, Option, length}
use Rattle.lb_feed.specs.Counts.{count_more}
use Rattle.lb_feed.specs.declared.feed.TheConstants.{INPUT_LIMIT}

-- a feed has given more bytes than are read of an input
pub record IsOverLimit (before after : ℕ) : Type 0 where
  pub bytes : ℕ
  pub many : INPUT_LIMIT < bytes
  pub counted : after ≡ count_more before bytes

-- `IsOverLimit`, and a feed that tells its bytes had more to give than are read
pub record IsTooLong (coming : Option (List ℕ)) (before after : ℕ) : Type 0 where
  pub counted : IsOverLimit before after
  pub told : IfSome coming (λ bytes. INPUT_LIMIT < length bytes)
