-- The size that an error reports of a program that is too large.
-- This file says what data of the program mean; no definition of the language stands on it.
use Rattle.std.specs.Prelude.{◌≡◌, ℕ, ◌<◌, ◌≤◌, min}
use Rattle.lb_static.specs.Instances.{Program}
use Rattle.lb_check.specs.TypeRules.{size}
use Rattle.lb_expand.specs.declared.error.SizeFault.{SizeFault}

-- `n` counts `total`: exactly up to 65,537; above that, it is at least 65,537 and at most `total`
pub record Counts (n total : ℕ) : Type 0 where
  pub no_more : n ≤ total
  pub as_many : min total 65537 ≤ n

-- the reported size is over the limit, and the program has at least that size
pub record IsSizeFault (P : Program) (fault : SizeFault) : Type 0 where
  pub limit : fault.limit ≡ 65536
  pub over : fault.limit < fault.size
  pub least : fault.size ≤ size P
