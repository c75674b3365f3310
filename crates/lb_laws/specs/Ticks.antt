-- Streams and clocks at one instant.
-- Source: Lustre V6 reference manual, clocks.
use Rattle.std.specs.Prelude.{◌≡◌, ℕ, Bool, false, None, List, get_or}
use Rattle.lb_syntax.specs.Lists.{Every}
use Rattle.lb_static.specs.Instances.{Instance}
use Rattle.lb_check.specs.Occurrences.{Occurrence}
use Rattle.lb_check.specs.Scalars.{Stream}
use Rattle.lb_check.specs.Streams.{History, presence}

-- a clock does not tick at instant `t`
abbrev pub IsOff : ℕ → List Bool → Type 0
IsOff t ticks = get_or ticks t false ≡ false

-- a stream has no value at instant `t`; no stream of a list has one
abbrev pub IsAbsent : ℕ → Stream → Type 0
IsAbsent t xs = get_or xs t None ≡ None

abbrev pub AreAbsent : ℕ → List Stream → Type 0
AreAbsent t xss = Every (IsAbsent t) xss

-- the clock of an occurrence does not tick at instant `t`
abbrev pub IsClockOff : History → Instance → ℕ → Occurrence → Type 0
IsClockOff H here t o = IsOff t (presence H here.path o.clock)
