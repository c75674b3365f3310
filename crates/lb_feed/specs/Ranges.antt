-- The bytes of a file between two places, and all bytes of a file.
-- This file says what data of the program mean; no definition of the language stands on it.
use Rattle.std.specs.Prelude.{ℕ, ◌≡◌, ◌≤◌, ◌+◌, Bool as Truth, IfSome, List, Option, length, true}
use Rattle.lb_feed.specs.PlacedFiles.{between}
use Rattle.lb_feed.specs.SectionEnds.{AreEnds}
use Rattle.lb_feed.specs.declared.feed.LoadError.{LoadError}
use Rattle.lb_feed.specs.declared.feed.LoadError.TheVariants as load

-- sections follow one another from a place of a file to its size, which is not too large
pub record AreRangeEnds (from size : ℕ) (ends : List ℕ) : Type 0 where
  pub follow : AreEnds from size ends
  pub short : size ≤ 1073741824

-- `text` is the bytes of a file from `start` to `past`, where it tells them, and short enough for a
-- trace text
pub record IsRange (bytes : Option (List ℕ)) (start past : ℕ) (text : List ℕ) : Type 0 where
  pub short : start + length text ≤ 1073741824
  pub is : IfSome bytes (λ all. text ≡ between start past all)

-- why a file was not read: memory ran out, or a read of it failed, as it may
abbrev pub IsFileFault : (may_fail : Truth) → LoadError → Type 0
IsFileFault may_fail load.Memory = Unit {0}
IsFileFault may_fail load.Read = may_fail ≡ true

-- all bytes of a file, where it tells them
abbrev pub IsFileText : (bytes : Option (List ℕ)) → (text : List ℕ) → Type 0
IsFileText bytes text = IfSome bytes (λ all. text ≡ all)
