-- The promise of a step on a tree.
-- This file mirrors code (src/climb.rt); no definition of the language stands on it.
use Rattle.std.specs.Prelude.{◌≡◌, Result, Ok, Err}
use Rattle.lb_syntax.specs.declared.reader.ReadError.{ReadError}
use Rattle.lb_syntax.specs.declared.reader.ReadError.TheVariants as error
use Rattle.lb_syntax.specs.declared.climb.Growth.{Growth}
use Rattle.lb_syntax.specs.declared.climb.Growth.TheVariants as growth
pub use Rattle.lb_syntax.specs.Reading.{Step}
use Rattle.lb_syntax.specs.Reading.{Stop, More, Fault}

-- a step on the tree `e` has the outcome `done`; trees are seen by `view`
abbrev pub Grows : {X Y : Type 0} → (X → Y) → Y → Result (Growth X) ReadError → Step Y → Type 0
Grows view e (Ok (growth.Stop x)) done = (done ≡ Stop) × (view x ≡ e)
Grows view e (Ok (growth.More x rest)) done = done ≡ More (view x) rest.now
Grows view e (Err error.Memory) done = Unit {0}
Grows view e (Err (error.Syntax left)) done = done ≡ Fault
