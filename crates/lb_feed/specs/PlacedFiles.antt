-- The bytes of a file that is read at places.
-- This file says what data of the program mean; no definition of the language stands on it.
use Rattle.std.specs.Prelude.{ℕ, ◌-◌, List, Option, option_map, take, drop}

-- the bytes from place `start` to place `past`
abbrev pub between : (start past : ℕ) → List ℕ → List ℕ
between start past bytes = take (past - start) (drop start bytes)

-- the bytes of a file from `start` to `past`, where it tells its bytes
abbrev pub told_between : (start past : ℕ) → Option (List ℕ) → Option (List ℕ)
told_between start past bytes = option_map (between start past) bytes

-- the bytes of a file from `start` on, where it tells its bytes
abbrev pub told_from : (start : ℕ) → Option (List ℕ) → Option (List ℕ)
told_from start bytes = option_map (drop start) bytes
