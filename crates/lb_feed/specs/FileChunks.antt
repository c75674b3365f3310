-- A file in chunks that follow one another.
-- This file says what data of the program mean; no definition of the language stands on it.
use Rattle.std.specs.Prelude.{ℕ, ◌≡◌, ◌-◌, List, Option, IfSome, get_or, length}
use Rattle.std.specs.List.{range_with_len}
use Rattle.lb_feed.specs.PlacedFiles.{between}
use Rattle.lb_feed.specs.SectionEnds.{AreEnds, start_of}

-- `chunk` is the bytes of chunk `k`, where the file tells its bytes
abbrev pub IsChunkAt :
    (bytes : Option (List ℕ)) → (ends : List ℕ) → (k : ℕ) → (chunk : List ℕ) → Type 0
IsChunkAt bytes ends k chunk =
    IfSome bytes (λ all. chunk ≡ between (start_of 0 ends k) (get_or ends k 0) all)

-- the ends of all chunks, the bytes of the first one, and the numbers of the others
pub record AreChunks (bytes : Option (List ℕ)) (ends first numbers : List ℕ) : Type 0 where
  pub size : ℕ
  pub follow : AreEnds 0 size ends
  pub long : IfSome bytes (λ all. size ≡ length all)
  pub begin : IsChunkAt bytes ends 0 first
  pub rest : numbers ≡ range_with_len 1 (length ends - 1)
