-- The text of a file from its chunks.
use Rattle.std.proofs.Common.{ℕ, zero, suc, ◌≡◌, ◌∙◌, ◌+◌, ◌-◌, ◌<◌, ◌≤◌, List, [], ◌∷◌, ◌++◌}
use Rattle.std.proofs.Common.{Global, None, Option, Some, Vec, ap, arith, get_or, length, subst}
use Rattle.std.proofs.Common.{sym}
use Rattle.std.proofs.Math.Seq.{take_all}
use Rattle.std.specs.List.{AllZip, range_with_len}
use Rattle.lb_trace.specs.Chunks.{text_of}
use Rattle.lb_feed.specs.FileChunks.{AreChunks, IsChunkAt}
use Rattle.lb_feed.specs.PlacedFiles.{between}
use Rattle.lb_feed.specs.Ranges.{IsFileText}
use Rattle.lb_feed.specs.SectionEnds.{AreEnds, start_of}
use Rattle.lb_feed.proofs.PlacedFiles.{between_more, between_none}
use Rattle.lb_feed.proofs.RangeEnds.{end_within}

module _ (ends : List ℕ) (size : ℕ) (are : AreEnds 0 size ends) (all : List ℕ) where
  next_start : (k : ℕ) → start_of 0 ends (k + 1) ≡ get_or ends k 0
  next_start k = let one : k + 1 ≡ suc k = omega arith in ap (start_of 0 ends) one

  last_start : (k : ℕ) → k ≡ length ends → start_of 0 ends k ≡ size
  last_start zero is = absurd (omega (arith, is, are.some))
  last_start (suc k) is =
      let at : k ≡ length ends - 1 = omega (arith, is) in
      ap (λ i. get_or ends i 0) at ∙ are.last

  end_before : (k : ℕ) → k < length ends → get_or ends k 0 ≤ size
  end_before k below = end_within 0 size ends are (length ends - 1 - k) k (omega (arith, below))

  abbrev IsAt : ℕ → Vec ℕ Global → Type 0
  IsAt k chunk = chunk.items ≡ between (start_of 0 ends k) (get_or ends k 0) all

  -- the last `n` chunks are the bytes from chunk `k` on
  rest_text : (k n : ℕ) (chunks : List (Vec ℕ Global)) → k + n ≡ length ends
      → AllZip IsAt (range_with_len k n) chunks
      → text_of chunks ≡ between (start_of 0 ends k) size all
  rest_text k zero [] long zip =
      sym (ap (λ start. between start size all) (last_start k (omega (arith, long)))
      ∙ between_none size all)
  rest_text k zero (chunk ∷ chunks) long zip = absurd zip
  rest_text k (suc n) [] long zip = absurd zip
  rest_text k (suc n) (chunk ∷ chunks) long zip =
      let below : k < length ends = omega (arith, long) in
      let first = start_of 0 ends k in
      let mid = get_or ends k 0 in
      let rest : text_of chunks ≡ between mid size all =
      rest_text (k + 1) n chunks (omega (arith, long)) zip.1
      ∙ ap (λ start. between start size all) (next_start k) in
      ap (λ text. text ++ text_of chunks) zip.0
      ∙ ap (λ text. between first mid all ++ text) rest
      ∙ sym (between_more first mid size all (are.ordered k below) (end_before k below))

  pub whole_text : (first : List ℕ) (chunks : List (Vec ℕ Global)) → size ≡ length all
      → first ≡ between 0 (get_or ends 0 0) all
      → AllZip IsAt (range_with_len 1 (length ends - 1)) chunks → first ++ text_of chunks ≡ all
  whole_text first chunks long is zip =
      let rest : text_of chunks ≡ between (get_or ends 0 0) size all =
      rest_text 1 (length ends - 1) chunks (omega (arith, are.some)) zip in
      let whole : between 0 size all ≡ all =
      take_all (size - 0) all (omega (arith, long)) in
      ap (λ text. text ++ text_of chunks) is
      ∙ ap (λ text. between 0 (get_or ends 0 0) all ++ text) rest
      ∙ sym (between_more 0 (get_or ends 0 0) size all (are.ordered 0 are.some)
      (end_before 0 are.some))
      ∙ whole

-- all chunks, one after the other, are the bytes of a file
pub all_chunks : (bytes : Option (List ℕ)) (ends first numbers : List ℕ)
    (are : AreChunks bytes ends first numbers) (chunks : List (Vec ℕ Global))
    → AllZip (λ k chunk. IsChunkAt bytes ends k chunk.items) numbers chunks
    → IsFileText bytes (first ++ text_of chunks)
all_chunks None ends first numbers are chunks zip = tt
all_chunks (Some all) ends first numbers are chunks zip =
    whole_text ends are.size are.follow all first chunks are.long are.begin
    (subst (λ ks. AllZip (λ k chunk. IsChunkAt (Some all) ends k chunk.items) ks chunks)
    are.rest zip)
