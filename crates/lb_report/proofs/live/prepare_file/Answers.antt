-- The text of the chunks is all bytes of the file.
use Rattle.std.proofs.Common.{◌++◌, Global, List, Vec, ℕ, subst, sym}
use Rattle.std.proofs.lemmas.Option.{IfSome_then}
use Rattle.std.specs.List.{AllZip}
use Rattle.lb_trace.specs.Chunks.{text_of}
use Rattle.lb_feed.specs.FileChunks.{IsChunkAt}
use Rattle.lb_feed.specs.Ranges.{IsFileText}
use Rattle.lb_report.proofs.FileTexts.{all_chunks}
use Rattle.lb_report.proofs.live.prepare_file.Goals as goal

pub returns : goal.returns
returns g c =
    let bytes = g.F.PlacedFile.bytes c.args.file.now in
    let file = c.in_ok-chunks.field-0 in
    let known = c.in_ok-chunks.ensures in
    let Is : ℕ → Vec ℕ Global → Type 0 = λ k chunk. IsChunkAt bytes file.ends.items k chunk.items in
    let first = c.as_slice.result.now in
    let numbers = c.as_slice-2.result.now in
    IfSome_then c.prepare_loaded.result c.prepare_loaded.ensures
    (λ p found.
    let chunks : List (Vec ℕ Global) = found.0 in
    let given : AllZip Is numbers chunks =
    subst (λ f. AllZip (λ k chunk.
    IsChunkAt (g.F.PlacedFile.bytes f) file.ends.items k chunk.items) numbers chunks) known.file
    found.1 in
    let whole : IsFileText bytes (file.first.items ++ text_of chunks) =
    all_chunks bytes file.ends.items file.first.items file.numbers.items known.chunks chunks
    (subst (λ ks. AllZip Is ks chunks) c.as_slice-2.ensures.value given) in
    record {
      traces = first ++ text_of chunks;
      is = subst (λ text. IsFileText bytes (text ++ text_of chunks))
          (sym c.as_slice.ensures.value) whole;
      ready = found.2;
    })
