-- A file whose head is read from its first bytes, and the bytes behind its head.
use Rattle.std.proofs.Common.{ℕ, ◌≡◌, ◌∙◌, ◌-◌, ◌≤◌, List, ◌++◌, None, Option, Some}
use Rattle.std.proofs.Common.{append_assoc, ap, arith, drop, length, length-append, sym, take}
use Rattle.std.proofs.Math.Seq.{drop-append_seam, take_all}
use Rattle.std.specs.Io.KnownBytes.{Consumes}
use Rattle.std.specs.Prelude.{IfSome}
use Rattle.lb_feed.specs.PlacedFiles.{between}
use Rattle.lb_feed.specs.Ranges.{IsFileText}

-- no more bytes come of a text than it has
pub came_within : (text : List ℕ) (after : Option (List ℕ)) (more : List ℕ)
    → Consumes (Some text) after more → length more ≤ length text
came_within text after more came = by after came
  where
    by : (rest : Option (List ℕ)) → Consumes (Some text) rest more → length more ≤ length text
    by None came = absurd came
    by (Some rest) came = omega (arith, ap length came, length-append more rest)

-- the head of a file and the bytes from the end of the head on are the whole file
text_whole : (all head behind text : List ℕ) (from size : ℕ) → all ≡ head ++ behind
    → from ≡ length head → size ≡ length all → text ≡ between from size all → head ++ text ≡ all
text_whole all head behind text from size whole at long is =
    let rest : drop from all ≡ behind =
    ap (λ n. drop n all) at ∙ ap (drop (length head)) whole ∙ drop-append_seam head behind in
    let fits : length behind ≤ size - from =
    omega (arith, ap (length {A = ℕ}) whole, length-append head behind, at, long) in
    ap (λ t. head ++ t)
    (is ∙ ap (take (size - from)) rest ∙ take_all (size - from) behind fits)
    ∙ sym whole

-- a head that was read from the first bytes of a file, and the bytes behind it, are the whole file
pub file_text : (bytes rest left : Option (List ℕ)) (first more head behind text : List ℕ)
    (from size : ℕ) → Consumes bytes rest first → Consumes (Some first) left more
    → more ≡ head ++ behind → from ≡ length head → IfSome bytes (λ all. size ≡ length all)
    → IfSome bytes (λ all. text ≡ between from size all) → IsFileText bytes (head ++ text)
file_text None rest left first more head behind text from size came read parts at long is = tt
file_text (Some all) None left first more head behind text from size came read parts at long is =
    absurd came
file_text (Some all) (Some rest) None first more head behind text from size came read parts at
    long is =
    absurd read
file_text (Some all) (Some rest) (Some last) first more head behind text from size came read parts
    at long is =
    let whole : all ≡ head ++ ((behind ++ last) ++ rest) =
    came ∙ ap (λ t. t ++ rest) (read ∙ ap (λ t. t ++ last) parts ∙ append_assoc head behind last)
    ∙ append_assoc head (behind ++ last) rest in
    text_whole all head ((behind ++ last) ++ rest) text from size whole at long is
