-- Bytes that a feed gave, read after read.
use Rattle.std.proofs.Common.{◌≡◌, ℕ, ◌+◌, ◌<◌, ◌≤◌, List, [], ◌++◌, Option, None, Some, IfSome}
use Rattle.std.proofs.Common.{take, drop, refl, sym, ap, ◌∙◌, append_assoc, arith, length}
use Rattle.std.proofs.Common.{length-append}
use Rattle.std.proofs.Math.Seq.{take-add}
use Rattle.std.proofs.lemmas.List.{length-take-le}
use Rattle.std.specs.Io.KnownBytes.{Consumes}
use Rattle.lb_feed.specs.Counts.{count_more}
use Rattle.lb_feed.specs.Feeds.{IsTooLong}
use Rattle.lb_feed.specs.declared.feed.TheConstants.{INPUT_LIMIT}

-- before a read no bytes have been given
pub Consumes-none : (at : Option (List ℕ)) → Consumes at at []
Consumes-none None = tt
Consumes-none (Some xs) = refl

-- two reads, one after the other, give the bytes of both
pub Consumes-more : (before between after : Option (List ℕ)) (first second whole : List ℕ)
    → Consumes before between first → Consumes between after second → whole ≡ first ++ second
    → Consumes before after whole
Consumes-more None between after first second whole p q joined = tt
Consumes-more (Some xs) None after first second whole p q joined = absurd p
Consumes-more (Some xs) (Some ys) None first second whole p q joined = absurd q
Consumes-more (Some xs) (Some ys) (Some zs) first second whole p q joined =
    p
    ∙ ap (λ rest. first ++ rest) q
    ∙ sym (append_assoc first second zs)
    ∙ ap (λ front. front ++ zs) (sym joined)

-- the filled front of a list grows by what was read behind it
pub Consumes-filled : (before between after : Option (List ℕ)) (old new : List ℕ) (filled count : ℕ)
    → Consumes before between (take filled old) → take filled new ≡ take filled old
    → Consumes between after (take count (drop filled new))
    → Consumes before after (take (filled + count) new)
Consumes-filled before between after old new filled count came front read =
    Consumes-more before between after (take filled old) (take count (drop filled new))
    (take (filled + count) new) came read
    (take-add filled count new ∙ ap (λ bytes. bytes ++ take count (drop filled new)) front)

-- a feed that gave more than `limit` bytes had more than `limit` to give
pub more_than : (limit : ℕ) (before after : Option (List ℕ)) (bytes : List ℕ) → limit < length bytes
    → Consumes before after bytes → IfSome before (λ coming. limit < length coming)
more_than limit None after bytes many came = tt
more_than limit (Some xs) None bytes many came = absurd came
more_than limit (Some xs) (Some ys) bytes many came =
    omega (arith, many, ap length came, length-append bytes ys)

pub too_long : (before after : Option (List ℕ)) (given_before given_after : ℕ) (bytes : List ℕ)
    (filled : ℕ) → filled ≤ length bytes → INPUT_LIMIT < filled
    → Consumes before after (take filled bytes) → given_after ≡ count_more given_before filled
    → IsTooLong before given_before given_after
too_long before after given_before given_after bytes filled within many came counted = record {
  counted = record { bytes = filled; many = many; counted = counted };
  told =
      more_than INPUT_LIMIT before after (take filled bytes)
      (omega (arith, many, length-take-le filled bytes within)) came;
}
