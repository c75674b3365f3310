use Rattle.std.proofs.Common.{lit≤}
use Rattle.lb_lanes.proofs.FloatGuesses.{masked_in, guess_numbers}
use Rattle.lb_lanes.proofs.word_quotients.near16.Goals as goal

pub int_to_float-dividend : goal.int_to_float-dividend
int_to_float-dividend c = masked_in 23 16 c.sizes16.result (lit≤ tt)

pub int_to_float-divisor : goal.int_to_float-divisor
int_to_float-divisor c = masked_in 16 16 c.sizes16-2.result (lit≤ tt)

pub float_to_bits-result : goal.float_to_bits-result
float_to_bits-result c =
    guess_numbers 16 23 16 c.sizes16.result c.sizes16-2.result (lit≤ tt)
