use Rattle.lb_trace.proofs.ShortCells.{last-four, last-one, last-three, last-two}
use Rattle.lb_trace.proofs.numbers.last_words.Goals as goal

pub returns-in_ok-a-in-len1 : goal.returns-in_ok-a-in-len1
returns-in_ok-a-in-len1 c =
    last-one _ _ _ _ _ c.in-len1.len_at_least c.in-len1.len_below c.in_ok-a-in-len1.ensures.cell

pub returns-in_ok-b-in-len2 : goal.returns-in_ok-b-in-len2
returns-in_ok-b-in-len2 c =
    last-two _ _ _ _ _ _ _ _ c.in-len2.len_at_least
    c.in-len2.len_below c.in_ok-a-in-len2.ensures.cell c.in_ok-b-in-len2.ensures.cell

pub returns-in_ok-c-in-len3 : goal.returns-in_ok-c-in-len3
returns-in_ok-c-in-len3 c =
    last-three _ _ _ _ _ _ _ _ _ _ _ c.in-len3.len_at_least
    c.in-len3.len_below c.in_ok-a-in-len3.ensures.cell c.in_ok-b-in-len3.ensures.cell
    c.in_ok-c-in-len3.ensures.cell

pub returns-in_ok-d-in-len4 : goal.returns-in_ok-d-in-len4
returns-in_ok-d-in-len4 c =
    last-four _ _ _ _ _ _ _ _ _ _ _ _ _ _ c.in-len4.len_at_least
    c.in-len4.len_below c.in_ok-a-in-len4.ensures.cell c.in_ok-b-in-len4.ensures.cell
    c.in_ok-c-in-len4.ensures.cell c.in_ok-d-in-len4.ensures.cell
