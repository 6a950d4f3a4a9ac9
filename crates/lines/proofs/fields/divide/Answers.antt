use Rattle.lines.proofs.Commas.{divides, last_part, next_part}
use Rattle.lines.proofs.fields.divide.Goals as goal

pub returns-in_default : goal.returns-in_default
returns-in_default c =
    let part = last_part _ _ _ _ c.outside_end.ensures.value c.split_at.ensures.front c.split_at.ensures.back c.in_default.len_below in
    record { value = part; joined = divides c.args.operand.now }

pub returns-in_default-len1-up : goal.returns-in_default-len1-up
returns-in_default-len1-up c =
    let part = next_part _ _ _ _ c.outside_end.ensures.value c.split_at.ensures.front c.split_at.ensures.back c.in_default-len1-up.len_at_least in
    record { value = part; joined = divides c.args.operand.now }
