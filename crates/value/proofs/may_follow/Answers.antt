-- `value::may_follow` meets its contract. Assumes nothing.
use Rattle.value.specs.Steps.{may_follow}
use Rattle.value.proofs.may_follow.Goals as goal

pub returns : goal.returns
unfolding may_follow
returns c = rw c.is_digit.ensures
