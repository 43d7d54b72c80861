use Rattle.house.proofs.KeyLaws.{key_is}
use Rattle.house.proofs.Key.of.Goals as goal

pub returns : goal.returns
returns c =
    key_is _ _ _ _ _ _ _ _ _ _ c.split_at_mut-first.ensures.front_len c.split_at_mut-second.ensures.front_len c.split_at_mut-second.ensures.back_len
    c.split_at_mut-first.ensures.back_len c.put.ensures c.put-2.ensures c.put-3.ensures
