use Rattle.house.proofs.KeyLaws.{put_is}
use Rattle.house.proofs.keys.put.Goals as goal

pub returns : goal.returns
returns c =
    put_is _ c.lesser-n.result _ c.args.text.now _ _ c.split_at_mut-front.ensures.back_len c.lesser-n.ensures.upper_bound_2 c.lesser-n.ensures.fact c.copy_from_slice.ensures.after
    (c.fill.ensures.after (λ y e. e))
