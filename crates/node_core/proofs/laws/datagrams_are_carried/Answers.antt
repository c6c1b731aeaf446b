use Rattle.node_core.proofs.Carrying.{ReadsFrames, acts_carry, bytes_carry, ticks_carry}
use Rattle.node_core.proofs.laws.datagrams_are_carried.Goals as goal

pub returns-clause-bytes : goal.returns-clause-bytes
returns-clause-bytes c =
    let reading : ReadsFrames = record { frames = c.frame_spelling.ensures.read; heads = c.head_spelling.ensures.read; ends = c.head_spelling.ensures.without_fault } in
    bytes_carry c.carried.ensures c.carried_by_weaker.ensures.weaker c.carried_by_weaker.ensures.numbered c.frames_are_spelled.ensures c.one_hop_on.ensures reading
    c.settles.ensures.nothing c.call_texts.ensures

pub returns-clause-ticks : goal.returns-clause-ticks
returns-clause-ticks c =
    let reading : ReadsFrames = record { frames = c.frame_spelling.ensures.read; heads = c.head_spelling.ensures.read; ends = c.head_spelling.ensures.without_fault } in
    ticks_carry c.carried.ensures c.carried_by_weaker.ensures.weaker c.carried_by_weaker.ensures.numbered c.frames_are_spelled.ensures c.one_hop_on.ensures reading
    c.settles.ensures.nothing c.call_texts.ensures

pub returns-clause-acts : goal.returns-clause-acts
returns-clause-acts c =
    let reading : ReadsFrames = record { frames = c.frame_spelling.ensures.read; heads = c.head_spelling.ensures.read; ends = c.head_spelling.ensures.without_fault } in
    acts_carry c.carried.ensures c.carried_by_weaker.ensures.weaker c.carried_by_weaker.ensures.numbered c.frames_are_spelled.ensures c.one_hop_on.ensures reading
    c.settles.ensures.nothing c.call_texts.ensures
