-- What the code keeps of the messages that were written. No public clause cites it: not for the reader of a contract.
use Rattle.std.specs.Prelude.{◌≡◌, ◌+◌, ◌^◌, ◌≤◌, length}
use Rattle.circuit_l4.specs.declared.outgoing.Outgoing.TheInside.{Inside}
use Rattle.circuit_l4.specs.State.{fragments_of_all, bytes_of}
use Rattle.circuit_l4.specs.Halves.{Outbox}
use Rattle.circuit_l4.specs.Forgetting.{IsUnder}

abbrev pub outbox_of : Inside → Outbox
outbox_of o = record { queue = o.queue.messages; done = o.done; acked = o.acked; sent = o.sent; wrote = o.wrote; total = o.total }

-- what isn't acknowledged is in the queue
pub record IsOutbox (o : Outbox) : Type 0 where
  pub acked : o.acked ≤ o.sent
  pub sent : o.sent ≤ o.total
  pub total : o.total ≤ 2 ^ 62
  pub wrote : o.wrote ≤ o.total
  pub done : o.done ≤ o.acked
  pub first : IsUnder o.done o.queue
  pub places : o.acked + length (fragments_of_all o.queue) ≡ o.total + o.done
  pub most : bytes_of o.queue ≤ 65536

-- what always holds of the fields
pub record IsKept (o : Inside) : Type 0 where
  pub outbox : IsOutbox (outbox_of o)
  pub room : o.queue.room ≡ 65536
