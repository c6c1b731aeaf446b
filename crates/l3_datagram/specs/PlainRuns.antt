-- The calls of a carrier in memory, one list after another.
use Rattle.std.proofs.Common.{List, [], ◌∷◌, ◌++◌, subst, sym}
use Rattle.l3_datagram.specs.Datagrams.{CarrierCall}
use Rattle.l3_datagram.specs.PlainCarriers.{Plain, Made, after_call}

pub more_made : (a b c : Plain) (calls more : List CarrierCall) → Made a calls b → Made b more c → Made a (calls ++ more) c
more_made a b c [] more e then = subst (λ (p : Plain). Made p more c) (sym e) then
more_made a b c (call ∷ calls) more first then = (first.0, more_made (after_call a call) b c calls more first.1 then)
