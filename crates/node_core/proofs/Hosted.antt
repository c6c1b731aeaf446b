-- What whoever serves the users of a node does at its links, as the code holds them.
use Rattle.std.proofs.Common.{◌≡◌, subst, sym}
use Rattle.std.specs.Prelude.{Err}
use Rattle.link_table.specs.Standing.{OpenNotNoMemory, TableStands, TableView as Kept, TextNotNoMemory}
use Rattle.link_table.specs.Table.{Table}
use Rattle.link_table.specs.declared.open_refusal.OpenRefusal.{OpenRefusal}
use Rattle.link_table.specs.declared.open_refusal.OpenRefusal.TheVariants as opening
use Rattle.link_table.specs.declared.text_refusal.TextRefusal.{TextRefusal}
use Rattle.link_table.specs.declared.text_refusal.TextRefusal.TheVariants as sending
use Rattle.l3_datagram.specs.Routers.{Routing}
use Rattle.node_core.specs.Acts.{open_refusal, text_refusal}
use Rattle.node_core.specs.declared.station.Station.{Station}
use Rattle.node_core.specs.Standing.{Holds, IsAnswer}
use Rattle.node_model.specs.States.{State}
use Rattle.node_core.proofs.Holding.{links_go, with_carrier}

-- a refusal that is an answer isn't want of memory
pub open_known : (why : OpenRefusal) → IsAnswer (Err (open_refusal why)) → OpenNotNoMemory (Err why)
open_known opening.Standing a = tt
open_known opening.TooLong a = tt
open_known opening.Full a = tt
open_known opening.NoMemory a = absurd a

pub text_known : (why : TextRefusal) → IsAnswer (Err (text_refusal why)) → TextNotNoMemory (Err why)
text_known sending.NoLink a = tt
text_known sending.TooLong a = tt
text_known sending.Full a = tt
text_known sending.NoMemory a = absurd a

-- the links are as they were
pub links_stay : (st : Station) (rt : Routing Kept) (old new : Kept) → rt ≡ st.set.router → old ≡ rt.carrier → new ≡ old → (n : State) → Holds st n → Holds (with_carrier st rt new) n
links_stay st rt old new e f same n h = links_go (λ (t : Table). t) st rt old new e f (λ t s. subst (λ (k : Kept). TableStands k t) (sym same) s) n h
