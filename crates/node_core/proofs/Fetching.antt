-- What is fetched of a node comes in order, and then nothing waits.
use Rattle.std.proofs.Common.{◌≡◌, ◌∙◌, refl, ap, drop, length, map, List, [], ◌∷◌, ◌++◌}
use Rattle.link_table.specs.Calls.{fetch}
use Rattle.link_table.specs.Table.{written}
use Rattle.link_table.specs.Frames.{Sent}
use Rattle.link_table.specs.declared.written.Written.{Written}
use Rattle.node_core.specs.Fetching.{FetchesAllEntries, FetchesAllFrames, FramesInOrder, fetch_entries, fetch_frames, without_entries, without_frames}
use Rattle.node_model.specs.Links.{sent_frames}
use Rattle.node_model.specs.States.{Entry, State, at_links, fetch_entry, fetch_own, frames}
use Rattle.node_core.proofs.Holding.{fetched_of_links}

dropped_first : (fs : List Sent) → map written (drop 1 fs) ≡ drop 1 (map written fs)
dropped_first [] = refl
dropped_first (f ∷ fs) = refl

in_order : (own : List Written) (n : State) → n.own ≡ own → frames (fetch_own own n) ≡ drop 1 (own ++ sent_frames n.links)
in_order [] n e = ap (λ (fs : List Written). fs ++ map written (drop 1 n.links.pending.frames)) e ∙ dropped_first n.links.pending.frames
in_order (f ∷ fs) n e = refl

pub frames_in_order : FramesInOrder
frames_in_order n = in_order n.own n refl

-- the frames of the links, where the node has no others
of_links : (fs : List Sent) (n : State) → n.own ≡ [] → n.links.pending.frames ≡ fs → fetch_frames (length (map written fs)) n ≡ without_frames n
of_links [] n e f =
    ap (λ (xs : List Written). record n { own = xs }) e
    ∙ ap (λ (fs : List Sent). record n { own = []; links = record n.links { pending = record n.links.pending { frames = fs } } }) f
of_links (x ∷ fs) n e f =
    ap (fetch_frames (length (map written fs))) (fetched_of_links n e) ∙ of_links fs (at_links fetch n) e (ap (drop 1) f)

of_all : (own : List Written) (n : State) → n.own ≡ own → fetch_frames (length (own ++ sent_frames n.links)) n ≡ without_frames n
of_all [] n e = of_links n.links.pending.frames n e refl
of_all (f ∷ fs) n e =
    ap (λ (own : List Written). fetch_frames (length (fs ++ sent_frames n.links)) (fetch_own own n)) e ∙ of_all fs (record n { own = fs }) refl

pub all_frames : FetchesAllFrames
all_frames n = of_all n.own n refl

of_entries : (es : List Entry) (n : State) → n.entries ≡ es → fetch_entries (length es) n ≡ without_entries n
of_entries [] n e = ap (λ (es : List Entry). record n { entries = es }) e
of_entries (x ∷ es) n e = of_entries es (fetch_entry n) (ap (drop 1) e)

pub all_entries : FetchesAllEntries
all_entries n = of_entries n.entries n refl
