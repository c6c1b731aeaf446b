-- What is fetched of a node, until nothing waits. Own profile.
use Rattle.std.specs.Prelude.{ℕ, zero, suc, ◌≡◌, [], drop, length}
use Rattle.node_model.specs.Links.{all_fetched}
use Rattle.node_model.specs.States.{State, fetch_entry, fetch_frame, frames}

-- so many frames are fetched, or entries
abbrev pub fetch_frames : ℕ → State → State
fetch_frames zero n = n
fetch_frames (suc more) n = fetch_frames more (fetch_frame n)

abbrev pub fetch_entries : ℕ → State → State
fetch_entries zero n = n
fetch_entries (suc more) n = fetch_entries more (fetch_entry n)

-- all frames were fetched, and nothing else is changed
abbrev pub without_frames : State → State
without_frames n = record n { own = []; links = all_fetched n.links }

-- all entries were fetched, and nothing else is changed
abbrev pub without_entries : State → State
without_entries n = record n { entries = [] }

-- the frames are fetched in their order
abbrev pub FramesInOrder : Type 0
FramesInOrder = (n : State) → frames (fetch_frame n) ≡ drop 1 (frames n)

-- as many as there are: then none is left
abbrev pub FetchesAllFrames : Type 0
FetchesAllFrames = (n : State) → fetch_frames (length (frames n)) n ≡ without_frames n

abbrev pub FetchesAllEntries : Type 0
FetchesAllEntries = (n : State) → fetch_entries (length n.entries) n ≡ without_entries n
