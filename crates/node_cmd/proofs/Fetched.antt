-- A node's frames are fetched one after another, and so is what it has to tell.
use Rattle.std.proofs.Common.{◌≡◌, ◌∙◌, ◌++◌, ℕ, List, [], ◌∷◌, refl, sym, ap, subst, drop, length, append_assoc, append-nil}
use Rattle.std.specs.Prelude.{Some, None, slice_get}
use Rattle.link_table.specs.declared.written.Written.{Written}
use Rattle.node_core.specs.Fetching.{FetchesAllFrames, FramesInOrder, fetch_frames, without_entries, without_frames}
use Rattle.node_model.specs.States.{Entry, NodeState, State, fetch_entry, fetch_frame, fetch_own, frames}
use Rattle.node_core.specs.Inputs.{after_bytes}
use Rattle.node_cmd.specs.Live.{IsKept, NodeAtRead, StaysWithin, after_read, after_reads, answer_to, answer_to_reads, fetched, kiss_of, kiss_of_frame}
use Rattle.node_core.specs.Standing.{Kept}
use Rattle.cmd_streams.specs.Streams.{Read}

-- ---- frames

rest_by : (n : State) (own : List Written) → without_frames (fetch_own own n) ≡ without_frames n
rest_by n [] = refl
rest_by n (f ∷ fs) = refl

-- one that was fetched leaves the others to be fetched
pub rest : (n : State) → without_frames (fetch_frame n) ≡ without_frames n
rest n = rest_by n n.own

first_by : (fs gs : List Written) (f : Written) → Some f ≡ slice_get fs 0 → gs ≡ drop 1 fs → kiss_of fs ≡ kiss_of_frame f ++ kiss_of gs
first_by [] gs f is next = absurd (cc is)
first_by (g ∷ fs) gs f is next = let same : f ≡ g = cc is in rw next (rw same refl)

-- the KISS bytes of all are those of the first and those of the others
pub first_bytes : (n : State) (f : Written) → FramesInOrder → Some f ≡ slice_get (frames n) 0 → kiss_of (frames n) ≡ kiss_of_frame f ++ kiss_of (frames (fetch_frame n))
first_bytes n f order is = first_by (frames n) (frames (fetch_frame n)) f is (order n)

none_by : (fs : List Written) → None ≡ slice_get fs 0 → fs ≡ []
none_by [] is = refl
none_by (f ∷ fs) is = absurd (cc is)

pub no_frames : (n : State) → None ≡ slice_get (frames n) 0 → frames n ≡ []
no_frames n is = none_by (frames n) is

-- where none waits, all were fetched
pub all_sent : (n : State) → FramesInOrder → FetchesAllFrames → frames n ≡ [] → fetch_frame n ≡ without_frames n
all_sent n order all none =
    let x : State = fetch_frame n in
    let empty : frames x ≡ [] = order n ∙ ap (λ (fs : List Written). drop 1 fs) none in
    let P : ℕ → Type 0 = λ k. fetch_frames k x ≡ without_frames x in
    subst P (ap (λ (fs : List Written). length fs) empty) (all x) ∙ rest n

-- ---- entries

no_entries : (es : List Entry) → None ≡ slice_get es 0 → drop 1 es ≡ []
no_entries [] is = refl
no_entries (e ∷ es) is = absurd (cc is)

pub all_heard : (n : State) → None ≡ slice_get n.entries 0 → fetch_entry n ≡ without_entries n
all_heard n is = ap (λ (es : List Entry). record n { entries = es }) (no_entries n.entries is)

-- ---- reads

pub after_reads-more : (reads : List Read) (read : Read) (n : NodeState) → after_reads (reads ++ read ∷ []) n ≡ fetched (after_read read (after_reads reads n))
after_reads-more [] read n = refl
after_reads-more (first ∷ later) read n = after_reads-more later read (fetched (after_read first n))

pub answer_to_reads-more : (reads : List Read) (read : Read) (n : NodeState) → answer_to_reads (reads ++ read ∷ []) n ≡ answer_to_reads reads n ++ answer_to read (after_reads reads n)
answer_to_reads-more [] read n = append-nil (answer_to read n)
answer_to_reads-more (first ∷ later) read n =
    ap (λ (xs : List ℕ). answer_to first n ++ xs) (answer_to_reads-more later read (fetched (after_read first n)))
    ∙ sym (append_assoc (answer_to first n) (answer_to_reads later (fetched (after_read first n))) (answer_to read (after_reads later (fetched (after_read first n)))))

pub stays-more : (node : Kept) (nodes : List NodeAtRead) (last : Kept) (next : NodeAtRead) (reads : List Read) (read : Read) (n : NodeState)
    → StaysWithin node nodes last reads n
    → (let m : NodeState = after_reads reads n in IsKept next.fed (after_bytes read.now read.bytes m) → IsKept next.ticked (after_read read m)
    → IsKept next.fetched (fetched (after_read read m))
    → StaysWithin node (nodes ++ next ∷ []) next.fetched (reads ++ read ∷ []) n)
stays-more node [] last next [] read n before fed ticked done = (before.1, fed, ticked, (refl, done))
stays-more node (first ∷ nodes) last next (one ∷ later) read n before fed ticked done =
    (before.0, before.1, before.2, stays-more first.fetched nodes last next later read (fetched (after_read one n)) before.3 fed ticked done)
stays-more node [] last next (one ∷ later) read n before fed ticked done = absurd before
stays-more node (first ∷ nodes) last next [] read n before fed ticked done = absurd before
