-- A step so often at most, while there is something to do.
use Rattle.std.proofs.Common.{◌≡◌, ◌<◌, ◌≤◌, ◌+◌, ◌-◌, ◌∷◌, [], ℕ, zero, suc, refl, sym, ap, arith, add-one, drop, drop-cons, get_or, length, map, List, ◌∙◌, true, false}
use Rattle.std.proofs.lemmas.Bool.Decides.{nat_tests}
use Rattle.std.proofs.lemmas.List.{length-map}
use Rattle.std.specs.Prelude.{Option, Some, None, is_some, not, ◌==◌}
use Rattle.node_core.specs.Standing.{entry_of}
use Rattle.node_core.specs.declared.entry.NodeEntry.{NodeEntry}
use Rattle.node_model.specs.States.{Entry}
use Rattle.station_members.specs.Standing.{told_by as told_as}
use Rattle.radio_base.specs.declared.moment.Moment.{Moment}
use Rattle.station_ports.specs.declared.port_frame.PortFrame.{PortFrame}
use Rattle.station.specs.States.{StationState, all_told, does, fetch_frames, fetch_frames_by, fetch_told, fetch_told_by, first_frame, first_told, frame_fetched, put_frame, read, read_each, reads, told, told_by, told_fetched, turn, turns, turns_by}

-- ---- frames

pub frames_next : (k : ℕ) (s : StationState) (frame : PortFrame) → k < 1000000 → Some frame ≡ first_frame s → fetch_frames (1000000 - k) s ≡ fetch_frames (1000000 - (k + 1)) (put_frame frame (frame_fetched s))
frames_next k s frame h is =
    let left : 1000000 - k ≡ suc (1000000 - (k + 1)) = omega (arith, h) in
    rw left (ap (λ f. fetch_frames_by f (fetch_frames (1000000 - (k + 1))) s) (sym is))

pub frames_last : (k : ℕ) (s : StationState) → k < 1000000 → None ≡ first_frame s → fetch_frames (1000000 - k) s ≡ frame_fetched s
frames_last k s h is =
    let left : 1000000 - k ≡ suc (1000000 - (k + 1)) = omega (arith, h) in
    rw left (ap (λ f. fetch_frames_by f (fetch_frames (1000000 - (k + 1))) s) (sym is))

pub frames_done : (k : ℕ) (s : StationState) → 1000000 ≤ k → fetch_frames (1000000 - k) s ≡ s
frames_done k s h = let left : 1000000 - k ≡ 0 = omega (arith, h) in rw left refl

-- ---- what members have told

pub told_next : (k : ℕ) (s : StationState) (entry : ℕ × Entry) → k < 1000000 → Some entry ≡ first_told s → fetch_told (1000000 - k) s ≡ fetch_told (1000000 - (k + 1)) (told_fetched s)
told_next k s entry h is =
    let left : 1000000 - k ≡ suc (1000000 - (k + 1)) = omega (arith, h) in
    rw left (ap (λ e. fetch_told_by e (fetch_told (1000000 - (k + 1))) s) (sym is))

pub list_next : (k : ℕ) (s : StationState) (entry : ℕ × Entry) → k < 1000000 → Some entry ≡ first_told s → told (1000000 - k) s ≡ entry ∷ told (1000000 - (k + 1)) (told_fetched s)
list_next k s entry h is =
    let left : 1000000 - k ≡ suc (1000000 - (k + 1)) = omega (arith, h) in
    rw left (ap (λ e. told_by e (told (1000000 - (k + 1))) s) (sym is))

pub told_last : (k : ℕ) (s : StationState) → k < 1000000 → None ≡ first_told s → fetch_told (1000000 - k) s ≡ told_fetched s
told_last k s h is =
    let left : 1000000 - k ≡ suc (1000000 - (k + 1)) = omega (arith, h) in
    rw left (ap (λ e. fetch_told_by e (fetch_told (1000000 - (k + 1))) s) (sym is))

pub list_last : (k : ℕ) (s : StationState) → k < 1000000 → None ≡ first_told s → told (1000000 - k) s ≡ []
list_last k s h is =
    let left : 1000000 - k ≡ suc (1000000 - (k + 1)) = omega (arith, h) in
    rw left (ap (λ e. told_by e (told (1000000 - (k + 1))) s) (sym is))

pub told_done : (k : ℕ) (s : StationState) → 1000000 ≤ k → fetch_told (1000000 - k) s ≡ s
told_done k s h = let left : 1000000 - k ≡ 0 = omega (arith, h) in rw left refl

pub list_done : (k : ℕ) (s : StationState) → 1000000 ≤ k → told (1000000 - k) s ≡ []
list_done k s h = let left : 1000000 - k ≡ 0 = omega (arith, h) in rw left refl

not_none : (n : ℕ) → not (suc n == 0) ≡ true
not_none n = grind (arith, nat_tests)

-- they have told something exactly where there is a first thing
some_by : (first : Option (ℕ × Entry)) (later : StationState → List (ℕ × Entry)) (s : StationState) → not (length (told_by first later s) == 0) ≡ is_some first
some_by None later s = refl
some_by (Some entry) later s = not_none (length (later (told_fetched s)))

some_told : (left : ℕ) (s : StationState) → 0 < left → not (length (told left s) == 0) ≡ is_some (first_told s)
some_told zero s h = absurd (omega (arith, h))
some_told (suc left) s h = some_by (first_told s) (told left) s

pub any_told : (es : List (ℕ × NodeEntry)) (s : StationState) → map told_as es ≡ all_told s → not (length es == 0) ≡ reads s
unfolding all_told reads
any_told es s is = ap (λ n. not (n == 0)) (sym (length-map es told_as) ∙ ap length is) ∙ some_told 1000000 s (omega arith)

-- ---- turns

pub turns_next : (k : ℕ) (now : Moment) (s : StationState) → k < 1000 → true ≡ does now s → turns (1000 - k) now s ≡ turns (1000 - (k + 1)) now (turn now s)
turns_next k now s h is =
    let left : 1000 - k ≡ suc (1000 - (k + 1)) = omega (arith, h) in
    rw left (ap (λ b. turns_by b (turns (1000 - (k + 1)) now) now s) (sym is))

pub turns_last : (k : ℕ) (now : Moment) (s : StationState) → k < 1000 → false ≡ does now s → turns (1000 - k) now s ≡ turn now s
turns_last k now s h is =
    let left : 1000 - k ≡ suc (1000 - (k + 1)) = omega (arith, h) in
    rw left (ap (λ b. turns_by b (turns (1000 - (k + 1)) now) now s) (sym is))

pub turns_done : (k : ℕ) (now : Moment) (s : StationState) → 1000 ≤ k → turns (1000 - k) now s ≡ s
turns_done k now s h = let left : 1000 - k ≡ 0 = omega (arith, h) in rw left refl

-- ---- what was told is read

pub entry_next : (now : Moment) (es : List (ℕ × NodeEntry)) (at : ℕ) (e : ℕ × NodeEntry) (t : StationState) → at < length es → e ≡ get_or es at e → read_each now (map told_as (drop at es)) t ≡ read_each now (map told_as (drop (at + 1) es)) (read e.0 (entry_of e.1) now t)
entry_next now es at e t h is =
    rw (add-one at) (ap (λ xs. read_each now (map told_as xs) t) (drop-cons es at e h)
    ∙ ap (λ (x : ℕ × NodeEntry). read_each now (map told_as (drop (suc at) es)) (read x.0 (entry_of x.1) now t)) (sym is))
