-- A station on a stream, read by read: what it sends, and what it tells. Own profile.
use Rattle.std.specs.Prelude.{ℕ, ◌≡◌, ◌*◌, ◌++◌, List, [], ◌∷◌, Bool, false}
use Rattle.circuit_l4.specs.declared.pair.Pair.{Pair}
use Rattle.cmd_streams.specs.Streams.{Read}
use Rattle.radio_base.specs.declared.moment.Moment.{Moment}
use Rattle.station.specs.States.{new_state}
use Rattle.station_file.specs.Station.{Station}
use Rattle.station_live.specs.Lives.{Live, after_read, new_live, sent_at, told_at}
use Rattle.station_live.specs.Standing.{LiveStands}
use Rattle.station_looks.specs.declared.about.About.{About}
use Rattle.station_run.specs.declared.living.Living.{Living}
use Rattle.station_settings.specs.Starting.{start_of}
use Rattle.station_start.specs.Starts.{IsAbout}
use Rattle.station_users.specs.States as users

abbrev pub moment_of : Read → Moment
moment_of read = record { 0 = read.now }

-- a read brings its bytes and then a tick, both at the moment behind it
abbrev pub after : Read → Live → Live
after read l = after_read read.bytes (moment_of read) l

abbrev pub after_reads : List Read → Live → Live
after_reads [] l = l
after_reads (read ∷ reads) l = after_reads reads (after read l)

-- the KISS bytes that it sends at these reads
abbrev pub sent_by : List Read → Live → List ℕ
sent_by [] l = []
sent_by (read ∷ reads) l = sent_at read.bytes (moment_of read) l ++ sent_by reads (after read l)

-- the lines that it tells at each
abbrev pub told_by : List Read → Live → List (List ℕ)
told_by [] l = []
told_by (read ∷ reads) l = told_at read.bytes (moment_of read) l ∷ told_by reads (after read l)

-- ---- the station of a file

-- as it starts: what its file says to users is said with these texts, and each member gives this pair first
abbrev pub start_with : About → Pair → Station → Live
start_with who pair file = new_live (new_state (users.new_state who (start_of pair file))) (file.status * 1000)

-- the text is what the station of a file sends at these reads, and the others are what it tells at each
pub record IsSent (pair : Pair) (file : Station) (reads : List Read) (text : List ℕ) (texts : List (List ℕ)) : Type 0 where
  pub who : About
  pub about : IsAbout file who
  pub sent : text ≡ sent_by reads (start_with who pair file)
  pub told : texts ≡ told_by reads (start_with who pair file)

-- and at the end of the stream it tells nothing more; it wants all of it
pub record IsSentToEnd (pair : Pair) (file : Station) (over : Bool) (reads : List Read) (text : List ℕ) (texts : List (List ℕ)) : Type 0 where
  pub wants : over ≡ false
  pub earlier : List (List ℕ)
  pub sent : IsSent pair file reads text earlier
  pub told : texts ≡ earlier ++ [] ∷ []

-- ---- what the code keeps

-- the first value has become the last so, from whatever state it stood for
pub record HasLived (last : Living) (reads : List Read) (text : List ℕ) (texts : List (List ℕ)) (l : Live) : Type 0 where
  pub stands : LiveStands last.live (after_reads reads l)
  pub sent : text ≡ sent_by reads l
  pub told : texts ≡ told_by reads l

abbrev pub LivesThrough : Living → Living → List Read → List ℕ → List (List ℕ) → Type 0
LivesThrough first last reads text texts = (l : Live) → LiveStands first.live l → HasLived last reads text texts l

abbrev pub LivesToEnd : Living → Living → Bool → List Read → List ℕ → List (List ℕ) → Type 0
LivesToEnd first last over reads text texts =
    (over ≡ false) × ((earlier : List (List ℕ)) × LivesThrough first last reads text earlier × (texts ≡ earlier ++ [] ∷ []))
