-- What a listener writes for the items of a KISS stream: the line of each item, and below that of a frame what it carries. Own profile.
use Rattle.std.specs.Prelude.{ℕ, List, [], ◌∷◌, ◌++◌, length, ◌==◌, codes, Option, None, Some, Result, Ok, Err, if◌then◌else◌}
use Rattle.ax_frame.specs.declared.frame.FrameRefusal.{FrameRefusal}
use Rattle.ax_frame.specs.declared.head.Head.{Head}
use Rattle.ax_frame.specs.Frames.{Frame, read_at, read_head_at}
use Rattle.kiss_framing.specs.Stream.{Item, Frame as Piece, Too_long}
pub use Rattle.kiss_framing.specs.Feeding.{item_of}
use Rattle.radio_base.specs.declared.modulus.LinkModulus.{LinkModulus}
use Rattle.radio_base.specs.declared.modulus.LinkModulus.TheVariants.{Modulo8}
use Rattle.radio_base.specs.Modulus.{modulus_size}
use Rattle.frame_lines.specs.declared.stations.Stations.{Stations}
use Rattle.frame_lines.specs.Contents.{contents}
use Rattle.frame_lines.specs.Listing.{bad_line, command_line, frame_line}
use Rattle.frame_lines.specs.Moduli.{after_frame, modulus_of}

-- by which modulus sequence numbers are read, which else the stations say, and the pairs of stations that have them modulo 128
pub record Listening : Type 0 where
  pub modulus : Option LinkModulus
  pub extended : List Stations

abbrev pub by_head : Result (Head × ℕ) FrameRefusal → List Stations → LinkModulus
by_head (Ok head) pairs = modulus_of head.0 pairs
by_head (Err e) pairs = Modulo8

-- the modulus by which these octets are read
abbrev pub modulus_by : Option LinkModulus → List Stations → List ℕ → LinkModulus
modulus_by None pairs octets = by_head (read_head_at octets) pairs
modulus_by (Some modulus) pairs octets = modulus

abbrev pub modulus_for : Listening → List ℕ → LinkModulus
modulus_for l octets = modulus_by l.modulus l.extended octets

-- what is known behind a frame, and its lines
abbrev pub by_read : Listening → ℕ → Result Frame FrameRefusal → Listening × List ℕ
by_read l port (Ok f) = (record l { extended = after_frame f.head f.control l.extended }, frame_line port f ++ contents f)
by_read l port (Err e) = (l, bad_line port e)

-- command 0 is data
abbrev pub by_item : Listening → Item → Listening × List ℕ
by_item l (Piece port command payload) =
    if command == 0 then by_read l port (read_at (modulus_size (modulus_for l payload)) payload) else (l, command_line port command (length payload))
by_item l Too_long = (l, codes "too long\n")

-- item by item
abbrev pub by_items : Listening → List Item → Listening × List ℕ
by_items l [] = (l, [])
by_items l (item ∷ later) =
    let first = by_item l item in
    let rest = by_items first.0 later in
    (rest.0, first.1 ++ rest.1)
