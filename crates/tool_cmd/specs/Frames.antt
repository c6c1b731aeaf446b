-- What `frames` writes, and the modulus that a word names. Own profile.
use Rattle.std.specs.Prelude.{ℕ, List, codes}
use Rattle.kiss_framing.specs.Stream.{items}
use Rattle.frame_lines.specs.Listing.{Lists}
use Rattle.cmd_streams.specs.Streams.{Read, bytes_of}
use Rattle.radio_base.specs.declared.modulus.LinkModulus.{LinkModulus}
use Rattle.radio_base.specs.declared.modulus.LinkModulus.TheVariants.{Modulo8, Modulo128}

-- the text has the lines of what these reads brought, with sequence numbers of that modulus
abbrev pub ListsReads : ℕ → List Read → List ℕ → Type 0
ListsReads size reads text = Lists size (items (bytes_of reads)) text

-- a modulus of sequence numbers, as a word of a command names it
abbrev pub modulo_word : LinkModulus → List ℕ
modulo_word Modulo8 = codes "modulo=8"
modulo_word Modulo128 = codes "modulo=128"
