-- How many of what waits are for consoles.
use Rattle.std.proofs.Common.{◌≡◌, ◌≤◌, ◌<◌, ◌+◌, ◌-◌, ◌∙◌, ◌++◌, ◌∷◌, [], ℕ, zero, suc, List, refl, sym, ap, arith, drop, add-one}
use Rattle.std.specs.Prelude.{replicate, slice_get}
use Rattle.station_ports.specs.declared.port_frame.PortFrame.{PortFrame}
use Rattle.station.specs.declared.outs.Waiting.{Waiting}
use Rattle.station.specs.declared.outs.Waiting.TheVariants as waiting
use Rattle.station.specs.Outs.{consoles, consoles_in, is_console, is_for_console, one_if}

pub consoles_in-append : (xs ys : List Waiting) → consoles_in (xs ++ ys) ≡ consoles_in xs + consoles_in ys
consoles_in-append [] ys = omega arith
consoles_in-append (x ∷ xs) ys = omega (arith, consoles_in-append xs ys)

-- a frame more
pub with_frame : (xs : List Waiting) (frame : PortFrame) → consoles_in (xs ++ waiting.Frame frame ∷ []) ≡ consoles_in xs
with_frame xs frame = omega (arith, consoles_in-append xs (waiting.Frame frame ∷ []))

pub consoles_in-consoles : (count : ℕ) → consoles_in (consoles count) ≡ count
consoles_in-consoles zero = refl
consoles_in-consoles (suc count) = omega (arith, consoles_in-consoles count)

-- so many things for consoles more
pub with_consoles : (xs : List Waiting) (count : ℕ) → consoles_in (xs ++ consoles count) ≡ consoles_in xs + count
with_consoles xs count = omega (arith, consoles_in-append xs (consoles count), consoles_in-consoles count)

-- the first is gone
pub without_first : (xs : List Waiting) → consoles_in (drop 1 xs) ≡ consoles_in xs - one_if (is_console (slice_get xs 0))
without_first [] = refl
without_first (x ∷ xs) = omega arith
