-- A text that waits has a byte.
use Rattle.std.proofs.Common.{◌≡◌, ◌≤◌, ℕ, refl, arith, length, List, [], slice_get}
use Rattle.std.specs.Prelude.{Bool, true, false, ◌&&◌, ◌==◌, nat_le, is_some, unwrap_or, if◌then◌else◌, Option, Some, None}
use Rattle.std.proofs.lemmas.Bool.Decides.{nat_tests}
use Rattle.radio_base.specs.declared.payload.Payload.{Payload}
use Rattle.ax_address.specs.Callsign.{Callsign}
use Rattle.ax_segment.specs.Joining.{Answer, HeldMessage, More, Whole, Short, Broken, join_step, whole_of}
use Rattle.link_table.specs.Frames.{plain_text, segmented}
use Rattle.link_table.specs.Table.{Linked, Table, link_with}
use Rattle.link_table.specs.Texts as texts
use Rattle.link_table.specs.Works.{is_text, text_by}
use Rattle.node_model.specs.Links as links

some_bytes : (a : Answer) → text_by (whole_of a) ≡ true → 1 ≤ length (texts.message_of a)
some_bytes (Whole pid message) e = by (nat_le 1 (length message)) refl (pid == plain_text) e
  where
    by : (b : Bool) → nat_le 1 (length message) ≡ b → (c : Bool) → (c && (b && nat_le (length message) 8192)) ≡ true → 1 ≤ length message
    by true f c g = grind (arith, nat_tests, f)
    by false f true g = absurd (cc g)
    by false f false g = absurd (cc g)
some_bytes More e = absurd (cc e)
some_bytes Short e = absurd (cc e)
some_bytes (Broken expected found) e = absurd (cc e)

text_bytes : (j : HeldMessage) (p : Payload) → is_text j p ≡ true → 1 ≤ length (texts.text_of j p)
text_bytes j p e = by (p.pid == plain_text) e
  where
    joined : (b : Bool) → (if b then text_by (whole_of (join_step j p.info.items).1) else false) ≡ true → 1 ≤ length (texts.message_of (join_step j p.info.items).1)
    joined true f = some_bytes (join_step j p.info.items).1 f
    joined false f = absurd (cc f)

    by : (b : Bool) → (if b then nat_le 1 (length p.info.items) else (if p.pid == segmented then text_by (whole_of (join_step j p.info.items).1) else false)) ≡ true
        → 1 ≤ length (if b then p.info.items else texts.message_of (join_step j p.info.items).1)
    by true f = grind (arith, nat_tests, f)
    by false f = joined (p.pid == segmented) f

first_bytes : (j : HeldMessage) (o : Option Payload) → is_some (texts.first_text j o) ≡ true → 1 ≤ length (unwrap_or (texts.first_text j o) [])
first_bytes j None e = absurd (cc e)
first_bytes j (Some p) e = by (is_text j p) refl e
  where
    by : (b : Bool) → is_text j p ≡ b → is_some (if b then Some (texts.text_of j p) else None) ≡ true → 1 ≤ length (unwrap_or (if b then Some (texts.text_of j p) else None) [])
    by true f g = text_bytes j p f
    by false f g = absurd (cc g)

link_bytes : (o : Option Linked) → is_some (elim o as (λ x. Option (List ℕ)) [ None ↦ None | Some l ↦ texts.text_at l ]) ≡ true
    → 1 ≤ length (unwrap_or (elim o as (λ x. Option (List ℕ)) [ None ↦ None | Some l ↦ texts.text_at l ]) [])
link_bytes None e = absurd (cc e)
link_bytes (Some l) e = first_bytes l.joiner (slice_get l.link.inbox 0) e

pub text_has_bytes : (peer : Callsign) (t : Table) → links.has_text peer t ≡ true → 1 ≤ length (links.text_with peer t)
unfolding links.has_text links.text_with
text_has_bytes peer t e = link_bytes (link_with peer t.links) e
