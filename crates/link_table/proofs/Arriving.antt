-- Frames that come, by what stands.
use Rattle.std.proofs.Common.{◌≡◌, ℕ, ◌<◌, ◌≤◌, Bool, true, false, nat_le, ◌==◌, List, [], ◌∷◌, ◌++◌, length, Option, Some, None, is_some, refl, ap, sym, ◌∙◌, subst, arith, if◌then◌else◌}
use Rattle.std.proofs.lemmas.Bool.Decides.{nat_tests}
use Rattle.std.specs.Map.{lookup}
use Rattle.arrayvec.specs.ArrayVec.{ArrayVec}
use Rattle.ax_address.specs.Callsign.{Callsign, same_call}
use Rattle.ax_address.specs.declared.address.Address.{Address}
use Rattle.ax_frame.specs.declared.control.Control.{Control}
use Rattle.ax_frame.specs.declared.control.Control.TheVariants as control
use Rattle.ax_frame.specs.FrameText.{is_command}
use Rattle.ax_frame.specs.Frames.{Frame as AirFrame, frame}
use Rattle.ax_link.specs.Kinds.{frame_in}
use Rattle.ax_link.specs.Opening.{opening}
use Rattle.ax_link.specs.State.{Rules, State}
use Rattle.ax_link.specs.Table.{Arrive, step}
use Rattle.ax_link.specs.declared.notice.LinkNotice.TheVariants.{Closed}
use Rattle.link_table.specs.declared.entry.LinkEntry.{LinkEntry}
use Rattle.link_table.specs.declared.held_links.HeldLinks.{HeldLinks}
use Rattle.link_table.specs.Calls.{answer, answer_down, back, end, keep, link_frame, made, most_links, no_set_up, refusal_of, refused_by, set_up, set_up_new, sets_up, source, to_link}
use Rattle.link_table.specs.Frames.{all_sent, fitting, head_to, sent}
use Rattle.link_table.specs.Standing.{CoreGoes, CoreStands, modulus_at, modulus_by, modulus_of}
use Rattle.radio_base.specs.Modulus.{modulus_size}
use Rattle.radio_base.specs.contracts.modulus.LinkModulusPartialEq.TheImpl as same
use Rattle.radio_base.specs.declared.modulus.LinkModulus.{LinkModulus}
use Rattle.radio_base.specs.declared.modulus.LinkModulus.TheVariants.{Modulo8, Modulo128}
use Rattle.link_table.specs.Table.{Table, link_with}
use Rattle.link_table.specs.Works.{arrive_at_link}
use Rattle.link_table.proofs.Links.{Found, found, none_found}
use Rattle.link_table.proofs.LinkOffers.{append_none, entry_looks, same_length, some_looks}

module _ (own peer : Callsign) (path : ArrayVec Address) (rules : Rules) (now : ℕ) (pid : Option ℕ) (info : List ℕ) where
  abbrev Same : Control → Type 0
  Same c = refused_by own peer path (refusal_of c) ≡ all_sent 8 own peer path (step (opening rules) (Arrive (frame_in 8 true c pid info)) now).outs

  dm : (pf : Bool) → refused_by own peer path (Some pf) ≡ fitting (sent 8 (frame (head_to own peer path false) (control.Dm pf) None [])) ++ []
  dm pf = sym (append_none (fitting (sent 8 (frame (head_to own peer path false) (control.Dm pf) None []))))

  pub refuses : (c : Control) → sets_up c ≡ false → Same c
  refuses (control.I ns nr true) q = dm true
  refuses (control.I ns nr false) q = refl
  refuses (control.Rr nr true) q = dm true
  refuses (control.Rr nr false) q = refl
  refuses (control.Rnr nr true) q = dm true
  refuses (control.Rnr nr false) q = refl
  refuses (control.Rej nr true) q = dm true
  refuses (control.Rej nr false) q = refl
  refuses (control.Srej nr true) q = dm true
  refuses (control.Srej nr false) q = refl
  refuses (control.Sabm pf) q = absurd (cc q)
  refuses (control.Sabme pf) q = absurd (cc q)
  refuses (control.Disc pf) q = dm pf
  refuses (control.Dm pf) q = refl
  refuses (control.Ua pf) q = refl
  refuses (control.Frmr pf) q = refl
  refuses (control.Ui pf) q = refl
  refuses (control.Xid pf) q = dm pf
  refuses (control.Test pf) q = refl

-- ---- set-up commands

pub new_full : (c c2 : HeldLinks) (size : ℕ) (pf : Bool) (f : AirFrame) (now : ℕ) → most_links ≤ length c.links.entries →
    CoreGoes (answer f (control.Dm pf) []) c c2 → CoreGoes (set_up_new size pf f now) c c2
new_full c c2 size pf f now l goes t s =
    let full : nat_le most_links (length t.links) ≡ true = ap (nat_le most_links) (sym (same_length c.own c.links.entries t.links s.links)) ∙ grind (arith, nat_tests, l) in
    subst (CoreStands c2) (sym (ap (λ b. if b then answer f (control.Dm pf) [] t else to_link f now (made (source f) size (back f) t)) full)) (goes t s)

pub new_made : (c c2 c3 : HeldLinks) (size : ℕ) (pf : Bool) (f : AirFrame) (now : ℕ) → length c.links.entries < most_links →
    CoreGoes (made (source f) size (back f)) c c2 → CoreGoes (to_link f now) c2 c3 → CoreGoes (set_up_new size pf f now) c c3
new_made c c2 c3 size pf f now l first next t s =
    let room : nat_le most_links (length t.links) ≡ false = ap (nat_le most_links) (sym (same_length c.own c.links.entries t.links s.links)) ∙ grind (arith, nat_tests, l) in
    subst (CoreStands c3) (sym (ap (λ b. if b then answer f (control.Dm pf) [] t else to_link f now (made (source f) size (back f) t)) room))
    (next (made (source f) size (back f) t) (first t s))

modulus_none : (x : Option LinkEntry) → modulus_by x ≡ None → x ≡ None
modulus_none None e = refl
modulus_none (Some y) e = absurd (cc e)

modulus_some : (x : Option LinkEntry) (m : LinkModulus) → modulus_by x ≡ Some m → (e : LinkEntry) × (x ≡ Some e) × (modulus_of e.link ≡ m)
modulus_some None m e = absurd (cc e)
modulus_some (Some y) m e = (y, refl, cc e)

pub modulus_absent : (c : HeldLinks) (peer : Callsign) → None ≡ modulus_at peer c.links.entries → lookup (same_call peer) c.links.entries ≡ None
modulus_absent c peer e = modulus_none _ (sym e)

pub set_up_absent : (c c2 : HeldLinks) (size : ℕ) (pf : Bool) (f : AirFrame) (now : ℕ) → None ≡ modulus_at (source f) c.links.entries →
    CoreGoes (set_up_new size pf f now) c c2 → CoreGoes (set_up size pf f now) c c2
set_up_absent c c2 size pf f now e goes t s =
    subst (CoreStands c2)
    (sym (ap (λ x. elim x as (λ y. Table) [ None ↦ set_up_new size pf f now t | Some l ↦ if l.link.rules.size == size then to_link f now t else set_up_new size pf f now (end (source f) (Closed ∷ []) t) ])
    (none_found c.own (source f) c.links.entries t.links s.links (modulus_absent c (source f) e))))
    (goes t s)

-- two are the same where both have as many numbers
pub same_size : (a b : LinkModulus) → (modulus_size a == modulus_size b) ≡ same.eq-value.it a b
same_size Modulo8 Modulo8 = refl
same_size Modulo8 Modulo128 = refl
same_size Modulo128 Modulo8 = refl
same_size Modulo128 Modulo128 = refl

standing_is : (c : HeldLinks) (modulus of_link : LinkModulus) (pf : Bool) (f : AirFrame) (now : ℕ) (same : Bool) → Some of_link ≡ modulus_at (source f) c.links.entries → (modulus_size of_link == modulus_size modulus) ≡ same →
    (t : Table) → CoreStands c t → set_up (modulus_size modulus) pf f now t ≡ (if same then to_link f now t else set_up_new (modulus_size modulus) pf f now (end (source f) (Closed ∷ []) t))
standing_is c modulus of_link pf f now same e test t s =
    let x = modulus_some _ of_link (sym e) in
    let y : Found c.own (source f) x.0 t.links = found c.own (source f) c.links.entries t.links x.0 s.links x.1 in
    let size : y.link.link.rules.size ≡ modulus_size of_link = ap (λ (z : State). z.rules.size) y.stands.link.keeps.is ∙ ap modulus_size x.2 in
    let by : Bool → Table = λ b. if b then to_link f now t else set_up_new (modulus_size modulus) pf f now (end (source f) (Closed ∷ []) t) in
    ap (λ z. elim z as (λ q. Table) [ None ↦ set_up_new (modulus_size modulus) pf f now t | Some l ↦ by (l.link.rules.size == modulus_size modulus) ]) y.with
    ∙ ap (λ n. by (n == modulus_size modulus)) size ∙ ap by test

pub set_up_same : (c c2 : HeldLinks) (modulus of_link : LinkModulus) (pf : Bool) (f : AirFrame) (now : ℕ) → Some of_link ≡ modulus_at (source f) c.links.entries → (modulus_size of_link == modulus_size modulus) ≡ true →
    CoreGoes (to_link f now) c c2 → CoreGoes (set_up (modulus_size modulus) pf f now) c c2
set_up_same c c2 modulus of_link pf f now e q goes t s =
    subst (CoreStands c2) (sym (standing_is c modulus of_link pf f now true e q t s)) (goes t s)

pub set_up_other : (c c2 c3 : HeldLinks) (modulus of_link : LinkModulus) (pf : Bool) (f : AirFrame) (now : ℕ) → Some of_link ≡ modulus_at (source f) c.links.entries → (modulus_size of_link == modulus_size modulus) ≡ false →
    CoreGoes (end (source f) (Closed ∷ [])) c c2 → CoreGoes (set_up_new (modulus_size modulus) pf f now) c2 c3 → CoreGoes (set_up (modulus_size modulus) pf f now) c c3
set_up_other c c2 c3 modulus of_link pf f now e q first next t s =
    subst (CoreStands c3) (sym (standing_is c modulus of_link pf f now false e q t s))
    (next (end (source f) (Closed ∷ []) t) (first t s))

-- ---- all other frames

pub stands_there : (c c2 : HeldLinks) (f : AirFrame) (now : ℕ) (b : Bool) → b ≡ is_some (lookup (same_call (source f)) c.links.entries) → b ≡ true →
    CoreGoes (to_link f now) c c2 → CoreGoes (no_set_up f now) c c2
stands_there c c2 f now b e q goes t s =
    let x = entry_looks _ (sym e ∙ q) in
    let y : Found c.own (source f) x.0 t.links = found c.own (source f) c.links.entries t.links x.0 s.links x.1 in
    subst (CoreStands c2) (sym (ap (λ z. elim z as (λ w. Table) [ None ↦ if is_command f.head then answer_down f t else t | Some l ↦ to_link f now t ]) y.with)) (goes t s)

pub none_there : (c c2 c3 : HeldLinks) (f : AirFrame) (now : ℕ) (b command : Bool) → b ≡ is_some (lookup (same_call (source f)) c.links.entries) → b ≡ false → command ≡ is_command f.head →
    CoreGoes (to_link f now) c c2 → CoreGoes (λ t. if command then answer_down f t else t) c2 c3 → CoreGoes (no_set_up f now) c c3
none_there c c2 c3 f now b command e q k first goes t s =
    let none : link_with (source f) t.links ≡ None = none_found c.own (source f) c.links.entries t.links s.links (some_looks _ (sym e ∙ q)) in
    let same : to_link f now t ≡ t =
    ap (λ z. elim z as (λ w. Table) [ None ↦ t | Some l ↦ keep (source f) (arrive_at_link t.own (link_frame l.link.rules.size f) now (record { linked = l; pending = t.pending })) t ]) none in
    subst (CoreStands c3)
    (sym (ap (λ z. elim z as (λ w. Table) [ None ↦ if is_command f.head then answer_down f t else t | Some l ↦ to_link f now t ]) none
    ∙ ap (λ d. if d then answer_down f t else t) (sym k)))
    (goes t (subst (CoreStands c2) same (first t s)))
