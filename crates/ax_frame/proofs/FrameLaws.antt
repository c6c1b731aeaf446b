-- Frames: what is read is spelled so.
use Rattle.std.proofs.Common.{◌≡◌, ◌≤◌, ◌<◌, ◌+◌, ◌-◌, ◌++◌, ◌∙◌, ℕ, refl, sym, ap, subst, List, [], ◌∷◌, length, take, drop, arith, Bool, true, false, cond}
use Rattle.std.specs.Prelude.{◌||◌, Option, Some, None, Result, Ok, Err, is_some, slice_get, nat_le}
use Rattle.std.proofs.lemmas.List.{append_assoc, take-append-drop, drop-drop, drop_all, length-drop, get_or-drop}
use Rattle.std.proofs.lemmas.Bool.Decides.{nat_tests}
use Rattle.ax_address.specs.Results.{◌>>=◌}
use Rattle.ax_frame.specs.declared.control.Control.{Control}
use Rattle.ax_frame.specs.declared.control.Control.TheVariants.{Frmr, Xid, Test}
use Rattle.ax_frame.specs.declared.head.Head.{Head}
use Rattle.ax_frame.specs.declared.frame.FrameRefusal.{FrameRefusal}
use Rattle.ax_frame.specs.declared.frame.FrameRefusal.TheVariants.{ExtraInfo}
use Rattle.ax_frame.specs.Controls.{IsLinkModulus, control_octets, has_pid, takes_info}
use Rattle.ax_frame.specs.Reading.{head_end, control_or_short, control_at, pid_or_none, pid_at, frame_at}
use Rattle.ax_frame.specs.Frames.{frame, addresses, addresses_octets, pid_octets, BeginsWith, Spells}
use Rattle.ax_frame.proofs.Words.{bind_ok, get_at_drop, IsBytes}
use Rattle.ax_frame.proofs.Fields.{TakesField, control_takes}

abbrev done : {A : Type 0} → A → Result A FrameRefusal
done x = Ok x

pub ok_is : {A : Type 0} (x y : A) → done x ≡ done y → x ≡ y
ok_is x y e = cc

-- ---- the control field at its place

pub control_at_takes : (size at : ℕ) (bytes : List ℕ) (x : Control × ℕ) → IsLinkModulus size → IsBytes bytes → control_at size at bytes ≡ Ok x → TakesField size at (drop at bytes) x.0 x.1
unfolding control_at
control_at_takes size at bytes x m small h =
    let first : slice_get bytes at ≡ slice_get (drop at bytes) 0 = ap (slice_get bytes) (omega arith) ∙ get_at_drop at 0 bytes in
    let second : slice_get bytes (at + 1) ≡ slice_get (drop at bytes) 1 = get_at_drop at 1 bytes in
    let read : control_or_short size at (slice_get (drop at bytes) 0) (slice_get (drop at bytes) 1) ≡ Ok (x.0, x.1) = ap (λ o. control_or_short size at o (slice_get (drop at bytes) 1)) (sym first) ∙ (ap (λ o. control_or_short size at (slice_get bytes at) o) (sym second) ∙ h) in
    control_takes size at (drop at bytes) x.0 x.1 m (λ i. rw (get_or-drop at bytes i 0) (small (at + i))) read

-- ---- the PID

pub record TakesPid (at : ℕ) (rest : List ℕ) (c : Control) (pid : Option ℕ) (end : ℕ) : Type 0 where
  pub there : is_some pid ≡ has_pid c
  pub no_info : takes_info c ≡ false → drop (end - at) rest ≡ []
  pub later : at ≤ end
  pub within : end ≤ at + length rest
  pub spelled : rest ≡ pid_octets pid ++ drop (end - at) rest

has_pid_takes : (c : Control) → has_pid c ≡ true → takes_info c ≡ true
has_pid_takes (Frmr pf) h = refl
has_pid_takes (Xid pf) h = refl
has_pid_takes (Test pf) h = refl
has_pid_takes c h = h

first_is : (rest : List ℕ) (p : ℕ) → slice_get rest 0 ≡ Some p → (rest ≡ p ∷ drop 1 rest) × (0 < length rest)
first_is [] p h = absurd cc
first_is (b ∷ bs) p h = let k : b ≡ p = cc in (ap (λ o. o ∷ bs) k, omega arith)

with_pid : (at : ℕ) (rest : List ℕ) (c : Control) (o : Option ℕ) (x : Option ℕ × ℕ) → slice_get rest 0 ≡ o → has_pid c ≡ true → pid_or_none at o ≡ Ok x → TakesPid at rest c x.0 x.1
with_pid at rest c None x e t h = absurd cc
with_pid at rest c (Some p) x e t h =
    let f = first_is rest p e in
    let k = ok_is (Some p, at + 1) x h in
    let one : (at + 1) - at ≡ 1 = omega arith in
    subst (λ (y : Option ℕ × ℕ). TakesPid at rest c y.0 y.1) k (record {
      there = sym t;
      no_info = λ none. absurd (let all = has_pid_takes c t in cc);
      later = omega arith;
      within = omega (arith, f.1);
      spelled = rw one f.0;
    })

abbrev takes_info_or : Bool → List ℕ → ℕ → Bool
takes_info_or b bytes at = b || nat_le (length bytes) at

no_more : (at : ℕ) (bytes : List ℕ) (b : Bool) → takes_info_or b bytes at ≡ true → b ≡ false → drop at bytes ≡ []
no_more at bytes true h e = absurd cc
no_more at bytes false h e = drop_all at bytes (grind (arith, nat_tests))

without_pid : (at : ℕ) (bytes : List ℕ) (c : Control) (x : Option ℕ × ℕ) (b : Bool) → takes_info_or (takes_info c) bytes at ≡ b → at ≤ length bytes → has_pid c ≡ false → cond b (Ok (None, at)) (Err (ExtraInfo at)) ≡ done x → TakesPid at (drop at bytes) c x.0 x.1
without_pid at bytes c x false e within t h = absurd cc
without_pid at bytes c x true e within t h =
    let k = ok_is (None, at) x h in
    let none : at - at ≡ 0 = omega arith in
    subst (λ (y : Option ℕ × ℕ). TakesPid at (drop at bytes) c y.0 y.1) k (record {
      there = sym t;
      no_info = λ no. rw none (no_more at bytes (takes_info c) e no);
      later = omega arith;
      within = omega arith;
      spelled = rw none refl;
    })

pid_step : (at : ℕ) (bytes : List ℕ) (c : Control) (x : Option ℕ × ℕ) (t : Bool) → has_pid c ≡ t → at ≤ length bytes → cond t (pid_or_none at (slice_get bytes at)) (cond (takes_info_or (takes_info c) bytes at) (Ok (None, at)) (Err (ExtraInfo at))) ≡ done x → TakesPid at (drop at bytes) c x.0 x.1
pid_step at bytes c x true t within h =
    let first : slice_get (drop at bytes) 0 ≡ slice_get bytes at = sym (get_at_drop at 0 bytes) ∙ ap (slice_get bytes) (omega arith) in
    with_pid at (drop at bytes) c (slice_get bytes at) x first t h
pid_step at bytes c x false t within h = without_pid at bytes c x (takes_info_or (takes_info c) bytes at) refl within t h

pub pid_takes : (at : ℕ) (bytes : List ℕ) (c : Control) (x : Option ℕ × ℕ) → at ≤ length bytes → pid_at c at bytes ≡ Ok x → TakesPid at (drop at bytes) c x.0 x.1
unfolding pid_at
pid_takes at bytes c x within h = pid_step at bytes c x (has_pid c) refl within h

-- ---- the whole

dropped : (at end : ℕ) (bytes : List ℕ) → at ≤ end → drop (end - at) (drop at bytes) ≡ drop end bytes
dropped at end bytes h = drop-drop (end - at) at bytes ∙ ap (λ k. drop k bytes) (omega arith)

regroup : (a c p i : List ℕ) → a ++ (c ++ (p ++ i)) ≡ a ++ c ++ p ++ i
regroup a c p i = sym (append_assoc a c (p ++ i)) ∙ sym (append_assoc (a ++ c) p i)

pub record FrameTaken (size : ℕ) (h : Head) (x : Control × Option ℕ × ℕ) (bytes : List ℕ) : Type 0 where
  pub within : x.2 ≤ length bytes
  pub spells : Spells size (frame h x.0 x.1 (drop x.2 bytes)) bytes

-- the parts that were read, one behind the other
joined : (size : ℕ) (h : Head) (head : ℕ) (bytes : List ℕ) (y : Control × ℕ) (z : Option ℕ × ℕ) → BeginsWith bytes h head → TakesField size head (drop head bytes) y.0 y.1 → TakesPid y.1 (drop y.1 bytes) y.0 z.0 z.1 → FrameTaken size h (y.0, z.0, z.1) bytes
joined size h head bytes y z has field pid =
    let first : take head bytes ≡ addresses_octets (addresses h) = has.spelled.spelled in
    let c = control_octets size y.0 in
    let p = pid_octets z.0 in
    let info = drop z.1 bytes in
    let field_is : drop head bytes ≡ c ++ drop y.1 bytes = field.spelled ∙ ap (λ os. c ++ os) (dropped head y.1 bytes field.later) in
    let pid_is : drop y.1 bytes ≡ p ++ info = pid.spelled ∙ ap (λ os. p ++ os) (dropped y.1 z.1 bytes pid.later) in
    let all : bytes ≡ addresses_octets (addresses h) ++ (c ++ (p ++ info)) = sym (take-append-drop head bytes) ∙ (ap (λ os. os ++ drop head bytes) first ∙ ap (λ os. addresses_octets (addresses h) ++ os) (field_is ∙ ap (λ os. c ++ os) pid_is)) in
    record {
      within = omega (arith, pid.within, field.within, length-drop y.1 bytes, length-drop head bytes, has.within);
      spells = record {
        calls = has.spelled.calls;
        eight = has.spelled.eight;
        parts = record { numbers = field.fits; pid_there = pid.there; no_info = λ none. sym (dropped y.1 z.1 bytes pid.later) ∙ pid.no_info none };
        spelled = all ∙ regroup (addresses_octets (addresses h)) c p info;
      };
    }

pub frame_takes : (size : ℕ) (bytes : List ℕ) (h : Head) (end : ℕ) (x : Control × Option ℕ × ℕ) → IsLinkModulus size → IsBytes bytes → BeginsWith bytes h end → head_end bytes ≡ Ok end → frame_at size bytes ≡ Ok x → FrameTaken size h x bytes
unfolding frame_at
frame_takes size bytes h end x m small has ends e =
    let a = bind_ok (head_end bytes) (λ at. control_at size at bytes >>= λ control. pid_at control.0 control.1 bytes >>= λ pid. Ok (control.0, pid.0, pid.1)) x e in
    let b = bind_ok (control_at size a.0 bytes) (λ control. pid_at control.0 control.1 bytes >>= λ pid. Ok (control.0, pid.0, pid.1)) x a.2 in
    let d = bind_ok (pid_at b.0.0 b.0.1 bytes) (λ pid. Ok (b.0.0, pid.0, pid.1)) x b.2 in
    let field = control_at_takes size a.0 bytes b.0 m small b.1 in
    let same : end ≡ a.0 = ok_is end a.0 (sym ends ∙ a.1) in
    let within : b.0.1 ≤ length bytes = omega (arith, field.within, length-drop a.0 bytes, has.within, same) in
    let pid = pid_takes b.0.1 bytes b.0.0 d.0 within d.1 in
    subst (λ (y : Control × Option ℕ × ℕ). FrameTaken size h y bytes) (ok_is (b.0.0, d.0.0, d.0.1) x d.2) (joined size h a.0 bytes b.0 d.0 (subst (BeginsWith bytes h) same has) field pid)
