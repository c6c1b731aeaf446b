-- The first fault of octets is at the first octet that no frame has at its place, or where one must follow.
use Rattle.std.proofs.Common.{◌≡◌, ◌≤◌, ◌<◌, ◌+◌, ◌++◌, ◌∙◌, ◌⊎◌, inl, inr, ℕ, refl, sym, ap, subst, List, [], ◌∷◌, length, take, arith, Bool, true, false}
use Rattle.std.specs.Prelude.{Option, Some, None, Result, Ok, Err, slice_get}
use Rattle.std.proofs.lemmas.List.{append_assoc, length-append, length-take}
use Rattle.std.proofs.lemmas.Bool.{cases_lt}
use Rattle.ax_address.specs.Octets as octets
use Rattle.ax_address.proofs.CallOctets.{none_past}
use Rattle.ax_frame.specs.declared.control.Control.{Control}
use Rattle.ax_frame.specs.declared.frame.FrameRefusal.{FrameRefusal}
use Rattle.ax_frame.specs.declared.frame.FrameRefusal.TheVariants.{NoPid, ExtraInfo}
use Rattle.ax_frame.specs.Controls.{has_pid, takes_info}
use Rattle.ax_frame.specs.Reading.{head_end, control_at, pid_at, frame_at, first_fault}
use Rattle.ax_frame.specs.Faults.{refused_place, FirstBad, FaultIsFirst}
use Rattle.ax_frame.proofs.Kept.{kept_less, kept_of}
use Rattle.ax_frame.proofs.HeadFaults.{Ends, Fails, head_ends, head_fails}
use Rattle.ax_frame.proofs.FieldFaults.{Field, FieldRead, FieldBad, field_of, sabm_goes, get_behind, pid_plain, pid_there, pid_extra, pid_info, pid_missing}

-- ---- the parts of a frame, one behind the other

fault_in_head : (size : ℕ) (os : List ℕ) (e : FrameRefusal) → head_end os ≡ Err e → first_fault size os ≡ Some e
unfolding frame_at
fault_in_head size os e h = rw h refl

fault_in_field : (size at : ℕ) (os : List ℕ) (e : FrameRefusal) → head_end os ≡ Ok at → control_at size at os ≡ Err e → first_fault size os ≡ Some e
unfolding frame_at
fault_in_field size at os e h k = rw (h, k) refl

fault_in_pid : (size at end : ℕ) (os : List ℕ) (c : Control) (e : FrameRefusal) → head_end os ≡ Ok at → control_at size at os ≡ Ok (c, end) → pid_at c end os ≡ Err e → first_fault size os ≡ Some e
unfolding frame_at
fault_in_pid size at end os c e h k l = rw (h, k, l) refl

no_fault : (size at end info : ℕ) (os : List ℕ) (c : Control) (pid : Option ℕ) → head_end os ≡ Ok at → control_at size at os ≡ Ok (c, end) → pid_at c end os ≡ Ok (pid, info) → first_fault size os ≡ None
unfolding frame_at
no_fault size at end info os c pid h k l = rw (h, k, l) refl

-- ---- a fault in each part

abbrev some_fault : FrameRefusal → Option FrameRefusal
some_fault e = Some e

same_fault : (d e : FrameRefusal) → some_fault d ≡ some_fault e → d ≡ e
same_fault d e h = cc

in_head : (size : ℕ) (bytes : List ℕ) (e : FrameRefusal) → Fails head_end bytes e → FirstBad size bytes e
in_head size bytes e f =
    let front = take (refused_place e) bytes ++ f.more in
    let goes = sabm_goes size (length front) front refl in
    record {
      place = f.place;
      before = (
        f.more ++ goes.more,
        ap (first_fault size) (sym (append_assoc (take (refused_place e) bytes) f.more goes.more))
            ∙ no_fault size (length front) goes.end goes.info (front ++ goes.more) goes.control goes.pid (f.goes_on goes.more) goes.read goes.told,
      );
      stays = λ there more. fault_in_head size (take (refused_place e + 1) bytes ++ more) e (f.stays there (take (refused_place e + 1) bytes ++ more) (kept_of (refused_place e + 1) bytes more (omega (arith, there))));
    }

in_field : (size at : ℕ) (bytes : List ℕ) (e : FrameRefusal) → Ends head_end bytes at → FieldBad size at bytes e → FirstBad size bytes e
in_field size at bytes e head bad =
    let goes = bad.goes_on in
    let os = take (refused_place e) bytes ++ goes.more in
    let kept = kept_of (refused_place e) bytes goes.more bad.within in
    record {
      place = bad.place;
      before = (goes.more, no_fault size at goes.end goes.info os goes.control goes.pid (head.kept os (kept_less at (refused_place e) bytes os bad.later kept)) goes.read goes.told);
      stays = λ there more.
          let other = take (refused_place e + 1) bytes ++ more in
          let same = kept_of (refused_place e + 1) bytes more (omega (arith, there)) in
          fault_in_field size at other e (head.kept other (kept_less at (refused_place e + 1) bytes other (omega (arith, bad.later)) same)) (bad.stays there other same);
    }

-- the PID is missing
no_pid : (size at end : ℕ) (bytes : List ℕ) (c : Control) → Ends head_end bytes at → FieldRead size at bytes c end → has_pid c ≡ true → slice_get bytes end ≡ None → FirstBad size bytes (NoPid end)
no_pid size at end bytes c head field has none =
    let all : end ≡ length bytes = omega (arith, field.within, none_past bytes end none) in
    let os = take end bytes ++ 240 ∷ [] in
    let kept = kept_of end bytes (240 ∷ []) field.within in
    let there : slice_get os end ≡ Some 240 = get_behind (take end bytes) [] 240 end (omega (arith, length-take end bytes, all)) in
    record {
      place = all;
      before = (240 ∷ [], no_fault size at end (end + 1) os c (Some 240) (head.kept os (kept_less at end bytes os field.later kept)) (field.kept os kept) (pid_there c end 240 os has there));
      stays = λ l more. absurd (omega (arith, l, all));
    }

-- an octet stands behind a control field of a kind without information
extra : (size at end : ℕ) (bytes : List ℕ) (c : Control) → Ends head_end bytes at → FieldRead size at bytes c end → has_pid c ≡ false → takes_info c ≡ false → end < length bytes → FirstBad size bytes (ExtraInfo end)
extra size at end bytes c head field none without there =
    let os = take end bytes ++ [] in
    let kept = kept_of end bytes [] field.within in
    let len : length os ≤ end = omega (arith, length-append (take end bytes) [], length-take end bytes) in
    record {
      place = there;
      before = ([], no_fault size at end end os c None (head.kept os (kept_less at end bytes os field.later kept)) (field.kept os kept) (pid_plain c end os none len));
      stays = λ _ more.
          let other = take (end + 1) bytes ++ more in
          let same = kept_of (end + 1) bytes more (omega (arith, there)) in
          let front = kept_less end (end + 1) bytes other (omega arith) same in
          fault_in_pid size at end other c (ExtraInfo end) (head.kept other (kept_less at end bytes other field.later front)) (field.kept other front) (pid_extra c end other none without (omega (arith, same.long)));
    }

-- ---- whichever it is

ends_there : (size at end : ℕ) (bytes : List ℕ) (c : Control) (e : FrameRefusal) (b : Bool) → head_end bytes ≡ Ok at → Ends head_end bytes at → control_at size at bytes ≡ Ok (c, end) → FieldRead size at bytes c end → has_pid c ≡ false → takes_info c ≡ b
    → (end < length bytes) ⊎ (length bytes ≤ end) → first_fault size bytes ≡ Some e → FirstBad size bytes e
ends_there size at end bytes c e b h head k field none info (inr past) f =
    absurd (let fine = no_fault size at end end bytes c None h k (pid_plain c end bytes none past) in cc)
ends_there size at end bytes c e false h head k field none info (inl there) f =
    let fault = fault_in_pid size at end bytes c (ExtraInfo end) h k (pid_extra c end bytes none info there) in
    subst (FirstBad size bytes) (same_fault (ExtraInfo end) e (sym fault ∙ f)) (extra size at end bytes c head field none info there)
ends_there size at end bytes c e true h head k field none info (inl there) f =
    absurd (let fine = no_fault size at end end bytes c None h k (pid_info c end bytes none info) in cc)

behind_field : (size at end : ℕ) (bytes : List ℕ) (c : Control) (e : FrameRefusal) (t : Bool) (o : Option ℕ) → head_end bytes ≡ Ok at → Ends head_end bytes at → control_at size at bytes ≡ Ok (c, end) → FieldRead size at bytes c end → has_pid c ≡ t → slice_get bytes end ≡ o → first_fault size bytes ≡ Some e → FirstBad size bytes e
behind_field size at end bytes c e true None h head k field t o f =
    let fault = fault_in_pid size at end bytes c (NoPid end) h k (pid_missing c end bytes t o) in
    subst (FirstBad size bytes) (same_fault (NoPid end) e (sym fault ∙ f)) (no_pid size at end bytes c head field t o)
behind_field size at end bytes c e true (Some p) h head k field t o f =
    absurd (let fine = no_fault size at end (end + 1) bytes c (Some p) h k (pid_there c end p bytes t o) in cc)
behind_field size at end bytes c e false o h head k field t there f =
    ends_there size at end bytes c e (takes_info c) h head k field t refl (cases_lt end (length bytes)) f

abbrev FieldRefusal : Type 0
FieldRefusal = Result (Control × ℕ) FrameRefusal

by_field : (size at : ℕ) (bytes : List ℕ) (e : FrameRefusal) (r : FieldRefusal) → head_end bytes ≡ Ok at → Ends head_end bytes at → control_at size at bytes ≡ r → Field size at bytes r → first_fault size bytes ≡ Some e → FirstBad size bytes e
by_field size at bytes e (Err d) h head k bad f =
    subst (FirstBad size bytes) (same_fault d e (sym (fault_in_field size at bytes d h k) ∙ f)) (in_field size at bytes d head bad)
by_field size at bytes e (Ok x) h head k field f =
    behind_field size at x.1 bytes x.0 e (has_pid x.0) (slice_get bytes x.1) h head k field refl refl f

by_head : octets.FaultIsFirst → octets.FrontGoesOn → (size : ℕ) (bytes : List ℕ) (e : FrameRefusal) (r : Result ℕ FrameRefusal) → head_end bytes ≡ r → first_fault size bytes ≡ Some e → FirstBad size bytes e
by_head first law size bytes e (Err d) h f =
    subst (FirstBad size bytes) (same_fault d e (sym (fault_in_head size bytes d h) ∙ f)) (in_head size bytes d (head_fails first law bytes d h))
by_head first law size bytes e (Ok at) h f =
    let head = head_ends bytes at h in
    by_field size at bytes e (control_at size at bytes) h head refl (field_of size at bytes head.within) f

pub fault_is_first : octets.FaultIsFirst → octets.FrontGoesOn → FaultIsFirst
fault_is_first first law size bytes e f = by_head first law size bytes e (head_end bytes) refl f
