-- Where the first fault of a head stands.
use Rattle.std.proofs.Common.{◌≡◌, ◌≤◌, ◌<◌, ◌+◌, ◌-◌, ◌*◌, ◌%◌, ◌++◌, ◌∙◌, ℕ, zero, suc, refl, sym, ap, subst, List, [], ◌∷◌, length, take, drop, get_or, arith, Bool, true, false}
use Rattle.std.specs.Prelude.{◌==◌, Result, Ok, Err, None}
use Rattle.std.proofs.lemmas.List.{append_assoc, take-take, drop_at, length-append, length-take, get_or-drop}
use Rattle.ax_address.specs.Octets as octets
use Rattle.ax_address.specs.Octets.{address_fault}
use Rattle.ax_frame.specs.declared.frame.FrameRefusal.{FrameRefusal}
use Rattle.ax_frame.specs.declared.frame.FrameRefusal.TheVariants.{BadCall, TooManyRepeaters}
use Rattle.ax_frame.specs.Reading.{extension_at, addresses_end, head_end}
use Rattle.ax_frame.specs.Faults.{refused_place, IsPlaced}
use Rattle.ax_frame.proofs.Kept.{Kept, kept_less, kept_of}
use Rattle.ax_frame.proofs.Addresses.{end_refused, end_here, end_later, end_nowhere, head_refused, head_ended, head_goes_on}
use Rattle.ax_frame.proofs.AddressFaults.{Read, Bad, extension_read, extension_bad, ended_by, six_same, extension_is}

-- ---- where the addresses end

-- they end there, which depends on what stands before alone
pub record Ends (parse : List ℕ → Result ℕ FrameRefusal) (bytes : List ℕ) (end : ℕ) : Type 0 where
  pub within : end ≤ length bytes
  pub kept : (other : List ℕ) → Kept end bytes other → parse other ≡ Ok end

-- a fault
pub record Fails (parse : List ℕ → Result ℕ FrameRefusal) (bytes : List ℕ) (e : FrameRefusal) : Type 0 where
  pub place : IsPlaced bytes e
  pub within : refused_place e ≤ length bytes
  pub stays : refused_place e < length bytes → (other : List ℕ) → Kept (refused_place e + 1) bytes other → parse other ≡ Err e
  -- octets with which they end, whatever follows
  pub more : List ℕ
  pub goes_on : (tail : List ℕ) → parse ((take (refused_place e) bytes ++ more) ++ tail) ≡ Ok (length (take (refused_place e) bytes ++ more))

abbrev ok_place : ℕ → Result ℕ FrameRefusal
ok_place n = Ok n

abbrev err_place : FrameRefusal → Result ℕ FrameRefusal
err_place e = Err e

same_place : (m n : ℕ) → ok_place m ≡ ok_place n → m ≡ n
same_place m n h = cc

same_refusal : (d e : FrameRefusal) → err_place d ≡ err_place e → d ≡ e
same_refusal d e h = cc

-- ---- the addresses from one on

record EndsLater (n at : ℕ) (bytes : List ℕ) (end : ℕ) : Type 0 where
  later : at + 7 ≤ end
  ends : Ends (addresses_end n at) bytes end

ends_by : (n at : ℕ) (bytes : List ℕ) (end : ℕ) (r : Result Bool FrameRefusal) → extension_at at bytes ≡ r → ((last : ℕ) → addresses_end n (at + 7) bytes ≡ Ok last → EndsLater n (at + 7) bytes last) → addresses_end (suc n) at bytes ≡ Ok end → EndsLater (suc n) at bytes end
ends_by n at bytes end (Err e) x ih h = absurd (let k : addresses_end (suc n) at bytes ≡ Err e = end_refused (suc n) at bytes e (omega arith) x in cc)
ends_by n at bytes end (Ok true) x ih h =
    let k : addresses_end (suc n) at bytes ≡ Ok (at + 7) = end_here (suc n) at bytes (omega arith) x in
    let same : at + 7 ≡ end = same_place (at + 7) end (sym k ∙ h) in
    let read = extension_read at bytes true x in
    record {
      later = omega (arith, same);
      ends = record {
        within = omega (arith, same, read.long);
        kept = λ other kept. end_here (suc n) at other (omega arith) (read.kept other (rw same kept)) ∙ ap ok_place same;
      };
    }
ends_by n at bytes end (Ok false) x ih h =
    let e : suc n - 1 ≡ n = omega arith in
    let k : addresses_end (suc n) at bytes ≡ addresses_end n (at + 7) bytes = rw e at (end_later (suc n) at bytes (omega arith) x) in
    let read = extension_read at bytes false x in
    let more = ih end (sym k ∙ h) in
    record {
      later = omega (arith, more.later);
      ends = record {
        within = more.ends.within;
        kept = λ other kept.
            let here = read.kept other (kept_less (at + 7) end bytes other (omega (arith, more.later)) kept) in
            let next : addresses_end (suc n) at other ≡ addresses_end n (at + 7) other = rw e at (end_later (suc n) at other (omega arith) here) in
            next ∙ more.ends.kept other kept;
      };
    }

ends_later : (n at : ℕ) (bytes : List ℕ) (end : ℕ) → addresses_end n at bytes ≡ Ok end → EndsLater n at bytes end
unfolding addresses_end
ends_later zero at bytes end h = absurd cc
ends_later (suc n) at bytes end h = ends_by n at bytes end (extension_at at bytes) refl (λ last k. ends_later n (at + 7) bytes last k) h

record FailsLater (n at : ℕ) (bytes : List ℕ) (e : FrameRefusal) : Type 0 where
  later : at ≤ refused_place e
  fails : Fails (addresses_end n at) bytes e

-- 97 is a last octet with SSID 0, both reserved bits and the extension bit; 96 is one without that bit
fails_here : (n at : ℕ) (bytes : List ℕ) (e : FrameRefusal) → Bad at bytes e → FailsLater (suc n) at bytes e
fails_here n at bytes e bad =
    let front = take (refused_place e) bytes in
    let m = bad.goes_on.0 in
    let last : List ℕ = 97 ∷ [] in
    let long : length (front ++ (m ++ last)) ≡ at + 7 = omega (arith, length-append front (m ++ last), length-append m last, length-append front m, bad.goes_on.1) in
    record {
      later = bad.later;
      fails = record {
        place = bad.place;
        within = bad.within;
        stays = λ there other kept. end_refused (suc n) at other e (omega arith) (bad.stays there other kept);
        more = m ++ last;
        goes_on = λ tail.
            let split : (front ++ (m ++ last)) ++ tail ≡ (front ++ m) ++ 97 ∷ tail = ap (λ os. os ++ tail) (sym (append_assoc front m last)) ∙ append_assoc (front ++ m) last tail in
            let ended : addresses_end (suc n) at ((front ++ m) ++ 97 ∷ tail) ≡ Ok (at + 7) = end_here (suc n) at ((front ++ m) ++ 97 ∷ tail) (omega arith) (ended_by at (front ++ m) tail 97 true bad.goes_on.1 bad.goes_on.2 refl) in
            ap (addresses_end (suc n) at) split ∙ (ended ∙ ap ok_place (sym long));
      };
    }

-- the eighth repeater has no extension bit
fails_past : (at : ℕ) (bytes : List ℕ) → at ≡ 63 → Read at bytes false → addresses_end 1 at bytes ≡ Err TooManyRepeaters → FailsLater 1 at bytes TooManyRepeaters
fails_past at bytes is read h =
    let there : 69 < length bytes = omega (arith, is, read.long) in
    let front = take 69 bytes in
    let last : List ℕ = 97 ∷ [] in
    let len : length front ≡ at + 6 = omega (arith, length-take 69 bytes, there, is) in
    let kept : Kept (at + 6) bytes front = record { same = let e : at + 6 ≡ 69 = omega (arith, is) in rw e (take-take 69 69 bytes (omega arith)); long = omega (arith, len) } in
    let none : address_fault (drop at front) ≡ None = six_same at bytes front kept ∙ read.none in
    record {
      later = omega (arith, is);
      fails = record {
        place = there;
        within = omega (arith, there);
        stays = λ _ other kept.
            let e : 69 + 1 ≡ at + 7 = omega (arith, is) in
            let here = read.kept other (rw e at kept) in
            end_later 1 at other (omega arith) here ∙ end_nowhere 0 (at + 7) other refl;
        more = last;
        goes_on = λ tail.
            let ended : addresses_end 1 at (front ++ 97 ∷ tail) ≡ Ok (at + 7) = end_here 1 at (front ++ 97 ∷ tail) (omega arith) (ended_by at front tail 97 true len none refl) in
            let long : length (front ++ last) ≡ at + 7 = omega (arith, length-append front last, len) in
            ap (addresses_end 1 at) (append_assoc front last tail) ∙ (ended ∙ ap ok_place (sym long));
      };
    }

fails_next : (n at : ℕ) (bytes : List ℕ) (e : FrameRefusal) → Read at bytes false → FailsLater n (at + 7) bytes e → FailsLater (suc n) at bytes e
fails_next n at bytes e read ih =
    let k : suc n - 1 ≡ n = omega arith in
    let step : (other : List ℕ) → Kept (at + 7) bytes other → addresses_end (suc n) at other ≡ addresses_end n (at + 7) other =
    λ other kept. rw k at (end_later (suc n) at other (omega arith) (read.kept other kept)) in
    let more = ih.fails.more in
    let front = take (refused_place e) bytes in
    record {
      later = omega (arith, ih.later);
      fails = record {
        place = ih.fails.place;
        within = ih.fails.within;
        stays = λ there other kept. step other (kept_less (at + 7) (refused_place e + 1) bytes other (omega (arith, ih.later)) kept) ∙ ih.fails.stays there other kept;
        more = more;
        goes_on = λ tail.
            let kept : Kept (refused_place e) bytes ((front ++ more) ++ tail) = subst (Kept (refused_place e) bytes) (sym (append_assoc front more tail)) (kept_of (refused_place e) bytes (more ++ tail) ih.fails.within) in
            step ((front ++ more) ++ tail) (kept_less (at + 7) (refused_place e) bytes ((front ++ more) ++ tail) ih.later kept) ∙ ih.fails.goes_on tail;
      };
    }

fails_by : octets.FaultIsFirst → octets.FrontGoesOn → (n at : ℕ) (bytes : List ℕ) (e : FrameRefusal) (r : Result Bool FrameRefusal) → at ≤ length bytes → at + 7 * suc n ≡ 70 → extension_at at bytes ≡ r
    → ((m : ℕ) → n ≡ suc m → at + 7 ≤ length bytes → addresses_end n (at + 7) bytes ≡ Err e → FailsLater n (at + 7) bytes e) → addresses_end (suc n) at bytes ≡ Err e → FailsLater (suc n) at bytes e
fails_by first law n at bytes e (Err d) within count x ih h =
    let k : addresses_end (suc n) at bytes ≡ Err d = end_refused (suc n) at bytes d (omega arith) x in
    let same : d ≡ e = same_refusal d e (sym k ∙ h) in
    subst (FailsLater (suc n) at bytes) same (fails_here n at bytes d (extension_bad first law at bytes d within x))
fails_by first law n at bytes e (Ok true) within count x ih h = absurd (let k : addresses_end (suc n) at bytes ≡ Ok (at + 7) = end_here (suc n) at bytes (omega arith) x in cc)
fails_by first law zero at bytes e (Ok false) within count x ih h =
    let k : addresses_end 1 at bytes ≡ Err TooManyRepeaters = end_later 1 at bytes (omega arith) x ∙ end_nowhere 0 (at + 7) bytes refl in
    let same : TooManyRepeaters ≡ e = same_refusal TooManyRepeaters e (sym k ∙ h) in
    subst (FailsLater 1 at bytes) same (fails_past at bytes (omega (arith, count)) (extension_read at bytes false x) k)
fails_by first law (suc m) at bytes e (Ok false) within count x ih h =
    let read = extension_read at bytes false x in
    let n : suc (suc m) - 1 ≡ suc m = omega arith in
    let k : addresses_end (suc (suc m)) at bytes ≡ addresses_end (suc m) (at + 7) bytes = rw n at (end_later (suc (suc m)) at bytes (omega arith) x) in
    fails_next (suc m) at bytes e read (ih m refl read.long (sym k ∙ h))

fails_later : octets.FaultIsFirst → octets.FrontGoesOn → (n at : ℕ) (bytes : List ℕ) (e : FrameRefusal) → at ≤ length bytes → at + 7 * suc n ≡ 70 → addresses_end (suc n) at bytes ≡ Err e → FailsLater (suc n) at bytes e
fails_later first law zero at bytes e within count h = fails_by first law zero at bytes e (extension_at at bytes) within count refl (λ m z. absurd (omega (arith, z))) h
fails_later first law (suc m) at bytes e within count h =
    fails_by first law (suc m) at bytes e (extension_at at bytes) within count refl (λ k z long. fails_later first law m (at + 7) bytes e long (omega (arith, count))) h

-- ---- the head

head_ends_by : (bytes : List ℕ) (end : ℕ) (r : Result Bool FrameRefusal) → extension_at 0 bytes ≡ r → head_end bytes ≡ Ok end → Ends head_end bytes end
head_ends_by bytes end (Err e) x h = absurd (let k = head_refused bytes e x in cc)
head_ends_by bytes end (Ok true) x h = absurd (let k = head_ended bytes x in cc)
head_ends_by bytes end (Ok false) x h =
    let read = extension_read 0 bytes false x in
    let more = ends_later 9 7 bytes end (sym (head_goes_on bytes x) ∙ h) in
    record {
      within = more.ends.within;
      kept = λ other kept. head_goes_on other (read.kept other (kept_less 7 end bytes other (omega (arith, more.later)) kept)) ∙ more.ends.kept other kept;
    }

pub head_ends : (bytes : List ℕ) (end : ℕ) → head_end bytes ≡ Ok end → Ends head_end bytes end
head_ends bytes end h = head_ends_by bytes end (extension_at 0 bytes) refl h

-- a source A with SSID 0 and the extension bit
abbrev source : List ℕ
source = 130 ∷ 64 ∷ 64 ∷ 64 ∷ 64 ∷ 64 ∷ 97 ∷ []

-- a destination in the front, and that source
with_source : (front tail : List ℕ) → length front ≡ 6 → address_fault front ≡ None → head_end ((front ++ 96 ∷ source) ++ tail) ≡ Ok 14
with_source front tail len none =
    let os = (front ++ 96 ∷ source) ++ tail in
    let split : os ≡ front ++ 96 ∷ (source ++ tail) = append_assoc front (96 ∷ source) tail in
    let dest : extension_at 0 (front ++ 96 ∷ (source ++ tail)) ≡ Ok false = ended_by 0 front (source ++ tail) 96 false len none refl in
    let parted : front ++ 96 ∷ (source ++ tail) ≡ (front ++ 96 ∷ []) ++ (source ++ tail) = sym (append_assoc front (96 ∷ []) (source ++ tail)) in
    let seven : length (front ++ 96 ∷ []) ≡ 7 = omega (arith, length-append front (96 ∷ []), len) in
    let rest : drop 7 (front ++ 96 ∷ (source ++ tail)) ≡ source ++ tail = ap (drop 7) parted ∙ drop_at (front ++ 96 ∷ []) (source ++ tail) 7 seven in
    let fault : address_fault (drop 7 (front ++ 96 ∷ (source ++ tail))) ≡ None = ap address_fault rest in
    let long : 7 + 7 ≤ length (front ++ 96 ∷ (source ++ tail)) = omega (arith, length-append front (96 ∷ (source ++ tail)), len) in
    let bit : (get_or (front ++ 96 ∷ (source ++ tail)) (7 + 6) 0 % 2 == 1) ≡ true = ap (λ n. n % 2 == 1) (sym (get_or-drop 7 (front ++ 96 ∷ (source ++ tail)) 6 0)) ∙ ap (λ (xs : List ℕ). get_or xs 6 0 % 2 == 1) rest in
    let from : extension_at 7 (front ++ 96 ∷ (source ++ tail)) ≡ Ok true = extension_is 7 (front ++ 96 ∷ (source ++ tail)) true fault long bit in
    ap head_end split ∙ (head_goes_on (front ++ 96 ∷ (source ++ tail)) dest ∙ end_here 9 7 (front ++ 96 ∷ (source ++ tail)) (omega arith) from)

head_fails_here : (bytes : List ℕ) (e : FrameRefusal) → Bad 0 bytes e → Fails head_end bytes e
head_fails_here bytes e bad =
    let front = take (refused_place e) bytes in
    let m = bad.goes_on.0 in
    let long : length (front ++ (m ++ 96 ∷ source)) ≡ 14 = omega (arith, length-append front (m ++ 96 ∷ source), length-append m (96 ∷ source), length-append front m, bad.goes_on.1) in
    record {
      place = bad.place;
      within = bad.within;
      stays = λ there other kept. head_refused other e (bad.stays there other kept);
      more = m ++ 96 ∷ source;
      goes_on = λ tail. ap (λ os. head_end (os ++ tail)) (sym (append_assoc front m (96 ∷ source))) ∙ (with_source (front ++ m) tail bad.goes_on.1 bad.goes_on.2 ∙ ap ok_place (sym long));
    }

head_fails_last : (bytes : List ℕ) → Read 0 bytes true → Fails head_end bytes (BadCall 6)
head_fails_last bytes read =
    let front = take 6 bytes in
    let len : length front ≡ 6 = omega (arith, length-take 6 bytes, read.long) in
    let kept : Kept 6 bytes front = record { same = take-take 6 6 bytes (omega arith); long = omega (arith, len) } in
    let none : address_fault front ≡ None = six_same 0 bytes front kept ∙ read.none in
    let long : length (front ++ 96 ∷ source) ≡ 14 = omega (arith, length-append front (96 ∷ source), len) in
    record {
      place = omega (arith, read.long);
      within = omega (arith, read.long);
      stays = λ _ other kept. head_ended other (read.kept other kept);
      more = 96 ∷ source;
      goes_on = λ tail. with_source front tail len none ∙ ap ok_place (sym long);
    }

head_fails_by : octets.FaultIsFirst → octets.FrontGoesOn → (bytes : List ℕ) (e : FrameRefusal) (r : Result Bool FrameRefusal) → extension_at 0 bytes ≡ r → head_end bytes ≡ Err e → Fails head_end bytes e
head_fails_by first law bytes e (Err d) x h =
    let k = head_refused bytes d x in
    subst (Fails head_end bytes) (same_refusal d e (sym k ∙ h)) (head_fails_here bytes d (extension_bad first law 0 bytes d (omega arith) x))
head_fails_by first law bytes e (Ok true) x h =
    let k = head_ended bytes x in
    subst (Fails head_end bytes) (same_refusal (BadCall 6) e (sym k ∙ h)) (head_fails_last bytes (extension_read 0 bytes true x))
head_fails_by first law bytes e (Ok false) x h =
    let read = extension_read 0 bytes false x in
    let f = fails_later first law 8 7 bytes e (omega (arith, read.long)) refl (sym (head_goes_on bytes x) ∙ h) in
    let step : (other : List ℕ) → Kept 7 bytes other → head_end other ≡ addresses_end 9 7 other = λ other kept. head_goes_on other (read.kept other kept) in
    let more = f.fails.more in
    let front = take (refused_place e) bytes in
    record {
      place = f.fails.place;
      within = f.fails.within;
      stays = λ there other kept. step other (kept_less 7 (refused_place e + 1) bytes other (omega (arith, f.later)) kept) ∙ f.fails.stays there other kept;
      more = more;
      goes_on = λ tail.
          let kept : Kept (refused_place e) bytes ((front ++ more) ++ tail) = subst (Kept (refused_place e) bytes) (sym (append_assoc front more tail)) (kept_of (refused_place e) bytes (more ++ tail) f.fails.within) in
          step ((front ++ more) ++ tail) (kept_less 7 (refused_place e) bytes ((front ++ more) ++ tail) f.later kept) ∙ f.fails.goes_on tail;
    }

pub head_fails : octets.FaultIsFirst → octets.FrontGoesOn → (bytes : List ℕ) (e : FrameRefusal) → head_end bytes ≡ Err e → Fails head_end bytes e
head_fails first law bytes e h = head_fails_by first law bytes e (extension_at 0 bytes) refl h
