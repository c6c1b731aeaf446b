-- Pieces of a text that are sent, one after another.
use Rattle.std.proofs.Common.{◌≡◌, ◌∙◌, ◌<◌, ◌≤◌, ◌+◌, ◌-◌, ℕ, zero, suc, refl, sym, ap, subst, arith, List, [], ◌∷◌, length, take, drop}
use Rattle.std.specs.Prelude.{◌≢◌, Bool, true, false, nat_lt, if◌then◌else◌}
use Rattle.std.proofs.lemmas.Bool.Decides.{nat_tests}
use Rattle.std.proofs.lemmas.List.{drop-drop, length-drop, length-take, take_rest}
use Rattle.ax_address.specs.Callsign.{Callsign}
use Rattle.radio_base.specs.declared.moment.Moment.{Moment}
use Rattle.station_places.specs.declared.sides.Sides.{Sides}
use Rattle.station_places.specs.Giving.{Sent, behind, first_pieces, has_taken, none_sent, octets_of, paclen, pieces, send, send_each, send_pieces}
use Rattle.station_places.specs.Looks.{link_room}
use Rattle.station_places.specs.Sides.{SidesGo, SidesStand, SidesState}
use Rattle.station_places.proofs.Pieces.{first_and_others, none_left}

drop_taken : (k : ℕ) (xs : List ℕ) → drop (length (take k xs)) xs ≡ drop k xs
drop_taken zero xs = refl
drop_taken (suc k) [] = refl
drop_taken (suc k) (x ∷ xs) = drop_taken k xs

nothing : (n : ℕ) → 0 + n ≡ n
nothing n = omega arith

module _ (now : Moment) (member : ℕ) (peer : Callsign) where
  one_sent : (p : List ℕ) (more : List (List ℕ)) (v : SidesState) (b : Bool) → nat_lt 0 (link_room member peer v) ≡ true → has_taken now member peer p v ≡ b
      → send_each now member peer (p ∷ more) v
      ≡ (if b then behind p (send_each now member peer more (send now member peer p v)) else none_sent (send now member peer p v))
  one_sent p more v b room taken =
      ap (λ c. if c
      then (if has_taken now member peer p v then behind p (send_each now member peer more (send now member peer p v)) else none_sent (send now member peer p v))
      else none_sent v) room
      ∙ ap (λ c. if c then behind p (send_each now member peer more (send now member peer p v)) else none_sent (send now member peer p v)) taken

  no_room : (ps : List (List ℕ)) (v : SidesState) → nat_lt 0 (link_room member peer v) ≡ false → send_each now member peer ps v ≡ none_sent v
  no_room [] v room = refl
  no_room (p ∷ ps) v room =
      ap (λ c. if c
      then (if has_taken now member peer p v then behind p (send_each now member peer ps (send now member peer p v)) else none_sent (send now member peer p v))
      else none_sent v) room

  -- what is left to send when so many octets of the text have gone, in at most so many pieces
  abbrev pub left : ℕ → ℕ → ℕ → List ℕ → List (List ℕ)
  left sent most n text = first_pieces n most (drop sent text)

  -- so many octets have gone, and the sides go on to the same, with the same octets
  pub record SendsOn (sent most : ℕ) (text : List ℕ) (new : Sides) (s : SidesState) : Type 0 where
    pub so : SidesState
    pub n : ℕ
    pub stands : SidesStand new so
    pub few : length (drop sent text) ≤ n
    pub after : (send_each now member peer (left sent most n text) so).after ≡ (send_pieces now member peer text s).after
    pub octets : sent + octets_of (send_each now member peer (left sent most n text) so).pieces ≡ octets_of (send_pieces now member peer text s).pieces

  abbrev pub Sends : ℕ → ℕ → List ℕ → Sides → Sides → Type 0
  Sends sent most text old new = (s : SidesState) → SidesStand old s → SendsOn sent most text new s

  pub sends_begin : (most : ℕ) (text : List ℕ) (k : Sides) → ((s : SidesState) → SidesStand k s → most ≡ paclen member s) → Sends 0 most text k k
  unfolding send_pieces
  sends_begin most text k size = λ s t.
      record {
        so = s;
        n = length text;
        stands = t;
        few = let d = length-drop 0 text in omega (arith, d);
        after = ap (λ z. (send_each now member peer (first_pieces (length text) z text) s).after) (size s t);
        octets = nothing (octets_of (send_each now member peer (left 0 most (length text) text) s).pieces)
            ∙ ap (λ z. octets_of (send_each now member peer (first_pieces (length text) z text) s).pieces) (size s t);
      }

  some_left : (sent : ℕ) (text : List ℕ) → sent < length text → 1 ≤ length (drop sent text)
  some_left sent text h = let d = length-drop sent text in omega (arith, d, h)

  front : (sent most n : ℕ) (text piece : List ℕ) → sent < length text → piece ≡ take most (drop sent text) → length (drop sent text) ≤ n
      → left sent most n text ≡ piece ∷ left (sent + length piece) most (n - 1) text
  front sent most n text piece h e few =
      let rest : drop most (drop sent text) ≡ drop (sent + length piece) text =
      sym (drop_taken most (drop sent text)) ∙ (sym (ap (λ (p : List ℕ). drop (length p) (drop sent text)) e) ∙ drop-drop (length piece) sent text) in
      first_and_others n most (drop sent text) (some_left sent text h) few
      ∙ (sym (ap (λ (p : List ℕ). p ∷ first_pieces (n - 1) most (drop most (drop sent text))) e)
      ∙ ap (λ (xs : List ℕ). piece ∷ first_pieces (n - 1) most xs) rest)

  fewer : (sent most n : ℕ) (text piece : List ℕ) → sent < length text → 1 ≤ most → piece ≡ take most (drop sent text) → length (drop sent text) ≤ n
      → length (drop (sent + length piece) text) ≤ n - 1
  fewer sent most n text piece h some e few =
      let l = length-take most (drop sent text) in
      let p : length piece ≡ length (take most (drop sent text)) = ap length e in
      let d = length-drop sent text in
      let r = length-drop (sent + length piece) text in
      omega (arith, l, p, d, r, h, some, few)

  -- the code's slice of what is left
  abbrev pub behind_first : ℕ → List ℕ → List ℕ
  behind_first sent text = take (length text - sent) (drop sent text)

  same_piece : (sent most : ℕ) (text piece : List ℕ) → piece ≡ take most (behind_first sent text) → piece ≡ take most (drop sent text)
  same_piece sent most text piece e = e ∙ ap (take most) (take_rest text sent)

  pub within : (sent most : ℕ) (text piece : List ℕ) → sent < length text → piece ≡ take most (behind_first sent text) → sent + length piece ≤ length text
  within sent most text piece h is =
      let e = same_piece sent most text piece is in
      let l = length-take most (drop sent text) in
      let p : length piece ≡ length (take most (drop sent text)) = ap length e in
      let d = length-drop sent text in
      omega (arith, l, p, d, h)

  pub longer : (sent most : ℕ) (text piece : List ℕ) → sent < length text → 1 ≤ most → piece ≡ take most (behind_first sent text)
      → length text - (sent + length piece) < length text - sent
  longer sent most text piece h some is =
      let e = same_piece sent most text piece is in
      let l = length-take most (drop sent text) in
      let p : length piece ≡ length (take most (drop sent text)) = ap length e in
      let d = length-drop sent text in
      omega (arith, l, p, d, h, some)

  has_room : (room : ℕ) (v : SidesState) → room ≢ 0 → room ≡ link_room member peer v → nat_lt 0 (link_room member peer v) ≡ true
  has_room zero v some e = absurd (some refl)
  has_room (suc n) v some e = let one : nat_lt 0 (suc n) ≡ true = grind (arith, nat_tests) in sym (ap (nat_lt 0) e) ∙ one

  has_none : (room : ℕ) (v : SidesState) → room ≡ 0 → room ≡ link_room member peer v → nat_lt 0 (link_room member peer v) ≡ false
  has_none room v none e = ap (nat_lt 0) (sym e ∙ none) ∙ refl

  pub sends_next : (sent most room : ℕ) (text piece : List ℕ) (taken : Bool) (old mid new : Sides) → sent < length text → 1 ≤ most → room ≢ 0 → taken ≡ true
      → piece ≡ take most (behind_first sent text) → Sends sent most text old mid → ((v : SidesState) → SidesStand mid v → room ≡ link_room member peer v)
      → ((v : SidesState) → SidesStand mid v → taken ≡ has_taken now member peer piece v) → SidesGo (send now member peer piece) mid new
      → Sends (sent + length piece) most text old new
  sends_next sent most room text piece taken old mid new h some there took is before rooms takes goes = λ s t.
      let i = before s t in
      let e = same_piece sent most text piece is in
      let ps = front sent most i.n text piece h e i.few in
      let rest : Sent = send_each now member peer (left (sent + length piece) most (i.n - 1) text) (send now member peer piece i.so) in
      let one : send_each now member peer (left sent most i.n text) i.so ≡ behind piece rest =
      ap (λ (xs : List (List ℕ)). send_each now member peer xs i.so) ps
      ∙ one_sent piece (left (sent + length piece) most (i.n - 1) text) i.so true (has_room room i.so there (rooms i.so i.stands)) (sym (takes i.so i.stands) ∙ took) in
      let sum : sent + length piece + octets_of rest.pieces ≡ sent + (length piece + octets_of rest.pieces) = omega arith in
      record {
        so = send now member peer piece i.so;
        n = i.n - 1;
        stands = goes i.so i.stands;
        few = fewer sent most i.n text piece h some e i.few;
        after = sym (ap (λ (x : Sent). x.after) one) ∙ i.after;
        octets = sum ∙ (sym (ap (λ (x : Sent). sent + octets_of x.pieces) one) ∙ i.octets);
      }

  -- so many octets have gone of the text in all
  abbrev pub HasSent : ℕ → List ℕ → Sides → Sides → Type 0
  HasSent sent text old new =
      (s : SidesState) → SidesStand old s
      → SidesStand new (send_pieces now member peer text s).after × (sent ≡ octets_of (send_pieces now member peer text s).pieces)

  -- where no more goes
  ends_with : (sent most : ℕ) (text : List ℕ) (new : Sides) (s : SidesState) (i : SendsOn sent most text new s) (last : Sides) (w : SidesState) → SidesStand last w
      → send_each now member peer (left sent most i.n text) i.so ≡ none_sent w
      → SidesStand last (send_pieces now member peer text s).after × (sent ≡ octets_of (send_pieces now member peer text s).pieces)
  ends_with sent most text new s i last w stands e =
      let sum : sent ≡ sent + 0 = omega arith in (
        subst (λ v. SidesStand last v) (sym (ap (λ (x : Sent). x.after) e) ∙ i.after) stands,
        sum ∙ (sym (ap (λ (x : Sent). sent + octets_of x.pieces) e) ∙ i.octets),
      )

  pub sends_end : (sent most : ℕ) (text : List ℕ) (old new : Sides) → length text ≤ sent → Sends sent most text old new → HasSent sent text old new
  sends_end sent most text old new h before = λ s t.
      let i = before s t in
      let none : length (drop sent text) ≡ 0 = let d = length-drop sent text in omega (arith, d, h) in
      ends_with sent most text new s i new i.so i.stands (ap (λ (xs : List (List ℕ)). send_each now member peer xs i.so) (none_left i.n most (drop sent text) none))

  pub sends_full : (sent most room : ℕ) (text : List ℕ) (old new : Sides) → room ≡ 0 → ((v : SidesState) → SidesStand new v → room ≡ link_room member peer v)
      → Sends sent most text old new → HasSent sent text old new
  sends_full sent most room text old new none rooms before = λ s t.
      let i = before s t in
      ends_with sent most text new s i new i.so i.stands (no_room (left sent most i.n text) i.so (has_none room i.so none (rooms i.so i.stands)))

  pub sends_refused : (sent most room : ℕ) (text piece : List ℕ) (taken : Bool) (old mid new : Sides) → sent < length text → room ≢ 0 → taken ≡ false
      → piece ≡ take most (behind_first sent text) → Sends sent most text old mid → ((v : SidesState) → SidesStand mid v → room ≡ link_room member peer v)
      → ((v : SidesState) → SidesStand mid v → taken ≡ has_taken now member peer piece v) → SidesGo (send now member peer piece) mid new
      → HasSent sent text old new
  sends_refused sent most room text piece taken old mid new h there kept is before rooms takes goes = λ s t.
      let i = before s t in
      let e = same_piece sent most text piece is in
      let one = ap (λ (xs : List (List ℕ)). send_each now member peer xs i.so) (front sent most i.n text piece h e i.few)
      ∙ one_sent piece (left (sent + length piece) most (i.n - 1) text) i.so false (has_room room i.so there (rooms i.so i.stands)) (sym (takes i.so i.stands) ∙ kept) in
      ends_with sent most text mid s i new (send now member peer piece i.so) (goes i.so i.stands) one

  pub end_goes : (sent most : ℕ) (text : List ℕ) (old new : Sides) → length text ≤ sent → Sends sent most text old new
      → SidesGo (λ s. (send_pieces now member peer text s).after) old new
  end_goes sent most text old new h before = λ s t. (sends_end sent most text old new h before s t).0

  pub end_count : (sent most : ℕ) (text : List ℕ) (old new : Sides) → length text ≤ sent → Sends sent most text old new
      → (s : SidesState) → SidesStand old s → sent ≡ octets_of (send_pieces now member peer text s).pieces
  end_count sent most text old new h before = λ s t. (sends_end sent most text old new h before s t).1

  pub full_goes : (sent most room : ℕ) (text : List ℕ) (old new : Sides) → room ≡ 0 → ((v : SidesState) → SidesStand new v → room ≡ link_room member peer v)
      → Sends sent most text old new → SidesGo (λ s. (send_pieces now member peer text s).after) old new
  full_goes sent most room text old new none rooms before = λ s t. (sends_full sent most room text old new none rooms before s t).0

  pub full_count : (sent most room : ℕ) (text : List ℕ) (old new : Sides) → room ≡ 0 → ((v : SidesState) → SidesStand new v → room ≡ link_room member peer v)
      → Sends sent most text old new → (s : SidesState) → SidesStand old s → sent ≡ octets_of (send_pieces now member peer text s).pieces
  full_count sent most room text old new none rooms before = λ s t. (sends_full sent most room text old new none rooms before s t).1

  pub refused_goes : (sent most room : ℕ) (text piece : List ℕ) (taken : Bool) (old mid new : Sides) → sent < length text → room ≢ 0 → taken ≡ false
      → piece ≡ take most (behind_first sent text) → Sends sent most text old mid → ((v : SidesState) → SidesStand mid v → room ≡ link_room member peer v)
      → ((v : SidesState) → SidesStand mid v → taken ≡ has_taken now member peer piece v) → SidesGo (send now member peer piece) mid new
      → SidesGo (λ s. (send_pieces now member peer text s).after) old new
  refused_goes sent most room text piece taken old mid new h there kept is before rooms takes goes =
      λ s t. (sends_refused sent most room text piece taken old mid new h there kept is before rooms takes goes s t).0

  pub refused_count : (sent most room : ℕ) (text piece : List ℕ) (taken : Bool) (old mid new : Sides) → sent < length text → room ≢ 0 → taken ≡ false
      → piece ≡ take most (behind_first sent text) → Sends sent most text old mid → ((v : SidesState) → SidesStand mid v → room ≡ link_room member peer v)
      → ((v : SidesState) → SidesStand mid v → taken ≡ has_taken now member peer piece v) → SidesGo (send now member peer piece) mid new
      → (s : SidesState) → SidesStand old s → sent ≡ octets_of (send_pieces now member peer text s).pieces
  refused_count sent most room text piece taken old mid new h there kept is before rooms takes goes =
      λ s t. (sends_refused sent most room text piece taken old mid new h there kept is before rooms takes goes s t).1
