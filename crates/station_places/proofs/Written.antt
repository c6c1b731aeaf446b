-- A text that is given to an end is written there.
use Rattle.std.proofs.Common.{◌≡◌, ◌∙◌, ◌≤◌, ◌<◌, ◌+◌, ◌⊎◌, ℕ, refl, sym, ap, arith, List, [], ◌∷◌, ◌++◌, length, inl, inr}
use Rattle.std.specs.Prelude.{Bool, true, false, ◌&&◌, not, nat_eq, nat_le, nat_lt, slice_get, if◌then◌else◌, Option, Some, None, Result, Ok, Err}
use Rattle.std.proofs.lemmas.Bool.{and_parts}
use Rattle.std.proofs.lemmas.Bool.Decides.{nat_tests}
use Rattle.std.proofs.lemmas.Option.{slice_get_within}
use Rattle.circuit_l4.specs.Opening.{facts_of}
use Rattle.circuit_l4.specs.State as one
use Rattle.circuit_l4.specs.Table as end
use Rattle.circuit_l4.specs.declared.refusal.WriteRefusal.{WriteRefusal}
use Rattle.circuit_l4.specs.declared.refusal.WriteRefusal.TheVariants as writing
use Rattle.circuit_table.specs.CircuitSets.{facts_at}
use Rattle.circuit_table.specs.Sets as sets
use Rattle.circuit_table.specs.Sets.{Holder}
use Rattle.circuit_table.specs.Standing.{by_write, write_answer}
use Rattle.circuit_table.specs.declared.refusal.SetRefusal.{SetRefusal}
use Rattle.circuit_table.specs.declared.refusal.SetRefusal.TheVariants as set_refusal
use Rattle.node_core.specs.Acts as acts
use Rattle.node_core.specs.Acts.{Answered, Write}
use Rattle.node_core.specs.Inputs.{moment}
use Rattle.node_model.specs.States.{NodeState, State}
use Rattle.node_model.specs.Users.{end_at}
use Rattle.radio_base.specs.declared.moment.Moment.{Moment}
use Rattle.station_members.specs.States as states
use Rattle.station_places.specs.Ends as ends
use Rattle.station_places.specs.Laws.{EndsAreGiven, IsGiven, IsHost, IsWritten}
use Rattle.station_places.specs.Looks.{has_room}
use Rattle.station_places.specs.Sides.{SidesState, act, node_at}
use Rattle.station_sessions.specs.declared.place.Place.TheVariants.{End}
use Rattle.station_places.proofs.Asking.{answered_at, unless_kept}

-- ---- an act is given to the node of a member that stands

given_if : (now : Moment) (member : ℕ) (a : acts.UserAct) (s : SidesState) → nat_lt member (length s.members.nodes) ≡ true → IsGiven now member a s (act now member a s)
unfolding states.give
given_if now member a s e = rw e refl

pub act_is_given : (now : Moment) (member : ℕ) (a : acts.UserAct) (s : SidesState) (n : NodeState) → node_at member s ≡ Some n
    → IsGiven now member a s (act now member a s)
act_is_given now member a s n here =
    let h : member < length s.members.nodes = slice_get_within s.members.nodes member n here in
    given_if now member a s (grind (arith, nat_tests, h))

-- ---- an end with room

abbrev IsWriting : Result (Unit {0}) SetRefusal → Type 0
IsWriting r = (r ≡ Ok tt) ⊎ ((r ≡ Err (set_refusal.Write writing.Closing)) ⊎ (r ≡ Err (set_refusal.Write writing.Exhausted)))

asked : (up closing empty long full spent : Bool) → up ≡ true → empty ≡ false → long ≡ false → full ≡ false
    → IsWriting (by_write (if not up then Err writing.NotUp else if closing then Err writing.Closing else if empty then Err writing.Empty
    else if long then Err writing.TooLong else if full then Err writing.QueueFull else if spent then Err writing.Exhausted else Ok tt))
asked false closing empty long full spent a b c d = absurd (cc a)
asked true closing true long full spent a b c d = absurd (cc b)
asked true closing false true full spent a b c d = absurd (cc c)
asked true closing false false true spent a b c d = absurd (cc d)
asked true true false false false spent a b c d = inr (inl refl)
asked true false false false false true a b c d = inr (inr refl)
asked true false false false false false a b c d = inl refl

asks : (e : one.State) (text : List ℕ) → one.is_up e.phase ≡ true → one.unacknowledged e.sending ≤ 57344 → 1 ≤ length text → length text ≤ 8192
    → IsWriting (by_write (end.write_answer e text))
asks e text up few some most =
    let empty : nat_eq (length text) 0 ≡ false = grind (arith, nat_tests, some) in
    let long : nat_lt 8192 (length text) ≡ false = grind (arith, nat_tests, most) in
    let full : nat_lt 65536 (one.unacknowledged e.sending + length text) ≡ false = grind (arith, nat_tests, few, most) in
    asked (one.is_up e.phase) e.closing (nat_eq (length text) 0) (nat_lt 8192 (length text)) (nat_lt 65536 (one.unacknowledged e.sending + length text)) _ up empty long full

room_by : (e : one.State) (b : Bool) (text : List ℕ) → ends.room_by (if b then None else Some (facts_of e)) ≡ true → 1 ≤ length text → length text ≤ 8192
    → IsWriting (if b then Err set_refusal.NoEnd else by_write (end.write_answer e text))
room_by e true text room some most = absurd (cc room)
room_by e false text room some most =
    let both = and_parts (one.is_up e.phase) (nat_le (one.unacknowledged e.sending) 57344) room in
    let few : one.unacknowledged e.sending ≤ 57344 = grind (arith, nat_tests, both.1) in
    asks e text both.0 few some most

pub end_writes : (o : Option Holder) (text : List ℕ) → ends.room_by (facts_at o) ≡ true → 1 ≤ length text → length text ≤ 8192 → IsWriting (write_answer o text)
end_writes None text room some most = absurd (cc room)
end_writes (Some h) text room some most = room_by h.end h.gone text room some most

-- ---- what the node answers

answered : (r : Result (Unit {0}) SetRefusal) (call : sets.Act) (n : State) → IsWriting r → IsWritten (acts.write_by r call n).answer
answered r call n (inl e) = inl (ap (λ x. (acts.write_by x call n).answer) e)
answered r call n (inr (inl e)) = inr (inl (ap (λ x. (acts.write_by x call n).answer) e))
answered r call n (inr (inr e)) = inr (inr (ap (λ x. (acts.write_by x call n).answer) e))

room_at : (id : ℕ) (o : Option NodeState) → ends.has_room id o ≡ true → (n : NodeState) × (o ≡ Some n)
room_at id None e = absurd (cc e)
room_at id (Some n) e = (n, refl)

room_in : (id : ℕ) (o : Option NodeState) (n : NodeState) → o ≡ Some n → ends.has_room id o ≡ true → ends.room_by (facts_at (end_at id n.station)) ≡ true
room_in id o n here room = ap (λ (x : Option NodeState). ends.has_room id x) (sym here) ∙ room

pub ends_are_given : EndsAreGiven
ends_are_given member id text now s room =
    let held = room_at id (node_at member s) room in
    record {
      one = act_is_given now member (Write id text) s held.0 held.1;
      all = refl;
      written = λ n here host some most.
          let answer = answered_at now member (Write id text) s n here
          ∙ ap (λ (a : Answered). a.answer) (unless_kept id (acts.write (moment now.0) id text n.station) n host) in
          rw answer (answered (write_answer (end_at id n.station) text) (sets.Calls id (sets.Writes text) (moment now.0)) n.station
          (end_writes (end_at id n.station) text (room_in id (node_at member s) n here room) some most));
    }
