-- What is kept of the ends that were made, and of those that restarts took away, as it is read off the notes of a book.
use Rattle.std.specs.Prelude.{◌≡◌, ℕ, Bool, true, false, not, ◌&&◌, ◌||◌, nat_eq, if◌then◌else◌, List, [], ◌∷◌, ◌++◌, Option, Some, None}
use Rattle.std.specs.List.{list_any}
use Rattle.ax_address.specs.Callsign.{Callsign, same_call}
use Rattle.circuit_l4.specs.declared.pair.Pair.{Pair}
use Rattle.circuit_l4.specs.declared.notice.EndNotice.{EndNotice}
use Rattle.circuit_l4.specs.declared.notice.EndNotice.TheVariants.{Opened}
use Rattle.circuit_table.specs.Sets.{same_pair}
use Rattle.circuit_set.specs.Books.{MadeNote, any_ends, is_lost, is_some_name, made_last, partner_in, was_asked}
use Rattle.circuit_table.specs.Events.{Name, same_name}
use Rattle.circuit_set.specs.NotedRuns.{opened_window, told_to}
use Rattle.indexmap.specs.IndexMap.{get}
use Rattle.indexmap.specs.IndexSet.{contains}
use Rattle.circuit_verdict.specs.declared.ends.EndNote.{EndNote}
use Rattle.circuit_verdict.specs.declared.ends.Ends.{Ends}
use Rattle.circuit_verdict.specs.declared.pairs.CallPair.{CallPair}
use Rattle.circuit_verdict.specs.declared.pairs.NodePair.{NodePair}
use Rattle.circuit_verdict.specs.declared.pairs.PairKey.{PairKey}
use Rattle.circuit_verdict.specs.Lists.{list_in}

-- ---- an end that was made ----
abbrev pub is_made : List MadeNote → Name → Bool
is_made [] x = false
is_made (m ∷ ms) x = same_name m.who x || is_made ms x

-- it was made, and since then no notice has told its end
abbrev pub is_going : List MadeNote → Name → Bool
is_going [] x = false
is_going (m ∷ ms) x = (same_name m.who x && not (any_ends m.told)) || is_going ms x

abbrev pub note_of : List MadeNote → Name → EndNote
note_of ms x = record { asked = was_asked ms x; ended = not (is_going ms x); window = opened_window (told_to ms x) }

abbrev pub note_in : List MadeNote → Name → Option EndNote
note_in ms x = if is_made ms x then Some (note_of ms x) else None

-- ---- the ends to which a node gave a pair, and those whose partner an end has become ----
abbrev pub given_in : List MadeNote → ℕ → Pair → List Name
given_in [] node pair = []
given_in (m ∷ ms) node pair = if nat_eq m.who.node node && same_pair m.pair pair then given_in ms node pair ++ m.who ∷ [] else given_in ms node pair

abbrev pub with_facing : Name → Option Name → Name → List Name → List Name
with_facing who None x xs = xs
with_facing who (Some y) x xs =
    let opened : List Name = if same_name who x then xs ++ y ∷ [] else xs in
    if same_name y x then opened ++ who ∷ [] else opened

abbrev pub facing_in : List MadeNote → Name → List Name
facing_in [] x = []
facing_in (m ∷ ms) x = with_facing m.who m.partner x (facing_in ms x)

-- ---- whether a pair of a node names the partner of an open end of another node ----
abbrev pub is_open : List MadeNote → List Name → Name → Bool
is_open ms lost x = is_going ms x && not (is_lost lost x)

abbrev pub faces : List MadeNote → List Name → Name → Name → Bool
faces ms lost x y = not (nat_eq y.node x.node) && is_open ms lost y && is_some_name (partner_in ms y) x

abbrev pub has_open_partner : List MadeNote → List Name → Name → Bool
has_open_partner ms lost x = list_any (faces ms lost x) (facing_in ms x)

abbrev pub is_faced : List MadeNote → List Name → ℕ → Pair → Bool
is_faced ms lost node pair = list_any (has_open_partner ms lost) (given_in ms node pair)

-- the same as the code reads it off what is kept
abbrev pub key_of : Pair → PairKey
key_of p = record { index = p.index; ident = p.ident }

-- ---- what is kept stands for the notes and the ends that were lost ----
abbrev pub same_key : PairKey → PairKey → Bool
same_key p q = nat_eq p.index q.index && nat_eq p.ident q.ident

abbrev pub same_call_pair : CallPair → CallPair → Bool
same_call_pair p q = same_call p.own q.own && same_key p.pair q.pair

abbrev pub same_node_pair : NodePair → NodePair → Bool
same_node_pair p q = nat_eq p.node q.node && same_key p.pair q.pair

abbrev pub note_is_going : Option EndNote → Bool
note_is_going None = false
note_is_going (Some n) = not n.ended

abbrev pub kept_open : Ends → Name → Bool
kept_open e x = note_is_going (get same_name e.notes x) && not (contains same_name e.lost x)

abbrev pub kept_faces : Ends → Name → Name → Bool
kept_faces e x y = not (nat_eq y.node x.node) && kept_open e y && is_some_name (get same_name e.partners y) x

abbrev pub keeps_open_partner : Ends → Name → Bool
keeps_open_partner e x = list_any (kept_faces e x) (list_in (get same_name e.facing.lists x))

abbrev pub kept_faced : Ends → ℕ → Pair → Bool
kept_faced e node pair = list_any (keeps_open_partner e) (list_in (get same_node_pair e.given.lists (record { node = node; pair = key_of pair })))

pub record EndsStand (e : Ends) (ms : List MadeNote) (lost : List Name) : Type 0 where
  pub notes : (x : Name) → get same_name e.notes x ≡ note_in ms x
  pub partners : (x : Name) → get same_name e.partners x ≡ partner_in ms x
  pub gone : (x : Name) → contains same_name e.lost x ≡ is_lost lost x
  pub last : (own : Callsign) (pair : Pair) → get same_call_pair e.last_made (record { own = own; pair = key_of pair }) ≡ made_last ms own pair
  pub given : (node : ℕ) (pair : Pair) → list_in (get same_node_pair e.given.lists (record { node = node; pair = key_of pair })) ≡ given_in ms node pair
  pub facing : (x : Name) → list_in (get same_name e.facing.lists x) ≡ facing_in ms x

-- ---- what a change makes of an end's note ----
abbrev pub made_note : Name → Callsign → Pair → Option Name → MadeNote
made_note who own pair requester = record { who = who; own = own; pair = pair; partner = requester; told = [] }

-- an end is made, maybe again
abbrev pub fresh_note : Bool → List MadeNote → Name → EndNote
fresh_note by_request ms x = record { asked = by_request || was_asked ms x; ended = false; window = None }

-- its requester and it become partners
abbrev pub partner_after_joining : Name → Option Name → Name → Option Name → Option Name
partner_after_joining end None x partner = partner
partner_after_joining end (Some y) x partner = if same_name y x then Some end else (if same_name end x then Some y else partner)

abbrev pub first_window : Option ℕ → ℕ → Option ℕ
first_window None w = Some w
first_window (Some v) w = Some v

abbrev pub after_notice : EndNotice → EndNote → EndNote
after_notice (Opened w) n = record n { window = first_window n.window w }
after_notice _ n = record n { ended = true }

abbrev pub after_notice_in : EndNotice → Option EndNote → Option EndNote
after_notice_in notice None = None
after_notice_in notice (Some n) = Some (after_notice notice n)
